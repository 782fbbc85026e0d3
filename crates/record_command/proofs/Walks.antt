-- Captures one behind the other.
use Rattle.std.proofs.Common.{◌≡◌, ◌∙◌, ◌⊎◌, ℕ, List, [], ◌∷◌, ◌++◌, refl, ap, sym, inl, inr, append_assoc}
use Rattle.capture_reader.specs.declared.capture.Caught.{Caught}
use Rattle.capture_reader.specs.Proved.{HasProof, sent_after}
use Rattle.record_command.specs.Captures.{bodies_from, new_body}

-- how many packets were sent for the first time, behind so many
abbrev pub count_from : ℕ → ℕ → List Caught → ℕ
count_from first sent [] = sent
count_from first sent (item ∷ items) = count_from first (sent_after first sent item) items

pub count_append : (first sent : ℕ) (xs ys : List Caught)
    → count_from first sent (xs ++ ys) ≡ count_from first (count_from first sent xs) ys
count_append first sent [] ys = refl
count_append first sent (x ∷ xs) ys = count_append first (sent_after first sent x) xs ys

pub bodies_append : (first sent : ℕ) (xs ys : List Caught) → bodies_from first sent (xs ++ ys)
    ≡ bodies_from first sent xs ++ bodies_from first (count_from first sent xs) ys
bodies_append first sent [] ys = refl
bodies_append first sent (x ∷ xs) ys =
    let next = sent_after first sent x in
    ap (λ later. new_body first sent x ++ later) (bodies_append first next xs ys)
    ∙ sym (append_assoc (new_body first sent x) (bodies_from first next xs)
    (bodies_from first (count_from first next xs) ys))

pub proof_front : (first sent : ℕ) (xs ys : List Caught) (place : ℕ) → HasProof first sent xs place
    → HasProof first sent (xs ++ ys) place
proof_front first sent [] ys place is = absurd is
proof_front first sent (x ∷ xs) ys place (inl one) = inl one
proof_front first sent (x ∷ xs) ys place (inr later) =
    inr (proof_front first (sent_after first sent x) xs ys place later)

pub proof_behind : (first sent : ℕ) (xs ys : List Caught) (place : ℕ)
    → HasProof first (count_from first sent xs) ys place → HasProof first sent (xs ++ ys) place
proof_behind first sent [] ys place is = is
proof_behind first sent (x ∷ xs) ys place is = inr (proof_behind first (sent_after first sent x) xs ys place is)

proof_later : (first sent : ℕ) (x : Caught) (xs ys : List Caught) (place : ℕ)
    → HasProof first (sent_after first sent x) xs place
    ⊎ HasProof first (count_from first (sent_after first sent x) xs) ys place
    → HasProof first sent (x ∷ xs) place ⊎ HasProof first (count_from first (sent_after first sent x) xs) ys place
proof_later first sent x xs ys place (inl front) = inl (inr front)
proof_later first sent x xs ys place (inr behind) = inr behind

pub proof_in : (first sent : ℕ) (xs ys : List Caught) (place : ℕ) → HasProof first sent (xs ++ ys) place
    → HasProof first sent xs place ⊎ HasProof first (count_from first sent xs) ys place
proof_in first sent [] ys place is = inr is
proof_in first sent (x ∷ xs) ys place (inl one) = inl (inl one)
proof_in first sent (x ∷ xs) ys place (inr later) =
    proof_later first sent x xs ys place (proof_in first (sent_after first sent x) xs ys place later)

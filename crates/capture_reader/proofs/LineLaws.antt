-- Lines of requests and replies are read again.
use Rattle.std.proofs.Common.{◌≡◌, ℕ, ◌<◌, List, [], ◌∷◌, ◌++◌, length, Some, None, refl, sym, ap}
use Rattle.std.proofs.Common.{◌∙◌, arith, append_assoc, Bool, true, false, cond, nat_lt}
use Rattle.std.proofs.lemmas.Bool.Decides.{nat_tests}
use Rattle.ipb_base.specs.Fronts.{Front, all_of}
use Rattle.capture_reader.specs.Fronts.{shorter}
use Rattle.capture_reader.specs.Parsing.{line_of, line_at, body_of}
use Rattle.ipb_base.proofs.Fronts.{Shortens, rest_of, all_step}

-- what is kept only where it is shorter
kept_by : {A : Type 0} (b : Bool) (read : A × List ℕ) (a : A) (rest : List ℕ)
    → cond {A = Front A} b (Some read) None ≡ Some (a, rest) → (b ≡ true) × (read.1 ≡ rest)
kept_by true read a rest e = (refl, ap rest_of e)
kept_by false read a rest e = absurd cc

is_less : (m n : ℕ) → nat_lt m n ≡ true → m < n
is_less m n e = grind (arith, nat_tests)

less : (m n : ℕ) → m < n → nat_lt m n ≡ true
less m n l = grind (arith, nat_tests)

pub shorter_is : {A : Type 0} (text rest : List ℕ) (r : Front A) (a : A) → shorter text r ≡ Some (a, rest)
    → length rest < length text
shorter_is text rest None a e = absurd cc
shorter_is text rest (Some read) a e =
    let parts = kept_by (nat_lt (length read.1) (length text)) read a rest e in
    let l = is_less (length read.1) (length text) parts.0 in
    omega (arith, l, ap length parts.1)

pub shorter_again : {A : Type 0} (text rest : List ℕ) (a : A) → length rest < length text
    → ◌≡◌ {A = Front A} (shorter text (Some (a, rest))) (Some (a, rest))
shorter_again text rest a l = rw (less (length rest) (length text) l) refl

pub lines_shorten : (sent : Bool) → Shortens (line_at sent)
lines_shorten sent text rest a e = shorter_is text rest (line_of sent text) a e

-- one line more
pub lines_more : (sent : Bool) (old out pushed new : List ℕ) (header : ℕ) (words text rest : List ℕ)
    → line_at sent text ≡ Some (header ∷ words, rest) → pushed ≡ out ++ header ∷ [] → new ≡ pushed ++ words
    → out ++ body_of (all_of (line_at sent) text).0 ≡ old → new ++ body_of (all_of (line_at sent) rest).0 ≡ old
lines_more sent old out pushed new header words text rest e one more before =
    let later = body_of (all_of (line_at sent) rest).0 in
    let here : body_of (all_of (line_at sent) text).0 ≡ (header ∷ words) ++ later =
    ap (λ (read : List (List ℕ) × List ℕ). body_of read.0)
    (all_step (line_at sent) (lines_shorten sent) text rest (header ∷ words) e) in
    rw (more, one) (append_assoc (out ++ header ∷ []) words later ∙ (append_assoc out (header ∷ []) (words ++ later)
    ∙ (ap (λ (t : List ℕ). out ++ t) (sym here) ∙ before)))

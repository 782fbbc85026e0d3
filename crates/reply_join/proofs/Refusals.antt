-- A refusal names the place at which a reply stops being one, and no other place.
use Rattle.std.proofs.Common.{◌≡◌, ◌⊎◌, inl, inr, ℕ, List, Result, Ok, Err, refl, ap, subst}
use Rattle.std.specs.Prelude.{IfOk, IfErr}
use Rattle.reply_join.specs.declared.answer.Answer.{Answer}
use Rattle.reply_join.specs.declared.refusal.JoinRefusal.{JoinRefusal}
use Rattle.reply_join.specs.declared.refusal.JoinRefusal.TheVariants.{Garbled, NoMemory}
use Rattle.reply_join.specs.Joining.{IsJoined}
use Rattle.reply_join.specs.Garbled.{IsGarbledAt}
use Rattle.reply_join.specs.Progress.{IsRefusal}
use Rattle.reply_join.proofs.Garbled.{one_place}

pub garbled_at : {T : Type 0} (body reply : List ℕ) (result : Result T JoinRefusal)
    → IfErr result (IsRefusal body reply) → (place : ℕ) → result ≡ Err (Garbled place) → IsGarbledAt body reply place
garbled_at body reply (Ok answers) refused place same = absurd cc
garbled_at body reply (Err (Garbled there)) refused place same =
    let one : there ≡ place = cc in
    subst (IsGarbledAt body reply) one refused
garbled_at body reply (Err NoMemory) refused place same = absurd cc

pub refused_at : {T : Type 0} (items : T → List Answer) (body reply : List ℕ) (result : Result T JoinRefusal)
    → IfOk result (λ answers. IsJoined body reply (items answers)) → IfErr result (IsRefusal body reply)
    → (place : ℕ) → IsGarbledAt body reply place
    → (result ≡ Err (Garbled place)) ⊎ (result ≡ Err NoMemory)
refused_at items body reply (Ok answers) joined refused place is = absurd (is.is_none joined.0)
refused_at items body reply (Err (Garbled there)) joined refused place is =
    inl (ap (λ n. Err (Garbled n)) (one_place body reply there place refused is))
refused_at items body reply (Err NoMemory) joined refused place is = inr refl

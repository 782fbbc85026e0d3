-- What stands in a record at the end.
use Rattle.std.proofs.Common.{◌≡◌, ◌≢◌, ◌⊎◌, ⊎_elim, ℕ, ◌<◌, ◌≤◌, Bool, true, false, eqb, eq-eqb, cond, List, [], ◌∷◌}
use Rattle.std.proofs.Common.{◌++◌, length, get_or, take, drop, inl, inr, refl, sym, ap, subst, ◌∙◌, arith}
use Rattle.std.proofs.Common.{append_assoc, lt_of_not-le}
use Rattle.std.specs.List.{AllByRecursion, Contains}
use mathlib.Core.Logic.{dite}
use native.Mathlib.Decide.{ℕ_discrete, dec_le}
use Rattle.turn_pass.specs.Record.{Record, Recorded, made_by, past}
use Rattle.turn_pass.specs.Pass.{Knowledge, PassState, Told, TurnId}
use Rattle.hub_multiplexer.specs.Ends.{AreEnded, Ends, HasAllJoined, IsLast, numbers_joined}
use Rattle.hub_multiplexer.specs.Seats.{knows_of, turns_of}

not_empty : (x : Recorded) (xs : List Recorded) → x ∷ xs ≡ [] → ⊥
not_empty x xs e = cc

made_by_rest : (n : ℕ) (x : Recorded) (xs : List Recorded) → made_by n (x ∷ xs) ≡ [] → made_by n xs ≡ []
made_by_rest n x xs e = cases (eqb x.entry.maker n) e
  where
    cases : (b : Bool) → cond b (x ∷ made_by n xs) (made_by n xs) ≡ [] → made_by n xs ≡ []
    cases true e = absurd (not_empty x (made_by n xs) e)
    cases false e = e

-- where each number has this, or no entry, each entry's maker has it
pub each_maker : (P : ℕ → Type 0) (xs : List Recorded) → ((n : ℕ) → (made_by n xs ≡ []) ⊎ P n)
    → AllByRecursion (λ x. P x.entry.maker) xs
each_maker P [] h = tt
each_maker P (x ∷ xs) h = (
  ⊎_elim (λ (none : made_by x.entry.maker (x ∷ xs) ≡ []). absurd
      (not_empty x (made_by x.entry.maker xs)
      (subst (λ (b : Bool). cond b (x ∷ made_by x.entry.maker xs) (made_by x.entry.maker xs) ≡ [])
      (eq-eqb x.entry.maker x.entry.maker refl) none)))
      (λ (p : P x.entry.maker). p) (h x.entry.maker),
  each_maker P xs (λ n. ⊎_elim (λ (none : made_by n (x ∷ xs) ≡ []). inl (made_by_rest n x xs none)) (λ (p : P n). inr p)
      (h n)),
)

pub ends_of : (k : Knowledge) (final : Record) → k.number ≡ 0 → k.mine ≡ [] → HasAllJoined k → Told k final
    → Ends k final
ends_of k final first none joined told = record {
  told = told;
  only_joined = each_maker (λ n. Contains (numbers_joined k) n) (past k.opening final) (λ n. dite (ℕ_discrete n 0)
      (λ (e : n ≡ 0). inl (ap (λ m. made_by m (past k.opening final)) (e ∙ sym first) ∙ (sym told.own ∙ none)))
      (λ (ne : n ≢ 0). dite (dec_le k.made n)
      (λ (up : k.made ≤ n). inl (told.unmade first n up))
      (λ low. inr (joined n (omega arith) (lt_of_not-le low)))));
}

-- one more board
pub ended_more : (done : List Knowledge) (finals : List Record) (k : Knowledge) (final : Record) → AreEnded done finals
    → Ends k final → AreEnded (done ++ k ∷ []) (finals ++ final ∷ [])
ended_more [] [] k final a e = (e, tt)
ended_more [] (r ∷ rs) k final a e = absurd a
ended_more (d ∷ ds) [] k final a e = absurd a
ended_more (d ∷ ds) (r ∷ rs) k final a e = (a.0, ended_more ds rs k final a.1 e)

-- one turn and its pass less, and one record more
pub one_closed : (all done : List Knowledge) (turns turns' : List TurnId) (passes passes' : List PassState) (t : TurnId)
    (p : PassState) (finals : List Record) (final : Record)
    → turns_of passes ≡ turns → AllByRecursion IsLast passes → all ≡ done ++ knows_of passes → AreEnded done finals
    → 0 < length turns → t ≡ get_or turns 0 t → turns' ≡ take 0 turns ++ drop 1 turns → p ≡ get_or passes 0 p
    → passes' ≡ take 0 passes ++ drop 1 passes → Told p.knows final
    → (turns_of passes' ≡ turns') × AllByRecursion IsLast passes'
    × ((now : List Knowledge) × (all ≡ now ++ knows_of passes') × AreEnded now (finals ++ final ∷ []))
one_closed all done turns turns' [] passes' t p finals final same last split ended busy t_is turns_are p_is passes_are
    told = absurd (let none : 0 ≡ length turns = ap length same in omega (arith, none))
one_closed all done turns turns' (q ∷ qs) passes' t p finals final same last split ended busy t_is turns_are p_is
    passes_are told =
    let first : IsLast p = subst IsLast (sym p_is) last.0 in (
      ap turns_of passes_are ∙ (ap (λ l. take 0 l ++ drop 1 l) same ∙ sym turns_are),
      subst (AllByRecursion IsLast) (sym passes_are) last.1,
      (
        done ++ p.knows ∷ [],
        split ∙ ((λ i. done ++ (sym p_is i).knows ∷ knows_of (sym passes_are i))
            ∙ sym (append_assoc done (p.knows ∷ []) (knows_of passes'))),
        ended_more done finals p.knows final ended (ends_of p.knows final first.idle.has_number first.no_entry
            first.all_joined told),
      ),
    )

-- What is read as a reply is spelled so, and what is spelled so is read.
use Rattle.std.proofs.Common.{◌≡◌, ℕ, zero, suc, ◌^◌, ◌<◌, ◌≤◌, Bool, true, false, cond, not, ◌&&◌, ◌||◌, List, ◌∷◌}
use Rattle.std.proofs.Common.{◌++◌, length, take, drop, Ok, refl, ◌∙◌, arith, eqb, ltb}
use Rattle.std.proofs.Common.{inl, inr, ◌⊎◌, eq-eqb}
use Rattle.std.proofs.lemmas.Bool.{eqb-true, ltb-false, le-ltb}
use Rattle.std.proofs.lemmas.Bool.Decides.{nat_tests}
use Rattle.std.proofs.lemmas.List.{take_at, drop_at, length-append, length-take}
use Rattle.ipb_base.specs.Word.{AreWords}
use Rattle.transaction_codec.specs.declared.reply.Reply.{Reply}
use Rattle.transaction_codec.specs.declared.refusal.Why.{Why}
use Rattle.transaction_codec.specs.declared.refusal.Why.TheVariants.{Version, Kind, Code, Count, Short}
use Rattle.transaction_codec.specs.Header.{header, version_of, tid_of, count_of, kind_of, code_of, is_rmw}
use Rattle.transaction_codec.specs.Reply.{IsBusFault, Carries, HasForm, IsReply, is_reply_code, is_wrong_count}
use Rattle.transaction_codec.specs.Reply.{values_after, BreaksReply, reply_words, reply_at}
use Rattle.transaction_codec.proofs.Fields.{HasFields, fields-header}
use Rattle.ipb_base.proofs.WordLemmas.{AreWords-take}
use Rattle.transaction_codec.proofs.Steps.{Says, says_less, says_differs, not-false}
use Rattle.transaction_codec.proofs.Transactions.{Rules, is_broken, Passes, IsReadBy}

-- the rules on a header's type, info code and words field, as tests
abbrev is_wrong_kind : ℕ → ℕ → Bool
is_wrong_kind kind code = ltb 5 kind || (eqb code 1 && not (eqb kind 0))

both_false : (a b : Bool) → a || b ≡ false → (a ≡ false) × (b ≡ false)
both_false true b e = absurd cc
both_false false b e = (refl, e)

then_equal : (a : Bool) (x y : ℕ) → a && not (eqb x y) ≡ false → a ≡ true → x ≡ y
then_equal true x y e h = eqb-true x y (not-false _ e)
then_equal false x y e h = absurd cc

-- ---- from the rules to the form

codes : (code : ℕ) → is_reply_code code ≡ true → (code ≡ 0) ⊎ (IsBusFault code ⊎ (code ≡ 1))
codes zero e = inl refl
codes (suc zero) e = inr (inr refl)
codes (suc (suc zero)) e = absurd cc
codes (suc (suc (suc zero))) e = absurd cc
codes (suc (suc (suc (suc zero)))) e = inr (inl (omega arith, omega arith))
codes (suc (suc (suc (suc (suc zero))))) e = inr (inl (omega arith, omega arith))
codes (suc (suc (suc (suc (suc (suc zero)))))) e = inr (inl (omega arith, omega arith))
codes (suc (suc (suc (suc (suc (suc (suc zero))))))) e = inr (inl (omega arith, omega arith))
codes (suc (suc (suc (suc (suc (suc (suc (suc code)))))))) e = absurd (grind (arith, nat_tests))

carries : (done kind count : ℕ) → kind ≤ 5 → (is_rmw kind ≡ true → count ≡ done) → Carries done kind count
    (values_after kind count)
carries done zero count known rmw = inl (inl refl, refl)
carries done (suc zero) count known rmw = inr (inl (inl refl, refl))
carries done (suc (suc zero)) count known rmw = inl (inr refl, refl)
carries done (suc (suc (suc zero))) count known rmw = inr (inl (inr refl, refl))
carries done (suc (suc (suc (suc zero)))) count known rmw = inr (inr (inl refl, rmw refl, rmw refl))
carries done (suc (suc (suc (suc (suc zero))))) count known rmw = inr (inr (inr refl, rmw refl, rmw refl))
carries done (suc (suc (suc (suc (suc (suc kind)))))) count known rmw = absurd (omega arith)

form_found : (kind code count : ℕ) → is_wrong_kind kind code ≡ false → is_reply_code code ≡ true → is_wrong_count kind
    code count ≡ false → HasForm kind code count (values_after kind count)
form_found kind code count kind_rule code_rule count_rule =
    let known : kind ≤ 5 = ltb-false 5 kind (both_false _ _ kind_rule).0 in
    let counts = both_false (eqb code 1 && not (eqb count 0)) (is_rmw kind && not (eqb count (cond (eqb code 0) 1 0)))
    count_rule in
    let rmw : is_rmw kind ≡ true → count ≡ cond (eqb code 0) 1 0 =
    then_equal (is_rmw kind) count (cond (eqb code 0) 1 0) counts.1 in
    elim (codes code code_rule) [
      | inl is ↦ inl (is, carries 1 kind count known (λ e. rmw e ∙ rw is refl))
      | inr (inl is) ↦ inr (inl (
        is,
        carries 0 kind count known (λ e. let k : cond (eqb code 0) 1 0 ≡ 0 =
            grind (arith, nat_tests) in rmw e ∙ k),
      ))
      | inr (inr is) ↦
          let kind_is : kind ≡ 0 = then_equal (eqb code 1) kind 0 (both_false _ _ kind_rule).1 (eq-eqb code 1 is) in
          let count_is : count ≡ 0 = then_equal (eqb code 1) count 0 counts.0 (eq-eqb code 1 is) in
          inr (inr (is, kind_is, count_is, rw kind_is count_is))
    ]

-- the rules on a reply's header
abbrev reply_rules : Rules Reply
reply_rules = record {
  wrong_kind = λ word. is_wrong_kind (kind_of word) (code_of word);
  wrong_code = λ word. not (is_reply_code (code_of word));
  wrong_count = λ word. is_wrong_count (kind_of word) (code_of word) (count_of word);
  len = λ word. values_after (kind_of word) (count_of word);
  item = λ word after. record {
    tid = tid_of word;
    kind = kind_of word;
    count = count_of word;
    code = code_of word;
    values = take (values_after (kind_of word) (count_of word)) after;
  };
}

says_reply : (word : ℕ) (after : List ℕ) (rule : Why) → Says (is_broken reply_rules word after rule)
    (BreaksReply rule word after)
says_reply word after Version = says_differs (version_of word) 2
says_reply word after Short = says_less (length after) (values_after (kind_of word) (count_of word))
says_reply word after other = record { yes = λ e. grind (arith, nat_tests); not_so = λ e h. grind (arith, nat_tests) }

reply_ranges : (word : ℕ) (after : List ℕ) → Passes reply_rules word after → AreWords after
    → IsReply (reply_rules.item word after)
reply_ranges word after passes fits =
    let n : ℕ = reply_rules.len word in
    let len : length (take n after) ≡ n = omega (arith, length-take n after, ltb-false _ _ (passes Short)) in
    let form : HasForm (kind_of word) (code_of word) (count_of word) (length (take n after)) =
    rw len (form_found (kind_of word) (code_of word) (count_of word) (passes Kind) (not-false _ (passes Code))
    (passes Count)) in
    record { tid = omega arith; count = omega arith; form = form; values = AreWords-take n after fits }

pub replies_read : IsReadBy reply_rules reply_words IsReply BreaksReply reply_at
unfolding reply_at
replies_read = record {
  nothing = refl;
  by_rules = λ word after. refl;
  says = says_reply;
  ranges = reply_ranges;
  spelled = λ word after passes. refl;
}

-- ---- from the form to the rules

record KeepsRules (kind code count carried : ℕ) : Type 0 where
  pub right_kind : is_wrong_kind kind code ≡ false
  pub right_code : is_reply_code code ≡ true
  pub right_count : is_wrong_count kind code count ≡ false
  pub carried_is : carried ≡ values_after kind count

keeps_rules : (kind code count carried : ℕ) → HasForm kind code count carried → KeepsRules kind code count carried
keeps_rules kind code count carried form = record {
  right_kind = grind (arith, nat_tests);
  right_code = grind (arith, nat_tests);
  right_count = grind (arith, nat_tests);
  carried_is = grind (arith, nat_tests);
}

pub fields_fit : (kind code count carried : ℕ) → HasForm kind code count carried → (kind < 2 ^ 4) × (code < 2 ^ 4)
fields_fit kind code count carried form = (grind arith, grind arith)

-- what a header with these fields and enough words after it is read as
read_by_fields : (word tid kind code count carried : ℕ) (after : List ℕ) → HasFields word tid count kind code
    → KeepsRules kind code count carried → carried ≤ length after
    → reply_at (word ∷ after) ≡ Ok (
      record {
        tid = tid;
        kind = kind;
        count = count;
        code = code;
        values =
            take carried after;
      },
      drop carried after,
    )
unfolding reply_at
read_by_fields word tid kind code count carried after fields keeps whole =
    let whole_is : ltb (length after) (values_after kind count) ≡ false = le-ltb _ _ (omega (arith, keeps.carried_is))
    in
    rw (
      fields.version_is,
      fields.tid_is,
      fields.count_is,
      fields.kind_is,
      fields.code_is,
      keeps.right_kind,
      keeps.right_code,
      keeps.right_count,
      whole_is,
      keeps.carried_is,
    ) refl

pub reply_again : (reply : Reply) (rest : List ℕ) → IsReply reply → reply_at (reply_words reply ++ rest)
    ≡ Ok (reply, rest)
reply_again reply rest is =
    let keeps = keeps_rules reply.kind reply.code reply.count (length reply.values) is.form in
    let small = fields_fit reply.kind reply.code reply.count (length reply.values) is.form in
    read_by_fields (header reply.tid reply.count reply.kind reply.code) reply.tid reply.kind reply.code reply.count
    (length reply.values) (reply.values ++ rest)
    (fields-header reply.tid reply.count reply.kind reply.code is.tid is.count small.0 small.1) keeps
    (omega (arith, length-append reply.values rest))
    ∙ rw (take_at reply.values rest (length reply.values) refl, drop_at reply.values rest (length reply.values) refl)
    refl

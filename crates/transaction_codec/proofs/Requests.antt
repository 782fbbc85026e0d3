-- What is read as a request is spelled so, and what is spelled so is read.
use Rattle.std.proofs.Common.{◌≡◌, ℕ, zero, suc, ◌^◌, ◌<◌, ◌≤◌, false, not, ◌&&◌, List, [], ◌∷◌, ◌++◌, length, take}
use Rattle.std.proofs.Common.{drop, Ok, refl, sym, ◌∙◌, arith, eqb, ltb, lit<, lit≤}
use Rattle.std.proofs.lemmas.Bool.Decides.{nat_tests}
use Rattle.std.proofs.lemmas.Bool.{eqb-true, ltb-false, le-ltb}
use Rattle.std.proofs.lemmas.List.{take_at, drop_at, length-append, length-take}
use Rattle.ipb_base.specs.Word.{AreWords}
use Rattle.transaction_codec.specs.declared.request.Op.{Op}
use Rattle.transaction_codec.specs.declared.request.Op.TheVariants.{Read, ReadPort, Write, WritePort, RmwBits, RmwSum}
use Rattle.transaction_codec.specs.declared.request.Request.{Request}
use Rattle.transaction_codec.specs.declared.refusal.Why.{Why}
use Rattle.transaction_codec.specs.declared.refusal.Why.TheVariants.{Version, Kind, Code, Count, Short}
use Rattle.transaction_codec.specs.Header.{header, version_of, tid_of, count_of, kind_of, code_of, is_rmw}
use Rattle.transaction_codec.specs.Request.{op_kind, op_count, op_words, request_words, IsRequest, words_after}
use Rattle.transaction_codec.specs.Request.{BreaksRequest, op_at, request_at}
use Rattle.transaction_codec.proofs.Fields.{HasFields, fields-header}
use Rattle.ipb_base.proofs.WordLemmas.{AreWords-take}
use Rattle.transaction_codec.proofs.Steps.{Says, says_less, says_differs, not-false, take-front, drop-front}
use Rattle.transaction_codec.proofs.Transactions.{Rules, is_broken, Passes, IsReadBy}

-- what a header asks has its type and words field, and the words after it
record IsAsked (op : Op) (kind count : ℕ) (words : List ℕ) : Type 0 where
  pub kind_is : op_kind op ≡ kind
  pub count_is : op_count op ≡ count
  pub words_are : op_words op ≡ words

asked_is : (kind count : ℕ) (after : List ℕ) → kind ≤ 5 → is_rmw kind && not (eqb count 1) ≡ false → words_after kind
    count ≤ length after
    → IsAsked (op_at kind count after) kind count (take (words_after kind count) after)
asked_is zero count [] known one whole = absurd (omega arith)
asked_is zero count (base ∷ after) known one whole = record { kind_is = refl; count_is = refl; words_are = refl }
asked_is (suc zero) count [] known one whole = absurd (omega arith)
asked_is (suc zero) count (base ∷ after) known one whole =
    record {
      kind_is = refl;
      count_is = omega (arith, length-take count after);
      words_are =
          sym (take-front count base after);
    }
asked_is (suc (suc zero)) count [] known one whole = absurd (omega arith)
asked_is (suc (suc zero)) count (base ∷ after) known one whole = record {
  kind_is = refl;
  count_is = refl;
  words_are =
      refl;
}
asked_is (suc (suc (suc zero))) count [] known one whole = absurd (omega arith)
asked_is (suc (suc (suc zero))) count (base ∷ after) known one whole =
    record {
      kind_is = refl;
      count_is = omega (arith, length-take count after);
      words_are =
          sym (take-front count base after);
    }
asked_is (suc (suc (suc (suc zero)))) count [] known one whole = absurd (omega arith)
asked_is (suc (suc (suc (suc zero)))) count (base ∷ []) known one whole = absurd (omega arith)
asked_is (suc (suc (suc (suc zero)))) count (base ∷ and_term ∷ []) known one whole = absurd (omega arith)
asked_is (suc (suc (suc (suc zero)))) count (base ∷ and_term ∷ or_term ∷ after) known one whole =
    record { kind_is = refl; count_is = sym (eqb-true count 1 (not-false _ one)); words_are = refl }
asked_is (suc (suc (suc (suc (suc zero))))) count [] known one whole = absurd (omega arith)
asked_is (suc (suc (suc (suc (suc zero))))) count (base ∷ []) known one whole = absurd (omega arith)
asked_is (suc (suc (suc (suc (suc zero))))) count (base ∷ addend ∷ after) known one whole =
    record { kind_is = refl; count_is = sym (eqb-true count 1 (not-false _ one)); words_are = refl }
asked_is (suc (suc (suc (suc (suc (suc kind)))))) count after known one whole = absurd (omega arith)

-- the rules on a request's header
abbrev request_rules : Rules Request
request_rules = record {
  wrong_kind = λ word. ltb 5 (kind_of word);
  wrong_code = λ word. not (eqb (code_of word) 15);
  wrong_count = λ word. is_rmw (kind_of word) && not (eqb (count_of word) 1);
  len = λ word. words_after (kind_of word) (count_of word);
  item = λ word after. record { tid = tid_of word; op = op_at (kind_of word) (count_of word) after };
}

says_request : (word : ℕ) (after : List ℕ) (rule : Why) → Says (is_broken request_rules word after rule)
    (BreaksRequest rule word after)
says_request word after Version = says_differs (version_of word) 2
says_request word after Kind = says_less 5 (kind_of word)
says_request word after Code = says_differs (code_of word) 15
says_request word after Count = record { yes = λ e. grind (arith, nat_tests); not_so = λ e h. grind (arith, nat_tests) }
says_request word after Short = says_less (length after) (words_after (kind_of word) (count_of word))

asked : (word : ℕ) (after : List ℕ) → Passes request_rules word after
    → IsAsked (request_rules.item word after).op (kind_of word) (count_of word) (take (request_rules.len word) after)
asked word after passes =
    asked_is (kind_of word) (count_of word) after (ltb-false _ _ (passes Kind)) (passes Count)
    (ltb-false _ _ (passes Short))

request_ranges : (word : ℕ) (after : List ℕ) → Passes request_rules word after → AreWords after
    → IsRequest (request_rules.item word after)
request_ranges word after passes fits =
    let is = asked word after passes in
    let count_lt : op_count (request_rules.item word after).op < 2 ^ 8 = rw is.count_is (omega arith) in
    let words_fit : AreWords (op_words (request_rules.item word after).op) =
    rw is.words_are (AreWords-take (request_rules.len word) after fits) in
    record { tid = omega arith; count = count_lt; words = words_fit }

request_spelled : (word : ℕ) (after : List ℕ) → Passes request_rules word after
    → request_words (request_rules.item word after)
    ≡ header (tid_of word) (count_of word) (kind_of word) (code_of word) ∷ take (request_rules.len word) after
request_spelled word after passes =
    let is = asked word after passes in
    let code_is : code_of word ≡ 15 = eqb-true (code_of word) 15 (not-false _ (passes Code)) in
    rw (is.count_is, is.kind_is, is.words_are, code_is) refl

pub requests_read : IsReadBy request_rules request_words IsRequest BreaksRequest request_at
unfolding request_at
requests_read = record {
  nothing = refl;
  by_rules = λ word after. refl;
  says = says_request;
  ranges = request_ranges;
  spelled = request_spelled;
}

-- what a header with these fields and enough words after it is read as
read_by_fields : (word kind count : ℕ) (tid : ℕ) (after : List ℕ) → HasFields word tid count kind 15 → kind ≤ 5
    → is_rmw kind && not (eqb count 1) ≡ false → words_after kind count ≤ length after
    → request_at (word ∷ after) ≡ Ok (
      record { tid = tid; op = op_at kind count after },
      drop (words_after kind count)
          after,
    )
unfolding request_at
read_by_fields word kind count tid after fields known one whole =
    let known_is : ltb 5 kind ≡ false = le-ltb 5 kind known in
    let whole_is : ltb (length after) (words_after kind count) ≡ false = le-ltb _ _ whole in
    rw (fields.version_is, fields.tid_is, fields.count_is, fields.kind_is, fields.code_is, known_is, one, whole_is) refl

request_again_at : (tid : ℕ) (op : Op) (rest : List ℕ) → tid < 2 ^ 12 → op_count op < 2 ^ 8
    → request_at ((header tid (op_count op) (op_kind op) 15 ∷ op_words op) ++ rest)
    ≡ Ok (record { tid = tid; op = op }, rest)
request_again_at tid (Read base count) rest tid_lt count_lt =
    read_by_fields (header tid count 0 15) 0 count tid (base ∷ rest) (fields-header tid count 0 15 tid_lt count_lt
    (lit< tt) (lit< tt)) (lit≤ tt) refl (omega arith)
request_again_at tid (ReadPort base count) rest tid_lt count_lt =
    read_by_fields (header tid count 2 15) 2 count tid (base ∷ rest) (fields-header tid count 2 15 tid_lt count_lt
    (lit< tt) (lit< tt)) (lit≤ tt) refl (omega arith)
request_again_at tid (Write base words) rest tid_lt count_lt =
    read_by_fields (header tid (length words) 1 15) 1 (length words) tid (base ∷ (words ++ rest))
    (fields-header tid (length words) 1 15 tid_lt count_lt (lit< tt) (lit< tt))
    (lit≤ tt) refl (omega (arith, length-append words rest))
    ∙ rw (drop-front, take_at words rest (length words) refl, drop_at words rest (length words) refl) refl
request_again_at tid (WritePort base words) rest tid_lt count_lt =
    read_by_fields (header tid (length words) 3 15) 3 (length words) tid (base ∷ (words ++ rest))
    (fields-header tid (length words) 3 15 tid_lt count_lt (lit< tt) (lit< tt))
    (lit≤ tt) refl (omega (arith, length-append words rest))
    ∙ rw (drop-front, take_at words rest (length words) refl, drop_at words rest (length words) refl) refl
request_again_at tid (RmwBits base and_term or_term) rest tid_lt count_lt =
    read_by_fields (header tid 1 4 15) 4 1 tid (base ∷ and_term ∷ or_term ∷ rest) (fields-header tid 1 4 15 tid_lt
    (lit< tt) (lit< tt) (lit< tt)) (lit≤ tt) refl (omega arith)
request_again_at tid (RmwSum base addend) rest tid_lt count_lt =
    read_by_fields (header tid 1 5 15) 5 1 tid (base ∷ addend ∷ rest) (fields-header tid 1 5 15 tid_lt (lit< tt)
    (lit< tt) (lit< tt)) (lit≤ tt) refl (omega arith)

pub request_again : (request : Request) (rest : List ℕ) → IsRequest request → request_at (request_words request
    ++ rest) ≡ Ok (request, rest)
request_again request rest is = request_again_at request.tid request.op rest is.tid is.count

-- What a line can show of an operation, by its pieces.
use Rattle.std.proofs.Common.{◌≡◌, ◌≢◌, ℕ, suc, ◌^◌, ◌≤◌, false, true, length, map, List, [], ◌∷◌, Option, Some, None}
use Rattle.std.proofs.Common.{refl, sym, ap, ◌∙◌, subst, inl, inr, arith, sum_by, length-append}
use Rattle.std.proofs.Math.Nat.{div-le_self}
use Rattle.std.specs.Int.Bits.{bit_and}
use Rattle.std.specs.Prelude.{unwrap_or}
use Rattle.std.proofs.lemmas.Nat.{and_le_l}
use Rattle.std.proofs.lemmas.Option.{same_Some}
use Rattle.std.specs.List.{AllByRecursion, Any, flat_map, range_with_len, slice_get}
use Rattle.std.specs.Option.{option_map}
use Rattle.std.proofs.lemmas.Bool.{cases_Bool}
use Rattle.std.proofs.lemmas.List.{length-map}
use Rattle.std.proofs.lemmas.List.Sums.{sum_by-cons}
use Rattle.ipb_base.specs.Word.{IsWord, AreWords}
use Rattle.ipb_base.proofs.AllLemmas.{AllByRecursion-append}
use Rattle.masked_fields.specs.Field.{field, shift}
use Rattle.mtu_packer.specs.Cutting.{cut_pieces, piece, piece_count}
use Rattle.mtu_packer.proofs.AnyLemmas.{any_at}
use Rattle.mtu_packer.proofs.Asking.{cut_count}
use Rattle.mtu_packer.proofs.Pieces.{length-cut}
use Rattle.transaction_codec.specs.declared.request.Op.{Op}
use Rattle.transaction_codec.specs.declared.request.Op.TheVariants as ops
use Rattle.transaction_codec.specs.Request.{op_count}
use Rattle.transaction_codec.specs.Answer.{Fails, values_done}
use Rattle.script_steps.specs.declared.operation.RegOp.{RegOp}
use Rattle.script_steps.specs.declared.operation.Verb.{Verb}
use Rattle.script_steps.specs.declared.operation.Verb.TheVariants.{Read, Write, ReadBlock, WriteBlock, RmwBits, RmwSum}
use Rattle.script_plans.specs.declared.planned.PieceAt.{PieceAt}
use Rattle.transcript.specs.declared.line.LateAnswer.{LateAnswer}
use Rattle.transcript.specs.declared.line.LateAnswer.TheVariants as late_answer
use Rattle.transcript.specs.declared.line.OpResult.{OpResult}
use Rattle.transcript.specs.declared.line.OpResult.TheVariants.{Value, Done, Was, Error, Skipped, TimedOut, Late}
use Rattle.transcript.specs.declared.line.OpResult.TheVariants.{Unsent, LinkLost, Garbled, Denied}
use Rattle.transcript.specs.Claims.{IsPrinted, IsPrintedLate, IsPrintedPlace}
use Rattle.transcript.specs.Ends.{late_of}
use Rattle.transcript.specs.Results.{combined_result, first_not_done, is_good, shown_result, shown_late, shown_not_done, values_in}
use Rattle.transcript.specs.Results.{word_before}
use Rattle.transcript_reader.specs.Results.{CanBeLate, CanComeTo, CanRead, CanShowLive, IsPlaceless, ShowsWord}
use Rattle.transcript.proofs.Printed.{values_fit}
use Rattle.board_history.proofs.Lists.{Both}
use Rattle.audit_laws.proofs.FormPieces.{CameLate, CameTo, Shows}

-- ---- the words of all pieces

module _ (payload : ℕ) (op : Op) where
  same_sum : (f g : Op → ℕ) → ((k : ℕ) → f (piece payload op k) ≡ g (piece payload op k)) → (ks : List ℕ)
      → sum_by f (map (piece payload op) ks) ≡ sum_by g (map (piece payload op) ks)
  same_sum f g same [] = refl
  same_sum f g same (k ∷ ks) =
      omega (
        arith,
        same k,
        same_sum f g same ks,
        sum_by-cons f (piece payload op k) (map (piece payload op) ks),
        sum_by-cons g (piece payload op k) (map (piece payload op) ks),
      )

  no_sum : (f : Op → ℕ) → ((k : ℕ) → f (piece payload op k) ≡ 0) → (ks : List ℕ)
      → sum_by f (map (piece payload op) ks) ≡ 0
  no_sum f none [] = refl
  no_sum f none (k ∷ ks) =
      omega (arith, none k, no_sum f none ks, sum_by-cons f (piece payload op k) (map (piece payload op) ks))

module _ (payload : ℕ) (low : 16 ≤ payload) (op : Op) where
  abbrev numbers : List ℕ
  numbers = range_with_len 0 (piece_count payload op)

  by_count : ((k : ℕ) → values_done (piece payload op k) ≡ op_count (piece payload op k))
      → sum_by values_done (cut_pieces payload op) ≡ op_count op
  by_count same = same_sum payload op values_done op_count same numbers ∙ cut_count payload op low

  by_none : ((k : ℕ) → values_done (piece payload op k) ≡ 0) → sum_by values_done (cut_pieces payload op) ≡ 0
  by_none none = no_sum payload op values_done none numbers

-- the pieces answer as many words as the operation
pub done_count : (payload : ℕ) (op : Op) → 16 ≤ payload → sum_by values_done (cut_pieces payload op) ≡ values_done op
done_count payload (ops.Read base count) low = by_count payload low (ops.Read base count) (λ k. refl)
done_count payload (ops.ReadPort base count) low = by_count payload low (ops.ReadPort base count) (λ k. refl)
done_count payload (ops.Write base words) low = by_none payload low (ops.Write base words) (λ k. refl)
done_count payload (ops.WritePort base words) low = by_none payload low (ops.WritePort base words) (λ k. refl)
done_count payload (ops.RmwBits base and_term or_term) low =
    by_count payload low (ops.RmwBits base and_term or_term) (λ k. refl)
done_count payload (ops.RmwSum base addend) low = by_count payload low (ops.RmwSum base addend) (λ k. refl)

-- ---- the words that an operation shows

fields_show : (mask : ℕ) (words : List ℕ) → AreWords words
    → AllByRecursion (ShowsWord Read mask) (map (λ word. field word mask) words)
fields_show mask [] fits = tt
fields_show mask (word ∷ words) fits = ((word, fits.0, refl), fields_show mask words fits.1)

-- an operation of this verb
abbrev with_verb : RegOp → Verb → RegOp
with_verb op verb = record op { verb = verb }

shown_words : (payload : ℕ) (op : RegOp) (verb : Verb) (words : List ℕ) → length words ≡ values_done op.op
    → AreWords words → CanComeTo payload (with_verb op verb) (shown_result verb op.mask words)
shown_words payload op Read words long fits =
    (tt, length-map words (λ word. field word op.mask) ∙ long, fields_show op.mask words fits)
shown_words payload op Write words long fits = tt
shown_words payload op ReadBlock words long fits = (tt, long, fits)
shown_words payload op WriteBlock words long fits = tt
shown_words payload op RmwBits [] long fits = tt
shown_words payload op RmwBits (word ∷ words) long fits = tt
shown_words payload op RmwSum [] long fits = tt
shown_words payload op RmwSum (word ∷ words) long fits = tt

late_words : (payload : ℕ) (op : RegOp) (verb : Verb) (words : List ℕ) → CanRead payload op.op (length words)
    → AreWords words → CanBeLate payload (with_verb op verb) (late_of (shown_result verb op.mask words))
late_words payload op Read words can fits = (
  tt,
  subst (CanRead payload op.op) (sym (length-map words (λ word. field word op.mask))) can,
  fields_show op.mask words fits,
)
late_words payload op Write words can fits = tt
late_words payload op ReadBlock words can fits = (tt, can, fits)
late_words payload op WriteBlock words can fits = tt
late_words payload op RmwBits [] can fits = tt
late_words payload op RmwBits (word ∷ words) can fits = tt
late_words payload op RmwSum [] can fits = tt
late_words payload op RmwSum (word ∷ words) can fits = tt

-- ---- a piece that was not done, among those of the operation

module _ (payload : ℕ) (op : RegOp) (k : ℕ) (one : Op) (at : slice_get (cut_pieces payload op.op) k ≡ Some one) where
  among : (P : Op → Type 0) → P one → Any P (cut_pieces payload op.op)
  among P holds = any_at P (cut_pieces payload op.op) k one at holds

  late_shows : (answer : LateAnswer) → CameLate one answer → IsPrintedLate answer
      → CanBeLate payload op (shown_late op.verb op.mask answer)
  late_shows (late_answer.Value words) came fits =
      late_words payload op op.verb words (among (λ piece. length words ≡ values_done piece) came) fits
  late_shows late_answer.Done came fits =
      late_words payload op op.verb [] (among (λ piece. 0 ≡ values_done piece) (sym came)) tt
  late_shows (late_answer.Was word) came fits = absurd came
  late_shows (late_answer.Error code after) came fits =
      among (λ piece. (carried : ℕ) × Fails piece code after carried) came
  late_shows late_answer.Skipped came fits = tt
  late_shows late_answer.Garbled came fits = tt

  not_done_shows : (r : OpResult) → is_good r ≡ false → CameTo one r → IsPrinted r
      → CanComeTo payload op (shown_not_done op.verb op.mask r)
  not_done_shows (Value words) bad came fits = absurd cc
  not_done_shows Done bad came fits = absurd cc
  not_done_shows (Was word) bad came fits = absurd cc
  not_done_shows (Error code after) bad came fits =
      among (λ piece. (carried : ℕ) × Fails piece code after carried) came
  not_done_shows Skipped bad came fits = tt
  not_done_shows (TimedOut rounds) bad came fits = tt
  not_done_shows (Late rounds answer) bad came fits = late_shows answer came fits.1
  not_done_shows Unsent bad came fits = tt
  not_done_shows LinkLost bad came fits = tt
  not_done_shows Garbled bad came fits = tt
  not_done_shows (Denied rule) bad came fits = absurd came

-- ---- all pieces

good_count : (one : Op) (r : OpResult) → is_good r ≡ true → CameTo one r → length (values_in r) ≡ values_done one
good_count one (Value words) good came = came
good_count one Done good came = sym came
good_count one (Was word) good came = absurd came
good_count one (Error code after) good came = absurd cc
good_count one Skipped good came = absurd cc
good_count one (TimedOut rounds) good came = absurd cc
good_count one (Late rounds answer) good came = absurd cc
good_count one Unsent good came = absurd cc
good_count one LinkLost good came = absurd cc
good_count one Garbled good came = absurd cc
good_count one (Denied rule) good came = absurd came

-- ---- what is printed

field_fits : (word mask : ℕ) → IsWord word → IsWord (field word mask)
field_fits word mask fits = omega (arith, and_le_l word mask, div-le_self (bit_and word mask) (2 ^ shift mask))

fields_fit : (words : List ℕ) (mask : ℕ) → AreWords words → AreWords (map (λ word. field word mask) words)
fields_fit [] mask fits = tt
fields_fit (word ∷ words) mask fits = (field_fits word mask fits.0, fields_fit words mask fits.1)

words_printed : (verb : Verb) (mask : ℕ) (words : List ℕ) → AreWords words → IsPrinted (shown_result verb mask words)
words_printed Read mask words fits = fields_fit words mask fits
words_printed Write mask words fits = tt
words_printed ReadBlock mask words fits = fits
words_printed WriteBlock mask words fits = tt
words_printed RmwBits mask [] fits = tt
words_printed RmwBits mask (word ∷ words) fits = fits.0
words_printed RmwSum mask [] fits = tt
words_printed RmwSum mask (word ∷ words) fits = fits.0

late_printed : (r : OpResult) → IsPrinted r → IsPrintedLate (late_of r)
late_printed (Value words) fits = fits
late_printed Done fits = tt
late_printed (Was word) fits = fits
late_printed (Error code after) fits = fits
late_printed Skipped fits = tt
late_printed other fits = tt

answer_printed : (verb : Verb) (mask : ℕ) (answer : LateAnswer) → IsPrintedLate answer
    → IsPrintedLate (shown_late verb mask answer)
answer_printed verb mask (late_answer.Value words) fits =
    late_printed (shown_result verb mask words) (words_printed verb mask words fits)
answer_printed verb mask late_answer.Done fits =
    late_printed (shown_result verb mask []) (words_printed verb mask [] tt)
answer_printed verb mask other fits = fits

not_done_printed : (verb : Verb) (mask : ℕ) (r : OpResult) → IsPrinted r → IsPrinted (shown_not_done verb mask r)
not_done_printed verb mask (Late rounds answer) fits = (fits.0, answer_printed verb mask answer fits.1)
not_done_printed verb mask other fits = fits

-- ---- the pieces together

-- one of the pieces was not done, and it came to this
record NotDone (ones : List Op) (r : OpResult) : Type 0 where
  one : Op
  number : ℕ
  there : slice_get ones number ≡ Some one
  bad : is_good r ≡ false
  came : CameTo one r
  printed : IsPrinted r

-- all were done, with so many words
record AllDone (ones : List Op) (words : List ℕ) : Type 0 where
  long : length words ≡ sum_by values_done ones
  fits : AreWords words

module _ (f : PieceAt → OpResult) (g : PieceAt → List (ℕ × ℕ)) where
  abbrev pub ShowEach : List Op → List PieceAt → Type 0
  ShowEach ones pieces = Both (λ (one : Op) (p : PieceAt). Shows one (f p) (g p)) ones pieces

  not_done : (ones : List Op) (pieces : List PieceAt) (r : OpResult) → ShowEach ones pieces
      → first_not_done (map f pieces) ≡ Some r → NotDone ones r
  not_done [] [] r shows is = absurd cc
  not_done [] (p ∷ ps) r shows is = absurd shows
  not_done (one ∷ ones) [] r shows is = absurd shows
  not_done (one ∷ ones) (p ∷ ps) r shows is =
      elim (cases_Bool (is_good (f p))) [
        | inl good ↦
            (let later = not_done ones ps r shows.1 (rw good at is) in
            record {
              one = later.one;
              number = suc later.number;
              there = later.there;
              bad = later.bad;
              came = later.came;
              printed = later.printed;
            })
        | inr bad ↦
            (let found : Some (f p) ≡ Some r = rw bad at is in
            let same : f p ≡ r = same_Some (f p) r found in
            record {
              one = one;
              number = 0;
              there = refl;
              bad = subst (λ (x : OpResult). is_good x ≡ false) same bad;
              came = subst (CameTo one) same shows.0.came;
              printed = subst IsPrinted same shows.0.printed;
            })
      ]

  all_done : (ones : List Op) (pieces : List PieceAt) → ShowEach ones pieces → first_not_done (map f pieces) ≡ None
      → AllDone ones (flat_map values_in (map f pieces))
  all_done [] [] shows is = record { long = refl; fits = tt }
  all_done [] (p ∷ ps) shows is = absurd shows
  all_done (one ∷ ones) [] shows is = absurd shows
  all_done (one ∷ ones) (p ∷ ps) shows is =
      elim (cases_Bool (is_good (f p))) [
        | inl good ↦
            (let later = all_done ones ps shows.1 (rw good at is) in
            record {
              long = omega (
                arith,
                later.long,
                good_count one (f p) good shows.0.came,
                length-append (values_in (f p)) (flat_map values_in (map f ps)),
                sum_by-cons values_done one ones,
              );
              fits = AllByRecursion-append IsWord (values_in (f p)) (flat_map values_in (map f ps))
                  (values_fit (f p) shows.0.printed) later.fits;
            })
        | inr bad ↦ (let none : Some (f p) ≡ None = rw bad at is in absurd cc)
      ]

  -- ---- what the operation shows

  module _ (payload : ℕ) (low : 16 ≤ payload) (op : RegOp) (pieces : List PieceAt)
      (shows : ShowEach (cut_pieces payload op.op) pieces) where
    comes_by : (found : Option OpResult) → first_not_done (map f pieces) ≡ found
        → CanComeTo payload op (unwrap_or (option_map (shown_not_done op.verb op.mask) found)
        (shown_result op.verb op.mask (flat_map values_in (map f pieces))))
    comes_by None is =
        let done = all_done (cut_pieces payload op.op) pieces shows is in
        shown_words payload op op.verb (flat_map values_in (map f pieces)) (done.long ∙ done_count payload op.op low)
        done.fits
    comes_by (Some r) is =
        let found = not_done (cut_pieces payload op.op) pieces r shows is in
        not_done_shows payload op found.number found.one found.there r found.bad found.came found.printed

    pub comes_to : CanComeTo payload op (combined_result op.verb op.mask (map f pieces))
    comes_to = comes_by (first_not_done (map f pieces)) refl

    printed_by : (found : Option OpResult) → first_not_done (map f pieces) ≡ found
        → IsPrinted (unwrap_or (option_map (shown_not_done op.verb op.mask) found)
        (shown_result op.verb op.mask (flat_map values_in (map f pieces))))
    printed_by None is = words_printed op.verb op.mask (flat_map values_in (map f pieces))
        (all_done (cut_pieces payload op.op) pieces shows is).fits
    printed_by (Some r) is = not_done_printed op.verb op.mask r (not_done (cut_pieces payload op.op) pieces r shows is).printed

    pub is_printed : IsPrinted (combined_result op.verb op.mask (map f pieces))
    is_printed = printed_by (first_not_done (map f pieces)) refl

  -- ---- places

  few_places : (ones : List Op) (pieces : List PieceAt) → ShowEach ones pieces
      → length (flat_map g pieces) ≤ length ones
  few_places [] [] shows = omega arith
  few_places [] (p ∷ ps) shows = absurd shows
  few_places (one ∷ ones) [] shows = absurd shows
  few_places (one ∷ ones) (p ∷ ps) shows =
      let both = length-append (g p) (flat_map g ps) in
      let later = few_places ones ps shows.1 in
      elim shows.0.placed [
        | inl (none, placeless) ↦ omega (arith, both, later, ap length none)
        | inr (place, same, printed, other) ↦ omega (arith, both, later, ap length same)
      ]

  places_printed : (ones : List Op) (pieces : List PieceAt) → ShowEach ones pieces
      → AllByRecursion IsPrintedPlace (flat_map g pieces)
  places_printed [] [] shows = tt
  places_printed [] (p ∷ ps) shows = absurd shows
  places_printed (one ∷ ones) [] shows = absurd shows
  places_printed (one ∷ ones) (p ∷ ps) shows =
      AllByRecursion-append IsPrintedPlace (g p) (flat_map g ps)
      (elim shows.0.placed [
        | inl (none, placeless) ↦ subst (AllByRecursion IsPrintedPlace) (sym none) tt
        | inr (place, same, printed, other) ↦ subst (AllByRecursion IsPrintedPlace) (sym same) (printed, tt)
      ])
      (places_printed ones ps shows.1)

  -- an operation without a place is as its first piece
  placeless_by : (verb : Verb) (mask : ℕ) (one : Op) (ones : List Op) (pieces : List PieceAt)
      → ShowEach (one ∷ ones) pieces → flat_map g pieces ≡ []
      → IsPlaceless (combined_result verb mask (map f pieces))
  placeless_by verb mask one ones [] shows none = absurd shows
  placeless_by verb mask one ones (p ∷ ps) shows none =
      elim shows.0.placed [
        | inl (nothing, placeless) ↦ elim placeless [
          | inl unsent ↦ rw unsent (inl refl)
          | inr lost ↦ rw lost (inr refl)
        ]
        | inr (place, same, printed, other) ↦
            (let some = length-append (g p) (flat_map g ps) in
            absurd (omega (arith, some, ap length none, ap length same)))
      ]

  -- where each piece has a place none was left unsent
  all_sent : (ones : List Op) (pieces : List PieceAt) → ShowEach ones pieces
      → length (flat_map g pieces) ≡ length ones → AllByRecursion (λ r. r ≢ Unsent) (map f pieces)
  all_sent [] [] shows all = tt
  all_sent [] (p ∷ ps) shows all = absurd shows
  all_sent (one ∷ ones) [] shows all = absurd shows
  all_sent (one ∷ ones) (p ∷ ps) shows all =
      let both = length-append (g p) (flat_map g ps) in
      let later = few_places ones ps shows.1 in
      elim shows.0.placed [
        | inl (none, placeless) ↦ absurd (omega (arith, both, later, all, ap length none))
        | inr (place, same, printed, other) ↦ (
          other,
          all_sent ones ps shows.1 (omega (arith, both, all, ap length same)),
        )
      ]

-- ---- an operation that was sent does not show that it was not

before_sent : (words : List ℕ) → word_before words ≢ Unsent
before_sent [] e = absurd cc
before_sent (word ∷ words) e = absurd cc

words_sent : (verb : Verb) (mask : ℕ) (words : List ℕ) → shown_result verb mask words ≢ Unsent
words_sent Read mask words e = absurd cc
words_sent Write mask words e = absurd cc
words_sent ReadBlock mask words e = absurd cc
words_sent WriteBlock mask words e = absurd cc
words_sent RmwBits mask words e = before_sent words e
words_sent RmwSum mask words e = before_sent words e

not_done_sent : (verb : Verb) (mask : ℕ) (r : OpResult) → r ≢ Unsent → shown_not_done verb mask r ≢ Unsent
not_done_sent verb mask (Late rounds answer) other e = absurd cc
not_done_sent verb mask r other e = other e

sent_by : (verb : Verb) (mask : ℕ) (rs : List OpResult) (otherwise : OpResult)
    → AllByRecursion (λ r. r ≢ Unsent) rs → otherwise ≢ Unsent
    → unwrap_or (option_map (shown_not_done verb mask) (first_not_done rs)) otherwise ≢ Unsent
sent_by verb mask [] otherwise all last = last
sent_by verb mask (r ∷ rs) otherwise all last =
    elim (cases_Bool (is_good r)) [
      | inl good ↦ rw good (sent_by verb mask rs otherwise all.1 last)
      | inr bad ↦ rw bad (not_done_sent verb mask r all.0)
    ]

-- ---- the whole

op_shows : (f : PieceAt → OpResult) (g : PieceAt → List (ℕ × ℕ)) (payload : ℕ) (op : RegOp) (pieces : List PieceAt)
    (ones : List Op) → cut_pieces payload op.op ≡ ones → 16 ≤ payload → 1 ≤ piece_count payload op.op
    → ShowEach f g ones pieces
    → CanShowLive payload op (combined_result op.verb op.mask (map f pieces), flat_map g pieces)
op_shows f g payload op pieces [] is low some shows =
    absurd (omega (arith, some, length-cut payload op.op, ap length is))
op_shows f g payload op pieces (one ∷ ones) is low some shows =
    let each : ShowEach f g (cut_pieces payload op.op) pieces = subst (λ xs. ShowEach f g xs pieces) (sym is) shows in
    let long = length-cut payload op.op in
    record {
      comes_to = comes_to f g payload low op pieces each;
      printed = is_printed f g payload low op pieces each;
      places' = places_printed f g (one ∷ ones) pieces shows;
      few = omega (arith, few_places f g (cut_pieces payload op.op) pieces each, long);
      placeless = λ none. placeless_by f g op.verb op.mask one ones pieces shows none;
      sent = λ all. sent_by op.verb op.mask (map f pieces) (shown_result op.verb op.mask (flat_map values_in (map f pieces)))
          (all_sent f g (cut_pieces payload op.op) pieces each (all ∙ sym long))
          (words_sent op.verb op.mask (flat_map values_in (map f pieces)));
    }

-- What an operation shows whose pieces show what they can.
pub pieces_can_show : (f : PieceAt → OpResult) (g : PieceAt → List (ℕ × ℕ)) (payload : ℕ) (op : RegOp)
    (pieces : List PieceAt) → 16 ≤ payload → 1 ≤ piece_count payload op.op
    → Both (λ (one : Op) (p : PieceAt). Shows one (f p) (g p)) (cut_pieces payload op.op) pieces
    → CanShowLive payload op (combined_result op.verb op.mask (map f pieces), flat_map g pieces)
pieces_can_show f g payload op pieces low some shows =
    op_shows f g payload op pieces (cut_pieces payload op.op) refl low some shows

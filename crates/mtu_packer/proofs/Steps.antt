-- What each step of the packer keeps.
use Rattle.std.proofs.Common.{◌≡◌, ℕ, ◌+◌, ◌^◌, ◌<◌, ◌≤◌, List, [], ◌∷◌, length, map, true, false, if◌then◌else◌, sym}
use Rattle.std.proofs.Common.{ap, ◌∙◌, refl, inl, inr, arith, length-append}
use Rattle.std.proofs.lemmas.Bool.Decides.{nat_tests}
use Rattle.std.proofs.lemmas.Bool.{cases_eq}
use Rattle.std.specs.List.{range_with_len}
use Rattle.std.proofs.lemmas.List.FromFn.{map-range_with_len_more}
use Rattle.std.proofs.lemmas.List.Sums.{fold_push}
use Rattle.ipb_base.specs.Word.{AreWords}
use Rattle.ipb_base.proofs.AllLemmas.{AllByRecursion-append}
use Rattle.transaction_codec.specs.declared.request.Op.{Op}
use Rattle.transaction_codec.specs.declared.request.Op.TheVariants.{Read, ReadPort, Write, WritePort, RmwBits, RmwSum}
use Rattle.transaction_codec.specs.Request.{op_words, request_words}
use Rattle.transaction_codec.specs.Answer.{values_done}
use Rattle.mtu_packer.specs.Cutting.{piece}
use Rattle.mtu_packer.specs.Progress.{Progress, IsWithin, FitsAlone, has_room, add, close, step, run}

-- the test of the room, as bounds
pub record Room (progress : Progress) (op : Op) : Type 0 where
  pub request : length progress.open_body + length (op_words op) + 2 ≤ progress.payload
  pub reply : progress.reply + values_done op + 2 ≤ progress.payload

pub room : (progress : Progress) (op : Op) → has_room progress op ≡ true → Room progress op
room progress op test = record { request = grind (arith, nat_tests); reply = grind (arith, nat_tests) }

pub has_room_from : (progress : Progress) (op : Op) → Room progress op → has_room progress op ≡ true
has_room_from progress op bounds =
    let request : length progress.open_body + length (op_words op) + 2 ≤ progress.payload = bounds.request in
    let reply : progress.reply + values_done op + 2 ≤ progress.payload = bounds.reply in
    grind (arith, nat_tests)

pub some_words : (op : Op) → 1 ≤ length (op_words op)
some_words (Read base count) = omega arith
some_words (ReadPort base count) = omega arith
some_words (Write base words) = omega arith
some_words (WritePort base words) = omega arith
some_words (RmwBits base and_term or_term) = omega arith
some_words (RmwSum base addend) = omega arith

pub room_for_one : (progress : Progress) (op : Op) → FitsAlone progress.payload op → length progress.open_body ≡ 0
    → progress.reply ≡ 0 → has_room progress op ≡ true
room_for_one progress op alone empty unread =
    has_room_from progress op (record { request = omega (arith, alone.request); reply = omega (arith, alone.reply) })

-- a piece finds no room only where another is there already
pub begun_without_room : (progress : Progress) (op : Op) → IsWithin progress → FitsAlone progress.payload op
    → has_room progress op ≡ false → 1 ≤ progress.requests
begun_without_room progress op within alone test = elim (cases_eq progress.requests 0) [
  | inl none ↦ let found = within.begun none in
      absurd (let room : has_room progress op ≡ true = room_for_one progress op alone found.0 found.1 in cc)
  | inr some ↦ omega arith
]

pub add_within : (progress : Progress) (op : Op) → IsWithin progress → length progress.places < 2 ^ 31
    → has_room progress op ≡ true → IsWithin (add progress op)
add_within progress op within few test =
    let bounds = room progress op test in
    let some : 1 ≤ length (op_words op) = some_words op in
    let words = length-append progress.open_body (request_words (record { tid = progress.requests; op = op })) in
    let places = length-append progress.places (record {
      body = length progress.bodies;
      index =
          progress.requests;
    } ∷ []) in
    record {
      payload_low = within.payload_low;
      payload_high = within.payload_high;
      body = omega (arith, words, bounds.request);
      reply = omega (arith, bounds.reply);
      requests = omega (arith, words, within.requests);
      begun = λ none. absurd (omega arith);
      pieces = omega (arith, places, within.pieces);
      few = omega (arith, places, few);
      words = within.words;
    }

pub close_within : (progress : Progress) → IsWithin progress → 1 ≤ progress.requests → AreWords progress.open_body
    → IsWithin (close progress)
close_within progress within some words =
    let bodies = length-append progress.bodies (progress.open_body ∷ []) in
    record {
      payload_low = within.payload_low;
      payload_high = within.payload_high;
      body = omega (arith, within.payload_low);
      reply = omega (arith, within.payload_low);
      requests = omega arith;
      begun = λ none. (refl, refl);
      pieces = omega (arith, bodies, within.pieces);
      few = within.few;
      words = AllByRecursion-append AreWords progress.bodies (progress.open_body ∷ []) within.words (words, tt);
    }

pub step-payload : (progress : Progress) (op : Op) → (step progress op).payload ≡ progress.payload
step-payload progress op =
    elim (has_room progress op) as (λ b. (if b then add progress op else add (close progress) op).payload
    ≡ progress.payload) [ true ↦ refl | false ↦ refl ]

pub step-places : (progress : Progress) (op : Op) → length (step progress op).places ≡ length progress.places + 1
step-places progress op =
    elim (has_room progress op) as (λ b. length (if b then add progress op else add (close progress) op).places
    ≡ length progress.places + 1) [
      | true ↦ length-append progress.places (record { body = length progress.bodies; index = progress.requests } ∷ [])
      | false ↦ length-append progress.places (record { body = length (close progress).bodies; index = 0 } ∷ [])
    ]

pub run-payload : (progress : Progress) (pieces : List Op) → (run progress pieces).payload ≡ progress.payload
run-payload progress [] = refl
run-payload progress (op ∷ pieces) = run-payload (step progress op) pieces ∙ step-payload progress op

pub run-places : (progress : Progress) (pieces : List Op) → length (run progress pieces).places
    ≡ length progress.places + length pieces
run-places progress [] = omega arith
run-places progress (op ∷ pieces) = omega (arith, run-places (step progress op) pieces, step-places progress op)

-- one piece more of an operation
pub run_more : (begun progress after : Progress) (payload : ℕ) (op : Op) (k : ℕ) → progress
    ≡ run begun (map (piece payload op) (range_with_len 0 k)) → after ≡ step progress (piece payload op k)
    → after ≡ run begun (map (piece payload op) (range_with_len 0 (k + 1)))
run_more begun progress after payload op k taken stepped =
    stepped ∙ ap (λ p. step p (piece payload op k)) taken
    ∙ sym (fold_push step begun (map (piece payload op) (range_with_len 0 k)) (piece payload op k))
    ∙ ap (run begun) (sym (map-range_with_len_more (piece payload op) 0 k k (omega arith)))

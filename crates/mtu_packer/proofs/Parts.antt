-- The bodies of a packer at work, as lists of pieces.
use Rattle.std.proofs.Common.{◌≡◌, ℕ, ◌+◌, ◌<◌, ◌≤◌, ◌++◌, List, [], ◌∷◌, length, map, take, true, false, if◌then◌else◌}
use Rattle.std.proofs.Common.{refl, sym, subst, ap, ◌∙◌, inl, inr, arith, length-append, append_assoc, append-nil}
use Rattle.std.specs.List.{AllByRecursion, flat_map}
use Rattle.std.proofs.lemmas.Grind.{flat_map-append}
use Rattle.std.proofs.lemmas.List.Sums.{sum_by-append}
use Rattle.std.proofs.lemmas.List.FromFn.{map-range_with_len_more}
use Rattle.std.proofs.lemmas.Bool.{cases_eq}
use Rattle.std.proofs.lemmas.List.{length-map, map-append, nil_from_length}
use Rattle.transaction_codec.specs.declared.request.Op.{Op}
use Rattle.transaction_codec.specs.declared.request.Request.{Request}
use Rattle.transaction_codec.specs.Request.{AreRequests, op_words, request_words, requests_words}
use Rattle.transaction_codec.specs.Answer.{values_done, IsLongestAnswer}
use Rattle.transaction_codec.proofs.Longest.{longest_step, longest_nothing}
use Rattle.mtu_packer.specs.Packing.{requests_from, body_words, longest_reply, Fits, AreFull}
use Rattle.mtu_packer.specs.Packed.{places_in, places_from}
use Rattle.mtu_packer.specs.Progress.{Progress, FitsAlone, start, has_room, add, close, step, run}
use Rattle.ipb_base.proofs.AllLemmas.{AllByRecursion-append}
use Rattle.mtu_packer.proofs.PlaceLemmas.{place_at}
use Rattle.mtu_packer.proofs.Steps.{Room, room, has_room_from, step-payload}

requests_from-push : (tid : ℕ) (part : List Op) (op : Op) → requests_from tid (part ++ op ∷ []) ≡ requests_from tid
    part ++ record { tid = tid + length part; op = op } ∷ []
requests_from-push tid [] op = ap (λ n. record { tid = n; op = op } ∷ []) (omega arith)
requests_from-push tid (first ∷ part) op = ap (λ rest. record { tid = tid; op = first } ∷ rest)
    (requests_from-push (tid + 1) part op ∙ ap (λ n. requests_from (tid + 1) part ++ record { tid = n; op = op } ∷ [])
    (omega arith))

pub body_words-push : (part : List Op) (op : Op) → body_words (part ++ op ∷ []) ≡ body_words part
    ++ request_words (record { tid = length part; op = op })
body_words-push part op =
    ap requests_words (requests_from-push 0 part op)
    ∙ flat_map-append request_words (requests_from 0 part) (record { tid = 0 + length part; op = op } ∷ [])
    ∙ ap (λ words. body_words part ++ words) (append-nil (request_words (record { tid = 0 + length part; op = op }))
    ∙ ap (λ n. request_words (record { tid = n; op = op })) (omega arith))

pub longest_reply-push : (part : List Op) (op : Op) → longest_reply (part ++ op ∷ []) ≡ longest_reply part +
    values_done op + 1
longest_reply-push part op = omega (arith, sum_by-append (λ o. 1 + values_done o) part (op ∷ []))

-- the longest reply to a body is the longest answer that a board can give to it
pub longest_reply_is_longest : (tid : ℕ) (part : List Op) → AreRequests (requests_from tid part) → IsLongestAnswer
    (requests_words (requests_from tid part)) (longest_reply part)
longest_reply_is_longest tid [] ranges = longest_nothing
longest_reply_is_longest tid (op ∷ part) ranges =
    let request : Request = record { tid = tid; op = op } in
    let longer : 1 + values_done op + longest_reply part ≡ longest_reply (op ∷ part) =
    omega (arith, sum_by-append (λ o. 1 + values_done o) (op ∷ []) part) in
    subst (IsLongestAnswer (requests_words (requests_from tid (op ∷ part)))) longer
    (longest_step request (requests_words (requests_from tid (op ∷ part)))
    (requests_words (requests_from (tid + 1) part)) (longest_reply part) ranges.0 refl
    (longest_reply_is_longest (tid + 1) part ranges.1))

places_from-push : (body : ℕ) (parts : List (List Op)) (part : List Op) → places_from body (parts ++ part ∷ [])
    ≡ places_from body parts ++ places_in (body + length parts) (length part)
places_from-push body [] part = append-nil (places_in body (length part)) ∙ ap (λ n. places_in n (length part))
    (omega arith)
places_from-push body (first ∷ parts) part =
    ap (λ rest. places_in body (length first) ++ rest) (places_from-push (body + 1) parts part
    ∙ ap (λ n. places_from (body + 1) parts ++ places_in n (length part)) (omega arith))
    ∙ sym (append_assoc (places_in body (length first)) (places_from (body + 1) parts)
    (places_in (body + length (first ∷ parts)) (length part)))

places_in-more : (body count : ℕ) → places_in body (count + 1) ≡ places_in body count ++ record {
  body = body;
  index =
      count;
} ∷ []
places_in-more body count = map-range_with_len_more (λ (index : ℕ). record { body = body; index = index }) 0 count
    count (omega arith)

full_last : (payload : ℕ) (parts : List (List Op)) (part more : List Op) → take 1 more ≡ take 1 part → AreFull payload
    (parts ++ part ∷ []) → AreFull payload (parts ++ more ∷ [])
full_last payload [] part more same full = tt
full_last payload (first ∷ []) part more same full =
    (λ fits. full.0 (subst (λ front. Fits payload (first ++ front)) same fits), tt)
full_last payload (first ∷ (second ∷ parts)) part more same full =
    (full.0, full_last payload (second ∷ parts) part more same full.1)

full_more : (payload : ℕ) (parts : List (List Op)) (part next : List Op) → AreFull payload (parts ++ part ∷ [])
    → ¬ Fits payload (part ++ take 1 next) → AreFull payload ((parts ++ part ∷ []) ++ next ∷ [])
full_more payload [] part next full over = (over, tt)
full_more payload (first ∷ []) part next full over = (full.0, full_more payload [] part next full.1 over)
full_more payload (first ∷ (second ∷ parts)) part next full over =
    (full.0, full_more payload (second ∷ parts) part next full.1 over)

take-one-push : (part : List Op) (op : Op) → 1 ≤ length part → take 1 (part ++ op ∷ []) ≡ take 1 part
take-one-push [] op some = absurd (omega arith)
take-one-push (first ∷ part) op some = refl

-- The closed bodies have these parts, and the open one has this part.
pub record Represents (progress : Progress) (parts : List (List Op)) (part : List Op) : Type 0 where
  pub bodies : progress.bodies ≡ map body_words parts
  pub open_body : progress.open_body ≡ body_words part
  pub requests : progress.requests ≡ length part
  pub reply : progress.reply ≡ longest_reply part
  pub places : progress.places ≡ places_from 0 parts ++ places_in (length parts) (length part)

pub record IsOpen (payload : ℕ) (parts : List (List Op)) (part : List Op) : Type 0 where
  pub filled : AllByRecursion (λ xs. 0 < length xs) parts
  pub fits : AllByRecursion (Fits payload) parts
  pub last : Fits payload part
  pub full : AreFull payload (parts ++ part ∷ [])
  pub begun : length part ≡ 0 → length parts ≡ 0

-- A packer that took these pieces.
pub record Holds (progress : Progress) (taken : List Op) : Type 0 where
  pub parts : List (List Op)
  pub part : List Op
  pub represents : Represents progress parts part
  pub is_open : IsOpen progress.payload parts part
  pub whole : flat_map (λ xs. xs) parts ++ part ≡ taken

length-body_words-push : (part : List Op) (op : Op) → length (body_words (part ++ op ∷ [])) ≡ length (body_words part)
    + length (op_words op) + 1
length-body_words-push part op =
    omega (
      arith,
      ap length (body_words-push part op),
      length-append (body_words part)
          (request_words (record { tid = length part; op = op })),
    )

fits_with_room : (progress : Progress) (parts : List (List Op)) (part : List Op) (op : Op) → Represents progress parts
    part → Room progress op → Fits progress.payload (part ++ op ∷ [])
fits_with_room progress parts part op is bounds = record {
  request = omega (arith, length-body_words-push part op, ap length is.open_body, bounds.request);
  reply = omega (arith, longest_reply-push part op, is.reply, bounds.reply);
}

room_where_fits : (progress : Progress) (parts : List (List Op)) (part : List Op) (op : Op) → Represents progress
    parts part → Fits progress.payload (part ++ op ∷ []) → has_room progress op ≡ true
room_where_fits progress parts part op is fits =
    has_room_from progress op (record {
      request = omega (arith, length-body_words-push part op, ap length is.open_body, fits.request);
      reply = omega (arith, longest_reply-push part op, is.reply, fits.reply);
    })

same_place : (progress : Progress) (parts : List (List Op)) (part : List Op) → Represents progress parts part
    → place_at (length progress.bodies) progress.requests ≡ place_at (length parts) (length part)
same_place progress parts part is =
    ap (λ n. place_at n progress.requests) (ap length is.bodies ∙ length-map parts body_words)
    ∙ ap (place_at (length parts)) is.requests

full_first : (payload : ℕ) (parts : List (List Op)) (part : List Op) → length parts ≡ 0 → AreFull payload
    (parts ++ part ∷ [])
full_first payload [] part none = tt
full_first payload (first ∷ parts) part none = absurd (omega arith)

add_represents : (progress : Progress) (parts : List (List Op)) (part : List Op) (op : Op) → Represents progress parts
    part → Represents (add progress op) parts (part ++ op ∷ [])
add_represents progress parts part op is =
    let longer : length part + 1 ≡ length (part ++ op ∷ []) = omega (arith, length-append part (op ∷ [])) in
    record {
      bodies = is.bodies;
      open_body = ap (λ words. words ++ request_words (record { tid = progress.requests; op = op })) is.open_body
          ∙ ap (λ n. body_words part ++ request_words (record { tid = n; op = op })) is.requests
          ∙ sym (body_words-push part op);
      requests = omega (arith, longer, is.requests);
      reply = omega (arith, longest_reply-push part op, is.reply);
      places = ap (λ places. places ++ place_at (length progress.bodies) progress.requests ∷ []) is.places
          ∙ append_assoc (places_from 0 parts) (places_in (length parts) (length part))
          (place_at (length progress.bodies) progress.requests ∷ [])
          ∙ ap (λ places. places_from 0 parts ++ places) (
          ap (λ place. places_in (length parts) (length part) ++ place ∷ []) (same_place progress parts part is)
          ∙ sym (places_in-more (length parts) (length part)) ∙ ap (places_in (length parts)) longer
          );
    }

add_holds : (progress : Progress) (taken : List Op) (op : Op) → has_room progress op ≡ true → Holds progress taken
    → Holds (add progress op) (taken ++ op ∷ [])
add_holds progress taken op test holds =
    let parts = holds.parts in
    let part = holds.part in
    let is = holds.represents in
    let opened = holds.is_open in
    record {
      parts = parts;
      part = part ++ op ∷ [];
      represents = add_represents progress parts part op is;
      is_open = record {
        filled = opened.filled;
        fits = opened.fits;
        last = fits_with_room progress parts part op is (room progress op test);
        full = elim (cases_eq (length part) 0) [
          | inl none ↦ full_first progress.payload parts (part ++ op ∷ []) (opened.begun none)
          | inr some ↦ full_last progress.payload parts part (part ++ op ∷ []) (take-one-push part op (omega arith))
              opened.full
        ];
        begun = λ none. absurd (omega (arith, length-append part (op ∷ [])));
      };
      whole = sym (append_assoc (flat_map (λ xs. xs) parts) part (op ∷ [])) ∙ ap (λ xs. xs ++ op ∷ []) holds.whole;
    }

pub close_represents : (progress : Progress) (parts : List (List Op)) (part : List Op) → Represents progress parts
    part → Represents (close progress) (parts ++ part ∷ []) []
close_represents progress parts part is = record {
  bodies = ap (λ words. progress.bodies ++ words ∷ []) is.open_body ∙ ap (λ bodies. bodies ++ body_words part ∷ [])
      is.bodies ∙ sym (map-append body_words parts (part ∷ []));
  open_body = refl;
  requests = refl;
  reply = refl;
  places = is.places ∙ sym (places_from-push 0 parts part ∙ ap (λ n. places_from 0 parts ++ places_in n (length part))
      (omega arith)) ∙ sym (append-nil (places_from 0 (parts ++ part ∷ [])));
}

pub close_whole : (parts : List (List Op)) (part : List Op) → flat_map (λ xs. xs) (parts ++ part ∷ [])
    ≡ flat_map (λ xs. xs) parts ++ part
close_whole parts part = flat_map-append (λ xs. xs) parts (part ∷ []) ∙ ap (λ xs. flat_map (λ ys. ys) parts ++ xs)
    (append-nil part)

fits_alone : (payload : ℕ) (op : Op) → FitsAlone payload op → Fits payload (op ∷ [])
fits_alone payload op alone = record {
  request = omega (arith, length-body_words-push [] op, alone.request);
  reply = omega (arith, longest_reply-push [] op, alone.reply);
}

-- where a piece has no room the open body has one already
open_begun : (progress : Progress) (parts : List (List Op)) (part : List Op) (op : Op) → Represents progress parts
    part → FitsAlone progress.payload op → has_room progress op ≡ false → 0 < length part
open_begun progress parts part op is alone test = elim (cases_eq (length part) 0) [
  | inl none ↦ absurd (
      let first : part ≡ [] = nil_from_length part none in
      let room : has_room progress op ≡ true = room_where_fits progress parts part op is
      (subst (λ xs. Fits progress.payload (xs ++ op ∷ [])) (sym first) (fits_alone progress.payload op alone)) in
      cc
      )
  | inr some ↦ omega arith
]

turned_holds : (progress : Progress) (taken : List Op) (op : Op) → FitsAlone progress.payload op → has_room progress
    op ≡ false → Holds progress taken → Holds (add (close progress) op) (taken ++ op ∷ [])
turned_holds progress taken op alone test holds =
    let parts = holds.parts in
    let part = holds.part in
    let is = holds.represents in
    let opened = holds.is_open in
    let over : ¬ Fits progress.payload (part ++ op ∷ []) = λ fits. (let room : has_room progress op ≡ true =
    room_where_fits progress parts part op is fits in cc) in
    record {
      parts = parts ++ part ∷ [];
      part = op ∷ [];
      represents = add_represents (close progress) (parts ++ part ∷ []) [] op (close_represents progress parts part is);
      is_open = record {
        filled = AllByRecursion-append (λ xs. 0 < length xs) parts (part ∷ []) opened.filled
            (open_begun progress parts part op is alone test, tt);
        fits = AllByRecursion-append (Fits progress.payload) parts (part ∷ []) opened.fits (opened.last, tt);
        last = fits_alone progress.payload op alone;
        full = full_more progress.payload parts part (op ∷ []) opened.full over;
        begun = λ none. absurd (omega arith);
      };
      whole = ap (λ xs. xs ++ op ∷ []) (close_whole parts part ∙ holds.whole);
    }

pub step_holds : (progress : Progress) (taken : List Op) (op : Op) → FitsAlone progress.payload op
    → Holds progress taken → Holds (step progress op) (taken ++ op ∷ [])
step_holds progress taken op alone holds =
    elim (has_room progress op) as (λ b. has_room progress op ≡ b
    → Holds (if b then add progress op else add (close progress) op) (taken ++ op ∷ [])) [
      | true ↦ λ test. add_holds progress taken op test holds
      | false ↦ λ test. turned_holds progress taken op alone test holds
    ] refl

pub run_holds : (progress : Progress) (taken pieces : List Op) → AllByRecursion (FitsAlone progress.payload) pieces
    → Holds progress taken → Holds (run progress pieces) (taken ++ pieces)
run_holds progress taken [] alone holds = subst (Holds progress) (sym (append-nil taken)) holds
run_holds progress taken (op ∷ pieces) alone holds =
    subst (Holds (run (step progress op) pieces)) (append_assoc taken (op ∷ []) pieces)
    (run_holds (step progress op) (taken ++ op ∷ []) pieces
    (subst (λ payload. AllByRecursion (FitsAlone payload) pieces) (sym (step-payload progress op)) alone.1)
    (step_holds progress taken op alone.0 holds))

pub start_holds : (payload : ℕ) → 1 ≤ payload → Holds (start payload) []
start_holds payload some = record {
  parts = [];
  part = [];
  represents = record { bodies = refl; open_body = refl; requests = refl; reply = refl; places = refl };
  is_open = record {
    filled = tt;
    fits = tt;
    last = record { request = omega arith; reply = omega arith };
    full =
        tt;
    begun = λ none. refl;
  };
  whole = refl;
}

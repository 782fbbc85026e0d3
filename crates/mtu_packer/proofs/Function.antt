-- The packing of operations is the function that deals out their pieces.
use Rattle.std.proofs.Common.{◌≡◌, ℕ, ◌+◌, ◌<◌, ◌≤◌, ◌&&◌, Bool, true, false, ltb, List, [], ◌∷◌, ◌++◌, length}
use Rattle.std.proofs.Common.{if◌then◌else◌, refl, sym, subst, ap, ◌∙◌, arith, append_assoc, append-nil, length-append}
use Rattle.std.specs.List.{AllByRecursion, flat_map}
use Rattle.std.proofs.lemmas.Bool.Decides.{nat_tests}
use Rattle.transaction_codec.specs.declared.request.Op.{Op}
use Rattle.transaction_codec.specs.Request.{op_words}
use Rattle.ipb_base.proofs.AllLemmas.{all_of_each}
use Rattle.mtu_packer.specs.Cutting.{CanBeCut, HasWords, cut_pieces}
use Rattle.mtu_packer.specs.Packing.{body_words, longest_reply, Fits, AreFull, AreReadable, IsPacking, takes}
use Rattle.mtu_packer.specs.Packing.{parts_from}
use Rattle.mtu_packer.specs.Packing.{parts_in, parts_of}
use Rattle.mtu_packer.specs.Packed.{Contents, IsPacked, packed_contents}
use Rattle.mtu_packer.specs.Progress.{FitsAlone}
use Rattle.mtu_packer.proofs.Finish.{all_fit, own_pieces, all_places}
use Rattle.mtu_packer.proofs.Readable.{all_readable, cut_has_words}
use Rattle.mtu_packer.proofs.Unique.{packing_unique, packed_unique}

-- ---- the test of the room

both_below : (a b n : ℕ) → ltb a n && ltb b n ≡ true → (a + 1 ≤ n) × (b + 1 ≤ n)
both_below a b n test = (grind (arith, nat_tests), grind (arith, nat_tests))

below_both : (a b n : ℕ) → ltb a n && ltb b n ≡ false → a + 1 ≤ n → b + 1 ≤ n → ⊥
below_both a b n test less more = grind (arith, nat_tests)

room_found : (payload : ℕ) (part : List Op) (op : Op) → takes payload part op ≡ true → Fits payload (part ++ op ∷ [])
room_found payload part op test =
    let both = both_below (length (body_words (part ++ op ∷ []))) (longest_reply (part ++ op ∷ [])) payload test in
    record { request = both.0; reply = both.1 }

no_room : (payload : ℕ) (part : List Op) (op : Op) → takes payload part op ≡ false → ¬ Fits payload (part ++ op ∷ [])
no_room payload part op test fits =
    below_both (length (body_words (part ++ op ∷ []))) (longest_reply (part ++ op ∷ [])) payload test fits.request
    fits.reply

-- ---- dealing out pieces

abbrev joined : List (List Op) → List Op
joined parts = flat_map (λ part. part) parts

-- what is dealt out to bodies of which the first has a part already
record IsDealt (payload : ℕ) (part ops : List Op) (parts : List (List Op)) : Type 0 where
  more : List Op
  rest : List (List Op)
  begins : parts ≡ (part ++ more) ∷ rest
  whole : joined parts ≡ part ++ ops
  filled : AllByRecursion (λ xs. 0 < length xs) parts
  fits : AllByRecursion (Fits payload) parts
  full : AreFull payload parts

fits_alone : (payload : ℕ) (op : Op) → FitsAlone payload op → Fits payload (op ∷ [])
fits_alone payload op alone =
    let words = append-nil (op_words op) in
    record { request = omega (arith, alone.request, ap length words); reply = omega (arith, alone.reply) }

full_before : (payload : ℕ) (part : List Op) (op : Op) (more : List Op) (rest : List (List Op)) → takes payload part
    op ≡ false
    → AreFull payload ((op ∷ more) ∷ rest) → AreFull payload (part ∷ ((op ∷ more) ∷ rest))
full_before payload part op more rest test full = (no_room payload part op test, full)

dealt_by : (payload : ℕ) (part : List Op) (op : Op) (ops : List Op) (b : Bool) → takes payload part op ≡ b
    → 0 < length part → Fits payload part
    → (takes payload part op ≡ true → IsDealt payload (part ++ op ∷ []) ops (parts_from payload (part ++ op ∷ []) ops))
    → IsDealt payload (op ∷ []) ops (parts_from payload (op ∷ []) ops)
    → IsDealt payload part (op ∷ ops)
    (if b then parts_from payload (part ++ op ∷ []) ops else part ∷ parts_from payload (op ∷ []) ops)
dealt_by payload part op ops true test some is taken next =
    let all = taken test in
    record {
      more = op ∷ all.more;
      rest = all.rest;
      begins = all.begins ∙ ap (λ xs. xs ∷ all.rest) (append_assoc part (op ∷ []) all.more);
      whole = all.whole ∙ append_assoc part (op ∷ []) ops;
      filled = all.filled;
      fits = all.fits;
      full = all.full;
    }
dealt_by payload part op ops false test some is taken next = record {
  more = [];
  rest = parts_from payload (op ∷ []) ops;
  begins = ap (λ xs. xs ∷ parts_from payload (op ∷ []) ops) (sym (append-nil part));
  whole = ap (λ xs. part ++ xs) next.whole;
  filled = (some, next.filled);
  fits = (is, next.fits);
  full = subst (λ parts. AreFull payload (part ∷ parts)) (sym next.begins)
      (full_before payload part op next.more next.rest test (subst (AreFull payload) next.begins next.full));
}

some_more : (part : List Op) (op : Op) → 0 < length (part ++ op ∷ [])
some_more part op = omega (arith, length-append part (op ∷ []))

dealt : (payload : ℕ) (part ops : List Op) → 0 < length part → Fits payload part → AllByRecursion (FitsAlone payload)
    ops
    → IsDealt payload part ops (parts_from payload part ops)
dealt payload part [] some is alone = record {
  more = [];
  rest = [];
  begins = ap (λ xs. xs ∷ []) (sym (append-nil part));
  whole = refl;
  filled = (some, tt);
  fits = (is, tt);
  full = tt;
}
dealt payload part (op ∷ ops) some is alone =
    dealt_by payload part op ops (takes payload part op) refl some is
    (λ test. dealt payload (part ++ op ∷ []) ops (some_more part op) (room_found payload part op test) alone.1)
    (dealt payload (op ∷ []) ops (omega arith) (fits_alone payload op alone.0) alone.1)

-- ---- the packing

record IsPackingOf (payload : ℕ) (pieces : List Op) (parts : List (List Op)) : Type 0 where
  whole : joined parts ≡ pieces
  filled : AllByRecursion (λ xs. 0 < length xs) parts
  fits : AllByRecursion (Fits payload) parts
  full : AreFull payload parts

packing_in : (payload : ℕ) (pieces : List Op) → AllByRecursion (FitsAlone payload) pieces
    → IsPackingOf payload pieces (parts_in payload pieces)
packing_in payload [] alone = record { whole = refl; filled = tt; fits = tt; full = tt }
packing_in payload (op ∷ pieces) alone =
    let all = dealt payload (op ∷ []) pieces (omega arith) (fits_alone payload op alone.0) alone.1 in
    record { whole = all.whole; filled = all.filled; fits = all.fits; full = all.full }

packing_of : (ops : List Op) (payload : ℕ) → 16 ≤ payload → IsPacking ops payload (parts_of payload ops)
packing_of ops payload low =
    let all = packing_in payload (flat_map (cut_pieces payload) ops) (all_fit payload ops low) in
    record { whole = all.whole; filled = all.filled; fits = all.fits; full = all.full }

pub packing_is : (ops : List Op) (payload : ℕ) (parts : List (List Op)) → 16 ≤ payload → IsPacking ops payload parts
    → parts ≡ parts_of payload ops
packing_is ops payload parts low is = packing_unique ops payload parts (parts_of payload ops) is
    (packing_of ops payload low)

pub is_packing : (ops : List Op) (payload : ℕ) (parts : List (List Op)) → 16 ≤ payload → parts ≡ parts_of payload ops
    → IsPacking ops payload parts
is_packing ops payload parts low same = subst (IsPacking ops payload) (sym same) (packing_of ops payload low)

packed_of : (ops : List Op) (payload : ℕ) → 16 ≤ payload → AreReadable (parts_of payload ops)
    → IsPacked ops payload (packed_contents payload ops)
packed_of ops payload low readable =
    let packing = packing_of ops payload low in
    record {
      parts = parts_of payload ops;
      packing = packing;
      readable = readable;
      bodies = refl;
      pieces = own_pieces payload ops (parts_of payload ops) packing.whole;
      places = all_places payload ops (parts_of payload ops) packing.whole;
    }

pub packed_is : (ops : List Op) (payload : ℕ) (contents : Contents) → 16 ≤ payload → IsPacked ops payload contents
    → AreReadable (parts_of payload ops) × (contents ≡ packed_contents payload ops)
packed_is ops payload contents low is =
    let readable = subst AreReadable (packing_is ops payload is.parts low is.packing) is.readable in
    (readable, packed_unique ops payload contents (packed_contents payload ops) is (packed_of ops payload low readable))

pub is_packed : (ops : List Op) (payload : ℕ) (contents : Contents) → 16 ≤ payload → AreReadable (parts_of payload ops)
    → contents ≡ packed_contents payload ops → IsPacked ops payload contents
is_packed ops payload contents low readable same = subst (IsPacked ops payload) (sym same)
    (packed_of ops payload low readable)

-- ---- operations of words

readable_of : (ops : List Op) (payload : ℕ) → 16 ≤ payload → payload ≤ 2243 → AllByRecursion CanBeCut ops
    → AllByRecursion HasWords ops → AreReadable (parts_of payload ops)
readable_of ops payload low high can words =
    let packing = packing_of ops payload low in
    all_readable payload (parts_of payload ops) high
    (all_of_each HasWords (parts_of payload ops) (subst (AllByRecursion HasWords) (sym packing.whole)
    (cut_has_words payload ops low can words)))
    (all_of_each (FitsAlone payload) (parts_of payload ops) (subst (AllByRecursion (FitsAlone payload))
    (sym packing.whole) (all_fit payload ops low)))
    packing.fits

pub words_packed : (ops : List Op) (payload : ℕ) → 16 ≤ payload → payload ≤ 2243 → AllByRecursion CanBeCut ops
    → AllByRecursion HasWords ops → IsPacked ops payload (packed_contents payload ops)
words_packed ops payload low high can words = packed_of ops payload low (readable_of ops payload low high can words)

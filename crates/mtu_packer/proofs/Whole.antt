-- All operations packed, one after the other.
use Rattle.std.proofs.Common.{◌≡◌, ℕ, ◌+◌, suc, ◌<◌, ◌≤◌, ◌++◌, List, [], ◌∷◌, length, map, take, drop, get_or, refl}
use Rattle.std.proofs.Common.{sym, subst, ap, ◌∙◌, arith, rules, length-append, append_assoc, append-nil, drop-cons}
use Rattle.std.specs.List.{flat_map}
use Rattle.std.proofs.lemmas.List.{drop-drop, drop_all}
use Rattle.std.proofs.lemmas.List.Sums.{fold-append}
use Rattle.transaction_codec.specs.declared.request.Op.{Op}
use Rattle.mtu_packer.specs.declared.packed.Piece.{Piece}
use Rattle.mtu_packer.specs.declared.packed.Span.{Span}
use Rattle.mtu_packer.specs.Cutting.{cut_pieces, piece_count}
use Rattle.mtu_packer.specs.Progress.{Progress, IsWithin, Over, start, step, run}
use Rattle.mtu_packer.specs.Span.{span_places, AreWithin, spans_from}
use Rattle.mtu_packer.proofs.Steps.{run-payload, run-places}
use Rattle.mtu_packer.proofs.Pieces.{length-cut}
use Rattle.mtu_packer.specs.Packed.{deal}

-- ---- the spans of operations

pub spans_within : (payload : ℕ) (ops : List Op) (from total : ℕ) → from + length (flat_map (cut_pieces payload) ops) ≤ total
    → AreWithin total (spans_from from (map (piece_count payload) ops))
spans_within payload [] from total fits = tt
spans_within payload (op ∷ ops) from total fits =
    let parts = length-append (cut_pieces payload op) (flat_map (cut_pieces payload) ops) in
    let own = length-cut payload op in (
      (omega arith, omega (arith, parts, own)),
      spans_within payload ops (from + piece_count payload op) total
          (omega (arith, parts, own)),
    )

pub spans_places : (places : List Piece) (from : ℕ) (counts : List ℕ) → map (span_places places)
    (spans_from from counts) ≡ deal counts (drop from places)
spans_places places from [] = refl
spans_places places from (count ∷ counts) =
    ap (λ n. take n (drop from places) ∷ map (span_places places) (spans_from (from + count) counts)) (omega arith)
    ∙ ap (λ rest. take count (drop from places) ∷ rest) (spans_places places (from + count) counts ∙ ap (deal counts)
    (sym (drop-drop count from places)))

-- ---- the loop over the operations

-- So many operations are packed, and what is packed and what is left are all.
pub record Underway (ops : List Op) (payload done : ℕ) (progress : Progress) (spans : List Span) (next : ℕ) : Type 0
  where
    pub taken : run progress (flat_map (cut_pieces payload) (drop done ops)) ≡ run (start payload) (flat_map (cut_pieces payload) ops)
    pub payload_same : progress.payload ≡ payload
    pub within : IsWithin progress
    pub places : length progress.places ≡ next
    pub spanned : spans ++ spans_from next (map (piece_count payload) (drop done ops))
        ≡ spans_from 0 (map (piece_count payload) ops)
    pub count : next + length (flat_map (cut_pieces payload) (drop done ops)) ≡ length (flat_map (cut_pieces payload) ops)

pub underway_start : (ops : List Op) (payload : ℕ) (progress : Progress) → progress ≡ start payload → 16 ≤ payload
    → payload ≤ 2243 → Underway ops payload 0 progress [] 0
underway_start ops payload progress fresh low high =
    subst (λ p. Underway ops payload 0 p [] 0) (sym fresh) (record {
      taken = refl;
      payload_same = refl;
      within = search (rules, low, high);
      places = refl;
      spanned = refl;
      count = omega arith;
    })

split_at : (ops : List Op) (done : ℕ) (op : Op) → done < length ops → op ≡ get_or ops done op → drop done ops
    ≡ op ∷ drop (done + 1) ops
split_at ops done op more here =
    let one : suc done ≡ done + 1 = omega arith in
    drop-cons ops done op more ∙ ap (λ x. x ∷ drop (suc done) ops) (sym here) ∙ ap (λ n. op ∷ drop n ops) one

pub underway_room : (ops : List Op) (payload done : ℕ) (progress : Progress) (spans : List Span) (next : ℕ) (op : Op)
    → Underway ops payload done progress spans next
    → done < length ops → op ≡ get_or ops done op → next + piece_count payload op ≤ length (flat_map (cut_pieces payload) ops)
underway_room ops payload done progress spans next op is more here =
    omega (
      arith,
      is.count,
      ap (λ xs. length (flat_map (cut_pieces payload) xs)) (split_at ops done op more here),
      length-append (cut_pieces payload op) (flat_map (cut_pieces payload) (drop (done + 1) ops)),
      length-cut payload op,
    )

pub underway_next : (ops : List Op) (payload done : ℕ) (progress : Progress) (spans : List Span) (next : ℕ) (op : Op)
    (after : Progress) → Underway ops payload done progress spans next
    → done < length ops → op ≡ get_or ops done op → after ≡ run progress (cut_pieces progress.payload op) → IsWithin after
    → Underway ops payload (done + 1) after (spans ++ record {
      start = next;
      end =
          next + piece_count payload op;
    } ∷ []) (next + piece_count payload op)
underway_next ops payload done progress spans next op after is more here packed within =
    let rest = drop (done + 1) ops in
    let split = split_at ops done op more here in
    let same : after ≡ run progress (cut_pieces payload op) = packed ∙ ap (λ n. run progress (cut_pieces n op)) is.payload_same in
    record {
      taken = ap (λ p. run p (flat_map (cut_pieces payload) rest)) same
          ∙ sym (fold-append step progress (cut_pieces payload op) (flat_map (cut_pieces payload) rest))
          ∙ ap (λ xs. run progress (flat_map (cut_pieces payload) xs)) (sym split) ∙ is.taken;
      payload_same = ap (λ p. p.payload) same ∙ run-payload progress (cut_pieces payload op) ∙ is.payload_same;
      within = within;
      places = ap (λ p. length p.places) same ∙ omega (
        arith,
        run-places progress (cut_pieces payload op),
        length-cut payload
            op,
        is.places,
      );
      spanned = append_assoc spans (record { start = next; end = next + piece_count payload op } ∷ [])
          (spans_from (next + piece_count payload op) (map (piece_count payload) rest))
          ∙ ap (λ xs. spans ++ spans_from next (map (piece_count payload) xs)) (sym split) ∙ is.spanned;
      count = omega (
        arith,
        is.count,
        ap (λ xs. length (flat_map (cut_pieces payload) xs)) split,
        length-append
            (cut_pieces payload op) (flat_map (cut_pieces payload) rest),
        length-cut payload op,
      );
    }

pub underway_over : (ops : List Op) (payload done : ℕ) (progress : Progress) (spans : List Span) (next : ℕ)
    → Underway ops payload done progress spans next → length ops ≤ done → Over ops payload progress spans
underway_over ops payload done progress spans next is past =
    let none = drop_all done ops past in
    record {
      taken = ap (λ xs. run progress (flat_map (cut_pieces payload) xs)) (sym none) ∙ is.taken;
      spanned = sym (append-nil spans) ∙ ap (λ xs. spans ++ spans_from next (map (piece_count payload) xs)) (sym none)
          ∙ is.spanned;
      places = omega (arith, is.places, is.count, ap (λ xs. length (flat_map (cut_pieces payload) xs)) none);
    }

pub over_within : (ops : List Op) (payload : ℕ) (progress : Progress) (spans : List Span) → Over ops payload progress
    spans → AreWithin (length progress.places) spans
over_within ops payload progress spans is =
    subst (AreWithin (length progress.places)) (sym is.spanned) (spans_within payload ops 0 (length progress.places)
    (omega (arith, is.places)))

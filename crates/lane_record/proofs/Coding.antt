-- Lemmas on the spelling of records: no two are spelled alike, and fronts are spelled by fronts.
use Rattle.std.proofs.Common.{◌≡◌, ℕ, List, [], ◌∷◌, ◌++◌, map, Option, Some, None, refl, sym, ap, ◌∙◌}
use Rattle.std.proofs.lemmas.List.{map-append}
use Rattle.ipb_base.specs.Lists.{IsPrefix}
use Rattle.turn_pass.specs.Record.{Recorded, Begins}
use Rattle.board_bus.specs.declared.kind.RangeKind.{RangeKind}
use Rattle.board_bus.specs.declared.kind.RangeKind.TheVariants.{Rw, Ro, Wo, Slow}
use Rattle.board_bus.specs.Cells.{CellMap}
use Rattle.lane_record.specs.declared.outcome.Outcome.{Outcome}
use Rattle.lane_record.specs.declared.outcome.Outcome.TheVariants.{Replied, TimedOut, Unsent, LinkLost}
use Rattle.lane_record.specs.declared.item.Item.{Item}
use Rattle.lane_record.specs.declared.item.What.{What}
use Rattle.lane_record.specs.declared.item.What.TheVariants.{Plan, Seal, Ask, Took}
use Rattle.lane_record.specs.Coding.{Head, head_numbers, opening_numbers, cell_numbers, kind_number, as_recorded}
use Rattle.lane_record.specs.Coding.{record_of, item_from, content_of, outcome_numbers, outcome_from, what_from}
use Rattle.lane_record.specs.Coding.{kind_of, item_with}
use Rattle.std.specs.Option.{option_map}

-- ---- entries

read_outcome : (o : Outcome) → outcome_from (outcome_numbers o) ≡ Some o
read_outcome (Replied place words) = refl
read_outcome (TimedOut place rounds) = refl
read_outcome Unsent = refl
read_outcome (LinkLost None) = refl
read_outcome (LinkLost (Some place)) = refl

read_what : (w : What) → what_from (kind_of w) (content_of w) ≡ Some w
read_what (Plan body) = refl
read_what Seal = refl
read_what (Ask g) = refl
read_what (Took o g) = ap (option_map (λ (outcome : Outcome). Took outcome g)) (read_outcome o)

pub read_item : (x : Item) → item_from (as_recorded x) ≡ Some x
read_item x = ap (option_map (item_with (as_recorded x).entry)) (read_what x.what)

pub one_item : (x y : Item) → as_recorded x ≡ as_recorded y → x ≡ y
one_item x y e = let h : Some x ≡ Some y = sym (read_item x) ∙ (ap item_from e ∙ read_item y) in cc

-- ---- heads

one_kind : (a b : RangeKind) → kind_number a ≡ kind_number b → a ≡ b
one_kind Rw Rw e = refl
one_kind Rw Ro e = absurd (cc)
one_kind Rw Wo e = absurd (cc)
one_kind Rw Slow e = absurd (cc)
one_kind Ro Rw e = absurd (cc)
one_kind Ro Ro e = refl
one_kind Ro Wo e = absurd (cc)
one_kind Ro Slow e = absurd (cc)
one_kind Wo Rw e = absurd (cc)
one_kind Wo Ro e = absurd (cc)
one_kind Wo Wo e = refl
one_kind Wo Slow e = absurd (cc)
one_kind Slow Rw e = absurd (cc)
one_kind Slow Ro e = absurd (cc)
one_kind Slow Wo e = absurd (cc)
one_kind Slow Slow e = refl

one_map : (xs ys : CellMap) → cell_numbers xs ≡ cell_numbers ys → xs ≡ ys
one_map [] [] e = refl
one_map [] (y ∷ ys) e = absurd (cc)
one_map (x ∷ xs) [] e = absurd (cc)
one_map (x ∷ xs) (y ∷ ys) e =
    let address : x.0 ≡ y.0 = cc in
    let number : kind_number x.1.kind ≡ kind_number y.1.kind = cc in
    let word : x.1.word ≡ y.1.word = cc in
    let later : cell_numbers xs ≡ cell_numbers ys = cc in
    let kind = one_kind x.1.kind y.1.kind number in
    ap (λ (a : ℕ). (a, x.1) ∷ xs) address
    ∙ (ap (λ (k : RangeKind). (y.0, record { kind = k; word = x.1.word }) ∷ xs) kind
    ∙ (ap (λ (w : ℕ). (y.0, record { kind = y.1.kind; word = w }) ∷ xs) word
    ∙ ap (λ (l : CellMap). y ∷ l) (one_map xs ys later)))

one_opening : (a b : Option CellMap) → opening_numbers a ≡ opening_numbers b → a ≡ b
one_opening None None e = refl
one_opening None (Some ys) e = absurd (cc)
one_opening (Some xs) None e = absurd (cc)
one_opening (Some xs) (Some ys) e = let h : cell_numbers xs ≡ cell_numbers ys = cc in ap (λ (l : CellMap). Some l)
    (one_map xs ys h)

pub one_head : (h g : Head) → head_numbers h ≡ head_numbers g → h ≡ g
one_head h g e =
    let rounds : h.rounds ≡ g.rounds = cc in
    let window : h.window ≡ g.window = cc in
    let mtu : h.mtu ≡ g.mtu = cc in
    let buffers : h.buffers ≡ g.buffers = cc in
    let first : h.first ≡ g.first = cc in
    let link : h.link ≡ g.link = cc in
    let numbers : opening_numbers h.opening ≡ opening_numbers g.opening = cc in
    let opening : h.opening ≡ g.opening = one_opening h.opening g.opening numbers in
    ap (λ (n : ℕ). record h { rounds = n }) rounds
    ∙ (ap (λ (n : ℕ). record h { rounds = g.rounds; window = n }) window
    ∙ (ap (λ (n : ℕ). record h { rounds = g.rounds; window = g.window; mtu = n }) mtu
    ∙ (ap (λ (n : ℕ). record h { rounds = g.rounds; window = g.window; mtu = g.mtu; buffers = n }) buffers
    ∙ (ap (λ (n : ℕ). record g { first = n; link = h.link; opening = h.opening }) first
    ∙ (ap (λ (n : ℕ). record g { link = n; opening = h.opening }) link
    ∙ ap (λ (o : Option CellMap). record g { opening = o }) opening)))))

-- ---- fronts

pub fronts_spell : (h g : Head) (xs ys : List Item) → g ≡ h → IsPrefix xs ys → Begins (record_of h xs) (record_of g ys)
fronts_spell h g xs ys e is = record {
  head = ap head_numbers e;
  entries = (map as_recorded is.0, ap (map as_recorded) is.1 ∙ map-append as_recorded xs is.0);
}

front_of : (xs ys : List Item) (rest : List Recorded) → map as_recorded ys ≡ map as_recorded xs ++ rest → IsPrefix xs ys
front_of [] ys rest e = (ys, refl)
front_of (x ∷ xs) [] rest e = absurd (cc)
front_of (x ∷ xs) (y ∷ ys) rest e =
    let first : as_recorded y ≡ as_recorded x = cc in
    let later : map as_recorded ys ≡ map as_recorded xs ++ rest = cc in
    let f = front_of xs ys rest later in
    (f.0, ap (λ (z : Item). z ∷ ys) (one_item y x first) ∙ ap (λ (l : List Item). x ∷ l) f.1)

pub spelled_fronts : (h g : Head) (xs ys : List Item) → Begins (record_of h xs) (record_of g ys)
    → (g ≡ h) × IsPrefix xs ys
spelled_fronts h g xs ys is = (one_head g h is.head, front_of xs ys is.entries.0 is.entries.1)

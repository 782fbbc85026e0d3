-- A bus of 32-bit words stays one, and the words that it answers are 32-bit words.
use Rattle.std.proofs.Common.{◌≡◌, ℕ, ◌+◌, ◌^◌, ◌<◌, ◌⊎◌, inl, inr, false, cond, List, [], ◌∷◌, map, replicate, bit_and}
use Rattle.std.proofs.Common.{Option, Some, None, Result, Ok, Err, refl, sym, ap, ◌∙◌, subst, arith, lit<, ltb}
use Rattle.std.specs.Prelude.{IfSome}
use Rattle.std.specs.Ordering.{nat_cmp}
use Rattle.std.specs.Cmp.{nat_cmp_total}
use Rattle.std.specs.FinMap.Entries.{find, put, find-put}
use Rattle.std.specs.List.{AllByRecursion, enumerate_from, range_with_len}
use Rattle.std.specs.Result.{ok_prefix}
use Rattle.std.proofs.lemmas.Bool.{cases_order, lt-ltb, cases_lt, le-ltb}
use Rattle.std.proofs.lemmas.Nat.{or_lt, and_le_l}
use Rattle.std.proofs.Math.Nat.{mod-lt}
use Rattle.ipb_base.specs.Word.{IsWord, AreWords}
use Rattle.transaction_codec.specs.declared.request.Op.{Op}
use Rattle.transaction_codec.specs.declared.request.Op.TheVariants.{Read, ReadPort, Write, WritePort, RmwBits, RmwSum}
use Rattle.transaction_codec.specs.Request.{op_words}
use Rattle.board_bus.specs.declared.kind.RangeKind.TheVariants.{Rw, Ro, Wo, Slow}
use Rattle.board_bus.specs.declared.fault.BusFault.{BusFault}
use Rattle.board_bus.specs.Cells.{Cell, CellMap, HoldsWords, cell_at, read_cell, read_word, write_cell, write_word}
use Rattle.board_bus.specs.Cells.{write_fault, unless}
use Rattle.board_bus.specs.Transactions.{◌>>=◌, words_read, write_on, write_words, Modified, modify, of_modifying}
use Rattle.board_bus.specs.Transactions.{masked_word, sum_word, outcome}
use Rattle.board_bus.proofs.Lookups.{tie_same, tie_apart}

-- what a put cell leaves elsewhere, and puts in its place
put-elsewhere : (cells : CellMap) (address other : ℕ) (cell : Cell) → (other < address) ⊎ (address < other)
    → cell_at (put nat_cmp address cell cells) other ≡ cell_at cells other
put-elsewhere cells address other cell apart =
    let same : find nat_cmp other (put nat_cmp address cell cells) ≡ find nat_cmp other cells =
    find-put nat_cmp nat_cmp_total other address cell cells
    ∙ ap (λ t. cond t (Some cell) (find nat_cmp other cells)) (tie_apart other address apart) in
    ap (λ (o : Option Cell). cond (ltb other (2 ^ 32)) o None) same

put-here : (cells : CellMap) (address : ℕ) (cell : Cell) → address < 2 ^ 32
    → cell_at (put nat_cmp address cell cells) address ≡ Some cell
put-here cells address cell below =
    let same : find nat_cmp address (put nat_cmp address cell cells) ≡ Some cell =
    find-put nat_cmp nat_cmp_total address address cell cells
    ∙ ap (λ t. cond t (Some cell) (find nat_cmp address cells)) (tie_same address) in
    ap (λ (o : Option Cell). cond (ltb address (2 ^ 32)) o None) same
    ∙ ap (λ t. cond t (Some cell) None) (lt-ltb address (2 ^ 32) below)

ok_is : (x y : CellMap) → ◌≡◌ {A = Result CellMap BusFault} (Ok x) (Ok y) → x ≡ y
ok_is x y h = cc

written_cell : (cells after : CellMap) (address word : ℕ) (cell : Option Cell)
    → write_cell cells address word cell ≡ Ok after
    → (c : Cell) × (cell ≡ Some c) × (after ≡ put nat_cmp address (record c { word = word }) cells)
written_cell cells after address word None is = absurd cc
written_cell cells after address word (Some c) is =
    elim (write_fault c.kind) as (λ f. unless f (put nat_cmp address (record c { word = word }) cells) ≡ Ok after
    → (d : Cell) × (Some c ≡ Some d) × (after ≡ put nat_cmp address (record d { word = word }) cells)) [
      | None ↦ λ e. (c, refl, sym (ok_is _ _ e))
      | Some fault ↦ λ e. absurd cc
    ] is

pub write-was : (cells after : CellMap) (address word : ℕ) → write_word cells address word ≡ Ok after
    → (c : Cell) × (cell_at cells address ≡ Some c) × (after ≡ put nat_cmp address (record c { word = word }) cells)
write-was cells after address word is = written_cell cells after address word (cell_at cells address) is

-- A write changes no other cell, and keeps the kind of its own.
pub write-elsewhere : (cells after : CellMap) (address other word : ℕ) → write_word cells address word ≡ Ok after
    → (other < address) ⊎ (address < other)
    → cell_at after other ≡ cell_at cells other
write-elsewhere cells after address other word is apart =
    let was = write-was cells after address word is in
    ap (λ (m : CellMap). cell_at m other) was.2 ∙ put-elsewhere cells address other (record was.0 { word = word }) apart

below_end : (cells : CellMap) (address : ℕ) (cell : Cell) → cell_at cells address ≡ Some cell → address < 2 ^ 32
below_end cells address cell is = elim (cases_lt address (2 ^ 32)) [
  | inl below ↦ below
  | inr past ↦ let test : ltb address (2 ^ 32) ≡ false = le-ltb address (2 ^ 32) past in
      let none : cell_at cells address ≡ None = ap (λ t. cond t (find nat_cmp address cells) None) test in absurd cc
]

pub write-here : (cells after : CellMap) (address word : ℕ) (cell : Cell) → write_word cells address word ≡ Ok after
    → cell_at cells address ≡ Some cell
    → cell_at after address ≡ Some (record { kind = cell.kind; word = word })
write-here cells after address word cell is there =
    let was = write-was cells after address word is in
    let same : was.0 ≡ cell = cc in
    ap (λ (m : CellMap). cell_at m address) was.2
    ∙ put-here cells address (record was.0 { word = word }) (below_end cells address cell there)
    ∙ ap (λ (c : Cell). Some (record { kind = c.kind; word = word })) same

pub words-written : (cells after : CellMap) (address word : ℕ) → HoldsWords cells → IsWord word
    → write_word cells address word ≡ Ok after → HoldsWords after
words-written cells after address word holds fits is = λ q. elim (cases_order q address) [
  | inl same ↦ let was = write-was cells after address word is in
      subst (λ (x : ℕ). IfSome (cell_at after x) (λ cell. IsWord cell.word)) (sym same)
      (subst (λ (o : Option Cell). IfSome o (λ cell. IsWord cell.word))
      (sym (write-here cells after address word was.0 is was.1)) fits)
  | inr apart ↦ subst (λ (o : Option Cell). IfSome o (λ cell. IsWord cell.word))
      (sym (write-elsewhere cells after address q word is apart)) (holds q)
]

read_cell-word : (cell : Option Cell) (word : ℕ) → IfSome cell (λ c. IsWord c.word) → read_cell cell ≡ Ok word
    → IsWord word
read_cell-word None word fits is = absurd cc
read_cell-word (Some c) word fits is =
    elim (c.kind) as (λ k. read_cell (Some (record { kind = k; word = c.word })) ≡ Ok word → IsWord word) [
      | Rw ↦ λ e. let same : c.word ≡ word = cc in subst IsWord same fits
      | Ro ↦ λ e. let same : c.word ≡ word = cc in subst IsWord same fits
      | Wo ↦ λ e. absurd cc
      | Slow ↦ λ e. absurd cc
    ] is

pub read-word : (cells : CellMap) (address word : ℕ) → HoldsWords cells → read_word cells address ≡ Ok word
    → IsWord word
read-word cells address word holds is = read_cell-word (cell_at cells address) word (holds address) is

words-read_all : (cells : CellMap) (addresses : List ℕ) → HoldsWords cells → AreWords (words_read cells addresses)
words-read_all cells [] holds = tt
words-read_all cells (address ∷ later) holds =
    elim (read_word cells address) as (λ (r : Result ℕ BusFault). read_word cells address ≡ r
    → AreWords (ok_prefix (r ∷ map (read_word cells) later))) [
      | Ok word ↦ λ is. (read-word cells address word holds is, words-read_all cells later holds)
      | Err fault ↦ λ _. tt
    ] refl

words-written_all : (cells : CellMap) (entries : List (ℕ × ℕ)) → HoldsWords cells
    → AllByRecursion (λ e. IsWord e.1) entries → HoldsWords (write_words cells entries).cells
words-written_all cells [] holds fits = holds
words-written_all cells (e ∷ es) holds fits =
    elim (write_word cells e.0 e.1) as (λ (r : Result CellMap BusFault). write_word cells e.0 e.1 ≡ r
    → HoldsWords (write_on cells r (λ after. write_words after es)).cells) [
      | Ok after ↦ λ is. words-written_all after es (words-written cells after e.0 e.1 holds fits.0 is) fits.1
      | Err fault ↦ λ _. holds
    ] refl

-- the words of a block and of a port, beside their addresses
block-words : (base : ℕ) (words : List ℕ) → AreWords words
    → AllByRecursion (λ (e : ℕ × ℕ). IsWord e.1) (enumerate_from base words)
block-words base [] fits = tt
block-words base (w ∷ ws) fits = (fits.0, block-words (base + 1) ws fits.1)

port-words : (base : ℕ) (words : List ℕ) → AreWords words
    → AllByRecursion (λ (e : ℕ × ℕ). IsWord e.1) (map (λ word. (base, word)) words)
port-words base [] fits = tt
port-words base (w ∷ ws) fits = (fits.0, port-words base ws fits.1)

-- the words that a transaction carries, and the bus after it
pub record KeepsWords (cells : CellMap) (values : List ℕ) : Type 0 where
  pub bus : HoldsWords cells
  pub carried : AreWords values

modify-words : (cells : CellMap) (address : ℕ) (change : ℕ → ℕ) → HoldsWords cells
    → ((word : ℕ) → IsWord word → IsWord (change word))
    → KeepsWords (of_modifying cells (modify cells address change)).cells
    (of_modifying cells (modify cells address change)).values
modify-words cells address change holds fits =
    let written : ℕ → CellMap → Result Modified BusFault =
    λ before after. Ok (record { before = before; cells = after }) in
    elim (read_word cells address) as (λ (r : Result ℕ BusFault). read_word cells address ≡ r
    → KeepsWords (of_modifying cells (r >>= λ before.
    (write_word cells address (change before) >>= written before))).cells
    (of_modifying cells (r >>= λ before. (write_word cells address (change before) >>= written before))).values) [
      | Err fault ↦ λ _. record { bus = holds; carried = tt }
      | Ok before ↦ λ was. elim (write_word cells address (change before)) as (λ (r : Result CellMap BusFault).
          write_word cells address (change before) ≡ r
          → KeepsWords (of_modifying cells (r >>= written before)).cells
          (of_modifying cells (r >>= written before)).values) [
            | Err fault ↦ λ _. record { bus = holds; carried = tt }
            | Ok after ↦ λ is.
                let word : IsWord before = read-word cells address before holds was in
                record {
                  bus = words-written cells after address (change before) holds (fits before word) is;
                  carried = (word, tt);
                }
          ] refl
    ] refl

pub outcome-words : (cells : CellMap) (op : Op) → HoldsWords cells → AreWords (op_words op)
    → KeepsWords (outcome cells op).cells (outcome cells op).values
outcome-words cells (Read base count) holds fits =
    record { bus = holds; carried = words-read_all cells (range_with_len base count) holds }
outcome-words cells (ReadPort base count) holds fits =
    record { bus = holds; carried = words-read_all cells (replicate count base) holds }
outcome-words cells (Write base words) holds fits =
    record {
      bus = words-written_all cells (enumerate_from base words) holds (block-words base words fits.1);
      carried = tt;
    }
outcome-words cells (WritePort base words) holds fits =
    record {
      bus = words-written_all cells (map (λ word. (base, word)) words) holds (port-words base words fits.1);
      carried = tt;
    }
outcome-words cells (RmwBits base and_term or_term) holds fits =
    modify-words cells base (masked_word and_term or_term) holds (λ word small.
    or_lt 32 (bit_and word and_term) or_term (omega (arith, small, and_le_l word and_term)) fits.1.1.0)
outcome-words cells (RmwSum base addend) holds fits =
    modify-words cells base (sum_word addend) holds (λ word small. mod-lt (word + addend) (lit< tt))

-- What a write of many words does, address by address.
use Rattle.std.proofs.Common.{◌≡◌, ℕ, ◌+◌, ◌<◌, ◌≤◌, ◌⊎◌, inl, inr, suc, zero, List, [], ◌∷◌, ◌++◌, length, map, get_or}
use Rattle.std.proofs.Common.{Option, Some, None, Result, Ok, Err, refl, sym, ap, ◌∙◌, subst, arith}
use Rattle.std.specs.List.{enumerate_from}
use Rattle.std.specs.Result.{IsOk}
use Rattle.board_bus.specs.declared.kind.RangeKind.{RangeKind}
use Rattle.board_bus.specs.declared.kind.RangeKind.TheVariants.{Rw, Ro, Wo, Slow}
use Rattle.board_bus.specs.declared.fault.BusFault.{BusFault}
use Rattle.board_bus.specs.declared.fault.BusFault.TheVariants.{WriteError}
use Rattle.board_bus.specs.Cells.{Cell, CellMap, cell_at, write_cell, write_word}
use Rattle.board_bus.specs.Transactions.{Writing, EndsAtRefusal, of_writing, write_on, one_more, write_words}
use Rattle.board_bus.proofs.WordsKept.{write-here, write-elsewhere}

-- Whether a cell may be written, and what refuses it, is seen in the cell alone.
allowed_kind : (x y : CellMap) (a v w before now : ℕ) (kind : RangeKind)
    → IsOk (write_cell x a v (Some (record { kind = kind; word = before })))
    → IsOk (write_cell y a w (Some (record { kind = kind; word = now })))
allowed_kind x y a v w before now Rw is = refl
allowed_kind x y a v w before now Ro is = absurd cc
allowed_kind x y a v w before now Wo is = refl
allowed_kind x y a v w before now Slow is = absurd cc

allowed_cell : (x y : CellMap) (a v w : ℕ) (cell : Option Cell) → IsOk (write_cell x a v cell)
    → IsOk (write_cell y a w cell)
allowed_cell x y a v w None is = absurd cc
allowed_cell x y a v w (Some cell) is = allowed_kind x y a v w cell.word cell.word cell.kind is

refused_cell : (x y : CellMap) (a v w : ℕ) (fault : BusFault) (cell : Option Cell) → write_cell x a v cell ≡ Err fault
    → write_cell y a w cell ≡ Err fault
refused_cell x y a v w fault None is = cc
refused_cell x y a v w fault (Some cell) is =
    elim (cell.kind) as (λ k. write_cell x a v (Some (record { kind = k; word = cell.word })) ≡ Err fault
    → write_cell y a w (Some (record { kind = k; word = cell.word })) ≡ Err fault) [
      | Rw ↦ λ e. absurd cc
      | Ro ↦ λ e. cc
      | Wo ↦ λ e. absurd cc
      | Slow ↦ λ e. cc
    ] is

allowed_alike : (x y : CellMap) (a v w : ℕ) → cell_at x a ≡ cell_at y a → IsOk (write_word x a v)
    → IsOk (write_word y a w)
allowed_alike x y a v w same is =
    allowed_cell x y a v w (cell_at y a) (subst (λ (c : Option Cell). IsOk (write_cell x a v c)) same is)

refused_alike : (x y : CellMap) (a v w : ℕ) (fault : BusFault) → cell_at x a ≡ cell_at y a
    → write_word x a v ≡ Err fault → write_word y a w ≡ Err fault
refused_alike x y a v w fault same is =
    refused_cell x y a v w fault (cell_at y a) (subst (λ (c : Option Cell). write_cell x a v c ≡ Err fault) same is)

-- what writing a block did
pub record BlockWritten (cells : CellMap) (base : ℕ) (words : List ℕ) (writing : Writing) : Type 0 where
  pub written : (place at : ℕ) (cell : Cell) → at ≡ base + place → place < writing.done → cell_at cells at ≡ Some cell
      → cell_at writing.cells at ≡ Some (record { kind = cell.kind; word = get_or words place 0 })
  pub elsewhere : (other : ℕ) → (other < base) ⊎ (base + writing.done ≤ other)
      → cell_at writing.cells other ≡ cell_at cells other
  pub allowed : (place at : ℕ) → at ≡ base + place → place < writing.done
      → IsOk (write_word cells at (get_or words place 0))
  pub ends : EndsAtRefusal (λ place. write_word cells (base + place) (get_or words place 0)) (length words)
      (of_writing writing)

module _ (cells after : CellMap) (base w : ℕ) (ws : List ℕ) (is : write_word cells base w ≡ Ok after) (later : Writing)
    (rest : BlockWritten after (base + 1) ws later) where
  past_base : (at : ℕ) → base < at → cell_at after at ≡ cell_at cells at
  past_base at past = write-elsewhere cells after base at w is (inr past)

  more-written : (place at : ℕ) (cell : Cell) → at ≡ base + place → place < later.done + 1
      → cell_at cells at ≡ Some cell
      → cell_at later.cells at ≡ Some (record { kind = cell.kind; word = get_or (w ∷ ws) place 0 })
  more-written zero at cell e below there =
      let same : at ≡ base = omega (arith, e) in
      rest.elsewhere at (inl (omega (arith, same)))
      ∙ subst (λ (a : ℕ). cell_at after a ≡ Some (record { kind = cell.kind; word = w })) (sym same)
      (write-here cells after base w cell is (subst (λ (a : ℕ). cell_at cells a ≡ Some cell) same there))
  more-written (suc place) at cell e below there =
      rest.written place at cell (omega (arith, e)) (omega (arith, below)) (past_base at (omega (arith, e)) ∙ there)

  more-elsewhere : (other : ℕ) → (other < base) ⊎ (base + (later.done + 1) ≤ other)
      → cell_at later.cells other ≡ cell_at cells other
  more-elsewhere other (inl below) = rest.elsewhere other (inl (omega (arith, below)))
      ∙ write-elsewhere cells after base other w is (inl below)
  more-elsewhere other (inr past) = rest.elsewhere other (inr (omega (arith, past)))
      ∙ past_base other (omega (arith, past))

  more-allowed : (place at : ℕ) → at ≡ base + place → place < later.done + 1
      → IsOk (write_word cells at (get_or (w ∷ ws) place 0))
  more-allowed zero at e below =
      let same : base ≡ at = omega (arith, e) in
      subst (λ (a : ℕ). IsOk (write_word cells a w)) same
      (subst (λ (r : Result CellMap BusFault). IsOk r) (sym is) refl)
  more-allowed (suc place) at e below =
      allowed_alike after cells at (get_or ws place 0) (get_or ws place 0) (past_base at (omega (arith, e)))
      (rest.allowed place at (omega (arith, e)) (omega (arith, below)))

  more-ends : EndsAtRefusal (λ place. write_word after (base + 1 + place) (get_or ws place 0)) (length ws)
      (of_writing later)
      → EndsAtRefusal (λ place. write_word cells (base + place) (get_or (w ∷ ws) place 0)) (suc (length ws))
      (of_writing (one_more later))
  more-ends (inl all) = inl (omega (arith, all.0), all.1)
  more-ends (inr stop) =
      let next : (base + 1) + later.done ≡ base + (later.done + 1) = omega arith in
      let here : write_word after (base + (later.done + 1)) (get_or ws later.done 0) ≡ Err stop.0 =
      subst (λ (a : ℕ). write_word after a (get_or ws later.done 0) ≡ Err stop.0) next stop.2 in
      inr (
        stop.0,
        omega (arith, stop.1),
        refused_alike after cells (base + (later.done + 1)) (get_or ws later.done 0)
            (get_or (w ∷ ws) (later.done + 1) 0) stop.0 (past_base (base + (later.done + 1)) (omega arith)) here,
        stop.3,
      )

pub block_written : (words : List ℕ) (cells : CellMap) (base : ℕ)
    → BlockWritten cells base words (write_words cells (enumerate_from base words))
block_written [] cells base = record {
  written = λ place at cell e below there. absurd (omega (arith, below));
  elsewhere = λ other _. refl;
  allowed = λ place at e below. absurd (omega (arith, below));
  ends = inl (refl, refl);
}
block_written (w ∷ ws) cells base =
    elim (write_word cells base w) as (λ (r : Result CellMap BusFault). write_word cells base w ≡ r
    → BlockWritten cells base (w ∷ ws) (write_on cells r (λ after. write_words after (enumerate_from (base + 1) ws)))) [
      | Ok after ↦ λ is.
          let later = write_words after (enumerate_from (base + 1) ws) in
          let rest = block_written ws after (base + 1) in
          record {
            written = more-written cells after base w ws is later rest;
            elsewhere = more-elsewhere cells after base w ws is later rest;
            allowed = more-allowed cells after base w ws is later rest;
            ends = more-ends cells after base w ws is later rest rest.ends;
          }
      | Err fault ↦ λ is. let first : base ≡ base + 0 = omega arith in record {
        written = λ place at cell e below there. absurd (omega (arith, below));
        elsewhere = λ other _. refl;
        allowed = λ place at e below. absurd (omega (arith, below));
        ends = inr (fault, omega arith, subst (λ (a : ℕ). write_word cells a w ≡ Err fault) first is, refl);
      }
    ] refl

-- what writing a port did, where the port allows it
pub record PortWritten (base : ℕ) (cell : Cell) (words : List ℕ) (last : ℕ) (writing : Writing) : Type 0 where
  pub done : writing.done ≡ length words + 1
  pub fault : writing.fault ≡ None
  pub holds : cell_at writing.cells base ≡ Some (record { kind = cell.kind; word = last })

pub port_written : (words : List ℕ) (cells : CellMap) (base last : ℕ) (cell : Cell) → cell_at cells base ≡ Some cell
    → IsOk (write_word cells base last)
    → PortWritten base cell words last (write_words cells (map (λ w. (base, w)) (words ++ last ∷ [])))
port_written [] cells base last cell there is =
    elim (write_word cells base last) as (λ (r : Result CellMap BusFault). write_word cells base last ≡ r → IsOk r
    → PortWritten base cell [] last (write_on cells r (λ after. write_words after []))) [
      | Ok after ↦ λ e _. record { done = refl; fault = refl; holds = write-here cells after base last cell e there }
      | Err fault ↦ λ e bad. absurd cc
    ] refl is
port_written (w ∷ ws) cells base last cell there is =
    elim (write_word cells base w) as (λ (r : Result CellMap BusFault). write_word cells base w ≡ r → IsOk r
    → PortWritten base cell (w ∷ ws) last
    (write_on cells r (λ after. write_words after (map (λ w. (base, w)) (ws ++ last ∷ []))))) [
      | Ok after ↦ λ e _.
          let now : Cell = record { kind = cell.kind; word = w } in
          let holds : cell_at after base ≡ Some now = write-here cells after base w cell e there in
          let was : IsOk (write_cell cells base last (Some cell)) =
          subst (λ (c : Option Cell). IsOk (write_cell cells base last c)) there is in
          let still : IsOk (write_word after base last) =
          subst (λ (c : Option Cell). IsOk (write_cell after base last c)) (sym holds)
          (allowed_kind cells after base last last cell.word w cell.kind was) in
          let rest : PortWritten base now ws last (write_words after (map (λ w. (base, w)) (ws ++ last ∷ []))) =
          port_written ws after base last now holds still in
          record { done = omega (arith, rest.done); fault = rest.fault; holds = rest.holds }
      | Err fault ↦ λ e bad. absurd cc
    ] refl (allowed_cell cells cells base last w (cell_at cells base) is)

pub port_done : (words : List ℕ) (cells : CellMap) (base last : ℕ) → IsOk (write_word cells base last)
    → ((write_words cells (map (λ w. (base, w)) (words ++ last ∷ []))).done ≡ length words + 1)
    × ((write_words cells (map (λ w. (base, w)) (words ++ last ∷ []))).fault ≡ None)
port_done words cells base last allowed =
    elim (cell_at cells base) as (λ (o : Option Cell). cell_at cells base ≡ o
    → ((write_words cells (map (λ w. (base, w)) (words ++ last ∷ []))).done ≡ length words + 1)
    × ((write_words cells (map (λ w. (base, w)) (words ++ last ∷ []))).fault ≡ None)) [
      | None ↦ λ is. let refused : write_word cells base last ≡ Err WriteError = ap (write_cell cells base last) is in
          absurd cc
      | Some cell ↦ λ is. let all = port_written words cells base last cell is allowed in (all.done, all.fault)
    ] refl

-- a port that refuses the first word refuses all
pub port_refused : (cells : CellMap) (base word : ℕ) (words : List ℕ) (fault : BusFault)
    → write_word cells base word ≡ Err fault
    → of_writing (write_words cells (map (λ w. (base, w)) (word ∷ words))) ≡ record {
      cells = cells;
      count = 0;
      fault = Some fault;
      values = [];
    }
port_refused cells base word words fault is =
    ap of_writing (ap (λ (r : Result CellMap BusFault).
    write_on cells r (λ after. write_words after (map (λ w. (base, w)) words))) is)

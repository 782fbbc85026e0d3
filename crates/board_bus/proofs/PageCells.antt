-- The cell that a search among pages found, as the map of the bus has it.
use Rattle.std.proofs.Common.{◌≡◌, ℕ, ◌%◌, ◌^◌, ◌<◌, List, [], ◌∷◌, length, get_or, set, Some, None}
use Rattle.std.proofs.Common.{Ok, Err, sym, ap, ◌∙◌, arith}
use Rattle.std.proofs.lemmas.List.{set-get_or}
use Rattle.std.specs.Ordering.{nat_cmp}
use Rattle.std.specs.FinMap.Entries.{find, put}
use Rattle.board_bus.specs.declared.fault.BusFault.{BusFault}
use Rattle.board_bus.specs.declared.page.AddressKind.TheVariants.{Absent}
use Rattle.board_bus.specs.declared.page.Page.{Page}
use Rattle.board_bus.specs.declared.page.CellPlace.{CellPlace}
use Rattle.board_bus.specs.Cells.{Cell, CellMap, cell_at, read_cell, read_fault, read_word, unless, write_cell}
use Rattle.board_bus.specs.Cells.{write_fault}
use Rattle.board_bus.specs.Cells.{write_word}
use Rattle.board_bus.specs.Pages.{kind_of, cells_of, IsPaged, IsCellPlace}
use Rattle.board_bus.proofs.Lookups.{at_address}
use Rattle.board_bus.proofs.PageLookups.{cell_of}
use Rattle.board_bus.proofs.PageEdits.{ChangesCell, found_cell, set_puts}

-- a page of a list that has one
some_page : (pages : List Page) (n : ℕ) → n < length pages → Page
some_page [] n some = absurd (omega arith)
some_page (p ∷ ps) n some = p

module _ (pages : List Page) (cells : CellMap) (a : ℕ) (found : CellPlace) (view : cells_of pages ≡ cells)
    (below : a < 2 ^ 32) (paged : IsPaged pages) (is : IsCellPlace pages a found) where
  pub cell_word : (d : Page) → cell_at cells a ≡ Some (record {
    kind = found.kind;
    word = get_or (get_or pages found.page d).words.items found.place 0;
  })
  cell_word d =
      let page = get_or pages found.page d in
      let kind : kind_of (get_or page.kinds.items (a % 256) Absent) ≡ Some found.kind =
      ap (λ n. kind_of (get_or page.kinds.items n Absent)) (sym is.place_is) ∙ is.kind_is d in
      let word : get_or page.words.items (a % 256) 0 ≡ get_or page.words.items found.place 0 =
      ap (λ n. get_or page.words.items n 0) (sym is.place_is) in
      at_address a cells _ (ap (find nat_cmp a) (sym view) ∙ found_cell pages a found.page d paged is.page_is
      ∙ (λ i. cell_of (kind i) (word i))) below

  d : Page
  d = some_page pages found.page is.page_is.within

  -- the kind refuses to be read, or to be written
  pub read_refused : (fault : BusFault) → read_fault found.kind ≡ Some fault → read_word cells a ≡ Err fault
  read_refused fault refuses =
      ap read_cell (cell_word d)
      ∙ ap (λ refused. unless refused (get_or (get_or pages found.page d).words.items found.place 0)) refuses

  pub write_refused : (word : ℕ) (fault : BusFault) → write_fault found.kind ≡ Some fault
      → write_word cells a word ≡ Err fault
  write_refused word fault refuses =
      ap (write_cell cells a word) (cell_word d)
      ∙ ap (λ refused. unless refused (put nat_cmp a (record { kind = found.kind; word = word }) cells)) refuses

  -- it may be read, or written
  pub read_found : (page : Page) → page ≡ get_or pages found.page page → read_fault found.kind ≡ None
      → read_word cells a ≡ Ok (get_or page.words.items found.place 0)
  read_found page same fine =
      ap read_cell (cell_word page)
      ∙ (λ i. unless (fine i) (get_or (sym same i).words.items found.place 0))

  pub changes_word : (page changed : Page) (word : ℕ) → page ≡ get_or pages found.page page
      → changed.number ≡ page.number → changed.kinds.items ≡ page.kinds.items
      → changed.words.items ≡ set page.words.items found.place word
      → ChangesCell (get_or pages found.page page) changed (a % 256) found.kind word
  changes_word page changed word same number kinds words =
      let there : Page = get_or pages found.page page in
      let kind : kind_of (get_or there.kinds.items (a % 256) Absent) ≡ Some found.kind =
      ap (λ n. kind_of (get_or there.kinds.items n Absent)) (sym is.place_is) ∙ is.kind_is page in
      record {
        number = number ∙ ap (λ (p : Page). p.number) same;
        kinds = kinds ∙ ap (λ (p : Page). p.kinds.items) same
            ∙ sym (set-get_or there.kinds.items (a % 256) Absent);
        held = get_or there.kinds.items (a % 256) Absent;
        held_is = kind;
        words = words ∙ (λ i. set (same i).words.items (is.place_is i) word);
      }

  pub write_found : (page changed : Page) (word : ℕ) → write_fault found.kind ≡ None
      → ChangesCell (get_or pages found.page page) changed (a % 256) found.kind word
      → write_word cells a word ≡ Ok (cells_of (set pages found.page changed))
  write_found page changed word fine change =
      let cell : Cell = record { kind = found.kind; word = word } in
      ap (write_cell cells a word) (cell_word d)
      ∙ ap (λ refused. unless refused (put nat_cmp a cell cells)) fine
      ∙ ap (λ (m : CellMap). Ok m)
      (sym (set_puts pages a found.page changed found.kind word paged is.page_is page change
      ∙ ap (put nat_cmp a cell) view))

-- The cell that was found is the one of the map, and its word is changed on its page.
use Rattle.std.proofs.Common.{◌≡◌, ◌<◌, ◌^◌, ℕ, List, Some, None, refl, subst, arith}
use Rattle.std.specs.Vec.{with_item}
use Rattle.board_bus.specs.declared.page.Page.{Page}
use Rattle.board_bus.specs.Cells.{HoldsWords, write_fault}
use Rattle.board_bus.specs.Pages.{IsCellPlace}
use Rattle.board_bus.proofs.PageCells.{write_refused, write_found, changes_word}
use Rattle.board_bus.proofs.PageEdits.{set_paged}
use Rattle.board_bus.proofs.WordsKept.{words-written}
use Rattle.board_bus.proofs.bus.Bus.write_near.Goals as goal

pub returns-in-Some-write_fault-clause-refused : goal.returns-in-Some-write_fault-clause-refused
returns-in-Some-write_fault-clause-refused c =
    let is = subst (λ (a : ℕ). IsCellPlace c.self.inside.pages.items a c.in-Some.found) c.from.ensures
    (subst (λ (pages : List Page). IsCellPlace pages c.from.result c.in-Some.found) c.deref.ensures.value
    c.in-Some.ensures) in
    let refuses : write_fault c.in-Some.found.kind ≡ Some c.in-Some-write_fault.fault = cc in
    write_refused _ _ c.args.address c.in-Some.found c.self.view_is (omega arith) c.self.invariant.paged is c.args.word
    _ refuses

-- what is written is a word, and so the bus still holds words
pub invariant_of-self : goal.invariant_of-self
invariant_of-self c =
    let found = c.in-Some.found in
    let is = subst (λ (a : ℕ). IsCellPlace c.self.inside.pages.items a found) c.from.ensures
    (subst (λ (pages : List Page). IsCellPlace pages c.from.result found) c.deref.ensures.value c.in-Some.ensures) in
    let fine : write_fault found.kind ≡ None = cc in
    let paged = c.self.invariant.paged in
    let below : c.args.address < 2 ^ 32 = omega arith in
    let page = c.index_mut.result.now in
    let changed : Page = record {
      number = page.number;
      words = with_item page.words found.place c.args.word;
      kinds = page.kinds;
    } in
    let change = changes_word _ _ c.args.address found c.self.view_is below paged is page changed c.args.word
    c.index_mut.ensures.value refl refl refl in
    record {
      paged = set_paged _ c.args.address found.page changed found.kind c.args.word paged is.page_is page change;
      words = words-written c.args.self.now _ c.args.address c.args.word
          (subst HoldsWords c.self.view_is c.self.invariant.words) (omega arith)
          (write_found _ _ c.args.address found c.self.view_is below paged is page changed c.args.word fine change);
    }

pub returns-clause-written : goal.returns-clause-written
returns-clause-written c =
    let found = c.in-Some.found in
    let is = subst (λ (a : ℕ). IsCellPlace c.self.inside.pages.items a found) c.from.ensures
    (subst (λ (pages : List Page). IsCellPlace pages c.from.result found) c.deref.ensures.value c.in-Some.ensures) in
    let fine : write_fault found.kind ≡ None = cc in
    let below : c.args.address < 2 ^ 32 = omega arith in
    let page = c.index_mut.result.now in
    let changed : Page = record {
      number = page.number;
      words = with_item page.words found.place c.args.word;
      kinds = page.kinds;
    } in
    write_found _ _ c.args.address found c.self.view_is below c.self.invariant.paged is page changed c.args.word fine
    (changes_word _ _ c.args.address found c.self.view_is below c.self.invariant.paged is page changed c.args.word
    c.index_mut.ensures.value refl refl refl)

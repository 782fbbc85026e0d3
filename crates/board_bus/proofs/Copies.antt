-- Pages that were copied.
use Rattle.std.proofs.Common.{◌≡◌, List, [], map, sym}
use Rattle.std.specs.List.{All, flat_map}
use Rattle.board_bus.specs.declared.page.Page.{Page}
use Rattle.board_bus.specs.Pages.{page_cells, IsFull, IsPaged}
use Rattle.board_bus.proofs.PageEdits.{number_of, rising_alike}

-- pages with the numbers and cells of others
pub record AreCopies (copies pages : List Page) : Type 0 where
  pub numbers : map number_of copies ≡ map number_of pages
  pub full : All IsFull copies
  pub cells : flat_map page_cells copies ≡ flat_map page_cells pages

pub copies-paged : (copies pages : List Page) → AreCopies copies pages → IsPaged pages → IsPaged copies
copies-paged copies pages h paged = record {
  rising = rising_alike pages copies (sym h.numbers) paged.rising;
  full = h.full;
}

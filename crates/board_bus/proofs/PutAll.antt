-- The cells of ranges, put from the last one on.
use Rattle.std.proofs.Common.{◌≡◌, ℕ, ◌+◌, ◌<◌, List, [], ◌∷◌, ◌++◌, length, get_or, drop, refl, sym, ap, ◌∙◌}
use Rattle.std.specs.Ordering.{nat_cmp}
use Rattle.std.specs.FinMap.Entries.{put}
use Rattle.std.specs.List.{flat_map}
use Rattle.std.proofs.lemmas.List.{drop_more}
use Rattle.board_bus.specs.declared.range.Range.{Range}
use Rattle.board_bus.specs.Cells.{Cell, cell_map}
use Rattle.board_bus.specs.Ranges.{opening_bus, range_cells}
use Rattle.board_bus.specs.Pages.{put_all}

cell_map-append : (xs ys : List (ℕ × Cell)) → cell_map (xs ++ ys) ≡ put_all xs (cell_map ys)
cell_map-append [] ys = refl
cell_map-append (x ∷ xs) ys = ap (put nat_cmp x.0 x.1) (cell_map-append xs ys)

-- one range more
pub opening-more : (ranges : List Range) (i : ℕ) (range : Range) → i < length ranges → range ≡ get_or ranges i range
    → put_all (range_cells range) (opening_bus (drop (i + 1) ranges)) ≡ opening_bus (drop i ranges)
opening-more ranges i range within is =
    ap (λ (r : Range). put_all (range_cells r) (opening_bus (drop (i + 1) ranges))) is
    ∙ sym (ap opening_bus (drop_more ranges i range within)
    ∙ cell_map-append (range_cells (get_or ranges i range)) (flat_map range_cells (drop (i + 1) ranges)))

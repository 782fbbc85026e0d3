-- Arrays whose items have no fault.
use Rattle.std.proofs.Common.{◌≡◌, ℕ, ◌+◌, [], true, refl}
use Rattle.std.specs.List.{AllByRecursion}
use Rattle.std.specs.Option.{is_some}
use Rattle.toml.specs.Data.{Items, no_items, item, as_str}
use Rattle.address_table.specs.Numbers.{number}
use Rattle.script_lang.specs.declared.keys.ItemKind.TheVariants as items
use Rattle.script_lang.specs.Fields.{values}
use Rattle.script_lang.specs.Walk.{items_faults}

pub numbers_kept : (i : ℕ) (ds : Items) → AllByRecursion (λ d. is_some (number d) ≡ true) (values ds)
    → items_faults items.Number i ds ≡ []
numbers_kept i no_items are = refl
numbers_kept i (item d ds) are = rw (are.0, numbers_kept (i + 1) ds are.1) refl

pub texts_kept : (i : ℕ) (ds : Items) → AllByRecursion (λ d. is_some (as_str d) ≡ true) (values ds)
    → items_faults items.Text i ds ≡ []
texts_kept i no_items are = refl
texts_kept i (item d ds) are = rw (are.0, texts_kept (i + 1) ds are.1) refl

use Rattle.std.proofs.Common.{◌≡◌, ◌++◌, ◌∙◌, codes, arith, subst}
use Rattle.std.specs.FinMap as map
use Rattle.config_store.specs.Searches.{IsFirstFrom}
use Rattle.config_store.proofs.NameSearch.{none_below, some_below}
use Rattle.config_store.proofs.kept.has_below.Goals as goal

pub returns-then-place-len : goal.returns-then-place-len
returns-then-place-len c =
    let es = map.entries c.args.index.now in
    let key : c.as_str.result.now ≡ c.args.name.now ++ codes "." = c.as_str.ensures.value ∙ c.in_ok-front.ensures in
    let first : IsFirstFrom es (c.args.name.now ++ codes ".") c.first_from-place.result =
    subst (λ k. IsFirstFrom es k c.first_from-place.result) key c.first_from-place.ensures.first in
    none_below es c.args.name.now c.first_from-place.result (map.entries_sorted c.args.index.now) first
    (omega (arith, c.len.ensures.registers, map.len-entries c.args.index.now))

pub returns : goal.returns
returns c =
    let es = map.entries c.args.index.now in
    let key : c.as_str.result.now ≡ c.args.name.now ++ codes "." = c.as_str.ensures.value ∙ c.in_ok-front.ensures in
    let first : IsFirstFrom es (c.args.name.now ++ codes ".") c.first_from-place.result =
    subst (λ k. IsFirstFrom es k c.first_from-place.result) key c.first_from-place.ensures.first in
    let found = some_below es c.args.name.now c.first_from-place.result (map.entries_sorted c.args.index.now) first _
    c.at.ensures.entry in
    rw (c.starts_with.ensures.value, c.as_bytes.ensures.value, c.as_bytes-2.ensures.value, c.in_ok-front.ensures) found

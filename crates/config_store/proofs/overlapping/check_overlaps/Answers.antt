use Rattle.std.proofs.Common.{◌≡◌, ◌<◌, ◌∙◌, length, arith, sym, true, false, not, bit_and, ◌==◌, subst}
use Rattle.config_store.specs.declared.refusal.StoreWhy.TheVariants.{Overlap}
use Rattle.config_store.specs.Refusals.{IsAt}
use Rattle.config_store.specs.Searches.{taken_at}
use Rattle.config_store.proofs.TakenBits.{first_name, names_from, taken_more}
use Rattle.config_store.proofs.overlapping.check_overlaps.Goals as goal

pub returns-then-is_taken-clause-first : goal.returns-then-is_taken-clause-first
returns-then-is_taken-clause-first c =
    let kept = c.args.kept.now in
    let i = c.loop-entry.entry-index in
    let e = c.entry-item.result in
    let within : i < length kept = omega arith in
    let taken : not (bit_and (taken_at c.loop-entry.masks e.1.address) e.1.mask == 0) ≡ true = cc in
    let told : IsAt c.args.board.now e.0 Overlap c.refused_at.result =
    subst (λ name. IsAt c.args.board.now name Overlap c.refused_at.result) c.as_str-name.ensures c.refused_at.ensures in
    first_name c.args.board.now _ _ e.0 c.refused_at.result
    (sym c.loop-entry.invariant.names
    ∙ names_from c.loop-entry.masks c.loop-entry.masks kept i e within c.entry-item.is c.requires
    c.loop-entry.invariant.taken true taken)
    told

pub loop-entry-preserved : goal.loop-entry-preserved
loop-entry-preserved c =
    let kept = c.args.kept.now in
    let i = c.loop-entry.entry-index in
    let e = c.entry-item.result in
    let within : i < length kept = omega arith in
    let free : not (bit_and (taken_at c.loop-entry.masks e.1.address) e.1.mask == 0) ≡ false = cc in
    record {
      taken = taken_more c.loop-entry.masks c.take.new.masks kept i e within c.entry-item.is c.loop-entry.invariant.taken
          c.in_ok-take.ensures;
      names = sym (names_from c.loop-entry.masks c.loop-entry.masks kept i e within c.entry-item.is c.requires
          c.loop-entry.invariant.taken false free) ∙ c.loop-entry.invariant.names;
    }

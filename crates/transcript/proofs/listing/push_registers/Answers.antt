use Rattle.std.proofs.Common.{◌≤◌, ◌++◌, ◌∙◌, length, string_bytes, arith, append_assoc, append-nil, ap, sym}
use Rattle.std.proofs.Math.ListN.{drop_of_length-le}
use Rattle.std.specs.FinMap.{entries, len-entries}
use Rattle.std.specs.List.{flat_map}
use Rattle.transcript.specs.Listing as spec
use Rattle.script_plans.proofs.Lookups.{drop_at}
use Rattle.transcript.proofs.listing.push_registers.Goals as goal

pub loop-i-preserved : goal.loop-i-preserved
loop-i-preserved c =
    let rest = ap (flat_map spec.register_text) (drop_at (entries c.args.index.now) c.loop-i.i _ c.at.ensures.entry) in
    rw (c.in_ok-push_register.ensures, append_assoc)
    (rw rest at c.loop-i.invariant)

pub returns : goal.returns
returns c =
    let all : length (entries c.args.index.now) ≤ c.loop-i.i =
    omega (arith, c.len-i-end.ensures.registers, len-entries c.args.index.now) in
    sym (append-nil _) ∙ (ap (λ es. string_bytes c.loop-i.text ++ flat_map spec.register_text es)
    (sym (drop_of_length-le (entries c.args.index.now) all)) ∙ c.loop-i.invariant)

use Rattle.std.proofs.Common.{◌≡◌, false, option_copied, subst, sym}
use Rattle.access_policy.specs.Cutting.{parts_left}
use Rattle.access_policy.specs.Spelling.{is_rest}
use Rattle.access_policy.proofs.ItemsRead.{not_rest}
use Rattle.access_policy.proofs.patterns.is_rest.Goals as goal

pub returns-in-Some : goal.returns-in-Some
returns-in-Some c =
    subst (λ behind. false ≡ is_rest c.args.part.now (parts_left (option_copied behind))) (sym c.in-Some.is)
    (sym (not_rest c.args.part.now c.in-Some.field-0.now))

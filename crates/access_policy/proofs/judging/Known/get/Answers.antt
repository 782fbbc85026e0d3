use Rattle.std.proofs.Common.{◌≡◌, ap, sym, ◌∙◌}
use Rattle.std.specs.Prelude.{option_copied}
use Rattle.std.proofs.lemmas.Slice.Eq.{bytes_eq-Decides}
use Rattle.access_policy.specs.Candidates.{first_of}
use Rattle.access_policy.specs.Names.{items_of}
use Rattle.access_policy.proofs.KnownNames.{said_by_name}
use Rattle.access_policy.proofs.judging.Known.get.Goals as goal

pub returns : goal.returns
returns c = λ access rules known.
    let same : c.in-Some.field-0.now.0.now ≡ c.args.name.now = (bytes_eq-Decides _ _).0 (sym c.eq.ensures ∙ c.if-eq.true) in
    known.by_number c.args.number c.in-Some.field-0.now (sym c.get.ensures.value ∙ ap option_copied c.in-Some.is)
    ∙ ap (λ name. first_of access (items_of name) rules) same

pub returns-2 : goal.returns-2
returns-2 c = λ access rules known.
    said_by_name access rules c.args.self.now.by_name c.args.name.now c.copied.result
    (c.copied.ensures ∙ c.get-2.ensures.value) known.by_name

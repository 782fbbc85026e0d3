use Rattle.std.proofs.Common.{sym, subst, ◌∙◌}
use Rattle.capture_reader.specs.declared.capture.Capture.{Capture}
use Rattle.capture_reader.specs.Description.{IsDescription}
use Rattle.capture_reader.proofs.OneText.{one_description}
use Rattle.capture_reader.proofs.undescribing.undescribe.Goals as goal

pub returns-else-same_bytes-clause-refused : goal.returns-else-same_bytes-clause-refused
returns-else-same_bytes-clause-refused c refused capture good is =
    let same = c.in-Ok.ensures.only capture good is in
    let told = subst (λ (one : Capture). IsDescription one c.in-Ok-describe.description.items) same
    c.in-Ok-describe.ensures in
    let text = one_description capture c.in-Ok-describe.description.items c.args.text.now told is in
    let e = sym c.if-same_bytes.false ∙ c.same_bytes.ensures.1 (c.as_slice.ensures.value ∙ text) in
    cc

pub returns-else-same_bytes-clause-only : goal.returns-else-same_bytes-clause-only
returns-else-same_bytes-clause-only c capture good is =
    let same = c.in-Ok.ensures.only capture good is in
    let told = subst (λ (one : Capture). IsDescription one c.in-Ok-describe.description.items) same
    c.in-Ok-describe.ensures in
    let text = one_description capture c.in-Ok-describe.description.items c.args.text.now told is in
    let e = sym c.if-same_bytes.false ∙ c.same_bytes.ensures.1 (c.as_slice.ensures.value ∙ text) in
    cc

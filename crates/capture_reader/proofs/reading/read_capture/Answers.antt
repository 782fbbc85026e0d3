use Rattle.std.proofs.Common.{inl, refl, sym, ap, subst, ◌∙◌}
use Rattle.capture_reader.specs.CaptureText.{AreItems, items_text}
use Rattle.capture_reader.proofs.FirstLine.{no_first, no_capture, no_items_fault, items_fault, whole, only_one}
use Rattle.capture_reader.proofs.OneFault.{refused_by, no_fault_read}
use Rattle.capture_reader.proofs.reading.read_capture.Goals as goal

pub returns-in-Err-Other-clause-only : goal.returns-in-Err-Other-clause-only
returns-in-Err-Other-clause-only c capture is e =
    absurd (no_capture c.args.text.now capture (rw c.in-Err-Other.field-0-is at c.in-Err-Other.ensures) is e)

pub returns-in-Err-Other-clause-refused : goal.returns-in-Err-Other-clause-refused
returns-in-Err-Other-clause-refused c =
    inl (refl, refl, no_first c.args.text.now (rw c.in-Err-Other.field-0-is at c.in-Err-Other.ensures))

pub returns-in-Ok-read_items-clause-found : goal.returns-in-Ok-read_items-clause-found
returns-in-Ok-read_items-clause-found c =
    let found = c.in-Ok-read_items.ensures.found in
    whole c.args.text.now c.in-Ok.read.1.now c.in-Ok.read.0 c.from_vec.result c.in-Ok.ensures
    (subst AreItems (sym c.from_vec.ensures) found.0) (found.1 ∙ ap items_text (sym c.from_vec.ensures))

pub returns-in-Ok-read_items-clause-only : goal.returns-in-Ok-read_items-clause-only
returns-in-Ok-read_items-clause-only c =
    let found = c.in-Ok-read_items.ensures.found in
    only_one c.args.text.now c.in-Ok.read.1.now c.in-Ok.read.0 c.from_vec.result c.in-Ok.ensures
    (subst AreItems (sym c.from_vec.ensures) found.0) (found.1 ∙ ap items_text (sym c.from_vec.ensures))

pub returns-in-Err-clause-only : goal.returns-in-Err-clause-only
returns-in-Err-clause-only c =
    no_items_fault c.args.text.now c.in-Ok.read.1.now c.in-Ok.read.0 c.in-Err.refusal c.in-Ok.ensures
    c.in-Err.ensures.refused

pub returns-in-Err-clause-refused : goal.returns-in-Err-clause-refused
returns-in-Err-clause-refused c =
    items_fault c.args.text.now c.in-Ok.read.1.now c.in-Ok.read.0 c.in-Err.refusal c.in-Ok.ensures
    c.in-Err.ensures.refused

pub returns-in-Err-Other-clause-faulty : goal.returns-in-Err-Other-clause-faulty
returns-in-Err-Other-clause-faulty c = refused_by c.args.text.now _ (returns-in-Err-Other-clause-refused c)

pub returns-in-Ok-read_items-clause-faulty : goal.returns-in-Ok-read_items-clause-faulty
returns-in-Ok-read_items-clause-faulty c =
    no_fault_read c.args.text.now _ (returns-in-Ok-read_items-clause-found c)

pub returns-in-Err-clause-faulty : goal.returns-in-Err-clause-faulty
returns-in-Err-clause-faulty c = refused_by c.args.text.now _ (returns-in-Err-clause-refused c)

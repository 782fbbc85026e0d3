use Rattle.std.proofs.Common.{◌≡◌, Some, length, refl, slice_get}
use Rattle.std.proofs.lemmas.Option.{slice_get_read}
use Rattle.script_plans.proofs.SpanLemmas.{pieces_at}
use Rattle.script_plans.proofs.op_pieces.OpPieces.get.Goals as goal

pub returns : goal.returns
returns c =
    let spans = c.deref.result.now in
    let span = c.in_ok-span.span.now in
    let found : slice_get spans c.args.op ≡ Some span =
    slice_get_read spans (length spans) c.args.op span refl c.in_ok-span.ensures.lookup.3.0
    c.in_ok-span.ensures.lookup.1 in
    rw (c.as_slice.ensures.value, ← c.self.view_is)
    (pieces_at c.self.inside.places.items c.self.inside.spans.items c.args.op span (rw c.deref.ensures.value at found))

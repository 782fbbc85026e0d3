use Rattle.std.proofs.Common.{length, refl, ap, arith}
use Rattle.capture_reader.proofs.ItemLines.{no_item, long_item, good_item}
use Rattle.capture_reader.proofs.reading.read_item.Goals as goal

pub returns-in-Err-Other-clause-refused : goal.returns-in-Err-Other-clause-refused
returns-in-Err-Other-clause-refused c =
    (refl, no_item c.args.text.now c.requires.some (rw c.in-Err-Other.field-0-is at c.in-Err-Other.ensures))

pub returns-then-as_slice-gt-MAX_DATAGRAM-clause-refused :
    goal.returns-then-as_slice-gt-MAX_DATAGRAM-clause-refused
returns-then-as_slice-gt-MAX_DATAGRAM-clause-refused c = (
  refl,
  long_item c.args.text.now c.in-Ok.first.rest.now c.in-Ok.first.item c.in-Ok.ensures
      (omega (arith, c.if-as_slice-gt-MAX_DATAGRAM.true, ap length c.as_slice.ensures)),
)

pub returns-clause-found : goal.returns-clause-found
returns-clause-found c =
    good_item c.args.text.now c.in-Ok.first.rest.now c.in-Ok.first.item c.in-Ok.ensures
    (omega (arith, c.if-as_slice-gt-MAX_DATAGRAM.false, ap length c.as_slice.ensures))

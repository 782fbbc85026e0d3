use Rattle.transcript.proofs.Hex.{eight_digits}
use Rattle.transcript.proofs.listing.push_register.Goals as goal

pub returns : goal.returns
returns c =
    rw (eight_digits, eight_digits) at (rw (
      c.laid_out.ensures,
      c.in_radix.ensures,
      c.laid_out-2.ensures,
      c.in_radix-2.ensures,
      c.permission_text-permission.ensures,
      c.mode_text-mode.ensures,
    ) at c.in_ok-write.ensures.bytes)

use Rattle.std.proofs.Common.{◌≡◌, ◌++◌, drop}
use Rattle.capture_reader.specs.CaptureText as spec
use Rattle.capture_reader.proofs.writing.push_items.Given as goal

-- the text so far, and the datagrams that are left
abbrev pub invariant-loop-item : goal.invariant-loop-item
invariant-loop-item l =
    l.out.items ++ spec.items_text (drop l.item-index l.items) ≡ l.fn.out.items ++ spec.items_text l.items

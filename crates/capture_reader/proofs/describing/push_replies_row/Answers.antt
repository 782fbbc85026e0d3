use Rattle.std.proofs.Common.{codes, ◌++◌, ◌∙◌, List, ℕ, ap, append_assoc}
use Rattle.std.specs.List.{flat_map}
use Rattle.transaction_codec.specs.Reply.{AreReplies, replies_words}
use Rattle.capture_reader.specs.Rows.{control_text, reply_text}
use Rattle.capture_reader.proofs.AddedLines.{read_behind}
use Rattle.capture_reader.proofs.describing.push_replies_row.Goals as goal

pub returns : goal.returns
returns c =
    let old = c.args.out.now.items in
    let control = control_text c.args.order c.args.id in
    read_behind AreReplies replies_words (flat_map reply_text) c.push_replies.result c.args.words.now old _ _
    (codes "< " ++ control)
    (c.in_ok-push_control.ensures ∙ (ap (λ (text : List ℕ). text ++ control) c.in_ok-extend_from_slice.ensures.items
    ∙ append_assoc old (codes "< ") control))
    c.push_replies.ensures

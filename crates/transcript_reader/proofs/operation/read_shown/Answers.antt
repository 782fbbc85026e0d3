use Rattle.std.proofs.Common.{ℕ, List, ◌++◌, sym, subst, ap, ◌∙◌}
use Rattle.transcript_reader.specs.Walks.{HoldsLive, shows_text}
use Rattle.transcript_reader.proofs.Shows.{candidate_again, holds_too, same_shows}
use Rattle.transcript_reader.proofs.operation.read_shown.Goals as goal

pub returns-in_default : goal.returns-in_default
returns-in_default c shows can e =
    let none = rw c.in_default.is at c.in_ok-shown.ensures.read in
    let again = candidate_again c.args.denied c.args.told c.args.op.now shows c.args.text.now can e in
    cc

pub returns-then-not-holds_live : goal.returns-then-not-holds_live
returns-then-not-holds_live c shows can e =
    let found = rw c.in-Some.is at c.in_ok-shown.ensures.read in
    let same = same_shows c.args.denied c.args.told c.args.op.now shows c.in-Some.shown c.args.text.now can e found in
    let holds = c.holds_live.ensures.1 (subst (HoldsLive c.args.denied c.args.told c.args.op.now) same
    (holds_too c.args.denied c.args.told c.args.op.now shows can)) in
    let test = c.if-not-holds_live.true in
    cc

pub returns-else-same_bytes : goal.returns-else-same_bytes
returns-else-same_bytes c shows can e =
    let found = rw c.in-Some.is at c.in_ok-shown.ensures.read in
    let same = same_shows c.args.denied c.args.told c.args.op.now shows c.in-Some.shown c.args.text.now can e found in
    let yes = c.same_bytes.ensures.1 (c.as_bytes.ensures.value
    ∙ (c.in_ok-push_shown.ensures
    ∙ (ap (λ (bytes : List ℕ). bytes ++ shows_text c.in-Some.shown) c.clear.ensures.bytes
    ∙ (ap shows_text (sym same) ∙ sym e)))) in
    let test = c.if-same_bytes.false in
    cc

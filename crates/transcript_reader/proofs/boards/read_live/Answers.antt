use Rattle.std.proofs.Common.{◌≡◌, ℕ, List, ◌++◌, sym, ap, ◌∙◌}
use Rattle.transcript.specs.Text.{live_text}
use Rattle.transcript_reader.specs.Walks.{board_front}
use Rattle.transcript_reader.proofs.BoardTexts.{front_again, read_again}
use Rattle.transcript_reader.proofs.boards.read_live.Goals as goal

pub returns-in_default : goal.returns-in_default
returns-in_default c sent replied timed_out lost fa fb fc fd e =
    let front : c.as_bytes.result.now ≡ board_front c.args.board.now.name =
    c.as_bytes.ensures.value
    ∙ (c.in_ok-push_front.ensures
    ∙ (ap (λ (bytes : List ℕ). bytes ++ board_front c.as_str-name.result.now) c.clear.ensures.bytes
    ∙ ap board_front c.as_str-name.ensures)) in
    let none = rw front at c.in_default.ensures in
    let again = front_again c.args.board.now.name c.args.line.now sent replied timed_out lost e in
    cc

pub returns-in_default-read_counts : goal.returns-in_default-read_counts
returns-in_default-read_counts c sent replied timed_out lost fa fb fc fd e =
    let front : c.as_bytes.result.now ≡ board_front c.args.board.now.name =
    c.as_bytes.ensures.value
    ∙ (c.in_ok-push_front.ensures
    ∙ (ap (λ (bytes : List ℕ). bytes ++ board_front c.as_str-name.result.now) c.clear.ensures.bytes
    ∙ ap board_front c.as_str-name.ensures)) in
    let found = rw front at c.in-Some.ensures in
    let again = read_again c.args.board.now.name c.args.line.now c.in-Some.text.now sent replied timed_out lost fa fb fc fd
    e found in
    let none = c.in_default-read_counts.ensures in
    cc

pub returns-then-not-same_bytes : goal.returns-then-not-same_bytes
returns-then-not-same_bytes c sent replied timed_out lost fa fb fc fd e =
    let front : c.as_bytes.result.now ≡ board_front c.args.board.now.name =
    c.as_bytes.ensures.value
    ∙ (c.in_ok-push_front.ensures
    ∙ (ap (λ (bytes : List ℕ). bytes ++ board_front c.as_str-name.result.now) c.clear.ensures.bytes
    ∙ ap board_front c.as_str-name.ensures)) in
    let found = rw front at c.in-Some.ensures in
    let again = read_again c.args.board.now.name c.args.line.now c.in-Some.text.now sent replied timed_out lost fa fb fc fd
    e found in
    let read = c.in-Some-read_counts.ensures in
    let same : c.in-Some-read_counts.counts ≡ (sent, replied, timed_out, lost) = cc in
    let spelled : List ℕ → ℕ × ℕ × ℕ × ℕ → List ℕ = λ name k. live_text name k.0 k.1 k.2 k.3 in
    let yes = c.same_bytes.ensures.1 (c.as_bytes-2.ensures.value
    ∙ (c.in_ok-push_live.ensures
    ∙ (ap (λ (bytes : List ℕ). bytes ++ spelled c.as_str-name.result.now c.in-Some-read_counts.counts)
    c.clear-2.ensures.bytes
    ∙ (ap (λ (name : List ℕ). spelled name c.in-Some-read_counts.counts) c.as_str-name.ensures
    ∙ (ap (spelled c.args.board.now.name) same ∙ sym e))))) in
    let test = c.if-not-same_bytes.true in
    cc

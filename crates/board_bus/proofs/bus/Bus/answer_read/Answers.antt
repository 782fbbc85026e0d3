use Rattle.std.proofs.Common.{◌≡◌, ◌-◌, ◌+◌, ◌≤◌, length, length-append, refl, ap, ◌∙◌, arith}
use Rattle.board_bus.specs.Transactions.{words_read}
use Rattle.board_bus.specs.Answering.{addresses}
use Rattle.board_bus.proofs.Progress.{words_read-length, length-addresses, header_filled_in}
use Rattle.board_bus.proofs.bus.Bus.answer_read.Goals as goal

pub overflow_cast-done : goal.overflow_cast-done
overflow_cast-done c =
    let words = words_read c.args.self.now (addresses c.args.addressing c.args.base c.args.count) in
    let places = addresses c.args.addressing c.args.base c.args.count in
    let most : length words ≤ c.args.count =
    omega (
      arith,
      words_read-length c.args.self.now places,
      length-addresses c.args.addressing c.args.base c.args.count,
    ) in
    let size : length c.read_words-ended.new.out.items ≡ length c.push_within.new.out.items + length words =
    ap length c.read_words-ended.ensures.words ∙ length-append c.push_within.new.out.items words in
    omega (
      arith,
      c.read_words-ended.new.out.ok,
      c.push_within.new.out.ok,
      c.push_within.ensures.len,
      c.len.ensures,
      c.len-place.ensures,
      c.requires.count,
    )

pub returns-clause-reply : goal.returns-clause-reply
returns-clause-reply c =
    let words = words_read c.args.self.now (addresses c.args.addressing c.args.base c.args.count) in
    let size : length c.read_words-ended.new.out.items ≡ length c.push_within.new.out.items + length words =
    ap length c.read_words-ended.ensures.words ∙ length-append c.push_within.new.out.items words in
    let done : c.len.result - c.len-place.result - 1 ≡ length words =
    omega (
      arith,
      c.read_words-ended.new.out.ok,
      c.push_within.new.out.ok,
      c.push_within.ensures.len,
      c.len.ensures,
      c.len-place.ensures,
    ) in
    let place : c.len-place.result ≡ length c.args.out.now.items =
    omega (arith, c.args.out.now.ok, c.len-place.ensures) in
    rw (
      c.read_words-ended.ensures.words,
      c.push_within.ensures.items,
      place,
      header_filled_in,
      c.header.ensures,
      done,
      c.info_code.ensures.value,
      c.read_words-ended.ensures.fault,
      c.read_type.ensures,
    ) refl

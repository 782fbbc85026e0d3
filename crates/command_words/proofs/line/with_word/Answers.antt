use Rattle.std.proofs.lemmas.Result.{IfOk-weaker}
use Rattle.command_words.proofs.Below.{is_needed}
use Rattle.command_words.proofs.line.with_word.Goals as goal

pub returns : goal.returns
returns c =
    let needed = is_needed c.new.result c.required.result c.args.word.now c.required.ensures c.new.ensures.rule
    c.new.ensures.optional.1 in
    IfOk-weaker c.arg.result _ _ (λ r adds. (c.required.result, needed.0, needed.1, adds)) c.arg.ensures

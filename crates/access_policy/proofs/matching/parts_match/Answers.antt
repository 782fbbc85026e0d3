use Rattle.std.proofs.Common.{◌≡◌, false, length, sym, ◌∙◌, arith}
use Rattle.std.proofs.lemmas.Grind.{common_steps}
use Rattle.access_policy.proofs.Lengths.{all_matched, long_enough, wrong_length}
use Rattle.access_policy.proofs.matching.parts_match.Goals as goal

pub returns-then-not-has_length : goal.returns-then-not-has_length
returns-then-not-has_length c =
    sym (wrong_length c.args.patterns.now c.args.rest c.args.parts.now (sym c.has_length.ensures ∙ cc))

pub returns-then-not-item_matches : goal.returns-then-not-item_matches
returns-then-not-item_matches c = grind (arith, common_steps)

pub loop-i-preserved : goal.loop-i-preserved
loop-i-preserved c = grind (arith, common_steps)

pub returns : goal.returns
returns c =
    sym (all_matched c.args.patterns.now c.args.rest c.args.parts.now c.loop-i.i (sym c.has_length.ensures ∙ cc)
    (omega (arith, c.loop-i.auto.i-end, c.loop-i-test.false)))
    ∙ c.loop-i.invariant

pub last_matches-requires : goal.last_matches-requires
last_matches-requires c =
    record {
      long = long_enough c.args.rest (length c.args.patterns.now) (length c.args.parts.now)
          (sym c.has_length.ensures ∙ cc);
    }

pub returns-then-not-last_matches : goal.returns-then-not-last_matches
returns-then-not-last_matches c =
    let bad : c.last_matches.result ≡ false = cc in sym (c.last_matches.ensures bad c.args.rest)

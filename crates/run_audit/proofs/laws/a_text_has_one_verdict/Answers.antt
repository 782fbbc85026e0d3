use Rattle.run_audit.proofs.OneVerdict.{one_verdict}
use Rattle.run_audit.proofs.laws.a_text_has_one_verdict.Goals as goal

pub returns : goal.returns
returns c = λ session scripts text one other names f g.
    one_verdict session scripts text (record {
      one = λ shown another x y. c.a_text_shows_one_thing.ensures session.boards scripts text shown another names x y;
      none = λ shown line x. c.a_transcript_has_no_fault.ensures session.boards scripts text shown line names x;
    }) one other f g

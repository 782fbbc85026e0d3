use Rattle.audit_laws.proofs.Verdict.{verdict_holds}
use Rattle.audit_laws.proofs.laws.a_run_fits_unless_it_is_partial.Goals as goal

pub returns : goal.returns
returns c =
    verdict_holds c.a_text_shows_one_thing.ensures c.a_transcript_has_no_fault.ensures
    c.what_a_run_prints_is_a_transcript.ensures c.places_and_counts_of_a_run_hold.ensures.places
    c.places_and_counts_of_a_run_hold.ensures.counts c.results_are_those_of_the_replay.ensures

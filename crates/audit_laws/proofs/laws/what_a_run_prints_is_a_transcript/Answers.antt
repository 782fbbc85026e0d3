use Rattle.audit_laws.proofs.Form.{form_holds}
use Rattle.audit_laws.proofs.laws.what_a_run_prints_is_a_transcript.Goals as goal

pub returns : goal.returns
returns c = form_holds (record {
  each_is = c.each_answer_is_that_of_its_request.ensures;
  joins = c.joining_is_a_function.ensures.joined;
  packs = c.operations_of_words_are_packed.ensures;
  spelling = c.packed_bodies_spell_requests.ensures;
  answering = c.a_reply_answers_its_body.ensures.each;
  sends = c.the_first_sends_are_the_order.ensures;
})

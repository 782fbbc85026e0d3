use Rattle.std.proofs.Common.{inl, ◌∙◌, arith}
use Rattle.std.proofs.lemmas.List.{nil_from_length}
use Rattle.std.proofs.lemmas.Bool.Decides.{nat_tests}
use Rattle.transaction_codec.proofs.Formats.{requests_format}
use Rattle.transaction_codec.proofs.ReadSoFar.{read_more, only_list, fault_here, no_list, no_other_fault}
use Rattle.transaction_codec.proofs.reading.read_requests.Goals as goal

pub returns-in-Err-clause-refused : goal.returns-in-Err-clause-refused
returns-in-Err-clause-refused c =
    rw c.fault_at.ensures (fault_here requests_format c.loop-rest.invariant c.in-Err.why (grind (arith, nat_tests))
    c.in-Err.ensures.exact)

pub returns-in-Err-clause-only : goal.returns-in-Err-clause-only
returns-in-Err-clause-only c list ranges e =
    absurd (no_list requests_format c.loop-rest.invariant c.in-Err.why (grind (arith, nat_tests)) c.in-Err.ensures.exact
    list ranges e)

pub returns-clause-only : goal.returns-clause-only
returns-clause-only c = only_list requests_format c.loop-rest.invariant (nil_from_length _ (grind (arith, nat_tests)))

pub returns-in-Err-clause-faulty : goal.returns-in-Err-clause-faulty
returns-in-Err-clause-faulty c place why fault =
    inl (c.fault_at.ensures ∙ no_other_fault requests_format c.loop-rest.invariant c.in-Err.why
    (grind (arith, nat_tests)) c.in-Err.ensures.exact place why fault)

pub loop-rest-preserved : goal.loop-rest-preserved
loop-rest-preserved c =
    read_more c.loop-rest.invariant c.in_ok-push-in-Ok.ensures.items c.in_ok-to_request-in-Ok.ensures
    c.in-Ok.ensures.found

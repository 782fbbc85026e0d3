use Rattle.ipbus_program.proofs.Listings.{one_answer}
use Rattle.ipbus_program.proofs.check_laws.one_listing_is_owed.Goals as goal

pub returns : goal.returns
returns c = λ bytes root given others s t a b.
    one_answer root (c.the_terms_of_check.ensures root)
    (λ bytes. c.bytes_have_one_answer_to_check.ensures.index bytes root) bytes given others s t a b

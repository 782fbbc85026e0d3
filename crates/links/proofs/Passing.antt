-- What the receives among what passed over a link came to, call by call.
use Rattle.std.proofs.Common.{◌≡◌, ◌∙◌, ap, refl, ℕ, List, [], ◌∷◌, ◌++◌, Option, Some, None}
use Rattle.std.specs.Prelude.{Result, Ok, Err}
use Rattle.std.proofs.lemmas.List.{append-nil}
use Rattle.reliable_engine.specs.Traffic.{Passed}
use Rattle.reliable_engine.specs.Traffic as passed
use Rattle.links.specs.declared.link.LinkFault.{LinkFault}
use Rattle.links.specs.declared.link.Received.{Received}
use Rattle.links.specs.declared.link.Received.TheVariants.{Got, Quiet}
use Rattle.links.specs.Receives.{receives_after, receives_in}
use Rattle.links.specs.Traffic.{received_after, sent_after}

pub receives-append : (xs ys : List Passed) → receives_in (xs ++ ys) ≡ receives_in xs ++ receives_in ys
receives-append [] ys = refl
receives-append (passed.Sent bytes ∷ xs) ys = receives-append xs ys
receives-append (passed.Got bytes ∷ xs) ys =
    ap (λ (zs : List (Option (List ℕ))). Some bytes ∷ zs) (receives-append xs ys)
receives-append (passed.Quiet ∷ xs) ys =
    ap (λ (zs : List (Option (List ℕ))). None ∷ zs) (receives-append xs ys)

-- one more receive is one more of these
pub one_received : (result : Result Received LinkFault) (bytes : List ℕ) (before : List Passed) {now : List Passed}
    → now ≡ received_after result bytes before → receives_in now ≡ receives_after result bytes (receives_in before)
one_received (Ok Got) bytes before is = ap receives_in is ∙ receives-append before (passed.Got bytes ∷ [])
one_received (Ok Quiet) bytes before is = ap receives_in is ∙ receives-append before (passed.Quiet ∷ [])
one_received (Err fault) bytes before is = ap receives_in is

-- a send is none
pub none_sent : (result : Result (Unit {0}) LinkFault) (bytes : List ℕ) (before : List Passed) {now : List Passed}
    → now ≡ sent_after result bytes before → receives_in now ≡ receives_in before
none_sent (Ok done) bytes before is =
    ap receives_in is ∙ (receives-append before (passed.Sent bytes ∷ []) ∙ append-nil (receives_in before))
none_sent (Err fault) bytes before is = ap receives_in is

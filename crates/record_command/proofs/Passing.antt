-- What a capture shows of what passed over a link, call by call.
use Rattle.std.proofs.Common.{◌≡◌, ◌∙◌, ℕ, List, [], ◌∷◌, ◌++◌, Result, Ok, Err, ap, refl, sym}
use Rattle.std.proofs.lemmas.List.{append-nil}
use Rattle.reliable_engine.specs.Traffic.{Passed}
use Rattle.reliable_engine.specs.Traffic as passed
use Rattle.links.specs.declared.link.LinkFault.{LinkFault}
use Rattle.links.specs.declared.link.Received.{Received}
use Rattle.links.specs.declared.link.Received.TheVariants.{Got, Quiet}
use Rattle.links.specs.Traffic.{received_after}
use Rattle.capture_reader.specs.declared.capture.Caught.{Caught}
use Rattle.record_command.specs.Passing.{caught_in, received_item, sent_item}
use Rattle.record_command.specs.Traffic.{caught_after}

caught-append : (xs ys : List Passed) → caught_in (xs ++ ys) ≡ caught_in xs ++ caught_in ys
caught-append [] ys = refl
caught-append (passed.Sent bytes ∷ xs) ys =
    ap (λ (items : List Caught). sent_item bytes ∷ items) (caught-append xs ys)
caught-append (passed.Got bytes ∷ xs) ys =
    ap (λ (items : List Caught). received_item bytes ∷ items) (caught-append xs ys)
caught-append (passed.Quiet ∷ xs) ys = caught-append xs ys

-- one more call, which adds these
one_more : (before : List Passed) (call : Passed) (now : List Passed) (items added : List Caught)
    → items ≡ caught_in before → now ≡ before ++ call ∷ [] → added ≡ caught_in (call ∷ [])
    → items ++ added ≡ caught_in now
one_more before call now items added is passes adds =
    ap (λ (front : List Caught). front ++ added) is
    ∙ (ap (λ (more : List Caught). caught_in before ++ more) adds
    ∙ sym (ap caught_in passes ∙ caught-append before (call ∷ [])))

pub send_shows : (bytes : List ℕ) (before now : List Passed) (items : List Caught) → items ≡ caught_in before
    → now ≡ before ++ passed.Sent bytes ∷ [] → items ++ sent_item bytes ∷ [] ≡ caught_in now
send_shows bytes before now items is passes =
    one_more before (passed.Sent bytes) now items (sent_item bytes ∷ []) is passes refl

pub receive_shows : (result : Result Received LinkFault) (bytes : List ℕ) (before now : List Passed)
    (items : List Caught) → items ≡ caught_in before → now ≡ received_after result bytes before
    → items ++ caught_after result bytes ≡ caught_in now
receive_shows (Ok Got) bytes before now items is passes =
    one_more before (passed.Got bytes) now items (received_item bytes ∷ []) is passes refl
receive_shows (Ok Quiet) bytes before now items is passes = one_more before passed.Quiet now items [] is passes refl
receive_shows (Err fault) bytes before now items is passes = append-nil items ∙ (is ∙ sym (ap caught_in passes))

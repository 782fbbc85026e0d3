-- Connections that ended without a fault of writing and without want of memory wrote all answers.
use Rattle.std.proofs.Common.{◌≡◌, ◌≢◌, ℕ, ◌+◌, List, [], ◌∷◌, Option, refl, sym, ◌∙◌}
use Rattle.std.specs.List.{AllByRecursion}
use Rattle.ipb_outside.specs.Pairs.{PairReport}
use Rattle.hub_lane.specs.declared.answers.BoardState.{BoardState}
use Rattle.hub_session.specs.declared.served.Served.{Served}
use Rattle.hub_session.specs.declared.served.SessionEnd.{SessionEnd}
use Rattle.hub_session.specs.declared.served.SessionEnd.TheVariants as ends
use Rattle.hub_session.specs.Exchanges.{Exchange}
use Rattle.hub_session.specs.Serving.{IsPartAt, Unanswered}
use Rattle.session_serve.specs.Connections.{Conversation, HasExchanged, HaveExchanged}
use Rattle.session_serve.specs.Serving.{HadMemory}
use Rattle.serve_command.specs.Answers.{HasWrittenAll}

abbrev pub IsAllAnswered : Conversation → Type 0
IsAllAnswered c = c.cut_off ≡ []

none_left : (boards : List BoardState) (unwritten : List Exchange) (unanswered : Option Unanswered) (part : List ℕ)
    (end : SessionEnd) → IsPartAt boards unwritten unanswered part end → end ≢ ends.NoMemory → end ≢ ends.WriteFault
    → unwritten ≡ []
none_left boards unwritten unanswered part ends.Closed is memory written = is.1
none_left boards unwritten unanswered part ends.CutFrame is memory written = is.1
none_left boards unwritten unanswered part ends.BadFrame is memory written = is.1
none_left boards unwritten unanswered part ends.ReadFault is memory written = is.1
none_left boards unwritten unanswered part ends.WriteFault is memory written = absurd (written refl)
none_left boards unwritten unanswered part ends.NoMemory is memory written = absurd (memory refl)

one_whole : (boards : List BoardState) (client : ℕ) (c : Conversation) (came back : PairReport) (served : Served)
    → HasExchanged boards client c came back served → HadMemory served → HasWrittenAll served → IsAllAnswered c
one_whole boards client c came back served is memory written =
    let s = is.was_served.under.as_served in
    sym is.cut_off' ∙ none_left boards s.unwritten s.unanswered s.part served.end s.part_of memory written

pub all_whole : (boards : List BoardState) (client : ℕ) (cs : List Conversation) (came back : List PairReport)
    (served : List Served) → HaveExchanged boards client cs came back served → AllByRecursion HadMemory served
    → AllByRecursion HasWrittenAll served → AllByRecursion IsAllAnswered cs
all_whole boards client [] came back served is memory written = tt
all_whole boards client (c ∷ cs) [] back served is memory written = absurd is
all_whole boards client (c ∷ cs) (came ∷ cames) [] served is memory written = absurd is
all_whole boards client (c ∷ cs) (came ∷ cames) (back ∷ backs) [] is memory written = absurd is
all_whole boards client (c ∷ cs) (came ∷ cames) (back ∷ backs) (served ∷ serveds) is memory written = (
  one_whole boards client c came back served is.0 memory.0 written.0,
  all_whole boards (client + 1) cs cames backs serveds is.1 memory.1 written.1,
)

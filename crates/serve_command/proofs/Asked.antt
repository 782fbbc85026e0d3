-- The frames of connections that were served: the hub was asked for each body that one has for a lane.
use Rattle.std.proofs.Common.{◌≡◌, ℕ, ◌+◌, List, [], ◌∷◌, ◌++◌, Option, Some, None, subst, ap, ◌∙◌}
use Rattle.std.specs.List.{AllByRecursion}
use Rattle.ipb_outside.specs.Pairs.{PairReport}
use Rattle.hub_lane.specs.declared.answers.BoardState.{BoardState}
use Rattle.hub_session.specs.declared.got.Got.{Got}
use Rattle.hub_session.specs.declared.got.Got.TheVariants.{NotAsked, Refused, Came}
use Rattle.hub_session.specs.declared.served.Served.{Served}
use Rattle.hub_session.specs.Exchanges.{Exchange, IsExchange, IsGotFor, LaneRequest, request_of}
use Rattle.session_serve.specs.Connections.{Conversation, HasExchanged, HaveExchanged, exchanges_of}
use Rattle.serve_command.proofs.OneFrame.{IsAsked, IsAskedFor}

-- so of each frame of a connection
abbrev pub AreAsked : List BoardState → Conversation → Type 0
AreAsked boards c = AllByRecursion (IsAsked boards) (exchanges_of c)

-- ---- the frames that have an answer

asked_for : (request : Option LaneRequest) (got : Got) → IsGotFor request got → IsAskedFor request got
asked_for None NotAsked is = tt
asked_for None (Refused why) is = absurd is
asked_for None (Came outcome) is = absurd is
asked_for (Some request) NotAsked is = absurd is
asked_for (Some request) (Refused why) is = tt
asked_for (Some request) (Came outcome) is = tt

all_asked_for : (boards : List BoardState) (es : List Exchange) → AllByRecursion (IsExchange boards) es
    → AllByRecursion (IsAsked boards) es
all_asked_for boards [] are = tt
all_asked_for boards (e ∷ es) are =
    (asked_for (request_of boards e.frame) e.got are.0, all_asked_for boards es are.1)

-- ---- all connections

one_asked : (boards : List BoardState) (client : ℕ) (c : Conversation) (came back : PairReport) (served : Served)
    → HasExchanged boards client c came back served → AreAsked boards c
one_asked boards client c came back served is =
    let s = is.was_served.under.as_served in
    let all : s.answered ++ s.unwritten ≡ exchanges_of c =
    ap (λ (es : List Exchange). es ++ s.unwritten) is.answered' ∙ ap (λ (es : List Exchange). c.answered ++ es) is.cut_off' in
    subst (AllByRecursion (IsAsked boards)) all (all_asked_for boards (s.answered ++ s.unwritten) s.exchanges)

pub all_asked : (boards : List BoardState) (client : ℕ) (cs : List Conversation) (came back : List PairReport)
    (served : List Served) → HaveExchanged boards client cs came back served → AllByRecursion (AreAsked boards) cs
all_asked boards client [] came back served is = tt
all_asked boards client (c ∷ cs) [] back served is = absurd is
all_asked boards client (c ∷ cs) (came ∷ cames) [] served is = absurd is
all_asked boards client (c ∷ cs) (came ∷ cames) (back ∷ backs) [] is = absurd is
all_asked boards client (c ∷ cs) (came ∷ cames) (back ∷ backs) (served ∷ serveds) is = (
  one_asked boards client c came back served is.0,
  all_asked boards (client + 1) cs cames backs serveds is.1,
)

-- How many datagrams for the board a greeting puts into the air of a link that tells.
use Rattle.std.proofs.Common.{◌≡◌, ℕ, cond, List, [], ◌∷◌, Option, Some, None}
use Rattle.std.proofs.Common.{refl, sym, ap, arith, ◌∙◌}
use Rattle.std.specs.Prelude.{Result, Ok, Err, count_by}
use Rattle.std.proofs.lemmas.List.Sums.{sum_by-append}
use Rattle.world_model.specs.declared.datagram.Datagram.{Datagram}
use Rattle.world_model.specs.Board.{hear}
use Rattle.world_model.specs.Links.{IsHeard, Told, first_sends, heard_on, hears_all}
use Rattle.world_model.specs.World.{air_after_answer}
use Rattle.links.specs.declared.link.Link.{Ghosts}
use Rattle.links.specs.declared.link.LinkFault.{LinkFault}
use Rattle.links.specs.declared.link.LinkFault.TheVariants as fault
use Rattle.links.specs.declared.link.Received.{Received}
use Rattle.links.specs.declared.link.Received.TheVariants as came
use Rattle.links.specs.Telling.{IfTelling, Receives, Telling}
use Rattle.hub_lane.proofs.RoundHeard.{heard_first}
use Rattle.hub_lane.specs.Greeting.{HasAskedNothing, requests_in}
use Rattle.world_model.specs.Air.{is_for_board}

-- ---- what the board hears

abbrev pub for_board : List Datagram → ℕ
for_board air = count_by is_for_board air

abbrev pub one_for_board : Datagram → ℕ
one_for_board d = cond (is_for_board d) 1 0

answer_for_hub : (birth : ℕ) (r : Option (List ℕ)) → for_board (air_after_answer birth r) ≡ 0
answer_for_hub birth None = refl
answer_for_hub birth (Some bytes) = refl

heard_asks_none : (told : Told) (bytes : List ℕ) → for_board (heard_on told bytes).air ≡ for_board told.air
heard_asks_none told bytes =
    let answer = air_after_answer (first_sends told) (hear told.board bytes).answer in
    omega (
      arith,
      sum_by-append one_for_board told.air answer,
      answer_for_hub (first_sends told) (hear told.board bytes).answer,
    )

all_heard_ask_none : (old new : Told) (places : List ℕ) → hears_all old places ≡ Some new
    → for_board new.air ≡ for_board old.air
all_heard_ask_none old new [] e =
    let same : old ≡ new = cc in ap (λ (t : Told). for_board t.air) (sym same)
all_heard_ask_none old new (k ∷ ks) e =
    let h = heard_first old new k ks e in
    all_heard_ask_none (heard_on old h.d.bytes) new ks h.later ∙ heard_asks_none old h.d.bytes

heard_asked : (old new : Telling) → IsHeard old.told new.told → HasAskedNothing old new
heard_asked old new is = all_heard_ask_none old.told new.told is.places is.heard

receives_ask_none : (result : Result Received LinkFault) (bytes : List ℕ) (before now : ℕ) (old new : Telling)
    → Receives result bytes before now old new → HasAskedNothing old new
receives_ask_none (Ok came.Got) bytes before now old new is = heard_asked old new is.received.by_board
receives_ask_none (Ok came.Quiet) bytes before now old new is = heard_asked old new is.received.by_board
receives_ask_none (Err fault.Failed) bytes before now old new is = ap requests_in is
receives_ask_none (Err fault.NoMemory) bytes before now old new is = heard_asked old new is.by_board

-- ---- over any link

pub if_both : (R S : Telling → Telling → Type 0) (a b : Option Telling) → ((s t : Telling) → R s t → S s t)
    → IfTelling a b R → IfTelling a b S
if_both R S None None f is = tt
if_both R S None (Some t) f is = is
if_both R S (Some s) None f is = is
if_both R S (Some s) (Some t) f is = f s t is

pub receive_asks_none : {L : Type 0} (seen : Ghosts L) (result : Result Received LinkFault) (bytes : List ℕ)
    (old new : L)
    → IfTelling (seen.telling old) (seen.telling new) (Receives result bytes (seen.held old) (seen.held new))
    → IfTelling (seen.telling old) (seen.telling new) HasAskedNothing
receive_asks_none seen result bytes old new is =
    let before = seen.held old in
    let now = seen.held new in
    if_both (Receives result bytes before now) HasAskedNothing (seen.telling old) (seen.telling new)
    (receives_ask_none result bytes before now) is

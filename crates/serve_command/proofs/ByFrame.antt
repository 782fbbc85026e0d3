-- Codes that the frame decides alone.
use Rattle.std.proofs.Common.{◌≡◌, ◌≢◌, ◌↔◌, ℕ, zero, suc, ◌+◌, true, List, [], ◌∷◌, map, Option, Some, None}
use Rattle.std.proofs.Common.{refl, sym, ap, ◌∙◌}
use Rattle.std.specs.Prelude.{is_some}
use Rattle.std.specs.List.{AllByRecursion, slice_get}
use Rattle.packet_codec.specs.declared.packet.Order.{Order}
use Rattle.packet_codec.specs.declared.packet.Packet.{Packet}
use Rattle.lane_record.specs.declared.outcome.Outcome.{Outcome}
use Rattle.lane_record.specs.declared.outcome.Outcome.TheVariants.{Replied, TimedOut, Unsent, LinkLost}
use Rattle.hub_lane.specs.declared.answers.BoardState.{BoardState}
use Rattle.hub_lane.specs.declared.answers.BoardState.TheVariants.{Lane, Silent, Down}
use Rattle.hub_session.specs.declared.got.BodyRefusal.{BodyRefusal}
use Rattle.hub_session.specs.declared.got.BodyRefusal.TheVariants as refusal
use Rattle.hub_session.specs.declared.got.Got.{Got}
use Rattle.hub_session.specs.declared.got.Got.TheVariants.{NotAsked, Refused, Came}
use Rattle.hub_session.specs.Answers.{control_packet, refusal_code, reply_of_board, reply_of_outcome, reply_of_packet}
use Rattle.hub_session.specs.Codes.{bad_packet_code, link_lost_code, no_board_code, unsent_code}
use Rattle.hub_session.specs.Exchanges.{Exchange}
use Rattle.board_specs.specs.declared.spec.BoardSpec.{BoardSpec}
use Rattle.world_model.specs.Settings.{Limits}
use Rattle.script_plans.specs.declared.greeting.Greeting.{Greeting}
use Rattle.script_plans.specs.declared.greeting.Greeting.TheVariants.{Live}
use Rattle.script_plans.specs.declared.greeting.Greeting.TheVariants as greeting
use Rattle.board_history.specs.Links.{LinkReport}
use Rattle.client_history.specs.Boards.{AreServedOver, ServedBoard}
use Rattle.session_serve.specs.Boards.{states_from, states_of}
use Rattle.session_serve.specs.Connections.{Conversation, exchanges_of}
use Rattle.serve_command.specs.Frames.{HasUnaskedCodes, OfEachFrame}
use Rattle.serve_command.proofs.AtIdle.{IsIdle, down_is, silent_is}

-- neither of the two codes
abbrev IsOther : ℕ → Type 0
IsOther code = (code ≢ bad_packet_code) × (code ≢ no_board_code)

of_refusal : (why : BodyRefusal) → IsOther (refusal_code why)
of_refusal refusal.Sealed = (λ e. absurd cc, λ e. absurd cc)
of_refusal refusal.TooLong = (λ e. absurd cc, λ e. absurd cc)
of_refusal refusal.ReplyTooLong = (λ e. absurd cc, λ e. absurd cc)
of_refusal refusal.Overfull = (λ e. absurd cc, λ e. absurd cc)

of_outcome : (board id : ℕ) (order : Order) (o : Outcome) → IsOther (reply_of_outcome board order id o).code
of_outcome board id order (Replied place words) = (λ e. absurd cc, λ e. absurd cc)
of_outcome board id order (TimedOut place rounds) = (λ e. absurd cc, λ e. absurd cc)
of_outcome board id order Unsent = (λ e. absurd cc, λ e. absurd cc)
of_outcome board id order (LinkLost place) = (λ e. absurd cc, λ e. absurd cc)

of_board : (board id : ℕ) (order : Order) (state : BoardState) (got : Got)
    → IsOther (reply_of_board board order id (Some state) got).code
of_board board id order Silent got = (λ e. absurd cc, λ e. absurd cc)
of_board board id order Down got = (λ e. absurd cc, λ e. absurd cc)
of_board board id order (Lane lane) NotAsked = (λ e. absurd cc, λ e. absurd cc)
of_board board id order (Lane lane) (Refused why) = of_refusal why
of_board board id order (Lane lane) (Came o) = of_outcome board id order o

bad_packet : (board : ℕ) (packet : Option Packet) (state : Option BoardState) (got : Got)
    → ((reply_of_packet board packet state got).code ≡ bad_packet_code) ↔ (packet ≡ None)
bad_packet board None state got = (λ e. refl, λ e. refl)
bad_packet board (Some packet) None got = (λ e. absurd cc, λ e. absurd cc)
bad_packet board (Some packet) (Some state) got =
    (λ e. absurd ((of_board board packet.id packet.order state got).0 e), λ e. absurd cc)

no_board : (board : ℕ) (packet : Option Packet) (state : Option BoardState) (got : Got)
    → ((reply_of_packet board packet state got).code ≡ no_board_code)
    ↔ ((is_some packet ≡ true) × (state ≡ None))
no_board board None state got = (λ e. absurd cc, λ is. let never = is.0 in absurd cc)
no_board board (Some packet) None got = (λ e. (refl, refl), λ is. refl)
no_board board (Some packet) (Some state) got =
    (λ e. absurd ((of_board board packet.id packet.order state got).1 e), λ is. let never = is.1 in absurd cc)

not_asked : (board : ℕ) (packet : Option Packet) (state : Option BoardState) (standing : BoardState) (code : ℕ)
    (got : Got) → IsIdle standing code → is_some packet ≡ true → state ≡ Some standing
    → (reply_of_packet board packet state got).code ≡ code
not_asked board None state standing code got idle is there = absurd cc
not_asked board (Some packet) state standing code got idle is there =
    ap (λ (s : Option BoardState). (reply_of_packet board (Some packet) s got).code) there
    ∙ idle.answers board packet.id packet.order got

-- ---- boards and documents

-- behind a board stand the others, their lanes numbered on
others_at : (lane : ℕ) (told : Greeting) (others : List Greeting) (i : ℕ)
    → (next : ℕ) × (slice_get (states_from lane (told ∷ others)) (suc i) ≡ slice_get (states_from next others) i)
others_at lane (Live payload) others i = (lane + 1, refl)
others_at lane greeting.Silent others i = (lane, refl)
others_at lane greeting.Down others i = (lane, refl)

first_is : (lane : ℕ) (told : Greeting) (others : List Greeting) → slice_get (states_from lane (told ∷ others)) 0 ≢ None
first_is lane (Live payload) others = λ e. absurd cc
first_is lane greeting.Silent others = λ e. absurd cc
first_is lane greeting.Down others = λ e. absurd cc

-- there is a board where there is a document for it
same_positions : (settings : Limits) (lane : ℕ) (specs : List BoardSpec) (boards : List ServedBoard)
    (links : List LinkReport) → AreServedOver settings specs boards links → (at : ℕ)
    → (slice_get (states_from lane (map (λ (b : ServedBoard). b.told) boards)) at ≡ None) ↔ (slice_get specs at ≡ None)
same_positions settings lane [] [] [] over at = (λ e. refl, λ e. refl)
same_positions settings lane [] [] (link ∷ links) over at = absurd over
same_positions settings lane [] (b ∷ boards) links over at = absurd over
same_positions settings lane (spec ∷ specs) [] links over at = absurd over
same_positions settings lane (spec ∷ specs) (b ∷ boards) [] over at = absurd over
same_positions settings lane (spec ∷ specs) (b ∷ boards) (link ∷ links) over zero =
    (λ e. absurd (first_is lane b.told (map (λ (c : ServedBoard). c.told) boards) e), λ e. absurd cc)
same_positions settings lane (spec ∷ specs) (b ∷ boards) (link ∷ links) over (suc i) =
    let next = others_at lane b.told (map (λ (c : ServedBoard). c.told) boards) i in
    let later = same_positions settings next.0 specs boards links over.1 i in
    (λ e. later.0 (sym next.1 ∙ e), λ e. next.1 ∙ later.1 e)

module _ (settings : Limits) (specs : List BoardSpec) (boards : List ServedBoard) (links : List LinkReport)
    (over : AreServedOver settings specs boards links) where
  one_coded : (e : Exchange) → HasUnaskedCodes specs (states_of boards) e
  one_coded e =
      let state = slice_get (states_of boards) e.frame.board in
      let coded = no_board e.frame.board (control_packet e.frame.packet) state e.got in
      let same = same_positions settings 0 specs boards links over e.frame.board in record {
        bad_packet = bad_packet e.frame.board (control_packet e.frame.packet) state e.got;
        no_board = (
          λ has. ((coded.0 has).0, same.0 (coded.0 has).1),
          λ is. coded.1 (is.0, same.1 is.1),
        );
        silent = not_asked e.frame.board (control_packet e.frame.packet) state Silent unsent_code e.got silent_is;
        down = not_asked e.frame.board (control_packet e.frame.packet) state Down link_lost_code e.got down_is;
      }

  each_coded : (es : List Exchange) → AllByRecursion (HasUnaskedCodes specs (states_of boards)) es
  each_coded [] = tt
  each_coded (e ∷ es) = (one_coded e, each_coded es)

  pub all_coded : (cs : List Conversation) → OfEachFrame (HasUnaskedCodes specs (states_of boards)) cs
  all_coded [] = tt
  all_coded (c ∷ cs) = (each_coded (exchanges_of c), all_coded cs)

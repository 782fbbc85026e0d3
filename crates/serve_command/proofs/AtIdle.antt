-- The frames for a board that is not live.
use Rattle.std.proofs.Common.{◌≡◌, ◌≢◌, ℕ, ◌≤◌, ◌==◌, ◌&&◌, Bool, true, false, if◌then◌else◌}
use Rattle.std.proofs.Common.{List, [], ◌∷◌, Option, Some, None, refl, sym, ap, ◌∙◌, subst, inl, inr, arith}
use Rattle.std.specs.List.{AllByRecursion, cons_option, filter_map, slice_get}
use Rattle.std.proofs.lemmas.Bool.Decides.{eqb_tells}
use Rattle.packet_codec.specs.declared.packet.Order.{Order}
use Rattle.packet_codec.specs.declared.packet.Packet.{Packet}
use Rattle.hub_lane.specs.declared.answers.BoardState.{BoardState}
use Rattle.hub_lane.specs.declared.answers.BoardState.TheVariants.{Silent, Down}
use Rattle.hub_session.specs.declared.got.Got.{Got}
use Rattle.hub_session.specs.declared.got.Got.TheVariants.{NotAsked, Refused, Came}
use Rattle.hub_session.specs.Answers.{control_packet, reply_of_board, reply_of_packet}
use Rattle.hub_session.specs.Codes.{link_lost_code, unsent_code}
use Rattle.hub_session.specs.Exchanges.{Exchange, LaneRequest, request_in, request_to}
use Rattle.serve_command.specs.Answers.{has_code_at}
use Rattle.serve_command.specs.Frames.{place_in, place_on}
use Rattle.serve_command.proofs.OneFrame.{IsAsked, IsAskedFor, far_code}

not_asked : (got : Got) → IsAskedFor None got → got ≡ NotAsked
not_asked NotAsked asked = refl
not_asked (Refused why) asked = absurd asked
not_asked (Came outcome) asked = absurd asked

-- a board that stands so has no lane, and answers each request by a code of its own
pub record IsIdle (standing : BoardState) (own : ℕ) : Type 0 where
  pub none : (body : List ℕ) → request_to body (Some standing) ≡ None
  pub answers : (board id : ℕ) (order : Order) (got : Got)
      → (reply_of_board board order id (Some standing) got).code ≡ own

pub silent_is : IsIdle Silent unsent_code
silent_is = record { none = λ body. refl; answers = λ board id order got. refl }

pub down_is : IsIdle Down link_lost_code
down_is = record { none = λ body. refl; answers = λ board id order got. refl }

module _ (standing : BoardState) (own : ℕ) (idle : IsIdle standing own) where
  no_request : (packet : Option Packet) → request_in packet (Some standing) ≡ None
  no_request None = refl
  no_request (Some packet) = idle.none packet.body

  idle_place : (packet : Option Packet) (got : Got) → IsAskedFor (request_in packet (Some standing)) got
      → place_in got ≡ None
  idle_place packet got asked =
      ap place_in (not_asked got (subst (λ (r : Option LaneRequest). IsAskedFor r got) (no_request packet) asked))

  idle_code : (board code : ℕ) (packet : Option Packet) (got : Got) → code ≤ 3 → code ≢ own
      → ((reply_of_packet board packet (Some standing) got).code == code) ≡ false
  idle_code board code None got near other = far_code true 4 code (omega arith) near
  idle_code board code (Some packet) got near other =
      ap (λ (n : ℕ). n == code) (idle.answers board packet.id packet.order got) ∙ (elim (eqb_tells own code) [
        | inl same ↦ absurd (other (sym same.1))
        | inr apart ↦ apart.0
      ])

  module _ (boards : List BoardState) (position : ℕ) (here : slice_get boards position ≡ Some standing) where
    standing_at : (at : ℕ) → at ≡ position → slice_get boards at ≡ Some standing
    standing_at at same = ap (slice_get boards) same ∙ here

    no_place : (e : Exchange) → IsAsked boards e → place_on position e ≡ None
    no_place e asked = elim (eqb_tells e.frame.board position) [
      | inl same ↦
          ap (λ (b : Bool). if b then place_in e.got else None) same.0
          ∙ idle_place (control_packet e.frame.packet) e.got
          (subst (λ (s : Option BoardState). IsAskedFor (request_in (control_packet e.frame.packet) s) e.got)
          (standing_at e.frame.board same.1) asked)
      | inr apart ↦ ap (λ (b : Bool). if b then place_in e.got else None) apart.0
    ]

    no_code : (code : ℕ) → code ≤ 3 → code ≢ own → (e : Exchange) → has_code_at code position boards e ≡ false
    no_code code near other e = elim (eqb_tells e.frame.board position) [
      | inl same ↦
          ap (λ (b : Bool). b && ((reply_of_packet e.frame.board (control_packet e.frame.packet)
          (slice_get boards e.frame.board) e.got).code == code)) same.0
          ∙ ap (λ (s : Option BoardState). (reply_of_packet e.frame.board (control_packet e.frame.packet) s e.got).code
          == code) (standing_at e.frame.board same.1)
          ∙ idle_code e.frame.board code (control_packet e.frame.packet) e.got near other
      | inr apart ↦
          ap (λ (b : Bool). b && ((reply_of_packet e.frame.board (control_packet e.frame.packet)
          (slice_get boards e.frame.board) e.got).code == code)) apart.0
    ]

    pub no_places : (es : List Exchange) → AllByRecursion (IsAsked boards) es → filter_map (place_on position) es ≡ []
    no_places [] asked = refl
    no_places (e ∷ es) asked =
        ap (λ (p : Option ℕ). cons_option p (filter_map (place_on position) es)) (no_place e asked.0)
        ∙ no_places es asked.1

    pub never_coded : (code : ℕ) → code ≤ 3 → code ≢ own → (Q : Exchange → Type 0) (es : List Exchange)
        → AllByRecursion (λ e. has_code_at code position boards e ≡ true → Q e) es
    never_coded code near other Q [] = tt
    never_coded code near other Q (e ∷ es) = (
      λ coded. let never = sym (no_code code near other e) ∙ coded in absurd cc,
      never_coded code near other Q es,
    )

    pub none_placed : (P : Exchange → Type 0) (es : List Exchange) → AllByRecursion (IsAsked boards) es
        → AllByRecursion (λ e. P e → place_on position e ≡ None) es
    none_placed P [] asked = tt
    none_placed P (e ∷ es) asked = (λ any. no_place e asked.0, none_placed P es asked.1)

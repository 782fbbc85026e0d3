-- What moves the lowest open place on: what the board tells of it, and a reply.
use Rattle.std.proofs.Common.{◌≡◌, ℕ, zero, suc, ◌+◌, ◌-◌, ◌<◌, ◌≤◌, Bool, true, false, cond, ◌==◌, ◌||◌}
use Rattle.std.proofs.Common.{List, [], ◌∷◌, length, map}
use Rattle.std.proofs.Common.{Option, Some, None, refl, sym, ap, ◌∙◌, subst, arith, inl, inr, ◌⊎◌}
use Rattle.std.proofs.Common.{if◌then◌else◌}
use Rattle.std.proofs.lemmas.List.{length-map}
use Rattle.std.proofs.lemmas.Bool.{eqb-true, eq-eqb, lt-ltb, ltb-false, ltb-true}
use Rattle.std.specs.Prelude.{nat_lt}
use Rattle.packet_ids.specs.Identifier.{identifier_at}
use Rattle.world_model.specs.declared.offered.OpenPlace.{OpenPlace}
use Rattle.world_model.specs.Messages.{Reply, StatusReply, ToHub}
use Rattle.world_model.specs.Board.{bodies_executed}
use Rattle.world_model.specs.Hub.{Hub, least, low}
use Rattle.world_model.specs.Hub.{open_with, place_with, places, recover, after_recovery}
use Rattle.world_model.specs.Hub.{settle, take_message, told_place}
use Rattle.world_model.specs.Facts.{IsExecuted, IsWindow, bodies_of, has, offered_body}
use Rattle.world_model.proofs.Lists.{either, front_length}
use Rattle.world_model.proofs.Places.{has_from, least_end, one_place}
use Rattle.links.specs.Telling.{Telling}
use Rattle.hub_lane.specs.UnderWay.{CanRecover, TellsHub}
use Rattle.hub_lane.specs.UnderWay.{WantsMore, count_executed}

-- ---- plain facts

further : (a b : ℕ) → a ≤ b → (a ≡ b → ⊥) → a + 1 ≤ b
further a b le other = omega (arith, le, other)

later_has : (first id place : ℕ) (o : OpenPlace) (os : List OpenPlace) → (identifier_at first o.place == id) ≡ false
    → identifier_at first place ≡ id → has place (places (o ∷ os)) ≡ true → has place (places os) ≡ true
later_has first id place o os other named there =
    elim (o.place == place) as (λ b. (o.place == place) ≡ b → (b || has place (places os)) ≡ true
    → has place (places os) ≡ true) [
      | true ↦ λ same e. let here : identifier_at first o.place ≡ id = ap (identifier_at first) (eqb-true o.place
          place same) ∙ named in
          let found : (identifier_at first o.place == id) ≡ true = eq-eqb (identifier_at first o.place) id here in
          absurd (cc)
      | false ↦ λ _ e. e
    ] refl there

-- ---- a status reply tells the next place

place_found : (first place count id target : ℕ) → place ≤ target → target < place + count
    → identifier_at first target ≡ id
    → ((e : ℕ) → place ≤ e → e < place + count → identifier_at first e ≡ id → e ≡ target)
    → place_with first place count id ≡ Some target
place_found first place zero id target le lt named one = absurd (omega (arith, le, lt))
place_found first place (suc count) id target le lt named one =
    elim (identifier_at first place == id) as (λ b. (identifier_at first place == id) ≡ b
    → cond b (Some place) (place_with first (place + 1) count id) ≡ Some target) [
      | true ↦ λ same. ap (λ (n : ℕ). Some n) (one place (omega arith) (omega arith) (eqb-true (identifier_at first
          place) id same))
      | false ↦ λ other. place_found first (place + 1) count id target
          (further place target le (λ same. let here : identifier_at first place ≡ id = ap (identifier_at first) same
          ∙ named in
          let found : (identifier_at first place == id) ≡ true = eq-eqb (identifier_at first place) id here in absurd
          (cc)))
          (omega (arith, lt)) named (λ e a b. one e (omega (arith, a)) (omega (arith, b)))
    ] refl

-- the lowest open place is no higher than the next place of the board
low_next : (window : ℕ) (all done_bodies : List (List ℕ)) (ps : List ℕ) (sent n : ℕ) → length all ≡ sent
    → length done_bodies ≡ n → IsWindow window sent ps → IsExecuted all done_bodies ps → least ps (sent + 1) ≤ n + 1
low_next window all done_bodies ps sent n all_is done_is is log =
    elim (nat_lt n sent) as (λ b. nat_lt n sent ≡ b → least ps (sent + 1) ≤ n + 1) [
      | true ↦ λ lt. let less = ltb-true n sent lt in
          has_from (n + 1) (least ps (sent + 1)) (sent + 1) ps is.rising (log.unheard (n + 1) (omega (arith, done_is))
          (omega (arith, less, all_is)))
      | false ↦ λ ge. let more = ltb-false n sent ge in let end = least_end (least ps (sent + 1)) (sent + 1) ps
          is.rising in omega (arith, more, end)
    ] refl

recovers : (executed : ℕ) (o : OpenPlace) (os : List OpenPlace) → 1 ≤ o.place → o.place ≤ executed + 1
    → WantsMore executed (map (recover (executed + 1)) (o ∷ os))
recovers executed o os one le =
    either (λ (x : OpenPlace). WantsMore executed (x ∷ map (recover (executed + 1)) os)) (nat_lt o.place (executed +
    1)) (record o { resend = true }) (record o { control = true })
    (λ lt. let less = ltb-true o.place (executed + 1) lt in inl (refl, one, omega (arith, less)))
    (λ ge. let more = ltb-false o.place (executed + 1) ge in inr (inl (refl, omega (arith, more, le))))

recover_all : (executed : ℕ) (os : List OpenPlace) → 1 ≤ length os → 1 ≤ least (places os) 0
    → least (places os) 0 ≤ executed + 1 → WantsMore executed (map (recover (executed + 1)) os)
recover_all executed [] some one le = absurd (omega (arith, some))
recover_all executed (o ∷ os) some one le = recovers executed o os one le

least_some : (os : List OpenPlace) (a b : ℕ) → 1 ≤ length os → least (places os) a ≡ least (places os) b
least_some [] a b some = absurd (omega (arith, some))
least_some (o ∷ os) a b some = refl

-- a reply of an open place is taken
open_found : (first id place : ℕ) (os : List OpenPlace) → has place (places os) ≡ true
    → identifier_at first place ≡ id → (o : OpenPlace) × (open_with first id os ≡ Some o)
open_found first id place [] there named = absurd (cc)
open_found first id place (o ∷ os) there named =
    elim (identifier_at first o.place == id) as (λ b. (identifier_at first o.place == id) ≡ b
    → (x : OpenPlace) × (cond b (Some o) (open_with first id os) ≡ Some x)) [
      | true ↦ λ same. (o, refl)
      | false ↦ λ other. open_found first id place os (later_has first id place o os other named there) named
    ] refl

settled : (hub : Hub) (words : List ℕ) (r : Option OpenPlace) (o : OpenPlace) → r ≡ Some o
    → (settle hub words r).status_requests ≡ 0
settled hub words None o e = absurd (cc)
settled hub words (Some x) o e = refl

-- ---- what a hub hears

abbrev pub GoesOn : ℕ → Hub → Type 0
GoesOn bodies_executed hub = (hub.status_requests ≡ 0) ⊎ WantsMore bodies_executed hub.open_places

pub useful_taken : (hub : Hub) (t : Telling) (m : Option ToHub) → CanRecover hub t → 1 ≤ hub.status_requests
    → 1 ≤ length hub.open_places → TellsHub hub.first (places hub.open_places) t.told.board m
    → GoesOn (count_executed t.told.board) (take_message hub m)
useful_taken hub t None can asked some tells = absurd tells
useful_taken hub t (Some (Reply id words)) can asked some tells =
    let found = open_found hub.first id tells.0 hub.open_places tells.1 (sym tells.2) in
    inl (settled hub words (open_with hub.first id hub.open_places) found.0 found.1)
useful_taken hub t (Some (StatusReply mtu buffers next)) can asked some tells =
    let sound = can.joined.sound in
    let n = count_executed t.told.board in
    let window = sound.hub in
    let all_is = length-map hub.sent offered_body in
    let done_is = length-map t.told.board.log (λ (e : _). e.body) in
    let front = front_length (bodies_executed t.told.board) (bodies_of hub.sent) sound.log.front in
    let few = window.few in
    let within = window.within in
    let from_one = window.from_one in
    let lowest = low_next hub.window (bodies_of hub.sent) (bodies_executed t.told.board) (places hub.open_places) (length
    hub.sent) n all_is done_is window sound.log in
    let next_le : n ≤ length hub.sent = omega (arith, front, all_is, done_is) in
    let told : told_place hub next ≡ Some (n + 1) =
    place_found hub.first (low hub) (length hub.sent + 2 - low hub) next (n + 1) lowest (omega (
      arith,
      lowest,
      next_le,
    )) (sym tells)
    (λ e a b same. one_place hub.first e (n + 1) sound.node.identifier (omega (arith, from_one, a)) (omega arith)
    (omega (arith, b, within, few, lowest)) (omega (arith, a, within, few, next_le)) (same ∙ tells)) in
    let more : nat_lt 0 hub.status_requests ≡ true = lt-ltb 0 hub.status_requests asked in
    let heard : take_message hub (Some (StatusReply mtu buffers next)) ≡ after_recovery hub (Some (n + 1)) =
    ap (λ (b : Bool). if b then after_recovery hub (told_place hub next) else hub) more ∙ ap (after_recovery hub) told in
    let least_is = least_some hub.open_places (length hub.sent + 1) 0 some in
    subst (GoesOn n) (sym heard) (inr (recover_all n hub.open_places some (omega (arith, least_is, from_one)) (omega
    (arith, least_is, lowest))))

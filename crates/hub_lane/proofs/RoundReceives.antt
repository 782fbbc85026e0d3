-- One receive in a round: what is under way stays so, is handed out, or datagrams are held.
use Rattle.std.proofs.Common.{◌≡◌, ℕ, zero, suc, ◌≤◌, true, false, ◌==◌, List, [], ◌∷◌, ◌++◌}
use Rattle.std.proofs.Common.{length, Option, Some}
use Rattle.std.proofs.Common.{refl, sym, ap, ◌∙◌, subst, arith, inl, inr, ◌⊎◌, length-append}
use Rattle.std.proofs.lemmas.List.{length-map}
use Rattle.std.proofs.lemmas.Bool.{eqb-true, eqb-false}
use Rattle.std.specs.List.{Contains, slice_get}
use Rattle.ipb_base.specs.Faults.{Rose}
use Rattle.world_model.specs.declared.datagram.Datagram.{Datagram}
use Rattle.world_model.specs.declared.datagram.Direction.{Direction}
use Rattle.world_model.specs.declared.datagram.Direction.TheVariants as goes
use Rattle.world_model.specs.Messages.{to_board, to_hub}
use Rattle.world_model.specs.Board.{Board, hear}
use Rattle.world_model.specs.Hub.{Hub, places}
use Rattle.world_model.specs.World.{air_after_answer}
use Rattle.world_model.specs.Facts.{IsWindow, bodies_of, offered_body}
use Rattle.world_model.specs.Links.{IsHeard, IsJoined, Told, first_sends, heard_on, hears_all, then_told}
use Rattle.world_model.proofs.Lists.{get_front, get_seam, get_within}
use Rattle.links.specs.Telling.{IsReceived, Telling}
use Rattle.hub_lane.specs.RecoveryBelow.{RecoveryLaws}
use Rattle.hub_lane.specs.UnderWay.{IsUnderWay, IsUseful, IsUsefulAt, AsksBoard, TellsHub}
use Rattle.hub_lane.specs.UnderWay.{WantsMore, count_executed}
use Rattle.hub_lane.proofs.RoundHeard.{GoesThere, HeardFirst, contains_get, front_goes, heard_first, heard_goes}
use Rattle.hub_lane.proofs.RoundHeard.{one_way}
use Rattle.hub_lane.proofs.RoundHearing.{Hears, IsPlaced, StaysAs, board_hears}

-- a hub and a link that are joined, whose board has buffers enough
pub record IsSetUp (hub : Hub) (t : Told) : Type 0 where
  pub joined : IsJoined hub t
  pub most : hub.window ≤ t.board.buffers

placed : (hub : Hub) (t : Told) → IsSetUp hub t
    → IsPlaced hub.first hub.window (bodies_of hub.sent) (places hub.open_places) t.board
placed hub t is =
    let sound = is.joined.sound in
    record {
      node = sound.node;
      log = sound.log;
      most = is.most;
      hub = subst (λ (n : ℕ). IsWindow hub.window n (places hub.open_places)) (sym (length-map hub.sent offered_body))
          sound.hub;
    }

-- new since the air was so long: a useful datagram for the hub
pub record IsNew (hub : Hub) (from : ℕ) (u : Told) : Type 0 where
  pub place : ℕ
  pub late : from ≤ place
  pub at : IsUsefulAt hub.first (places hub.open_places) u.board u.air place
  pub to_hub : GoesThere goes.ToHub u.air place

new_answer : (hub : Hub) (t u : Told) (bytes : List ℕ) (answer : Option (List ℕ))
    → u.air ≡ t.air ++ air_after_answer (first_sends t) answer → answer ≡ Some bytes
    → TellsHub hub.first (places hub.open_places) u.board (to_hub bytes) → IsNew hub (length t.air) u
new_answer hub t u bytes answer air e tells =
    let d : Datagram = record { direction = goes.ToHub; bytes = bytes; birth = first_sends t } in
    let there : slice_get u.air (length t.air) ≡ Some d =
    ap (λ (l : List Datagram). slice_get l (length t.air)) (air ∙ ap (λ (a : Option (List ℕ)). t.air ++ air_after_answer
    (first_sends t) a) e) ∙ get_seam t.air [] d in
    record {
      place = length t.air;
      late = omega arith;
      at = record { d = d; there = there; useful = tells };
      to_hub = record { d = d; there = there; direction = refl };
    }

module _ (below : RecoveryLaws) where
  -- one datagram is heard
  heard_one : (t u : Told) (k : ℕ) (ks : List ℕ) (h : HeardFirst t u k ks) → IsHeard t (heard_on t h.d.bytes)
  heard_one t u k ks h = record {
    places = k ∷ [];
    heard = ap (λ (r : Option Told). then_told r (λ after. Some after))
        h.here;
  }

  set_up_on : (hub : Hub) (t v : Told) → IsSetUp hub t → IsHeard t v → IsSetUp hub v
  set_up_on hub t v is heard = record {
    joined = below.heard hub t v is.joined heard;
    most = subst (λ (n : ℕ). hub.window ≤ n) (sym (ap (λ (b : Board). b.buffers) (below.board t v heard))) is.most;
  }

  hears_one : (hub : Hub) (t u : Told) (k : ℕ) (ks : List ℕ) (h : HeardFirst t u k ks) → IsSetUp hub t
      → Hears hub.first (places hub.open_places) t.board (to_board h.d.bytes) (hear t.board h.d.bytes)
  hears_one hub t u k ks h is =
      board_hears below hub.first hub.window (bodies_of hub.sent) (places hub.open_places) t.board h.d.bytes (to_board
      h.d.bytes) refl (placed hub t is)
      (placed hub (heard_on t h.d.bytes) (set_up_on hub t (heard_on t h.d.bytes) is (heard_one t u k ks h)))

  -- what was useful is so still, or something new is
  abbrev pub OneOn : Hub → Told → Told → ℕ → ℕ → Type 0
  OneOn hub t v k w = (IsUsefulAt hub.first (places hub.open_places) v.board v.air w × (k ≡ w
      → ⊥)) ⊎ IsNew hub (length t.air) v

  stays_at : (hub : Hub) (t u : Told) (k w : ℕ) (ks : List ℕ) (h : HeardFirst t u k ks) → IsSetUp hub t
      → StaysAs hub.first (places hub.open_places) t.board (to_board h.d.bytes) (hear t.board h.d.bytes)
      → IsUsefulAt hub.first (places hub.open_places) t.board t.air w → OneOn hub t (heard_on t h.d.bytes) k w
  stays_at hub t u k w ks h is stays at =
      let first = hub.first in
      let ps = places hub.open_places in
      let v = heard_on t h.d.bytes in
      let grown = below.air t v (heard_one t u k ks h) in
      elim (k == w) as (λ b. (k == w) ≡ b → OneOn hub t v k w) [
        | true ↦ λ same.
            let k_is : k ≡ w = eqb-true k w same in
            let both : Some h.d ≡ Some at.d = sym h.there ∙ (ap (slice_get t.air) k_is ∙ at.there) in
            let d_is : at.d ≡ h.d = cc in
            let asks : AsksBoard first ps t.board (to_board h.d.bytes) =
            subst (λ (way : Direction). IsUseful first ps t.board way h.d.bytes) h.to_board (subst (λ (d : Datagram).
            IsUseful first ps t.board d.direction d.bytes) d_is at.useful) in
            let tells = stays.answers asks in
            inr (new_answer hub t v tells.bytes (hear t.board h.d.bytes).answer refl tells.answer (subst (λ (b :
            Board). TellsHub first ps b (to_hub tells.bytes)) (sym stays.same) tells.tells))
        | false ↦ λ other. inl (
          record {
            d = at.d;
            there = ap (λ (l : List Datagram). slice_get l w) grown.1 ∙ get_front t.air grown.0 w at.d at.there;
            useful = subst (λ (b : Board). IsUseful first ps b at.d.direction at.d.bytes) (sym stays.same) at.useful;
          },
          eqb-false k w other,
        )
      ] refl

  one_on : (hub : Hub) (t u : Told) (k w : ℕ) (ks : List ℕ) (h : HeardFirst t u k ks) → IsSetUp hub t
      → IsUsefulAt hub.first (places hub.open_places) t.board t.air w
      → OneOn hub t (heard_on t h.d.bytes) k w
  one_on hub t u k w ks h is at = elim (hears_one hub t u k ks h is) [
    | inl grows ↦ inr (new_answer hub t (heard_on t h.d.bytes) grows.bytes (hear t.board h.d.bytes).answer refl
        grows.answer grows.tells)
    | inr stays ↦ stays_at hub t u k w ks h is stays at
  ]

  -- ---- all that is heard in one receive

  abbrev pub NotAmong : List ℕ → ℕ → Type 0
  NotAmong ks w = (j : ℕ) → slice_get ks j ≡ Some w → ⊥

  pub record IsLeft (hub : Hub) (u : Told) (ks : List ℕ) (w : ℕ) : Type 0 where
    pub at : IsUsefulAt hub.first (places hub.open_places) u.board u.air w
    pub unheard : NotAmong ks w

  none_of : (k : ℕ) (ks : List ℕ) (w : ℕ) → (k ≡ w → ⊥) → NotAmong ks w → NotAmong (k ∷ ks) w
  none_of k ks w other is zero e = other (cc)
  none_of k ks w other is (suc j) e = is j e

  later_new : (hub : Hub) (a b : ℕ) (u : Told) → a ≤ b → IsNew hub b u → IsNew hub a u
  later_new hub a b u le is = record {
    place = is.place;
    late = (let l = is.late in omega (arith, l, le));
    at = is.at;
    to_hub = is.to_hub;
  }

  longer_air : (t v : Told) → IsHeard t v → length t.air ≤ length v.air
  longer_air t v heard = let grown = below.air t v heard in let e = ap length grown.1 ∙ length-append t.air grown.0 in
      omega (arith, e)

  rest_heard : (v u : Told) (ks : List ℕ) → hears_all v ks ≡ Some u → IsHeard v u
  rest_heard v u ks e = record { places = ks; heard = e }

  pub all_on : (hub : Hub) (t u : Told) (ks : List ℕ) (w : ℕ) → IsSetUp hub t → hears_all t ks ≡ Some u
      → IsUsefulAt hub.first (places hub.open_places) t.board t.air w
      → IsLeft hub u ks w ⊎ IsNew hub (length t.air) u
  all_on hub t u [] w is e at =
      let same : Some t ≡ Some u = e in
      let t_is : t ≡ u = cc in
      inl (record {
        at = subst (λ (x : Told). IsUsefulAt hub.first (places hub.open_places) x.board x.air w) t_is at;
        unheard = λ j e. absurd (cc);
      })
  all_on hub t u (k ∷ ks) w is e at =
      let h = heard_first t u k ks e in
      let v = heard_on t h.d.bytes in
      let heard = heard_one t u k ks h in
      let set_up = set_up_on hub t v is heard in
      let longer = longer_air t v heard in
      elim (one_on hub t u k w ks h is at) [
        | inl same ↦ elim (all_on hub v u ks w set_up h.later same.0) [
          | inl left ↦ inl (record { at = left.at; unheard = none_of k ks w same.1 left.unheard })
          | inr new ↦ inr (later_new hub (length t.air) (length v.air) u longer new)
        ]
        | inr new ↦ elim (all_on hub v u ks new.place set_up h.later new.at) [
          | inl left ↦ inr (record {
            place = new.place;
            late = new.late;
            at = left.at;
            to_hub = front_goes goes.ToHub
                v.air u.air new.place (below.air v u (rest_heard v u ks h.later)) new.to_hub;
          })
          | inr newer ↦ inr (later_new hub (length t.air) (length v.air) u longer newer)
        ]
      ]

  -- the board executed nothing, or its last reply is useful
  pub none_or_new : (hub : Hub) (t u : Told) (ks : List ℕ) → IsSetUp hub t → hears_all t ks ≡ Some u
      → (count_executed u.board ≡ count_executed t.board) ⊎ IsNew hub (length t.air) u
  none_or_new hub t u [] is e = let same : Some t ≡ Some u = e in let t_is : t ≡ u = cc in inl (ap (λ (x : Told). count_executed
      x.board) (sym t_is))
  none_or_new hub t u (k ∷ ks) is e =
      let h = heard_first t u k ks e in
      let v = heard_on t h.d.bytes in
      let heard = heard_one t u k ks h in
      let set_up = set_up_on hub t v is heard in
      let longer = longer_air t v heard in
      elim (hears_one hub t u k ks h is) [
        | inl grows ↦
            let new = new_answer hub t v grows.bytes (hear t.board h.d.bytes).answer refl grows.answer grows.tells in
            elim (all_on hub v u ks new.place set_up h.later new.at) [
              | inl left ↦ inr (record {
                place = new.place;
                late = new.late;
                at = left.at;
                to_hub = front_goes
                    goes.ToHub v.air u.air new.place (below.air v u (rest_heard v u ks h.later)) new.to_hub;
              })
              | inr newer ↦ inr (later_new hub (length t.air) (length v.air) u longer newer)
            ]
        | inr stays ↦ elim (none_or_new hub v u ks set_up h.later) [
          | inl same ↦ inl (same ∙ ap count_executed stays.same)
          | inr new ↦ inr (later_new hub (length t.air) (length v.air) u longer new)
        ]
      ]

  -- ---- one receive

  -- what was handed out is useful
  pub record IsHandedUseful (hub : Hub) (by_hub : List ℕ) (t : Telling) : Type 0 where
    pub place : ℕ
    pub handed : Contains by_hub place
    pub at : IsUsefulAt hub.first (places hub.open_places) t.told.board t.told.air place

  abbrev pub Received : Hub → List ℕ → ℕ → ℕ → Telling → Type 0
  Received hub by_hub before now new = Rose before now ⊎ IsUnderWay hub new ⊎ IsHandedUseful hub by_hub new

  due_on : (hub : Hub) (place : ℕ) (new : Telling) → Contains new.due place
      → IsUsefulAt hub.first (places hub.open_places) new.told.board new.told.air place → IsUnderWay hub new
  due_on hub place new due at = inr (inr (record { place = place; due = due; at = at }))

  new_received : (hub : Hub) (by_hub : List ℕ) (before now : ℕ) (old new : Telling)
      → IsReceived by_hub before now old new → IsNew hub (length old.told.air) new.told
      → Received hub by_hub before now new
  new_received hub by_hub before now old new is n =
      elim (is.joins n.place n.late (get_within new.told.air n.place n.to_hub.d n.to_hub.there)) [
        | inl due ↦ inr (inl (due_on hub n.place new due n.at))
        | inr rest ↦ elim rest [
          | inl heard ↦ absurd (one_way new.told.air n.place
              (heard_goes below.air old.told new.told is.by_board.places n.place heard.0 is.by_board.heard
              (contains_get is.by_board.places n.place heard)) n.to_hub)
          | inr rest ↦ elim rest [
            | inl handed ↦ inr (inr (record { place = n.place; handed = handed; at = n.at }))
            | inr rose ↦ inl rose
          ]
        ]
      ]

  left_received : (hub : Hub) (by_hub : List ℕ) (before now : ℕ) (old new : Telling) (w : ℕ)
      → Contains old.due w → (ks : List ℕ) → NotAmong ks w
      → IsUsefulAt hub.first (places hub.open_places) new.told.board new.told.air w
      → (is : IsReceived by_hub before now old new) → is.by_board.places ≡ ks → Received hub by_hub before now new
  left_received hub by_hub before now old new w due ks unheard at is e =
      elim (is.stays w due) [
        | inl due ↦ inr (inl (due_on hub w new due at))
        | inr rest ↦ elim rest [
          | inl heard ↦ absurd (unheard heard.0 (ap (λ (l : List ℕ). slice_get l heard.0) (sym e) ∙ contains_get
              is.by_board.places w heard))
          | inr rest ↦ elim rest [
            | inl handed ↦ inr (inr (record { place = w; handed = handed; at = at }))
            | inr rose ↦ inl rose
          ]
        ]
      ]

  pub received : (hub : Hub) (by_hub : List ℕ) (before now : ℕ) (old new : Telling) → IsSetUp hub old.told
      → IsUnderWay hub old → IsReceived by_hub before now old new → Received hub by_hub before now new
  received hub by_hub before now old new set_up way is = elim way [
    | inl wanted ↦ inr (inl (inl wanted))
    | inr rest ↦ elim rest [
      | inl wants ↦ elim (none_or_new hub old.told new.told is.by_board.places set_up is.by_board.heard) [
        | inl same ↦ inr (inl (inr (inl (subst (λ (n : ℕ). WantsMore n hub.open_places) (sym same) wants))))
        | inr n ↦ new_received hub by_hub before now old new is n
      ]
      | inr due ↦ elim (all_on hub old.told new.told is.by_board.places due.place set_up is.by_board.heard due.at) [
        | inl left ↦ left_received hub by_hub before now old new due.place due.due is.by_board.places left.unheard
            left.at is refl
        | inr n ↦ new_received hub by_hub before now old new is n
      ]
    ]
  ]

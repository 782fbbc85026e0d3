-- What an ask puts into the air.
use Rattle.std.proofs.Common.{◌≡◌, ◌∙◌, ℕ, ◌||◌, Bool, true, false, List, Option, Some, None, refl, sym, ap, subst}
use Rattle.std.proofs.Common.{if◌then◌else◌}
use Rattle.world_model.specs.Hub.{Hub}
use Rattle.links.specs.Telling.{IfTelling, Telling}
use Rattle.lane_record.specs.Items.{told_by_first, plan_in}
use Rattle.hub_lane.specs.declared.answers.Asked.TheVariants as asks
use Rattle.hub_lane.specs.Calls.{Asking, Offers, SendsAs, asked_in_vain, has_stopped, with_offer}
use Rattle.hub_lane.specs.Carrying.{HasPut}
use Rattle.hub_lane.specs.Lanes.{LaneState, board_of}
use Rattle.hub_lane.proofs.InRounds.{sends_up}

-- what holds under a condition, of a link that tells before and after
told_if : (A : Type 0) (R S : Telling → Telling → Type 0) (old new : Option Telling) → board_of new ≡ board_of old
    → (A → IfTelling old new R) → (A → (t u : Telling) → R t u → S t u) → IfTelling old new (λ t u. A → S t u)
told_if A R S None None same holds leads = tt
told_if A R S None (Some u) same holds leads = absurd cc
told_if A R S (Some t) None same holds leads = absurd cc
told_if A R S (Some t) (Some u) same holds leads = λ a. leads a t u (holds a)

-- the hub after an offer, where the lane has not stopped
hub_offered : {L : Type 0} (old mid : LaneState L) (client seq : ℕ) (body : List ℕ) (down : Bool) → down ≡ old.down
    → mid ≡ (if down then asked_in_vain old client seq else with_offer old client seq body)
    → (mid.down || mid.spent) ≡ false → mid.hub ≡ (with_offer old client seq body).hub
hub_offered {L} old mid client seq body true is became up = absurd (
    let down : mid.down ≡ true = ap (λ (l : LaneState L). l.down) became ∙ sym is in
    let bad : true ≡ false = sym (ap (λ (b : Bool). b || mid.spent) down) ∙ up in cc)
hub_offered {L} old mid client seq body false is became up = ap (λ (l : LaneState L). l.hub) became

pub asked_put : {L : Type 0} (telling : L → Option Telling) (old mid new : LaneState L) (client seq : ℕ)
    → Offers old client seq mid → SendsAs mid new → mid.link ≡ old.link
    → board_of (telling new.link) ≡ board_of (telling old.link)
    → (has_stopped new ≡ false → IfTelling (telling mid.link) (telling new.link) (HasPut mid.hub new.hub))
    → IfTelling (telling old.link) (telling new.link) (Asking old client new (asks.Asked seq))
asked_put {L} telling old mid new client seq offers sends same_link same put =
    told_if (has_stopped new ≡ false) (HasPut mid.hub new.hub)
    (λ t u. (body : List ℕ) → told_by_first plan_in client seq old.items ≡ Some body
    → HasPut (with_offer old client seq body).hub new.hub t u) (telling old.link) (telling new.link) same
    (λ up. subst (λ (link : L). IfTelling (telling link) (telling new.link) (HasPut mid.hub new.hub)) same_link (put up))
    (λ up t u is body there.
    let both : Some offers.body ≡ Some body = sym offers.next.planned_there ∙ there in
    let one : offers.body ≡ body = cc in
    subst (λ (hub : Hub). HasPut hub new.hub t u)
    (hub_offered old mid client seq offers.body old.down refl offers.became (sends_up mid new sends up)
    ∙ ap (λ (b : List ℕ). (with_offer old client seq b).hub) one) is)

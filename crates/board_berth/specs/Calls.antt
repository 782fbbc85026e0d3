-- What each call does to a berth. Profile.
use Rattle.std.specs.Prelude.{◌≡◌, ℕ, ◌^◌, ◌≤◌, List, [], ◌∷◌, ◌++◌, length, Option}
use Rattle.std.specs.List.{AllByRecursion}
use Rattle.ipb_base.specs.Numbers.{payload_of}
use Rattle.links.specs.Telling.{IfTelling, Telling}
use Rattle.links.specs.declared.link.Link.{Ghosts}
use Rattle.world_model.specs.Settings.{Limits}
use Rattle.lane_record.specs.declared.item.Item.{Item}
use Rattle.lane_tables.specs.Taken.{IsAllTaken}
use Rattle.hub_lane.specs.Calls.{AsksAs}
use Rattle.hub_lane.specs.Greeting.{StaysFresh}
use Rattle.hub_lane.specs.Lanes.{LaneState, opening_of}
use Rattle.hub_lane.specs.Plans.{IsRefused}
use Rattle.hub_lane.specs.declared.answers.Asked.TheVariants as asks
use Rattle.board_berth.specs.declared.answers.BerthRefusal.{BerthRefusal}
use Rattle.board_berth.specs.declared.answers.BerthRefusal.TheVariants as refuses
use Rattle.board_berth.specs.declared.answers.Begun.{Begun}
use Rattle.board_berth.specs.declared.answers.NotBegun.{NotBegun}
use Rattle.board_berth.specs.declared.answers.NotBegun.TheVariants.{Busy, Full, NoLink, NoMemory}
use Rattle.board_berth.specs.declared.greeting.Greeting.{Greeting}
use Rattle.board_berth.specs.declared.greeting.Greeting.TheVariants.{Answered, Silent, Down}
use Rattle.board_berth.specs.Berths.{BerthState, berth_record}
use Rattle.board_berth.specs.Greetings.{IsAnsweredBy, IsNew, IsOver, IsSameGreeting, came_to, link_in}

-- ---- calls on the lane of the present greeting

-- The call did this to the lane. Where the board did not answer nothing changed, and so much holds.
abbrev pub OnLane : {L : Type 0} → (LaneState L → LaneState L → Type 0) → Type 0 → Greeting L → Greeting L → Type 0
OnLane does none (Answered by lane) new = IsAnsweredBy by (does lane) new
OnLane does none (Silent link) new = (new ≡ Silent link) × none
OnLane does none (Down link) new = (new ≡ Down link) × none

-- the same of a berth, of which all else is as before
pub record Calls {L : Type 0} (does : LaneState L → LaneState L → Type 0) (none : Type 0) (old new : BerthState L)
    : Type 0 where
  pub same_settings : new.settings ≡ old.settings
  pub same_number : new.number ≡ old.number
  pub same_past : new.past ≡ old.past
  pub on_lane : OnLane does none old.present new.present

-- the call only goes to a lane
abbrev pub CallsLane : {L : Type 0} → (LaneState L → LaneState L → Type 0) → BerthState L → BerthState L → Type 0
CallsLane does old new = Calls does ⊥ old new

-- the lane is as it was but for entries of this client, which stand behind the others
pub record LaneGrows {L : Type 0} (tells : L → Option Telling) (client : ℕ) (old new : LaneState L) : Type 0 where
  pub settings : new.settings ≡ old.settings
  pub status : new.status ≡ old.status
  pub number : new.number ≡ old.number
  pub opening : opening_of (tells new.link) ≡ opening_of (tells old.link)
  pub added : List Item
  pub items : new.items ≡ old.items ++ added
  pub makers : AllByRecursion (λ (x : Item). x.client ≡ client) added

-- the client's next planned body was asked in the present greeting
pub record IsAskedIn {L : Type 0} (old : BerthState L) (client : ℕ) (new : BerthState L) : Type 0 where
  pub seq : ℕ
  pub as_next : Calls (λ lane after. AsksAs lane client after (asks.Asked seq)) (asks.Asked seq ≡ asks.Nothing) old new

-- Why a body is refused where the board answered, and where it may have or not.
abbrev pub IsRefusedBy : {L : Type 0} → LaneState L → List ℕ → BerthRefusal → Type 0
IsRefusedBy lane body refuses.Silent = ⊥
IsRefusedBy lane body refuses.Down = ⊥
IsRefusedBy lane body refuses.Later = ¬ IsAllTaken lane.items
IsRefusedBy lane body (refuses.ByLane why) = IsRefused lane.items (payload_of lane.status.mtu) body why

abbrev pub IsRefusedAt : {L : Type 0} → Greeting L → List ℕ → BerthRefusal → Type 0
IsRefusedAt (Answered by lane) body why = IsRefusedBy lane body why
IsRefusedAt (Silent link) body why = why ≡ refuses.Silent
IsRefusedAt (Down link) body why = why ≡ refuses.Down

-- ---- the first greeting

-- A board was greeted over an unused link, for nobody.
pub record Opens {L : Type 0} (seen : Ghosts L) (settings : Limits) (link : L) (berth : BerthState L) : Type 0 where
  pub settings' : berth.settings ≡ settings
  pub number' : berth.number ≡ seen.number link
  pub none_past : berth.past ≡ []
  pub new : IsNew seen settings (seen.number link) 0 berth.present
  pub fresh : IfTelling (seen.telling link) (seen.telling (link_in berth.present)) (StaysFresh settings)

-- ---- a new greeting

-- nothing that contracts see changed
pub record IsSameBerth {L : Type 0} (seen : Ghosts L) (old new : BerthState L) : Type 0 where
  pub same_settings : new.settings ≡ old.settings
  pub same_number : new.number ≡ old.number
  pub same_past : new.past ≡ old.past
  pub same_present : IsSameGreeting seen old.present new.present

-- The greeting that stood there, of which nothing was open, is the last past one; a new one of this client stands there.
pub record Follows {L : Type 0} (seen : Ghosts L) (old : BerthState L) (client : ℕ) (new : BerthState L) (begun : Begun)
    : Type 0 where
  pub same_settings : new.settings ≡ old.settings
  pub same_number : new.number ≡ old.number
  pub over : IsOver old.present
  pub past : new.past ≡ old.past ++ old.present ∷ []
  pub begun_is : begun ≡ came_to new.present
  pub present : IsNew seen old.settings old.number client new.present

-- A board was greeted anew for this client, over another link, of which the link before was asked.
pub record Begins {L : Type 0} (seen : Ghosts L) (old : BerthState L) (client : ℕ) (new : BerthState L) (begun : Begun)
    : Type 0 where
  pub asked : BerthState L
  pub same : IsSameBerth seen old asked
  pub follows : Follows seen asked client new begun

-- why no new greeting stands; want of memory, and of a link, may come at any time
abbrev pub IsNotBegun : {L : Type 0} → (L → Option Telling) → BerthState L → NotBegun → Type 0
IsNotBegun tells berth Busy = ¬ IsOver berth.present
IsNotBegun tells berth Full = 2 ^ 62 ≤ length (berth_record tells berth).entries
IsNotBegun tells berth NoLink = Unit {0}
IsNotBegun tells berth NoMemory = Unit {0}

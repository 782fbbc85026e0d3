-- Lemmas on the rounds of a greeting: what a receive, a round and all rounds leave of their link.
use Rattle.std.proofs.Common.{◌≡◌, ℕ, ◌+◌, ◌*◌, ◌^◌, ◌<◌, ◌≤◌, Option, Some, None}
use Rattle.std.proofs.Common.{refl, sym, ap, ◌∙◌, subst, arith}
use Rattle.std.specs.Prelude.{Result, Ok, Err, IfSome, OnErr}
use Rattle.ipb_base.specs.Faults.{Rose}
use Rattle.status_packet.specs.declared.status.Status.{Status}
use Rattle.world_model.specs.Settings.{Limits}
use Rattle.links.specs.declared.link.Link.{Ghosts}
use Rattle.links.specs.Receives.{first_status, receives_in}
use Rattle.links.specs.Telling.{IfTelling, Telling}
use Rattle.hub_lane.specs.Heard.{EndWith}
use Rattle.hub_lane.specs.declared.greeting.Answer.{Answer}
use Rattle.hub_lane.specs.declared.greeting.Answer.TheVariants as answer
use Rattle.hub_lane.specs.Greeting.{CanBegin, CountsAnswer, CountsNoAnswer, CountsRound}
use Rattle.hub_lane.specs.Greeting.{EndsRound, EndsRoundWith, HandedOutNone, HasAskedNothing}
use Rattle.hub_lane.specs.Greeting.{IfNothing, IsExpecting, IsHeardFrom}
use Rattle.hub_lane.specs.Greeting.{StaysFresh, gots_of_answer, quiets_of_answer, requests_in, status_in}
use Rattle.hub_lane.specs.Run.{PassesAnswer}
use Rattle.hub_lane.proofs.GreetingPasses.{PassesOthers, no_others, one_other}
use Rattle.hub_lane.proofs.Greetings.{fresh_begins, on_telling}
use Rattle.hub_lane.proofs.Requests.{if_both}

-- what two calls do, one after the other
pub both_calls : (R S T : Telling → Telling → Type 0) (a b c : Option Telling)
    → ((s t u : Telling) → R s t → S t u → T s u) → IfTelling a b R → IfTelling b c S → IfTelling a c T
both_calls R S T None None None leads is js = tt
both_calls R S T None None (Some u) leads is js = absurd js
both_calls R S T None (Some t) c leads is js = absurd is
both_calls R S T (Some s) None c leads is js = absurd is
both_calls R S T (Some s) (Some t) None leads is js = js
both_calls R S T (Some s) (Some t) (Some u) leads is js = leads s t u is js

-- ---- a receive of a round

abbrev pub IsSameTelling : Telling → Telling → Type 0
IsSameTelling old new = new ≡ old

-- other datagrams came so far: over a link that tells there was none
pub record IsListening {L : Type 0} (seen : Ghosts L) (other : ℕ) (old now : L) : Type 0 where
  pub same : IfTelling (seen.telling old) (seen.telling now) IsSameTelling
  pub first : IfSome (seen.telling old) (λ _. (other ≡ 0) × (seen.held now ≡ seen.held old))
  pub quiet : seen.quiets now ≡ seen.quiets old
  pub got : seen.gots now ≡ seen.gots old + other
  pub untold : first_status (receives_in (seen.traffic now)) ≡ None
  pub passed : PassesOthers other (seen.traffic old) (seen.traffic now)
  pub number : seen.number now ≡ seen.number old
  pub fault : seen.faults old ≤ seen.faults now
  pub hold : seen.held old ≤ seen.held now

pub same_first : (a : Option Telling) → IfTelling a a IsSameTelling
same_first None = tt
same_first (Some t) = refl

none_first : (held : ℕ) (a : Option Telling) → IfSome a (λ _. ◌≡◌ {A = ℕ} 0 0 × (held ≡ held))
none_first held None = tt
none_first held (Some t) = (refl, refl)

pub listening_first : {L : Type 0} {seen : Ghosts L} {link : L} → first_status (receives_in (seen.traffic link)) ≡ None
    → IsListening seen 0 link link
listening_first {seen} {link} untold = record {
  same = same_first (seen.telling link);
  first = none_first (seen.held link) (seen.telling link);
  quiet = refl;
  got = omega arith;
  untold = untold;
  passed = no_others (seen.traffic link);
  number = refl;
  fault = omega arith;
  hold = omega arith;
}

-- what a receive does is done in the round, since nothing was told before it
pub same_then : (R : Telling → Telling → Type 0) (a b c : Option Telling) → IfTelling a b IsSameTelling
    → IfTelling b c R → IfTelling a c R
same_then R a b c same is =
    both_calls IsSameTelling R R a b c (λ s t u e r. subst (λ (x : Telling). R x u) e r) same is

pub same_fresh : (settings : Limits) (a b : Option Telling) → IfSome a (CanBegin settings)
    → IfTelling a b IsSameTelling → IfTelling a b (StaysFresh settings)
same_fresh settings a b begins same =
    on_telling (CanBegin settings) IsSameTelling (StaysFresh settings) a b
    (λ s t can e. record {
      begins = subst (CanBegin settings) (sym e) can;
      same_board = ap (λ (x : Telling). x.told.board) e;
    }) begins same

pub same_asked : (a b : Option Telling) → IfTelling a b IsSameTelling → IfTelling a b HasAskedNothing
same_asked a b same = if_both IsSameTelling HasAskedNothing a b
    (λ s t e. ap requests_in e) same

pub same_handed : (a b : Option Telling) → IfTelling a b IsSameTelling → IfTelling a b HandedOutNone
same_handed a b same = if_both IsSameTelling HandedOutNone a b (λ s t e. ap (λ (x : Telling). x.handed) e) same

-- another datagram came: so the link tells nothing
no_other : (a b c : Option Telling) (P : Type 0) → IfTelling a b IsSameTelling → IfTelling b c (λ s t. ⊥)
    → IfTelling a c IsSameTelling × IfSome a (λ _. P)
no_other None None None P same is = (tt, tt)
no_other None None (Some u) P same is = absurd is
no_other None (Some t) c P same is = absurd same
no_other (Some s) None c P same is = absurd same
no_other (Some s) (Some t) None P same is = absurd is
no_other (Some s) (Some t) (Some u) P same is = absurd is

-- ---- what answers count

quiets_rise : (heard : Answer) (quiets now : ℕ) → quiets ≤ 255 → now ≡ quiets_of_answer heard quiets
    → (quiets ≤ now) × (now ≤ quiets + 1)
quiets_rise (answer.Told status) quiets now few is = (omega (arith, is), omega (arith, is))
quiets_rise answer.Nothing quiets now few is = (omega (arith, is, few), omega (arith, is, few))
quiets_rise answer.Other quiets now few is = (omega (arith, is), omega (arith, is))

gots_rise : (heard : Answer) (gots now : ℕ) → gots ≤ 2 ^ 20 → now ≡ gots_of_answer heard gots
    → (gots ≤ now) × (now ≤ gots + 1)
gots_rise (answer.Told status) gots now few is = (omega (arith, is, few), omega (arith, is, few))
gots_rise answer.Nothing gots now few is = (omega (arith, is), omega (arith, is))
gots_rise answer.Other gots now few is = (omega (arith, is, few), omega (arith, is, few))

quiet_more : (heard : Answer) (quiets now after : ℕ) → heard ≡ answer.Nothing → quiets ≤ 255 → now ≡ quiets
    → after ≡ quiets_of_answer heard now → quiets + 1 ≤ after
quiet_more heard quiets now after e few same is =
    let rose = subst (λ (a : Answer). after ≡ quiets_of_answer a now) e is in omega (arith, rose, same, few)

-- ---- how a round ends over a link that tells

nothing_round : (settings : Limits) (q q' h h' now : ℕ) (a b c : Option Telling) → q + 1 ≤ q'
    → IfSome a (λ _. now ≡ h) → IfTelling a b IsSameTelling
    → IfTelling b c (IsHeardFrom settings now h' answer.Nothing) → IfTelling a c (EndsRoundWith settings q q' h h' None)
nothing_round settings q q' h h' now None None None more first same is = tt
nothing_round settings q q' h h' now None None (Some u) more first same is = absurd is
nothing_round settings q q' h h' now None (Some t) c more first same is = absurd same
nothing_round settings q q' h h' now (Some s) None c more first same is = absurd same
nothing_round settings q q' h h' now (Some s) (Some t) None more first same is = absurd is
nothing_round settings q q' h h' now (Some s) (Some t) (Some u) more first same is =
    (more, λ expecting. subst (λ (n : ℕ). Rose n h') first (is (subst IsExpecting (sym same) expecting)))

held_first : (other held now : ℕ) (a : Option Telling) → IfSome a (λ _. (other ≡ 0) × (now ≡ held))
    → IfSome a (λ _. now ≡ held)
held_first other held now None is = tt
held_first other held now (Some s) is = is.1

-- after 64 others the link tells nothing
others_round : (settings : Limits) (q q' h h' other now : ℕ) (a b : Option Telling) → 64 ≤ other
    → IfSome a (λ _. (other ≡ 0) × (now ≡ h)) → IfTelling a b IsSameTelling
    → IfTelling a b (EndsRoundWith settings q q' h h' None)
others_round settings q q' h h' other now None None some first same = tt
others_round settings q q' h h' other now None (Some t) some first same = absurd same
others_round settings q q' h h' other now (Some s) b some first same =
    absurd (let e = first.0 in omega (arith, e, some))

-- ---- a round in which other datagrams came so far

module _ {L : Type 0} {seen : Ghosts L} {other : ℕ} {old now : L} (so_far : IsListening seen other old now) where
  pub same_later : (R : Telling → Telling → Type 0) (new : L) → IfTelling (seen.telling now) (seen.telling new) R
      → IfTelling (seen.telling old) (seen.telling new) R
  same_later R new is = same_then R (seen.telling old) (seen.telling now) (seen.telling new) so_far.same is

  pub fresh_so_far : (settings : Limits) → IfSome (seen.telling old) (CanBegin settings)
      → IfTelling (seen.telling old) (seen.telling now) (StaysFresh settings)
  fresh_so_far settings begins = same_fresh settings (seen.telling old) (seen.telling now) begins so_far.same

  pub begins_so_far : (settings : Limits) → IfSome (seen.telling old) (CanBegin settings)
      → IfSome (seen.telling now) (CanBegin settings)
  begins_so_far settings begins =
      fresh_begins seen settings old now (fresh_so_far settings begins)

  pub none_asked : IfTelling (seen.telling old) (seen.telling now) HasAskedNothing
  none_asked = same_asked (seen.telling old) (seen.telling now) so_far.same

  -- another one came
  other_came : (settings : Limits) {new : L} → seen.gots now ≤ 2 ^ 20 → first_status (receives_in (seen.traffic new)) ≡ None
      → IfTelling (seen.telling now) (seen.telling new)
      (IsHeardFrom settings (seen.held now) (seen.held new) answer.Other)
      → CountsAnswer seen answer.Other now new → seen.faults now ≤ seen.faults new → seen.held now ≤ seen.held new
      → PassesAnswer answer.Other (seen.traffic now) (seen.traffic new) → IsListening seen (other + 1) old new
  other_came settings {new} few untold told counts faults held passed =
      let gone = no_other (seen.telling old) (seen.telling now) (seen.telling new)
      ((other + 1 ≡ 0) × (seen.held new ≡ seen.held old)) so_far.same told in
      let got = so_far.got in
      let gots = counts.gots in
      let fault = so_far.fault in
      let hold = so_far.hold in
      record {
        same = gone.0;
        first = gone.1;
        quiet = counts.quiets ∙ so_far.quiet;
        got = omega (arith, got, gots, few);
        untold = untold;
        passed = one_other so_far.passed passed;
        number = counts.number ∙ so_far.number;
        fault = omega (arith, fault, faults);
        hold = omega (arith, hold, held);
      }

  pub others_came : (settings : Limits) {heard : Answer} {new : L} → heard ≡ answer.Other
      → seen.gots old ≤ 64 * 255 → other < 64 → EndWith (status_in heard) (receives_in (seen.traffic new))
      → IfTelling (seen.telling now) (seen.telling new) (IsHeardFrom settings (seen.held now) (seen.held new) heard)
      → CountsAnswer seen heard now new → seen.faults now ≤ seen.faults new → seen.held now ≤ seen.held new
      → PassesAnswer heard (seen.traffic now) (seen.traffic new) → IsListening seen (other + 1) old new
  others_came settings {heard = answer.Told status} e few more ends told counts faults held passed = absurd cc
  others_came settings {heard = answer.Nothing} e few more ends told counts faults held passed = absurd cc
  others_came settings {heard = answer.Other} e few more ends told counts faults held passed =
      let got = so_far.got in other_came settings (omega (arith, got, few, more)) ends told counts faults held passed

  -- a last step behind what was counted so far
  counts_on : (new : L) → seen.faults now ≤ seen.faults new → seen.number new ≡ seen.number now
      → seen.held now ≤ seen.held new
      → (seen.quiets now ≤ seen.quiets new) × (seen.quiets new ≤ seen.quiets now + 1)
      → (seen.gots now ≤ seen.gots new) × (seen.gots new + other ≤ seen.gots now + 64) → CountsRound seen old new
  counts_on new faults number held quiets gots =
      let fault = so_far.fault in
      let quiet = so_far.quiet in
      let got = so_far.got in
      let hold = so_far.hold in
      let least_quiets = quiets.0 in
      let most_quiets = quiets.1 in
      let least_gots = gots.0 in
      let most_gots = gots.1 in
      record {
        faults = omega (arith, fault, faults);
        quiets = omega (arith, quiet, least_quiets);
        most_quiets = omega (arith, quiet, most_quiets);
        gots = omega (arith, got, least_gots);
        most_gots = omega (arith, got, most_gots);
        number = number ∙ so_far.number;
        held = omega (arith, hold, held);
      }

  pub counts_heard : {heard : Answer} {new : L} → seen.quiets old ≤ 255 → seen.gots old ≤ 64 * 255 → other < 64
      → CountsAnswer seen heard now new → seen.faults now ≤ seen.faults new → seen.held now ≤ seen.held new
      → CountsRound seen old new
  counts_heard {heard} {new} few_quiets few_gots more counts faults held =
      let quiet = so_far.quiet in
      let got = so_far.got in
      let rise = gots_rise heard (seen.gots now) (seen.gots new) (omega (arith, got, few_gots, more)) counts.gots in
      let most = rise.1 in
      counts_on new faults counts.number held
      (quiets_rise heard (seen.quiets now) (seen.quiets new) (omega (arith, quiet, few_quiets)) counts.quiets)
      (rise.0, omega (arith, most, more))

  pub counts_unheard : {new : L} → other < 64 → CountsNoAnswer seen now new → seen.faults now ≤ seen.faults new
      → seen.held now ≤ seen.held new → CountsRound seen old new
  counts_unheard {new} more counts faults held =
      let quiets = counts.quiets in
      let gots = counts.gots in
      counts_on new faults counts.number held (omega (arith, quiets), omega (arith, quiets))
      (omega (arith, gots), omega (arith, gots, more))

  pub counts_others : other ≤ 64 → CountsRound seen old now
  counts_others most =
      counts_on now (omega arith) refl (omega arith) (omega arith, omega arith) (omega arith, omega (arith, most))

  -- the board told its status
  pub round_told : (settings : Limits) {heard : Answer} {status : Status} (new : L) → heard ≡ answer.Told status
      → IfTelling (seen.telling now) (seen.telling new) (IsHeardFrom settings (seen.held now) (seen.held new) heard)
      → IfTelling (seen.telling old) (seen.telling new)
      (EndsRoundWith settings (seen.quiets old) (seen.quiets new) (seen.held old) (seen.held new) (Some status))
  round_told settings {status} new e is =
      same_later
      (EndsRoundWith settings (seen.quiets old) (seen.quiets new) (seen.held old) (seen.held new) (Some status)) new
      (subst (λ (x : Answer). IfTelling (seen.telling now) (seen.telling new)
      (IsHeardFrom settings (seen.held now) (seen.held new) x)) e is)

  pub ends_told : {heard : Answer} {status : Status} {new : L} → heard ≡ answer.Told status
      → seen.gots old ≤ 64 * 255 → other < 64 → EndWith (status_in heard) (receives_in (seen.traffic new))
      → CountsAnswer seen heard now new → EndsRound seen (Some status) old new
  ends_told {new} e few more ends counts =
      let gots = subst (λ (a : Answer). seen.gots new ≡ gots_of_answer a (seen.gots now)) e counts.gots in
      let got = so_far.got in
      record {
        receives = subst (λ (a : Answer). EndWith (status_in a) (receives_in (seen.traffic new))) e ends;
        heard = omega (arith, gots, got, few, more);
        counted = tt;
        handed = tt;
      }

  -- a receive was quiet
  more_quiet : {heard : Answer} {new : L} → heard ≡ answer.Nothing → seen.quiets old ≤ 255
      → CountsAnswer seen heard now new → seen.quiets old + 1 ≤ seen.quiets new
  more_quiet {heard} {new} e few counts =
      quiet_more heard (seen.quiets old) (seen.quiets now) (seen.quiets new) e few so_far.quiet counts.quiets

  pub round_nothing : (settings : Limits) {heard : Answer} {new : L} → heard ≡ answer.Nothing → seen.quiets old ≤ 255
      → CountsAnswer seen heard now new
      → IfTelling (seen.telling now) (seen.telling new) (IsHeardFrom settings (seen.held now) (seen.held new) heard)
      → IfTelling (seen.telling old) (seen.telling new)
      (EndsRoundWith settings (seen.quiets old) (seen.quiets new) (seen.held old) (seen.held new) None)
  round_nothing settings {new} e few counts is =
      nothing_round settings (seen.quiets old) (seen.quiets new) (seen.held old) (seen.held new) (seen.held now)
      (seen.telling old) (seen.telling now) (seen.telling new) (more_quiet e few counts)
      (held_first other (seen.held old) (seen.held now) (seen.telling old) so_far.first) so_far.same
      (subst (λ (x : Answer). IfTelling (seen.telling now) (seen.telling new)
      (IsHeardFrom settings (seen.held now) (seen.held new) x)) e is)

  pub ends_quiet : {heard : Answer} {new : L} → heard ≡ answer.Nothing → seen.quiets old ≤ 255
      → EndWith (status_in heard) (receives_in (seen.traffic new)) → CountsAnswer seen heard now new
      → IfNothing heard (IfTelling (seen.telling now) (seen.telling new) HandedOutNone)
      → EndsRound seen None old new
  ends_quiet {new} e few ends counts handed =
      let gots = subst (λ (a : Answer). seen.gots new ≡ gots_of_answer a (seen.gots now)) e counts.gots in
      let more = more_quiet e few counts in
      let got = so_far.got in
      record {
        receives = subst (λ (a : Answer). EndWith (status_in a) (receives_in (seen.traffic new))) e ends;
        heard = tt;
        counted = omega (arith, gots, got, more);
        handed = same_later HandedOutNone new
            (subst (λ (a : Answer). IfNothing a (IfTelling (seen.telling now) (seen.telling new) HandedOutNone)) e
            handed);
      }

  -- 64 others came
  pub round_others : (settings : Limits) → 64 ≤ other
      → IfTelling (seen.telling old) (seen.telling now)
      (EndsRoundWith settings (seen.quiets old) (seen.quiets now) (seen.held old) (seen.held now) None)
  round_others settings most =
      others_round settings (seen.quiets old) (seen.quiets now) (seen.held old) (seen.held now) other (seen.held now)
      (seen.telling old) (seen.telling now) most so_far.first so_far.same

  pub ends_others : 64 ≤ other → EndsRound seen None old now
  ends_others most =
      let quiet = so_far.quiet in
      let got = so_far.got in
      record {
        receives = so_far.untold;
        heard = tt;
        counted = omega (arith, quiet, got, most);
        handed = same_handed (seen.telling old) (seen.telling now) so_far.same;
      }

-- ---- a call that failed

-- what a failed call leaves
pub on_err : {T E : Type 0} (result : Result T E) (P : Type 0) → P → OnErr result P
on_err (Ok done) P holds = tt
on_err (Err fault) P holds = holds

-- a fault that rose in the last step rose in the round
pub rose_later : (faults now after : ℕ) → faults ≤ now → Rose now after → Rose faults after
rose_later faults now after le rose = omega (arith, le, rose)

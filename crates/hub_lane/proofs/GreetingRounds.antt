-- Lemmas on a round of a greeting with its request, and on all rounds.
use Rattle.std.proofs.Common.{◌≡◌, ℕ, ◌+◌, ◌*◌, ◌<◌, ◌≤◌, List, [], ◌∷◌, Option, Some, None, sym, ap, ◌∙◌, subst, arith, refl}
use Rattle.std.specs.Prelude.{Result, Ok, Err, IfOk, IfSome}
use Rattle.std.proofs.lemmas.List.Sums.{sum_by-append}
use Rattle.status_packet.specs.declared.status.Status.{Status}
use Rattle.world_model.specs.declared.datagram.Direction.TheVariants as goes
use Rattle.world_model.specs.Links.{Told, birth_of}
use Rattle.world_model.specs.Settings.{Limits}
use Rattle.links.specs.declared.link.Link.{Ghosts}
use Rattle.links.specs.declared.link.LinkFault.{LinkFault}
use Rattle.links.specs.Receives.{first_status, receives_in}
use Rattle.links.specs.Telling.{IfTelling, IsSent, Telling}
use Rattle.hub_lane.specs.Heard.{EndWith}
use Rattle.hub_lane.specs.Greeting.{CanBegin, CountsRound, EndsAskingWith, EndsGreetingWith, EndsRound}
use Rattle.hub_lane.specs.Greeting.{EndsRoundWith, HandedOutNone, HasAskedAtMost, HasAskedNothing, IsUnused}
use Rattle.hub_lane.specs.Greeting.{IsWithinRounds}
use Rattle.hub_lane.specs.Greeting.{StaysFresh, requests_in}
use Rattle.hub_lane.specs.Run.{AreVainRounds, PassesRound}
use Rattle.hub_lane.proofs.GreetingPasses.{vain_again}
use Rattle.hub_lane.proofs.Greetings.{fresh_begins, round_asked}
use Rattle.hub_lane.proofs.Listening.{IsSameTelling, both_calls, same_first, same_fresh, same_handed}
use Rattle.hub_lane.proofs.Requests.{for_board, if_both, one_for_board}

pub fresh_then : {L : Type 0} (seen : Ghosts L) (settings : Limits) (old mid new : L)
    → IfTelling (seen.telling old) (seen.telling mid) (StaysFresh settings)
    → IfTelling (seen.telling mid) (seen.telling new) (StaysFresh settings)
    → IfTelling (seen.telling old) (seen.telling new) (StaysFresh settings)
fresh_then seen settings old mid new =
    both_calls (StaysFresh settings) (StaysFresh settings) (StaysFresh settings) (seen.telling old) (seen.telling mid)
    (seen.telling new) (λ s t u first then. record {
      begins = then.begins;
      same_board = then.same_board ∙ first.same_board;
    })

-- ---- a request

sent_asks : (bytes : List ℕ) (before now : ℕ) (old new : Telling) → IsSent bytes before now old new
    → HasAskedAtMost 1 old new
sent_asks bytes before now old new is =
    let told = ap (λ (t : Told). for_board t.air) is.told in
    let more = sum_by-append one_for_board old.told.air (record {
      direction = goes.ToBoard;
      bytes = bytes;
      birth = birth_of old.told bytes;
    } ∷ []) in
    omega (arith, told, more)

-- a request joined the air, and then the hub listened
pub request_asks : {L : Type 0} (seen : Ghosts L) (bytes : List ℕ) (old mid new : L)
    → IfTelling (seen.telling old) (seen.telling mid) (IsSent bytes (seen.held old) (seen.held mid))
    → IfTelling (seen.telling mid) (seen.telling new) HasAskedNothing
    → IfTelling (seen.telling old) (seen.telling new) (HasAskedAtMost 1)
request_asks seen bytes old mid new =
    let before = seen.held old in
    let now = seen.held mid in
    both_calls (IsSent bytes before now) HasAskedNothing (HasAskedAtMost 1) (seen.telling old) (seen.telling mid)
    (seen.telling new) (λ s t u is same. let most = sent_asks bytes before now s t is in omega (arith, most, same))

same_asks : (most : ℕ) (a b : Option Telling) → IfTelling a b IsSameTelling → IfTelling a b (HasAskedAtMost most)
same_asks most a b same = if_both IsSameTelling (HasAskedAtMost most) a b
    (λ s t e. let asks = ap requests_in e in omega (arith, asks)) same

-- a link that refused a send tells the same
refused_same : (a b : Option Telling) → b ≡ a → IfTelling a b IsSameTelling
refused_same a b e = subst (λ (x : Option Telling). IfTelling a x IsSameTelling) (sym e) (same_first a)

pub refused_fresh : (settings : Limits) {a b : Option Telling} → IfSome a (CanBegin settings) → b ≡ a
    → IfTelling a b (StaysFresh settings)
refused_fresh settings {a} {b} begins e = same_fresh settings a b begins (refused_same a b e)

pub refused_asks : {a b : Option Telling} → b ≡ a → IfTelling a b (HasAskedAtMost 1)
refused_asks {a} {b} e = same_asks 1 a b (refused_same a b e)

-- ---- a round with its request

pub asking_told : {L : Type 0} (seen : Ghosts L) (settings : Limits) (bytes : List ℕ)
    (result : Result (Option Status) LinkFault) (old mid new : L) → seen.quiets mid ≡ seen.quiets old
    → seen.held old ≤ seen.held mid → seen.held mid ≤ seen.held new
    → IfTelling (seen.telling old) (seen.telling mid) (IsSent bytes (seen.held old) (seen.held mid))
    → IfOk result (λ found. IfTelling (seen.telling mid) (seen.telling new)
    (EndsRoundWith settings (seen.quiets mid) (seen.quiets new) (seen.held mid) (seen.held new) found))
    → IfOk result (λ found. IfTelling (seen.telling old) (seen.telling new)
    (EndsAskingWith settings (seen.quiets old) (seen.quiets new) (seen.held old) (seen.held new) found))
asking_told seen settings bytes (Ok found) old mid new same le more =
    let q = seen.quiets old in
    let q1 = seen.quiets mid in
    let q' = seen.quiets new in
    let h = seen.held old in
    let h1 = seen.held mid in
    let h' = seen.held new in
    both_calls (IsSent bytes h h1) (EndsRoundWith settings q1 q' h1 h' found)
    (EndsAskingWith settings q q' h h' found) (seen.telling old) (seen.telling mid) (seen.telling new)
    (λ s t u. round_asked settings q q1 q' h h1 h' bytes found s t u same le more)
asking_told seen settings bytes (Err fault) old mid new same le more = λ sent ends. tt

pub asking_ends : {L : Type 0} (seen : Ghosts L) (bytes : List ℕ) (result : Result (Option Status) LinkFault)
    (old mid new : L) → seen.quiets mid ≡ seen.quiets old → seen.gots mid ≡ seen.gots old
    → IfTelling (seen.telling old) (seen.telling mid) (IsSent bytes (seen.held old) (seen.held mid))
    → IfOk result (λ found. EndsRound seen found mid new) → IfOk result (λ found. EndsRound seen found old new)
asking_ends seen bytes (Ok (Some status)) old mid new quiets gots sent is = record {
  receives = is.receives;
  heard = (let more = is.heard in omega (arith, gots, more));
  counted = tt;
  handed = tt;
}
asking_ends seen bytes (Ok None) old mid new quiets gots sent is = record {
  receives = is.receives;
  heard = tt;
  counted = (let more = is.counted in omega (arith, quiets, gots, more));
  handed = both_calls (IsSent bytes (seen.held old) (seen.held mid)) HandedOutNone HandedOutNone (seen.telling old)
      (seen.telling mid) (seen.telling new) (λ s t u first then. then ∙ first.handed) sent is.handed;
}
asking_ends seen bytes (Err fault) old mid new quiets gots sent is = tt

pub counts_sent : {L : Type 0} (seen : Ghosts L) (old new : L) → seen.faults old ≤ seen.faults new
    → seen.quiets new ≡ seen.quiets old → seen.gots new ≡ seen.gots old → seen.number new ≡ seen.number old
    → seen.held old ≤ seen.held new → CountsRound seen old new
counts_sent seen old new faults quiets gots number held = record {
  faults = faults;
  quiets = omega (arith, quiets);
  most_quiets = omega (arith, quiets);
  gots = omega (arith, gots);
  most_gots = omega (arith, gots);
  number = number;
  held = held;
}

pub counts_asked : {L : Type 0} (seen : Ghosts L) (old mid new : L) → seen.faults old ≤ seen.faults mid
    → seen.quiets mid ≡ seen.quiets old → seen.gots mid ≡ seen.gots old → seen.number mid ≡ seen.number old
    → seen.held old ≤ seen.held mid → CountsRound seen mid new → CountsRound seen old new
counts_asked seen old mid new faults quiets gots number held counts = record {
  faults = (let more = counts.faults in omega (arith, faults, more));
  quiets = (let more = counts.quiets in omega (arith, quiets, more));
  most_quiets = (let most = counts.most_quiets in omega (arith, quiets, most));
  gots = (let more = counts.gots in omega (arith, gots, more));
  most_gots = (let most = counts.most_gots in omega (arith, gots, most));
  number = counts.number ∙ number;
  held = (let more = counts.held in omega (arith, held, more));
}

-- ---- all rounds

-- over a link that tells each round so far had a quiet receive and held a datagram
abbrev pub HasPaid : ℕ → ℕ → ℕ → Telling → Type 0
HasPaid rounds quiets held t = (rounds ≤ quiets) × (rounds ≤ held)

-- no round so far had a status
pub record IsAsking {L : Type 0} (seen : Ghosts L) (settings : Limits) (rounds : ℕ) (old now : L) : Type 0 where
  pub fresh : IfTelling (seen.telling old) (seen.telling now) (StaysFresh settings)
  pub handed : IfTelling (seen.telling old) (seen.telling now) HandedOutNone
  pub asked : IfTelling (seen.telling old) (seen.telling now) (HasAskedAtMost rounds)
  pub paid : IfSome (seen.telling now) (HasPaid rounds (seen.quiets now) (seen.held now))
  pub few_quiets : seen.quiets now ≤ rounds
  pub few_gots : seen.gots now ≤ 64 * rounds
  pub counted : 64 * rounds ≤ 64 * seen.quiets now + seen.gots now
  pub untold : first_status (receives_in (seen.traffic now)) ≡ None
  pub passed : AreVainRounds rounds (seen.traffic now)
  pub number : seen.number now ≡ seen.number old
  pub fault : seen.faults old ≤ seen.faults now

none_paid : (quiets held : ℕ) (a : Option Telling) → IfSome a (HasPaid 0 quiets held)
none_paid quiets held None = tt
none_paid quiets held (Some t) = (omega arith, omega arith)

pub asking_first : {L : Type 0} {seen : Ghosts L} {settings : Limits} {link : L} → IsUnused seen link
    → IfSome (seen.telling link) (CanBegin settings) → IsAsking seen settings 0 link link
asking_first {seen} {settings} {link} unused begins =
    let a = seen.telling link in
    let same = same_first a in
    let no_quiets = unused.no_quiets in
    let no_gots = unused.no_gots in
    record {
      fresh = same_fresh settings a a begins same;
      handed = same_handed a a same;
      asked = same_asks 0 a a same;
      paid = none_paid (seen.quiets link) (seen.held link) a;
      few_quiets = omega (arith, no_quiets);
      few_gots = omega (arith, no_gots);
      counted = omega arith;
      untold = ap first_status (ap receives_in unused.no_traffic);
      passed = unused.no_traffic;
      number = refl;
      fault = omega arith;
    }

asked_no_more : (rounds q h : ℕ) (a b : Option Telling) → IfTelling a b (HasAskedAtMost rounds)
    → IfSome b (HasPaid rounds q h) → IfTelling a b (HasAskedAtMost (q + 1))
asked_no_more rounds q h None None asked paid = tt
asked_no_more rounds q h None (Some t) asked paid = absurd asked
asked_no_more rounds q h (Some s) None asked paid = absurd asked
asked_no_more rounds q h (Some s) (Some t) asked paid = let least = paid.0 in omega (arith, asked, least)

paid_all : (settings : Limits) (rounds q h : ℕ) (a : Option Telling) → settings.rounds ≤ rounds
    → IfSome a (HasPaid rounds q h) → IfSome a (EndsGreetingWith settings q h None)
paid_all settings rounds q h None most paid = tt
paid_all settings rounds q h (Some t) most paid =
    let quiets = paid.0 in
    let held = paid.1 in
    (omega (arith, most, quiets), omega (arith, most, held))

-- what the rounds so far leave; `end` is how many the settings say
module _ {L : Type 0} {seen : Ghosts L} {settings : Limits} {rounds : ℕ} {old now : L}
    (so_far : IsAsking seen settings rounds old now) where
  pub begins_so_far : IfSome (seen.telling now) (CanBegin settings)
  begins_so_far = fresh_begins seen settings old now so_far.fresh

  pub few_quiets_so_far : rounds < 255 → seen.quiets now ≤ 255
  few_quiets_so_far few = let few_quiets = so_far.few_quiets in omega (arith, few, few_quiets)

  pub few_gots_so_far : rounds < 255 → seen.gots now ≤ 64 * 255
  few_gots_so_far few = let few_gots = so_far.few_gots in omega (arith, few, few_gots)

  pub asked_so_far : IfTelling (seen.telling old) (seen.telling now) (HasAskedAtMost (seen.quiets now + 1))
  asked_so_far =
      asked_no_more rounds (seen.quiets now) (seen.held now) (seen.telling old) (seen.telling now) so_far.asked
      so_far.paid

  pub within_so_far : {end most : ℕ} → end ≡ most → rounds ≤ end → IsWithinRounds seen most now
  within_so_far ends few =
      let few_quiets = so_far.few_quiets in
      let few_gots = so_far.few_gots in
      record { quiets = omega (arith, ends, few, few_quiets); gots = omega (arith, ends, few, few_gots) }

  pub asked_in_vain : {end : ℕ} → end ≡ settings.rounds → end ≤ rounds
      → IfSome (seen.telling now) (EndsGreetingWith settings (seen.quiets now) (seen.held now) None)
  asked_in_vain ends all =
      paid_all settings rounds (seen.quiets now) (seen.held now) (seen.telling now) (omega (arith, ends, all))
      so_far.paid

  pub waited_long : {end : ℕ} → end ≡ settings.rounds → end ≤ rounds
      → 64 * settings.rounds ≤ 64 * seen.quiets now + seen.gots now
  waited_long ends all = let counted = so_far.counted in omega (arith, ends, all, counted)

  pub fresh_after : (new : L) → IfTelling (seen.telling now) (seen.telling new) (StaysFresh settings)
      → IfTelling (seen.telling old) (seen.telling new) (StaysFresh settings)
  fresh_after new = fresh_then seen settings old now new so_far.fresh

-- ---- one more round

pays_on : (settings : Limits) (rounds q q' h h' : ℕ) (b c : Option Telling) → rounds < 255
    → IfSome b (HasPaid rounds q h) → IfTelling b c (EndsAskingWith settings q q' h h' None)
    → IfSome c (HasPaid (rounds + 1) q' h')
pays_on settings rounds q q' h h' None None few paid told = tt
pays_on settings rounds q q' h h' None (Some u) few paid told = absurd told
pays_on settings rounds q q' h h' (Some t) None few paid told = absurd told
pays_on settings rounds q q' h h' (Some t) (Some u) few paid told =
    let quiets = paid.0 in
    let held = paid.1 in
    let quiet = told.0 in
    let rose = told.1 in
    (omega (arith, quiets, quiet), omega (arith, held, rose, few))

asked_once_more : (rounds q q' h : ℕ) (a b c : Option Telling) → q ≤ q' → IfTelling a b (HasAskedAtMost rounds)
    → IfSome b (HasPaid rounds q h) → IfTelling b c (HasAskedAtMost 1) → IfTelling a c (HasAskedAtMost (q' + 1))
asked_once_more rounds q q' h None None None more asked paid once = tt
asked_once_more rounds q q' h None None (Some u) more asked paid once = absurd once
asked_once_more rounds q q' h None (Some t) c more asked paid once = absurd asked
asked_once_more rounds q q' h (Some s) None c more asked paid once = absurd asked
asked_once_more rounds q q' h (Some s) (Some t) None more asked paid once = absurd once
asked_once_more rounds q q' h (Some s) (Some t) (Some u) more asked paid once =
    let least = paid.0 in omega (arith, asked, least, once, more)

-- what one more round leaves, behind those so far
module _ {L : Type 0} {seen : Ghosts L} {settings : Limits} {rounds : ℕ} {old now new : L}
    (so_far : IsAsking seen settings rounds old now) (counts : CountsRound seen now new) where
  -- the board was asked once for each quiet receive, and once more
  pub asked_after : IfTelling (seen.telling now) (seen.telling new) (HasAskedAtMost 1)
      → IfTelling (seen.telling old) (seen.telling new) (HasAskedAtMost (seen.quiets new + 1))
  asked_after asked =
      asked_once_more rounds (seen.quiets now) (seen.quiets new) (seen.held now) (seen.telling old) (seen.telling now)
      (seen.telling new) counts.quiets so_far.asked so_far.paid asked

  pub within_after : {end most : ℕ} → end ≡ most → rounds < end → IsWithinRounds seen most new
  within_after ends few =
      let few_quiets = so_far.few_quiets in
      let few_gots = so_far.few_gots in
      let most_quiets = counts.most_quiets in
      let most_gots = counts.most_gots in
      record {
        quiets = omega (arith, ends, few, few_quiets, most_quiets);
        gots = omega (arith, ends, few, few_gots, most_gots);
      }

  pub faults_after : seen.faults old ≤ seen.faults new
  faults_after =
      let fault = so_far.fault in
      let faults = counts.faults in
      omega (arith, fault, faults)

  -- it had no status either
  none_again : rounds < 255 → IfTelling (seen.telling now) (seen.telling new) (StaysFresh settings)
      → IfTelling (seen.telling now) (seen.telling new) (HasAskedAtMost 1)
      → IfTelling (seen.telling now) (seen.telling new)
      (EndsAskingWith settings (seen.quiets now) (seen.quiets new) (seen.held now) (seen.held new) None)
      → EndsRound seen None now new → PassesRound None (seen.traffic now) (seen.traffic new)
      → IsAsking seen settings (rounds + 1) old new
  none_again few fresh asked told ended passed =
      let a = seen.telling old in
      let b = seen.telling now in
      let c = seen.telling new in
      let few_quiets = so_far.few_quiets in
      let few_gots = so_far.few_gots in
      let counted = so_far.counted in
      let most_quiets = counts.most_quiets in
      let most_gots = counts.most_gots in
      let more = ended.counted in
      record {
        fresh = fresh_after so_far new fresh;
        handed = both_calls HandedOutNone HandedOutNone HandedOutNone a b c (λ s t u first then. then ∙ first)
            so_far.handed ended.handed;
        asked = both_calls (HasAskedAtMost rounds) (HasAskedAtMost 1) (HasAskedAtMost (rounds + 1)) a b c
            (λ s t u first then. omega (arith, first, then)) so_far.asked asked;
        paid = pays_on settings rounds (seen.quiets now) (seen.quiets new) (seen.held now) (seen.held new) b c few
            so_far.paid told;
        few_quiets = omega (arith, few_quiets, most_quiets);
        few_gots = omega (arith, few_gots, most_gots);
        counted = omega (arith, counted, more);
        untold = ended.receives;
        passed = vain_again rounds so_far.passed passed;
        number = counts.number ∙ so_far.number;
        fault = faults_after;
      }

pub asking_on : {L : Type 0} {seen : Ghosts L} {settings : Limits} {rounds : ℕ} {found : Option Status}
    {old now new : L} → IsAsking seen settings rounds old now → CountsRound seen now new → rounds < 255
    → found ≡ None → IfTelling (seen.telling now) (seen.telling new) (StaysFresh settings)
    → IfTelling (seen.telling now) (seen.telling new) (HasAskedAtMost 1)
    → IfTelling (seen.telling now) (seen.telling new)
    (EndsAskingWith settings (seen.quiets now) (seen.quiets new) (seen.held now) (seen.held new) found)
    → EndsRound seen found now new → PassesRound found (seen.traffic now) (seen.traffic new)
    → IsAsking seen settings (rounds + 1) old new
asking_on {found = None} so_far counts few e fresh asked told ended passed =
    none_again so_far counts few fresh asked told ended passed
asking_on {found = Some status} so_far counts few e fresh asked told ended passed = absurd cc

-- ---- a status was told

greeting_told : (settings : Limits) (q q' h h' : ℕ) (status : Status) (b c : Option Telling)
    → IfTelling b c (EndsAskingWith settings q q' h h' (Some status))
    → IfSome c (EndsGreetingWith settings q' h' (Some status))
greeting_told settings q q' h h' status None None is = tt
greeting_told settings q q' h h' status None (Some u) is = absurd is
greeting_told settings q q' h h' status (Some t) None is = tt
greeting_told settings q q' h h' status (Some t) (Some u) is = is

pub greeting_found : {L : Type 0} (seen : Ghosts L) (settings : Limits) {found : Option Status} {status : Status}
    (old new : L) → found ≡ Some status
    → IfTelling (seen.telling old) (seen.telling new)
    (EndsAskingWith settings (seen.quiets old) (seen.quiets new) (seen.held old) (seen.held new) found)
    → IfSome (seen.telling new) (EndsGreetingWith settings (seen.quiets new) (seen.held new) (Some status))
greeting_found seen settings {status} old new e is =
    let b = seen.telling old in
    let c = seen.telling new in
    let q = seen.quiets old in
    let q' = seen.quiets new in
    let h = seen.held old in
    let h' = seen.held new in
    greeting_told settings q q' h h' status b c
    (subst (λ (x : Option Status). IfTelling b c (EndsAskingWith settings q q' h h' x)) e is)

pub found_heard : {L : Type 0} {seen : Ghosts L} {found : Option Status} {status : Status} {old new : L}
    → found ≡ Some status → EndsRound seen found old new
    → (1 ≤ seen.gots new) × EndWith (Some status) (receives_in (seen.traffic new))
found_heard {seen} {old} {new} e is =
    let ends = subst (λ (x : Option Status). EndsRound seen x old new) e is in
    let more = ends.heard in
    (omega (arith, more), ends.receives)

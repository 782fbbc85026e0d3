-- What the text behind a register can show is what is read of it.
use Rattle.std.proofs.Common.{◌≡◌, ℕ, List, Option, Some, None, refl, sym, ap, ◌∙◌}
use Rattle.script_steps.specs.declared.operation.RegOp.{RegOp}
use Rattle.script_plans.specs.declared.greeting.Greeting.{Greeting}
use Rattle.script_plans.specs.declared.greeting.Greeting.TheVariants.{Live, Silent, Down}
use Rattle.transcript.specs.declared.line.OpResult.{OpResult}
use Rattle.transcript.specs.declared.line.OpResult.TheVariants.{Value, Done, Was, Error, Skipped, TimedOut, Late}
use Rattle.transcript.specs.declared.line.OpResult.TheVariants.{Unsent, LinkLost, Garbled, Denied}
use Rattle.transcript.specs.Claims.{rule_in}
use Rattle.transcript.specs.Lines.{Showing}
use Rattle.transcript_reader.specs.Reading.{showing_at}
use Rattle.transcript_reader.specs.Results.{CanComeTo, CanShowUnless}
use Rattle.transcript_reader.specs.Walks.{candidate, HoldsLive, shows_text}
use Rattle.transcript_reader.proofs.Again.{showing_again}

not_denied : (payload : ℕ) (op : RegOp) (r : OpResult) → CanComeTo payload op r → rule_in r ≡ None
not_denied payload op (Value words) can = refl
not_denied payload op Done can = refl
not_denied payload op (Was word) can = refl
not_denied payload op (Error code after) can = refl
not_denied payload op Skipped can = refl
not_denied payload op (TimedOut rounds) can = refl
not_denied payload op (Late rounds answer) can = refl
not_denied payload op Unsent can = refl
not_denied payload op LinkLost can = refl
not_denied payload op Garbled can = refl
not_denied payload op (Denied rule) can = absurd can

pub candidate_again : (denied : Option ℕ) (told : Greeting) (op : RegOp) (shows : Showing) (text : List ℕ)
    → CanShowUnless denied told op shows → text ≡ shows_text shows → candidate denied told text ≡ Some shows
candidate_again (Some rule) told op shows text can e = ap Some (sym can)
candidate_again None (Live payload) op shows text can e =
    ap showing_at e
    ∙ showing_again shows.0 shows.1 can.printed (not_denied payload op shows.0 can.comes_to) can.places'
candidate_again None Silent op shows text can e = ap Some (sym can)
candidate_again None Down op shows text can e = ap Some (sym can)

pub holds_too : (denied : Option ℕ) (told : Greeting) (op : RegOp) (shows : Showing) → CanShowUnless denied told op shows
    → HoldsLive denied told op shows
holds_too (Some rule) told op shows can = tt
holds_too None (Live payload) op shows can = can
holds_too None Silent op shows can = tt
holds_too None Down op shows can = tt

pub can_by : (denied : Option ℕ) (told : Greeting) (op : RegOp) (shows : Showing) (text : List ℕ)
    → candidate denied told text ≡ Some shows → HoldsLive denied told op shows → CanShowUnless denied told op shows
can_by (Some rule) told op shows text e holds = cc
can_by None (Live payload) op shows text e holds = holds
can_by None Silent op shows text e holds = cc
can_by None Down op shows text e holds = cc

-- the text shows one thing at most
pub same_shows : (denied : Option ℕ) (told : Greeting) (op : RegOp) (shows shown : Showing) (text : List ℕ)
    → CanShowUnless denied told op shows → text ≡ shows_text shows → candidate denied told text ≡ Some shown
    → shows ≡ shown
same_shows denied told op shows shown text can e found =
    let again = candidate_again denied told op shows text can e in cc

-- What a session breaks that is to be served.
use Rattle.std.proofs.Common.{◌≡◌, List, true, false, Option, Some, None, is_some, refl}
use Rattle.access_policy.specs.declared.policy.Rule.{Rule}
use Rattle.script_lang.specs.declared.session.Session.{Session}
use Rattle.session_input.specs.declared.refusal.Refusal.{Refusal}
use Rattle.session_input.specs.declared.refusal.Refusal.TheVariants.{NoServe}
use Rattle.session_input.specs.Deserved.{BreaksInRun, BreaksInServe}

pub not_served : (s : Session) (policy : Option (List Rule)) → is_some policy ≡ true → BreaksInServe s policy NoServe
not_served s None is = absurd cc
not_served s (Some rules) is = refl

pub as_in_run : (s : Session) (policy : Option (List Rule)) (r : Refusal) → is_some policy ≡ false
    → BreaksInRun s None r → BreaksInServe s policy r
as_in_run s None r is broken = broken
as_in_run s (Some rules) r is broken = absurd cc

pub no_policy : (policy : Option (List Rule)) → is_some policy ≡ false → policy ≡ None
no_policy None is = refl
no_policy (Some rules) is = absurd cc

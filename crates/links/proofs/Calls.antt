-- What each call of a link leads to, where the link tells.
use Rattle.std.proofs.Common.{Option, Some, None}
use Rattle.std.specs.Prelude.{IfSome}
use Rattle.world_model.specs.Links.{Told}
use Rattle.links.specs.Telling.{IfTelling, Telling}

-- this holds of what a link tells, if it tells
abbrev pub Holds : (Told → Type 0) → Option Telling → Type 0
Holds P telling = IfSome telling (λ t. P t.told)

-- one call, in which what a link told before leads to what it tells after
pub after_call : (P Q : Told → Type 0) (R : Telling → Telling → Type 0) (old new : Option Telling) → Holds P old
    → IfTelling old new R → ((t u : Telling) → P t.told → R t u → Q u.told) → Holds Q new
after_call P Q R None None before call leads = tt
after_call P Q R None (Some u) before call leads = absurd call
after_call P Q R (Some t) None before call leads = absurd call
after_call P Q R (Some t) (Some u) before call leads = leads t u before call

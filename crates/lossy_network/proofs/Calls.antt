-- What calls leave as it was.
use Rattle.std.proofs.Common.{◌≡◌, ◌∙◌, ℕ, zero, suc, Bool, true, false, cond, List, [], ◌∷◌, length, nat_lt}
use Rattle.std.proofs.Common.{Option, Some, None, refl, sym, ap, subst}
use Rattle.std.specs.List.{slice_get}
use Rattle.world_model.specs.Links.{Told, heard_by}
use Rattle.lossy_network.specs.Network.{ForHub, Front, Network, Nothing, Taken, Taking, front, front_of, front_with}
use Rattle.lossy_network.specs.Network.{hub_bytes, put_at, takes, with_queue}
use Rattle.lossy_network.proofs.Takings.{still, takes_one}

-- all but the board, the air and what is under way is the same
abbrev pub with_carried : Network → Network → Network
with_carried net new = record net { told = new.told; traffic = new.traffic }

abbrev pub KeepsRest : Network → Front → Type 0
KeepsRest net Nothing = Unit {0}
KeepsRest net (ForHub place bytes) = Unit {0}
KeepsRest net (Taken taking after) = after ≡ with_carried net after

heard_keeps : (net : Network) (told : Told) (b : Bool)
    → cond b (put_at (length net.told.air) (record net { told = told })) (record net { told = told })
    ≡ with_carried net (cond b (put_at (length net.told.air) (record net { told = told })) (record net { told = told }))
heard_keeps net told true = refl
heard_keeps net told false = refl

keeps_with : (net : Network) (place : ℕ) (queue : List ℕ) (bytes : Option (List ℕ)) (r : Option Told)
    → KeepsRest net (front_with (with_queue net queue) place bytes r)
keeps_with net place queue (Some bytes) r = tt
keeps_with net place queue None None = refl
keeps_with net place queue None (Some told) = heard_keeps (with_queue net queue) told
    (nat_lt (length net.told.air) (length told.air))

keeps_of : (net : Network) (queue : List ℕ) → KeepsRest net (front_of net queue)
keeps_of net [] = tt
keeps_of net (place ∷ queue) = keeps_with net place queue (hub_bytes net.told (slice_get net.told.air place))
    (heard_by net.told (slice_get net.told.air place))

pub taken_keeps : (net after : Network) (taking : Taking) → front net ≡ Taken taking after
    → after ≡ with_carried net after
taken_keeps net after taking is = subst (KeepsRest net) is (keeps_of net net.traffic.queue)

keeps_by : (k : ℕ) (net : Network) (f : Front) → front net ≡ f
    → ((after : Network) → takes k after ≡ with_carried after (takes k after))
    → takes (suc k) net ≡ with_carried net (takes (suc k) net)
keeps_by k net Nothing is later =
    subst (λ (n : Network). n ≡ with_carried net n) (sym (still (suc k) net Nothing is refl)) refl
keeps_by k net (ForHub place bytes) is later =
    subst (λ (n : Network). n ≡ with_carried net n) (sym (still (suc k) net (ForHub place bytes) is refl)) refl
keeps_by k net (Taken taking after) is later =
    subst (λ (n : Network). n ≡ with_carried net n) (sym (takes_one k net after taking is))
    (later after ∙ ap (λ (n : Network). with_carried n (takes k after)) (taken_keeps net after taking is))

-- takings leave the rest
pub takes_keep : (k : ℕ) (net : Network) → takes k net ≡ with_carried net (takes k net)
takes_keep zero net = refl
takes_keep (suc k) net = keeps_by k net (front net) refl (takes_keep k)

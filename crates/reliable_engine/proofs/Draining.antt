-- Where each send leaves fewer sends pending, there is none at the end of them.
use Rattle.std.proofs.Common.{◌≡◌, ◌≤◌, ◌<◌, ℕ, zero, suc, Option, Some, None, refl, ap, ◌∙◌, arith, replicate}
use Rattle.world_model.specs.Hub.{Hub}
use Rattle.world_model.specs.Sends.{Next, next_send, pending}
use Rattle.reliable_engine.specs.Answers.{hub_next}
use Rattle.reliable_engine.specs.Events.{Send, after_events}

abbrev pub SendsFall : Type 0
SendsFall = (h : Hub) (n : Next) → next_send h ≡ Some n → pending n.hub < pending h

none_left : SendsFall → (h : Hub) (r : Option Next) → next_send h ≡ r → pending h ≤ 0 → next_send h ≡ None
none_left fall h None e few = e
none_left fall h (Some n) e few = absurd (let less = fall h n e in omega arith)

-- where there is nothing to send, sends change nothing
stays : (h : Hub) (n : ℕ) → next_send h ≡ None → next_send (after_events h (replicate n Send)) ≡ None
stays h zero none = none
stays h (suc n) none =
    let same : hub_next h (next_send h) ≡ h = ap (hub_next h) none in
    ap (λ (x : Hub). next_send (after_events x (replicate n Send))) same ∙ stays h n none

drained_by : SendsFall → (n : ℕ) (h : Hub) (r : Option Next) → next_send h ≡ r → pending h ≤ suc n
    → ((v : Hub) → pending v ≤ n → next_send (after_events v (replicate n Send)) ≡ None)
    → next_send (after_events (hub_next h (next_send h)) (replicate n Send)) ≡ None
drained_by fall n h None e few later =
    ap (λ (r : Option Next). next_send (after_events (hub_next h r) (replicate n Send))) e ∙ stays h n e
drained_by fall n h (Some next) e few later =
    ap (λ (r : Option Next). next_send (after_events (hub_next h r) (replicate n Send))) e
    ∙ later next.hub (let less = fall h next e in omega arith)

drained : SendsFall → (n : ℕ) (h : Hub) → pending h ≤ n → next_send (after_events h (replicate n Send)) ≡ None
drained fall zero h few = none_left fall h (next_send h) refl few
drained fall (suc n) h few = drained_by fall n h (next_send h) refl few (drained fall n)

pub draining : SendsFall → (h : Hub) → next_send (after_events h (replicate (pending h) Send)) ≡ None
draining fall h = drained fall (pending h) h (omega arith)

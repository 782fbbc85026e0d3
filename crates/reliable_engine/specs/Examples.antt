-- Examples that are computed: the bodies and what the hub makes of them.
use Rattle.std.specs.Prelude.{ℕ, List, [], ◌∷◌}
use Rattle.ipb_base.specs.Word.{big_endian}
use Rattle.world_model.specs.declared.offered.Offered.{Offered}
use Rattle.world_model.specs.Hub.{Hub, new_hub}
use Rattle.reliable_engine.specs.MachineRuns as runs
use Rattle.reliable_engine.specs.MachineRuns.{RunEvent}
use Rattle.reliable_engine.specs.Events.{Offer, Status, Reply, Quiet, Send, after_events}

-- a body of one word, under that word as its tag
abbrev pub one_word : ℕ → Offered
one_word word = record { tag = word; body = word ∷ [] }

-- two bodies sent with the identifiers 65535 and 1, and their replies heard in the other order
abbrev pub two_sent : Hub
two_sent = after_events (new_hub 65535 2 8) (Offer (one_word 7) ∷ Offer (one_word 8) ∷ Send ∷ Send ∷ [])

abbrev pub two_settled : Hub
two_settled = after_events two_sent (Reply 1 (0x88 ∷ []) ∷ Reply 65535 (0x77 ∷ []) ∷ [])

-- three bodies sent with the identifiers 65534, 65535 and 1, and in a round a status reply that expects 1
abbrev pub three_told : Hub
three_told = after_events (new_hub 65534 16 8)
    (Offer (one_word 7) ∷ Offer (one_word 8) ∷ Offer (one_word 9) ∷ Send ∷ Send ∷ Send ∷ Quiet ∷ Status 1 ∷ [])

-- a hub of one round that gave up with one body sent and one queued
abbrev pub given_up : Hub
given_up = after_events (new_hub 1 1 1) (Offer (one_word 7) ∷ Offer (one_word 8) ∷ Send ∷ Quiet ∷ Send ∷ Quiet ∷ [])

-- a reply settles the last body that is waited for, while a status request is still wanted
abbrev pub settled_while_asked : Hub
settled_while_asked =
    after_events (new_hub 1 1 8) (Offer (one_word 7) ∷ Send ∷ Quiet ∷ Reply 1 (0x77 ∷ []) ∷ [])

-- over a link: two bodies are offered and sent, and their replies heard in the other order
abbrev pub two_bodies_settled : List RunEvent
two_bodies_settled = runs.Offer 7 (7 ∷ []) ∷ runs.Offer 8 (8 ∷ []) ∷ runs.Send ∷ runs.Send
    ∷ runs.Heard (big_endian (0x200001f0 ∷ 0x88 ∷ [])) ∷ runs.Heard (big_endian (0x20fffff0 ∷ 0x77 ∷ [])) ∷ []

-- a body is offered and sent, its status asked for once, and its reply heard after the give-up
abbrev pub one_body_late : List RunEvent
one_body_late = runs.Offer 7 (7 ∷ []) ∷ runs.Send ∷ runs.Quiet ∷ runs.Send ∷ runs.Quiet
    ∷ runs.Heard (big_endian (0x200001f0 ∷ 0x77 ∷ [])) ∷ []

-- Looking for a reply by its identifier.
use Rattle.std.proofs.Common.{◌≡◌, ℕ, ◌+◌, ◌<◌, ◌≤◌, ◌==◌, List, length, drop, get_or, Some, None, sym, ap, ◌∙◌}
use Rattle.std.proofs.Common.{if◌then◌else◌}
use Rattle.std.proofs.lemmas.Bool.{eq-eqb}
use Rattle.std.proofs.lemmas.List.{drop_all, drop_more}
use Rattle.packet_codec.specs.declared.packet.Packet.{Packet}
use Rattle.world_model.specs.Board.{with_id}
use Rattle.world_model.proofs.Lists.{differ}

-- what is left from the place of an item on begins with it
at_item : (id : ℕ) (packets : List Packet) (at : ℕ) (packet : Packet) → at < length packets
    → packet ≡ get_or packets at packet
    → with_id id (drop at packets) ≡ (if packet.id == id then Some packet else with_id id (drop (at + 1) packets))
at_item id packets at packet within is =
    ap (with_id id) (drop_more packets at packet within)
    ∙ ap (λ (p : Packet). if p.id == id then Some p else with_id id (drop (at + 1) packets)) (sym is)

pub with_id_here : (id : ℕ) (packets : List Packet) (at : ℕ) (packet : Packet) → at < length packets
    → packet ≡ get_or packets at packet
    → packet.id ≡ id → with_id id (drop at packets) ≡ Some packet
with_id_here id packets at packet within is same =
    at_item id packets at packet within is ∙ ap (λ b. if b then Some packet else with_id id (drop (at + 1) packets))
    (eq-eqb packet.id id same)

pub with_id_past : (id : ℕ) (packets : List Packet) (at : ℕ) (packet : Packet) → at < length packets
    → packet ≡ get_or packets at packet
    → (packet.id ≡ id → ⊥) → with_id id (drop at packets) ≡ with_id id (drop (at + 1) packets)
with_id_past id packets at packet within is other =
    at_item id packets at packet within is ∙ ap (λ b. if b then Some packet else with_id id (drop (at + 1) packets))
    (differ packet.id id other)

pub with_id_none : (id : ℕ) (packets : List Packet) (at : ℕ) → length packets ≤ at → with_id id (drop at packets) ≡ None
with_id_none id packets at past = ap (with_id id) (drop_all at packets past)

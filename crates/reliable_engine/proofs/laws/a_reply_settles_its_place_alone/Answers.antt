use Rattle.std.proofs.Common.{sym, subst}
use Rattle.packet_ids.specs.Identifier.{IsIdentifier}
use Rattle.world_model.specs.Hub.{new_hub}
use Rattle.reliable_engine.specs.Events.{after_events}
use Rattle.reliable_engine.proofs.Runs.{new_is_hub, same_first, stays_hub}
use Rattle.reliable_engine.proofs.Rests.{settles_alone}
use Rattle.reliable_engine.proofs.laws.a_reply_settles_its_place_alone.Goals as goal

pub returns : goal.returns
returns c = λ first window rounds id words events is one few.
    let start = new_hub first window rounds in
    settles_alone (after_events start events) id words (subst IsIdentifier (sym (same_first start events)) is)
    (stays_hub start events (new_is_hub first window rounds few one))

use Rattle.std.proofs.Common.{sym, subst, refl}
use Rattle.std.proofs.lemmas.Bool.{lt-ltb, le-ltb}
use Rattle.packet_ids.specs.Identifier.{IsIdentifier}
use Rattle.world_model.specs.Hub.{new_hub}
use Rattle.reliable_engine.specs.Events.{after_events}
use Rattle.reliable_engine.proofs.Hubs.{stray_status, told_recovers}
use Rattle.reliable_engine.proofs.Runs.{new_is_hub, same_first, stays_hub}
use Rattle.reliable_engine.proofs.laws.a_status_reply_recovers_each_open_place.Goals as goal

pub returns-clause-taken : goal.returns-clause-taken
returns-clause-taken c = λ first window rounds next events is one few told.
    let start = new_hub first window rounds in
    told_recovers (after_events start events) next told (subst IsIdentifier (sym (same_first start events)) is)
    (stays_hub start events (new_is_hub first window rounds few one))

pub returns-clause-stray : goal.returns-clause-stray
returns-clause-stray c = stray_status

pub returns-clause-below : goal.returns-clause-below
returns-clause-below c = λ told o below. rw (lt-ltb o.place told below) refl

pub returns-clause-others : goal.returns-clause-others
returns-clause-others c = λ told o from. rw (le-ltb o.place told from) refl

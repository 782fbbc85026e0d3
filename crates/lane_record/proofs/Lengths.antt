-- Lemmas on the words of replies: each fits a packet.
use Rattle.std.proofs.Common.{◌≡◌, ℕ, ◌≤◌, zero, suc, List, [], ◌∷◌, length, Option, Some, None, subst}
use Rattle.std.specs.Prelude.{IfSome}
use Rattle.std.specs.List.{slice_get}
use Rattle.packet_codec.specs.declared.packet.TheConstants.{MAX_BODY_WORDS}
use Rattle.world_model.specs.Messages.{ToHub, Reply}
use Rattle.world_model.specs.Hub.{Hub, give_up, take_message}
use Rattle.lane_record.specs.declared.outcome.Outcome.{Outcome}
use Rattle.lane_record.specs.Outcomes.{AreShort, IsShort}
use Rattle.lane_record.specs.Offers.{all_lost, put_all}
use Rattle.lane_record.proofs.EachOutcome.{all_lost_hold, give_up_holds, message_holds}

abbrev pub ShortIfThere : Option Outcome → Type 0
ShortIfThere o = IfSome o IsShort

pub give_up_short : (hub : Hub) (outs : List (Option Outcome)) → hub.fates ≡ [] → AreShort outs
    → AreShort (put_all (give_up hub).fates outs)
give_up_short hub outs none are = give_up_holds IsShort hub outs (λ place. tt) tt none are

-- the words of a datagram are as many as it tells
pub message_short : (hub : Hub) (message : Option ToHub) (outs : List (Option Outcome))
    → ((id : ℕ) (words : List ℕ) → message ≡ Some (Reply id words) → length words ≤ MAX_BODY_WORDS)
    → hub.fates ≡ [] → AreShort outs → AreShort (put_all (take_message hub message).fates outs)
message_short hub message outs short none are =
    message_holds IsShort hub message outs (λ id words is place. short id words is) none are

pub all_lost_short : (sent : ℕ) (outs : List (Option Outcome)) → AreShort outs → AreShort (all_lost sent outs)
all_lost_short sent outs are = all_lost_hold IsShort sent outs (λ place. tt) are

-- one of them
pub short_at : (outs : List (Option Outcome)) (k : ℕ) (o : Outcome) → AreShort outs → slice_get outs k ≡ Some (Some o)
    → IsShort o
short_at [] k o are there = absurd cc
short_at (x ∷ outs) (suc k) o are there = short_at outs k o are.1 there
short_at (None ∷ outs) zero o are there = absurd cc
short_at (Some y ∷ outs) zero o are there = subst IsShort (let same : Some (Some y) ≡ Some (Some o) = there in cc) are.0

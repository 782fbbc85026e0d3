-- What a call leaves of its link. Profile.
use Rattle.std.specs.Prelude.{◌≡◌, ◌≢◌, ◌⊎◌, ◌≤◌, ℕ, List, true, false, IfSome, Result, Err}
use Rattle.ipb_base.specs.Faults.{Rose}
use Rattle.ipb_base.specs.Lists.{IsPrefix}
use Rattle.links.specs.declared.link.Link.{Ghosts}
use Rattle.links.specs.declared.link.LinkFault.{LinkFault}
use Rattle.links.specs.declared.link.LinkFault.TheVariants.{Failed}
use Rattle.links.specs.Receives.{receives_in}
use Rattle.hub_lane.specs.declared.answers.Pumped.{Pumped}
use Rattle.hub_lane.specs.Hearing.{gots_of, quiets_of, receives_of}
use Rattle.hub_lane.specs.Lanes.{LaneState, board_of}

-- No count fell, nothing that was received is forgotten, and the number and the board are the same.
pub record KeepsCounting {L : Type 0} (seen : Ghosts L) (old new : L) : Type 0 where
  pub faults : seen.faults old ≤ seen.faults new
  pub quiets : seen.quiets old ≤ seen.quiets new
  pub gots : seen.gots old ≤ seen.gots new
  pub receives : IsPrefix (receives_in (seen.traffic old)) (receives_in (seen.traffic new))
  pub number : seen.number new ≡ seen.number old
  pub held : seen.held old ≤ seen.held new
  pub board : board_of (seen.telling new) ≡ board_of (seen.telling old)

-- Nothing was received. What was sent may have failed or been held, and the number and the board are the same.
pub record ReceivesNothing {L : Type 0} (seen : Ghosts L) (old new : L) : Type 0 where
  pub faults : seen.faults old ≤ seen.faults new
  pub quiets : seen.quiets new ≡ seen.quiets old
  pub gots : seen.gots new ≡ seen.gots old
  pub receives : receives_in (seen.traffic new) ≡ receives_in (seen.traffic old)
  pub number : seen.number new ≡ seen.number old
  pub held : seen.held old ≤ seen.held new
  pub board : board_of (seen.telling new) ≡ board_of (seen.telling old)

-- a pump that came to this is counted: it received once, or not at all
pub record CountsPump {L : Type 0} (seen : Ghosts L) (pumped : Pumped) (old new : L) : Type 0 where
  pub quiets : seen.quiets new ≡ quiets_of pumped (seen.quiets old)
  pub gots : seen.gots new ≡ gots_of pumped (seen.gots old)

-- ... and left these bytes in its buffer
pub record ReceivesOnce {L : Type 0} (seen : Ghosts L) (pumped : Pumped) (bytes : List ℕ) (old new : L) : Type 0 where
  pub counts : CountsPump seen pumped old new
  pub receives : receives_in (seen.traffic new) ≡ receives_of pumped bytes (receives_in (seen.traffic old))

-- A call in which the network failed counted a fault; over a link that tells no other call does.
pub record CountsFaults {L T : Type 0} (seen : Ghosts L) (result : Result T LinkFault) (old new : L) : Type 0 where
  pub failed : result ≡ Err Failed → Rose (seen.faults old) (seen.faults new)
  pub unfaulted : IfSome (seen.telling old) (λ _. result ≢ Err Failed → seen.faults new ≡ seen.faults old)

-- A lane goes down only where its link counted a fault; over a link that tells none is counted while it stays up.
pub record IsDownByFault {L : Type 0} (seen : Ghosts L) (old new : LaneState L) : Type 0 where
  pub down : new.down ≡ true → (old.down ≡ true) ⊎ Rose (seen.faults old.link) (seen.faults new.link)
  pub up : IfSome (seen.telling old.link) (λ _. new.down ≡ false → seen.faults new.link ≡ seen.faults old.link)

-- nothing that contracts see of the link changed
pub record ShowsTheSame {L : Type 0} (seen : Ghosts L) (old new : L) : Type 0 where
  pub telling : seen.telling new ≡ seen.telling old
  pub faults : seen.faults new ≡ seen.faults old
  pub quiets : seen.quiets new ≡ seen.quiets old
  pub gots : seen.gots new ≡ seen.gots old
  pub traffic : seen.traffic new ≡ seen.traffic old
  pub number : seen.number new ≡ seen.number old
  pub held : seen.held new ≡ seen.held old

-- The datagrams under way on a simulated link, by their places in the air. Profile throughout.
use Rattle.std.specs.Prelude.{ℕ, ◌+◌, ◌==◌, Bool, not, List, [], ◌∷◌, ◌++◌, map}
use Rattle.std.specs.List.{filter}
use Rattle.ipb_base.specs.Faults.{one_more}
use Rattle.lossy_network.specs.declared.fates.DatagramFate.{DatagramFate}
use Rattle.lossy_network.specs.declared.fates.DatagramFate.TheVariants.{Delivered, Lost, Repeated, Delayed}
use Rattle.lossy_network.specs.declared.under_way.Late.{Late}

-- The queue of those that are ready to be heard, the next one in front; those that are delayed, in order of sending;
-- and how many were lost, delayed or dropped for age.
pub record Traffic : Type 0 where
  pub queue : List ℕ
  pub delayed : List Late
  pub held : ℕ

-- what its fate does to the datagram at a place
abbrev pub meets : DatagramFate → ℕ → Traffic → Traffic
meets Delivered place traffic = record traffic { queue = traffic.queue ++ place ∷ [] }
meets Lost place traffic = record traffic { held = one_more traffic.held }
meets Repeated place traffic = record traffic { queue = traffic.queue ++ place ∷ place ∷ [] }
meets (Delayed by) place traffic = record traffic {
  delayed = traffic.delayed ++ record { place = place; by = by } ∷ [];
  held = one_more traffic.held;
}

-- a datagram that is delayed by so many as there are from it to this place
abbrev pub is_due : ℕ → Late → Bool
is_due place late = late.place + late.by == place

abbrev pub place_of : Late → ℕ
place_of late = late.place

abbrev pub due_at : ℕ → List Late → List ℕ
due_at place delayed = map place_of (filter (is_due place) delayed)

abbrev pub still_late : ℕ → List Late → List Late
still_late place delayed = filter (λ late. not (is_due place late)) delayed

-- A datagram is sent: its fate is done. Right after it those that are delayed by so many go to the back of the queue,
-- in order of sending.
abbrev pub releases : ℕ → Traffic → Traffic
releases place traffic = record traffic {
  queue = traffic.queue ++ due_at place traffic.delayed;
  delayed = still_late place traffic.delayed;
}

abbrev pub put_on : DatagramFate → ℕ → Traffic → Traffic
put_on fate place traffic = releases place (meets fate place traffic)

-- A berth as contracts see it: a board in greetings, one after another. Profile.
use Rattle.std.specs.Prelude.{◌≡◌, ℕ, ◌+◌, ◌-◌, ◌^◌, ◌<◌, List, [], ◌∷◌, ◌++◌, length, min, Option}
use Rattle.std.specs.List.{AllByRecursion}
use Rattle.turn_pass.specs.Record.{Record}
use Rattle.world_model.specs.Settings.{Limits}
use Rattle.links.specs.Telling.{Telling}
use Rattle.links.specs.declared.link.Link.{Ghosts}
use Rattle.board_berth.specs.declared.greeting.Greeting.{Greeting}
use Rattle.board_berth.specs.Greetings.{IsMet, IsPast, IsPresent}
use Rattle.board_berth.specs.Records.{entries_from, record_of_all, stretches}

-- The settings, and the number of the links among those of their rack; the past greetings, the oldest first, each as it
-- stood at its end; and the present one.
pub record BerthState (L : Type 0) : Type 0 where
  pub settings : Limits
  pub number : ℕ
  pub past : List (Greeting L)
  pub present : Greeting L

-- all greetings, the oldest first
abbrev pub greetings_of : {L : Type 0} → BerthState L → List (Greeting L)
greetings_of berth = berth.past ++ berth.present ∷ []

abbrev pub berth_record : {L : Type 0} → (L → Option Telling) → BerthState L → Record
berth_record tells berth = record_of_all tells berth.settings berth.number (greetings_of berth)

-- What holds of every berth: each greeting is one of its board with its settings, over a link with its number, and
-- nothing of the past ones was open when they ended.
pub record IsBerth {L : Type 0} (seen : Ghosts L) (berth : BerthState L) : Type 0 where
  pub of_past : AllByRecursion (IsPast seen berth.settings berth.number) berth.past
  pub of_present : IsPresent seen berth.settings berth.number berth.present

-- how many greetings there were; the count stands still at 2^64 - 1
abbrev pub greeting_count : {L : Type 0} → BerthState L → ℕ
greeting_count berth = min (length berth.past + 1) (2 ^ 64 - 1)

-- What the code keeps beside: so many entries the past greetings have, and so many greetings there were.
pub record IsKept {L : Type 0} (seen : Ghosts L) (settings : Limits) (number : ℕ) (past : List (Greeting L))
    (present : Greeting L) (entries greetings : ℕ) : Type 0 where
  pub of_past : AllByRecursion (IsPast seen settings number) past
  pub met : IsMet seen settings number present
  pub entries_are : entries ≡ length (entries_from 0 (stretches seen.telling past))
  pub few : entries < 2 ^ 62
  pub counted : greetings ≡ min (length past + 1) (2 ^ 64 - 1)

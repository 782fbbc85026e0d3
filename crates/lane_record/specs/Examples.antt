-- Values for worked examples.
use Rattle.std.specs.Prelude.{List, [], ◌∷◌, Option, Some, None}
use Rattle.lane_record.specs.declared.outcome.Outcome.{Outcome}
use Rattle.lane_record.specs.declared.outcome.Outcome.TheVariants.{Replied, TimedOut}
use Rattle.lane_record.specs.declared.item.Item.{Item}
use Rattle.lane_record.specs.NextEntry.{plan_of, ask_of, took_of, the_seal}

-- Clients 1 and 2 each plan and ask one body. Client 2 takes its reply; then the hub gives up, and client 1 takes that.
abbrev pub asked_by_two : List Item
asked_by_two = plan_of 1 0 (7 ∷ []) ∷ plan_of 2 0 (8 ∷ []) ∷ the_seal ∷ ask_of 1 0 0 ∷ ask_of 2 0 0 ∷ []

abbrev pub taken_by_two : List Item
taken_by_two =
    plan_of 1 0 (7 ∷ []) ∷ plan_of 2 0 (8 ∷ []) ∷ the_seal ∷ ask_of 1 0 0 ∷ ask_of 2 0 0
    ∷ took_of 2 0 (Replied 2 (9 ∷ [])) 0 ∷ took_of 1 0 (TimedOut 1 3) 1 ∷ []

abbrev pub outcomes_of_two : List (Option Outcome)
outcomes_of_two = Some (TimedOut 1 3) ∷ Some (Replied 2 (9 ∷ [])) ∷ []

-- ---- records that are not legal

abbrev pub planned_twice : List Item
planned_twice = plan_of 1 0 (7 ∷ []) ∷ plan_of 1 0 (8 ∷ []) ∷ []

abbrev pub planned_behind_seal : List Item
planned_behind_seal = the_seal ∷ plan_of 1 0 (7 ∷ []) ∷ []

abbrev pub asked_before_planned : List Item
asked_before_planned = ask_of 1 0 0 ∷ plan_of 1 0 (7 ∷ []) ∷ []

-- client 2 takes the reply at the place of client 1
abbrev pub taken_by_another : List Item
taken_by_another =
    plan_of 1 0 (7 ∷ []) ∷ plan_of 2 0 (8 ∷ []) ∷ the_seal ∷ ask_of 1 0 0 ∷ ask_of 2 0 0
    ∷ took_of 2 0 (Replied 1 (9 ∷ [])) 0 ∷ []

abbrev pub first_replied : List (Option Outcome)
first_replied = Some (Replied 1 (9 ∷ [])) ∷ None ∷ []

-- the place of the second Ask stands before that of the first
abbrev pub places_by_arrival : List (Option Outcome)
places_by_arrival = Some (Replied 2 (9 ∷ [])) ∷ Some (Replied 1 (9 ∷ [])) ∷ []

-- timed out, though the lane has not given up since the Ask
abbrev pub timed_out_at_once : List Item
timed_out_at_once =
    plan_of 1 0 (7 ∷ []) ∷ ask_of 1 0 0 ∷ took_of 1 0 (TimedOut 1 3) 0 ∷ []

abbrev pub first_timed_out : List (Option Outcome)
first_timed_out = Some (TimedOut 1 3) ∷ []

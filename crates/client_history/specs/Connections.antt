-- What connections submit to a board, and what they leave in the record of its lane: a connection is a client, and each
-- of its bodies is a dispatch. Profile.
use Rattle.std.specs.Prelude.{◌≡◌, ℕ, ◌+◌, List, [], ◌∷◌, map, ⊤}
use Rattle.std.specs.List.{filter_map}
use Rattle.turn_pass.specs.Pass.{Joined, Knowledge}
use Rattle.lane_record.specs.declared.outcome.Outcome.{Outcome}
use Rattle.lane_record.specs.Coding.{item_from}
use Rattle.lane_record.specs.Dispatches.{numbered_action}
use Rattle.lane_record.specs.Submissions.{Submission, submissions_from}
use Rattle.client_threads.specs.Clients.{TookIn}

-- ---- the bodies of a connection, and what became of each

abbrev pub submitted_bodies : List Submission → List (List ℕ)
submitted_bodies submissions = map (λ (s : Submission). s.body) submissions

abbrev pub outcomes_of : List Submission → List Outcome
outcomes_of submissions = map (λ (s : Submission). s.outcome) submissions

-- dispatch by dispatch, of one body each
abbrev pub dispatches_of : List Submission → List (List Outcome)
dispatches_of submissions = map (λ (s : Submission). s.outcome ∷ []) submissions

-- ---- at a hub

-- What the seat of a connection did on a lane, by the entries of its pass, which was taken in: it submitted these
-- bodies, one after the other.
pub record SubmittedAll (client : ℕ) (submissions : List Submission) (pass : Joined) : Type 0 where
  pub number : pass.number ≡ client
  pub actions : map numbered_action (filter_map item_from pass.mine) ≡ submissions_from 0 submissions

-- so of the connections from a number on, in order
abbrev pub AllSubmitted : ℕ → List (List Submission) → List Joined → Type 0
AllSubmitted client [] [] = ⊤
AllSubmitted client (submissions ∷ later) (pass ∷ passes) =
    SubmittedAll client submissions pass × AllSubmitted (client + 1) later passes
AllSubmitted client connections passes = ⊥

-- what the master knows of a lane once the seats of all connections, from client 1 on, were taken in
pub record WereServedOn (connections : List (List Submission)) (before after : Knowledge) : Type 0 where
  pub passes : List Joined
  pub took_in : TookIn passes before after
  pub each : AllSubmitted 1 connections passes

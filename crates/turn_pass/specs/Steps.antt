-- The kinds of step of a turn, by what each tells the pass that makes it. Profile.
use Rattle.std.specs.Prelude.{◌≡◌, ◌≢◌, ℕ, Bool, true, false, if◌then◌else◌, List, [], ◌∷◌, length, Option, Some, None}
use Rattle.atomic_table.specs.Table.{Me, Step}
use Rattle.turn_pass.specs.Record.{Record}
use Rattle.turn_pass.specs.Pass.{
  Knowledge,
  Told,
  first_knowledge,
  having_given,
  having_seen,
  in_vain,
  newcomer,
  one_more_made,
  taking_in,
}
use Rattle.turn_pass.specs.Rule.{Stage, View}
use Rattle.turn_pass.specs.Rule.Stage.{Idle, Took, Has, Stores}

-- a pass that is not spent
abbrev pub view_at : Stage → Knowledge → View
view_at stage k = record { knows = k; stage = stage; spent = false }

-- a pass between calls: it holds the value with the record that it has seen, or nothing
abbrev pub view_at_rest : Bool → Knowledge → View
view_at_rest holds k = if holds then view_at (Has k.seen) k else view_at Idle k

-- what is left of a pass that was taken in
abbrev pub spent_view : View
spent_view = record { knows = first_knowledge (record { head = []; entries = [] }); stage = Idle; spent = true }

-- the record that a pass took
abbrev pub record_taken : Stage → Record
record_taken Idle = record { head = []; entries = [] }
record_taken (Took r) = r
record_taken (Has r) = r
record_taken (Stores r n) = r

-- the record of the value that a pass puts back
abbrev pub record_carried : {V : Type 0} → (V → Record) → List (ℕ × Option V) → Record
record_carried entries ((k, Some value) ∷ slots) = entries value
record_carried entries slots = record { head = []; entries = [] }

-- An exchange. Where it finds no holder it takes, and else it is in vain. That of the only pass is never in vain.
abbrev pub Takes : {V : Type 0} → (V → Record) → Step (Option V) → Me (Option V) View → ℕ → Me (Option V) View → Type 0
Takes {V} entries step me found after =
    (found ≡ 0 → (value : V) × (after ≡ (view_at (Took (entries value)) me.0.knows, (0, Some value) ∷ []))
    × Told me.0.knows (entries value))
    × (found ≢ 0 → after ≡ (view_at Idle (in_vain me.0.knows), []))
    × (me.0.knows.number ≡ 0 → me.0.knows.made ≡ 1 → found ≡ 0)

-- the holder's load
abbrev pub Loads : {V : Type 0} → Step (Option V) → Me (Option V) View → ℕ → Me (Option V) View → Type 0
Loads step me found after =
    (after ≡ (view_at (Has (record_taken me.0.stage)) (having_seen me.0.knows (record_taken me.0.stage)), []))
    × (found ≡ length (record_taken me.0.stage).entries)

-- the holder's store
abbrev pub StoresNumber : {V : Type 0} → Step (Option V) → Me (Option V) View → ℕ → Me (Option V) View → Type 0
StoresNumber step me stored after =
    after ≡ (view_at (Stores (record_taken me.0.stage) stored) me.0.knows, (0, None) ∷ [])

-- the exchange that gives
abbrev pub Gives : {V : Type 0} → (V → Record) → Step (Option V) → Me (Option V) View → ℕ → Me (Option V) View → Type 0
Gives entries step me found after =
    after ≡ (view_at Idle (having_given me.0.knows (record_carried entries me.1)), [])

-- the first pass, and the pass that it makes
abbrev pub first_after_split : View → View
first_after_split v = view_at Idle (one_more_made v.knows)

abbrev pub pass_made : View → View
pass_made v = view_at Idle (newcomer v.knows)

-- a pass that took in another
abbrev pub view_joined : View → View → View
view_joined v other = view_at Idle (taking_in v.knows other.knows)

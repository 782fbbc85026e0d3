-- The two sides of connections that a door lets in and takes back, as contracts see them. Profile.
use Rattle.std.specs.Prelude.{◌≡◌, ℕ, Bool, List, ◌++◌, map, Option, option_map}
use Rattle.ipb_outside.specs.declared.door.Door.{Ghosts as DoorGhosts}
use Rattle.ipb_outside.specs.declared.sink.Sink.{Ghosts as SinkGhosts}
use Rattle.ipb_outside.specs.declared.source.Source.{Ghosts as SourceGhosts}

-- What a connection shows: the bytes that its source has left and those that its sink was given, each where it is told,
-- the faults that each met, in 64 bits, and whether the sink was told that nothing more comes.
pub record PairReport : Type 0 where
  pub left : Option (List ℕ)
  pub read_faults : ℕ
  pub written : Option (List ℕ)
  pub write_faults : ℕ
  pub ended : Bool

-- what a pair shows, by what contracts see of its sides
abbrev pub pair_shown : {I O : Type 0} → SourceGhosts I → SinkGhosts O → I × O → PairReport
pair_shown source sink pair = record {
  left = source.left pair.0;
  read_faults = source.faults pair.0;
  written = sink.written pair.1;
  write_faults = sink.faults pair.1;
  ended = sink.ended pair.1;
}

-- these connections came: the first of those that were coming, in order, where the door tells them
abbrev pub Came : {C : Type 0} → Option (List C) → Option (List C) → List C → Type 0
Came coming coming_now came = coming ≡ option_map (λ rest. came ++ rest) coming_now

-- they were given back behind those that were kept before, in order, where the door tells them
abbrev pub Went : {C : Type 0} → Option (List C) → Option (List C) → List C → Type 0
Went kept kept_now back = kept_now ≡ option_map (λ before. before ++ back) kept

-- Connections of a door came and were given back in the order in which they came, and so much holds of what they showed
-- before and after.
abbrev pub GivesBack : {D I O : Type 0} → DoorGhosts D I O → SourceGhosts I → SinkGhosts O → D → D
    → (List PairReport → List PairReport → Type 0) → Type 0
GivesBack {D} {I} {O} seen source sink door door_now holds =
    (came : List (I × O)) × (back : List (I × O)) × Came (seen.coming door) (seen.coming door_now) came
    × Went (seen.kept door) (seen.kept door_now) back
    × holds (map (pair_shown source sink) came) (map (pair_shown source sink) back)

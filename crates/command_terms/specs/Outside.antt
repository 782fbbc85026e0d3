-- What came into the program from the outside and went back, as contracts see it. Profile.
use Rattle.std.specs.Prelude.{◌≡◌, List, []}
use Rattle.ipb_outside.specs.Pairs.{PairReport}
use Rattle.board_history.specs.Links.{LinkReport}

-- What was given back: what each link of a board shows, in board order, and what each pair of a connection showed when
-- it came and when it went back, in the order of acceptance.
pub record GivenBack : Type 0 where
  pub links : List LinkReport
  pub came : List PairReport
  pub back : List PairReport

-- no connection was let in
abbrev pub no_pairs : List LinkReport → GivenBack
no_pairs links = record { links = links; came = []; back = [] }

-- no pair came, and none went back
abbrev pub NoneCame : List PairReport → List PairReport → Type 0
NoneCame came back = (came ≡ []) × (back ≡ [])

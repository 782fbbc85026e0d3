-- The description of a capture: its first identifier, what each datagram says, and the greatest place that it proves.
-- Profile.
use Rattle.std.specs.Prelude.{◌≡◌, ℕ, List, [], ◌∷◌, ◌++◌, codes}
use Rattle.std.specs.Fmt.{decimal}
use Rattle.capture_reader.specs.declared.capture.Caught.{Caught}
use Rattle.capture_reader.specs.declared.capture.Capture.{Capture}
use Rattle.capture_reader.specs.CaptureText.{first_text}
use Rattle.capture_reader.specs.Proved.{IsProved}
use Rattle.capture_reader.specs.Rows.{IsTextOf}

-- the texts of datagrams, one after the other
abbrev pub AreTextsOf : List Caught → List ℕ → Type 0
AreTextsOf [] text = text ≡ []
AreTextsOf (item ∷ items) text =
    (front : List ℕ) × (rest : List ℕ) × IsTextOf item front × AreTextsOf items rest × (text ≡ front ++ rest)

-- the last line
abbrev pub proved_text : ℕ → List ℕ
proved_text place = codes "proved " ++ (decimal place ++ codes "\n")

pub record IsDescription (capture : Capture) (text : List ℕ) : Type 0 where
  pub datagrams : List ℕ
  pub place : ℕ
  pub said : AreTextsOf capture.items datagrams
  pub proved : IsProved capture place
  pub whole : text ≡ first_text capture.first ++ (datagrams ++ proved_text place)

-- What is read beside the text behind it.
use Rattle.std.proofs.Common.{◌≡◌, ℕ, List, Option, Some, None, ap}
use Rattle.capture_reader.specs.Fronts.{with_text}
use Rattle.ipb_base.proofs.Fronts.{item_or, rest_of}

pub texted : {A : Type 0} (a b : A) (r : Option (List ℕ)) (rest : List ℕ) → with_text a r ≡ Some (b, rest)
    → (a ≡ b) × (r ≡ Some rest)
texted a b None rest e = absurd cc
texted a b (Some text) rest e = (ap (item_or a) e, ap (λ read. Some (rest_of read)) e)

-- How the code reads what stands at the front of a text, and the text behind it. The private functions speak of it and
-- no public clause does.
use Rattle.std.specs.Prelude.{◌≡◌, ℕ, zero, suc, ◌==◌, if◌then◌else◌, List, [], ◌∷◌, length, Option, Some, None}

-- what stands at the front, and the text behind it
abbrev pub Front : Type 0 → Type 0
Front A = Option (A × List ℕ)

infixl 10 ◌>>=◌
abbrev pub ◌>>=◌ : {A B : Type 0} → Option A → (A → Option B) → Option B
(Some x) >>= f = f x
None >>= f = None

-- the text behind a word, where the text begins with it
abbrev pub behind : List ℕ → List ℕ → Option (List ℕ)
behind [] text = Some text
behind (c ∷ word) [] = None
behind (c ∷ word) (byte ∷ text) = if byte == c then behind word text else None

-- one more in front of those that were read
abbrev pub in_front : {A : Type 0} → A → List A × List ℕ → List A × List ℕ
in_front a read = (a ∷ read.0, read.1)

abbrev pub many_by : {A : Type 0} → (List ℕ → List A × List ℕ) → List ℕ → Front A → List A × List ℕ
many_by later text None = ([], text)
many_by later text (Some read) = in_front read.0 (later read.1)

-- at most so many, one after the other, up to where none stands
abbrev pub many : {A : Type 0} → (List ℕ → Front A) → ℕ → List ℕ → List A × List ℕ
many at zero text = ([], text)
many at (suc most) text = many_by (many at most) text (at text)

-- all of them: there are no more than the text has bytes
abbrev pub all_of : {A : Type 0} → (List ℕ → Front A) → List ℕ → List A × List ℕ
all_of at text = many at (length text) text

-- what a function found, seen by `view`
abbrev pub Finds : {X Y : Type 0} → (X → Y) → Option X → Option Y → Type 0
Finds view (Some x) read = read ≡ Some (view x)
Finds view None read = read ≡ None

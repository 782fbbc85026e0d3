-- Lists of 32-bit words: appended, cut, repeated, and seen by their items.
use Rattle.std.proofs.Common.{ℕ, zero, suc, ◌<◌, ◌^◌, List, [], ◌∷◌, ◌++◌, take, replicate, get_or, lit<}
use Rattle.ipb_base.specs.Word.{IsWord, AreWords}
use Rattle.ipb_base.proofs.AllLemmas.{AllByRecursion-append, AllByRecursion-replicate, back_of_all}

pub AreWords-append : (front back : List ℕ) → AreWords front → AreWords back → AreWords (front ++ back)
AreWords-append front back fits more = AllByRecursion-append IsWord front back fits more

pub AreWords-after : (front back : List ℕ) → AreWords (front ++ back) → AreWords back
AreWords-after front back fits = back_of_all IsWord front back fits

pub AreWords-take : (n : ℕ) (words : List ℕ) → AreWords words → AreWords (take n words)
AreWords-take zero words fits = tt
AreWords-take (suc n) [] fits = tt
AreWords-take (suc n) (word ∷ words) fits = (fits.0, AreWords-take n words fits.1)

-- zeros are words
pub AreWords-zeros : (n : ℕ) → AreWords (replicate n 0)
AreWords-zeros n = AllByRecursion-replicate IsWord n 0 (lit< tt)

-- a list whose items are all below 2 ^ 32 is one of words
pub AreWords-at : (words : List ℕ) → ((i : ℕ) → get_or words i 0 < 2 ^ 32) → AreWords words
AreWords-at [] fits = tt
AreWords-at (word ∷ words) fits = (fits 0, AreWords-at words (λ i. fits (suc i)))

-- each item of a list of words is one, and so is the 0 behind them
pub word_at : (words : List ℕ) (i : ℕ) → AreWords words → IsWord (get_or words i 0)
word_at [] i fits = lit< tt
word_at (word ∷ words) zero fits = fits.0
word_at (word ∷ words) (suc i) fits = word_at words i fits.1

-- The words of a noise, one after another.
use Rattle.std.proofs.Common.{◌≡◌, ◌∙◌, ℕ, zero, suc, ◌+◌, refl, sym, ap, Some, arith}
use Rattle.std.specs.List.{slice_get}
use Rattle.rand_core.specs.Steps.{first_words}
use Rattle.rand_pcg.specs.Lcg.{Lcg, advance, next, next_state, state_after}
use Rattle.rand_pcg.specs.Pcg.{multiplier_64, pcg32}
use Rattle.lossy_network.specs.Fates.{generator_of, words_of}

one_more_is : (n : ℕ) → suc n ≡ n + 1
one_more_is n = omega arith

state_later : (w m increment n state : ℕ) → state_after w m increment (suc n) state
    ≡ next_state w m increment (state_after w m increment n state)
unfolding state_after
state_later w m increment zero state = refl
state_later w m increment (suc n) state = state_later w m increment n (next_state w m increment state)

-- one step more
pub advance_more : (n : ℕ) (g : Lcg)
    → advance 64 multiplier_64 (n + 1) g ≡ next 64 multiplier_64 (advance 64 multiplier_64 n g)
advance_more n g = ap (λ (k : ℕ). advance 64 multiplier_64 k g) (sym (one_more_is n))
    ∙ ap (λ (s : ℕ). record g { state = s }) (state_later 64 multiplier_64 g.increment n g.state)

pub no_advance : (g : Lcg) → g ≡ advance 64 multiplier_64 0 g
unfolding state_after
no_advance g = refl

word_after : (n : ℕ) (g : Lcg) → slice_get (first_words pcg32 (suc n) g) n
    ≡ Some (pcg32 (advance 64 multiplier_64 n g)).0
unfolding first_words state_after
word_after zero g = refl
word_after (suc n) g = word_after n (next 64 multiplier_64 g)

-- the word at a place is the one that the generator gives after so many steps
pub word_there : (noise place : ℕ) → slice_get (words_of noise (place + 1)) place
    ≡ Some (pcg32 (advance 64 multiplier_64 place (generator_of noise))).0
word_there noise place = ap (λ (k : ℕ). slice_get (words_of noise k) place) (sym (one_more_is place))
    ∙ word_after place (generator_of noise)

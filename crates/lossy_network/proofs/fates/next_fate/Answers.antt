use Rattle.std.proofs.Common.{◌≡◌, ◌∙◌, sym, ap, Option, ℕ, ◌%◌}
use Rattle.rand_pcg.specs.Lcg.{Lcg, advance, next}
use Rattle.rand_pcg.specs.Pcg.{multiplier_64, pcg32}
use Rattle.lossy_network.specs.Fates.{fate_of_bits, fate_of_word, generator_of}
use Rattle.lossy_network.proofs.Noise.{advance_more, word_there}
use Rattle.lossy_network.proofs.fates.next_fate.Goals as goal

pub returns-in-Noise-clause-fate : goal.returns-in-Noise-clause-fate
returns-in-Noise-clause-fate c =
    let noise = c.in-Noise.field-0 in
    let place = c.args.place in
    let drawn = rw c.in-Noise.is at c.requires in
    let word : c.next_word.result ≡ (pcg32 (advance 64 multiplier_64 place (generator_of noise))).0 =
    ap (λ (p : ℕ × Lcg). p.0) c.next_word.ensures ∙ ap (λ (g : Lcg). (pcg32 g).0) drawn in
    rw c.in-Noise.is (c.fate_of_bits.ensures ∙ (ap (λ (n : ℕ). fate_of_bits (n % 16)) word
    ∙ ap (λ (w : Option ℕ). fate_of_word w) (sym (word_there noise place))))

pub returns-in-Noise-clause-drawn : goal.returns-in-Noise-clause-drawn
returns-in-Noise-clause-drawn c =
    let noise = c.in-Noise.field-0 in
    let place = c.args.place in
    let drawn = rw c.in-Noise.is at c.requires in
    rw c.in-Noise.is (ap (λ (p : ℕ × Lcg). p.1) c.next_word.ensures
    ∙ (ap (λ (g : Lcg). next 64 multiplier_64 g) drawn ∙ sym (advance_more place (generator_of noise))))

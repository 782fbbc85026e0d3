use Rattle.std.proofs.Common.{◌≡◌, ℕ, zero, suc, ◌<◌, List, [], ◌∷◌, Some, refl, sym, ap, ◌∙◌, arith}
use Rattle.std.specs.List.{slice_index_or}
use Rattle.std.proofs.lemmas.Option.{same_Some}
use Rattle.ipb_base.specs.Numbers.{payload_of}
use Rattle.packet_codec.specs.Reading.{packet_of, start_of}
use Rattle.packet_ids.specs.Identifier.{identifier_at}
use Rattle.world_model.specs.Messages.{Reply, StatusReply, to_hub}
use Rattle.board_history.specs.LaneExamples.{greeted_and_replied, reply_datagram, seven_read}
use Rattle.board_history.specs.Receives.{HasBroughtReply}
use Rattle.board_history.proofs.lane_examples.no_other_reply_came.Goals as goal

reply_says : to_hub reply_datagram ≡ Some (Reply 1 seven_read)
unfolding to_hub packet_of start_of
reply_says = refl

alone : (datagram : List ℕ) (k : ℕ) → k < 1
    → slice_index_or (Some reply_datagram ∷ []) k (Some datagram) ≡ Some datagram → reply_datagram ≡ datagram
alone datagram zero less same = same_Some reply_datagram datagram same
alone datagram (suc k) less same = absurd (omega (arith, less))

abbrev eight_read : List ℕ
eight_read = 0x20000100 ∷ 8 ∷ []

-- what the link brought is that reply
brought : (place : ℕ) (words : List ℕ) → HasBroughtReply greeted_and_replied place words
    → Reply 1 seven_read ≡ Reply (identifier_at 1 place) words
unfolding to_hub packet_of start_of
brought place words is =
    let status : StatusReply 1500 4 1 ≡ StatusReply is.mtu is.buffers is.first =
    same_Some (StatusReply 1500 4 1) (StatusReply is.mtu is.buffers is.first) is.status in
    let first : is.first ≡ 1 = cc in
    let there = alone is.among.datagram is.among.among.0 is.among.among.1 is.among.among.2 in
    same_Some (Reply 1 seven_read) (Reply (identifier_at 1 place) words)
    (sym reply_says ∙ ap to_hub there ∙ is.among.reply
    ∙ ap (λ (n : ℕ). Some (Reply (identifier_at n place) words)) first)

pub returns-clause-other_words : goal.returns-clause-other_words
returns-clause-other_words c = λ is.
    let same = brought 1 eight_read is in
    let words : seven_read ≡ eight_read = cc in
    let word : ◌≡◌ {A = ℕ} 7 8 = cc in absurd (omega (arith, word))

pub returns-clause-another_place : goal.returns-clause-another_place
returns-clause-another_place c = λ is.
    let same = brought 2 seven_read is in let number : ◌≡◌ {A = ℕ} 1 2 = cc in absurd (omega (arith, number))

pub returns-clause-before_the_status : goal.returns-clause-before_the_status
unfolding to_hub packet_of start_of
returns-clause-before_the_status c = λ is. let none = is.among.among.1 in absurd (omega (arith, none))

pub returns-clause-another_payload : goal.returns-clause-another_payload
unfolding to_hub packet_of start_of
returns-clause-another_payload c = λ is.
    let status : StatusReply 1500 4 1 ≡ StatusReply is.mtu is.buffers is.first =
    same_Some (StatusReply 1500 4 1) (StatusReply is.mtu is.buffers is.first) is.status in
    let mtu : is.mtu ≡ 1500 = cc in
    let same : ◌≡◌ {A = ℕ} 367 368 = is.packets ∙ ap payload_of mtu in absurd (omega (arith, same))

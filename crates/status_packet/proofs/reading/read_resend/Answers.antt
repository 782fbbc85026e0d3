use Rattle.std.proofs.Common.{◌≡◌, ap, ◌∙◌, arith, lit<}
use Rattle.std.proofs.lemmas.Nat.{from_be_bytes-to_be_bytes_4}
use Rattle.packet_codec.specs.Header.{packet_header}
use Rattle.status_packet.specs.Reading.{word_at}
use Rattle.status_packet.proofs.reading.read_resend.Goals as goal

-- a word that is no packet header is not that of a re-send request
pub returns-in_err-header-clause-only : goal.returns-in_err-header-clause-only
returns-in_err-header-clause-only c id id_fits bytes =
    let word : c.word_at.result ≡ packet_header id 2 =
    c.word_at.ensures ∙ ap (λ bs. word_at bs 0) bytes
    ∙ from_be_bytes-to_be_bytes_4 (packet_header id 2) (omega arith) in
    absurd (let same = c.in_err-header.ensures.only id 2 id_fits (lit< tt) word in cc)

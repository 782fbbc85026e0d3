-- The row of a packet whose words were read while their lines were written.
use Rattle.std.proofs.Common.{◌≡◌, ℕ, List, ◌++◌, length, take, refl, sym, ap, ◌∙◌, inl, Bool, true, false}
use Rattle.std.specs.Prelude.{Result, OnOk}
use Rattle.std.proofs.lemmas.List.{take_at}
use Rattle.transaction_codec.specs.Request.{AreRequests, requests_words}
use Rattle.transaction_codec.specs.Reply.{AreReplies, replies_words}
use Rattle.packet_codec.specs.declared.packet.PacketKind.TheVariants as kinds
use Rattle.packet_codec.specs.declared.packet.Packet.{Packet}
use Rattle.capture_reader.specs.declared.capture.Caught.{Caught}
use Rattle.capture_reader.specs.Rows.{Row, Requests, Replies, row_text, raw_text, IsOfRow}
use Rattle.capture_reader.specs.Describing.{Adds, Appends, IsOfPacket}
use Rattle.capture_reader.proofs.RowLaws.{on_raw, requests_row, replies_row, no_requests, no_replies}

-- what was appended is taken off again
cut_back : (old more new cut : List ℕ) (n : ℕ) → new ≡ old ++ more → n ≡ length old → cut ≡ take n new → cut ≡ old
cut_back old more new cut n added len is =
    is ∙ (ap (λ (text : List ℕ). take n text) added ∙ take_at old more n (sym len))

module _ (item : Caught) (packet : Packet) (of : IsOfPacket item packet) (kind : packet.kind ≡ kinds.Control)
    (words old : List ℕ) (same : words ≡ packet.body) where
  abbrev AddsRequests : List ℕ → Bool → Type 0
  AddsRequests new b =
      Adds AreRequests requests_words (λ requests. row_text (Requests packet.order packet.id requests)) words old new b

  abbrev AddsReplies : List ℕ → Bool → Type 0
  AddsReplies new b =
      Adds AreReplies replies_words (λ replies. row_text (Replies packet.order packet.id replies)) words old new b

  pub requests_added : item.sent ≡ true → (new : List ℕ) (b : Bool) → AddsRequests new b → b ≡ true → Appends item old new
  requests_added sent new true (requests, are, is, e) holds =
      let row = Requests packet.order packet.id requests in
      (row_text row, inl (row, requests_row item packet requests of kind sent are (sym same ∙ is), refl), e)
  requests_added sent new false added holds = absurd cc

  pub replies_added : item.sent ≡ false → (new : List ℕ) (b : Bool) → AddsReplies new b → b ≡ true → Appends item old new
  replies_added received new true (replies, are, is, e) holds =
      let row = Replies packet.order packet.id replies in
      (row_text row, inl (row, replies_row item packet replies of kind received are (sym same ∙ is), refl), e)
  replies_added received new false added holds = absurd cc

  raw_after : {X Y : Type 0} (r : Result X Y) (cut last : List ℕ) → ((row : Row) → IsOfRow item row → ⊥) → cut ≡ old
      → OnOk r (last ≡ cut ++ raw_text item) → OnOk r (Appends item old last)
  raw_after r cut last none back e = rw back at (on_raw r item cut last none e)

  -- the words are no requests: what was appended is taken off again, and the bytes are written
  pub requests_none : {X Y : Type 0} (r : Result X Y) → item.sent ≡ true → (new cut last : List ℕ) (b : Bool) (n : ℕ)
      → AddsRequests new b → b ≡ false → n ≡ length old → cut ≡ take n new → OnOk r (last ≡ cut ++ raw_text item)
      → OnOk r (Appends item old last)
  requests_none r sent new cut last true n added no_list len is e = absurd cc
  requests_none r sent new cut last false n (none, some) no_list len is e =
      raw_after r cut last
      (no_requests item packet of kind sent (λ requests are spelled. none requests are (same ∙ spelled)))
      (cut_back old some.0 new cut n some.1 len is) e

  pub replies_none : {X Y : Type 0} (r : Result X Y) → item.sent ≡ false → (new cut last : List ℕ) (b : Bool) (n : ℕ)
      → AddsReplies new b → b ≡ false → n ≡ length old → cut ≡ take n new → OnOk r (last ≡ cut ++ raw_text item)
      → OnOk r (Appends item old last)
  replies_none r received new cut last true n added no_list len is e = absurd cc
  replies_none r received new cut last false n (none, some) no_list len is e =
      raw_after r cut last
      (no_replies item packet of kind received (λ replies are spelled. none replies are (same ∙ spelled)))
      (cut_back old some.0 new cut n some.1 len is) e

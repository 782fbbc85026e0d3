-- What either side reads is what the grammar of packets says, both ways.
use Rattle.std.proofs.Common.{◌≡◌, ℕ, ◌+◌, ◌*◌, ◌/◌, ◌%◌, ◌<◌, ◌^◌, Bool, true, false, cond, List}
use Rattle.std.proofs.Common.{[], ◌∷◌, ◌++◌, length, Option, Some, None, Result, Ok, Err, refl, sym, ap, ◌∙◌, subst}
use Rattle.std.proofs.Common.{arith, length-append, append_assoc}
use Rattle.std.specs.Prelude.{◌&&◌, ◌==◌, if◌then◌else◌}
use Rattle.std.proofs.lemmas.Bool.{eqb-true, leb-true}
use Rattle.ipb_base.specs.Word.{AreWords, big_endian, word_bytes}
use Rattle.ipb_base.specs.Lists.{IsPrefix}
use Rattle.ipb_base.proofs.AllLemmas.{back_of_all}
use Rattle.packet_codec.specs.declared.header.Header.{Header}
use Rattle.packet_codec.specs.declared.packet.BadPacket.{BadPacket}
use Rattle.packet_codec.specs.declared.packet.Order.{Order}
use Rattle.packet_codec.specs.declared.packet.Order.TheVariants.{Big, Little}
use Rattle.packet_codec.specs.declared.packet.PacketKind.{PacketKind}
use Rattle.packet_codec.specs.declared.packet.PacketKind.TheVariants as kinds
use Rattle.packet_codec.specs.declared.packet.Packet.{Packet}
use Rattle.packet_codec.specs.Header.{packet_header}
use Rattle.packet_codec.specs.Packet.{AreBytes, IsByte, in_order, packet_bytes, IsPacket}
use Rattle.packet_codec.specs.Reading.{header_of, packet_of, words_of}
use Rattle.packet_ids.specs.Identifier.{IsIdentifier}
use Rattle.status_packet.specs.Range.{IsMtu, IsBufferCount}
use Rattle.status_packet.specs.Packets.{resend_request, status_words}
use Rattle.status_packet.specs.StatusBytes.{IsStatusRequest, IsStatusReply, status_header}
use Rattle.world_model.specs.Messages.{ToBoard, ToHub, StatusRequest, ResendRequest, ControlPacket, StatusReply, Reply}
use Rattle.world_model.specs.Messages.{control_packet, said_to_board, said_to_hub, packet_to_board, packet_to_hub}
use Rattle.world_model.specs.Messages.{to_board, to_hub, status_with, status_told, can_be_told}
use Rattle.world_model.specs.Below.{Below}
use Rattle.world_model.proofs.Readings.{board_reads, hub_reads, status_is}

-- ---- what a packet that says something is

both_true : (a b : Bool) → (a && b) ≡ true → (a ≡ true) × (b ≡ true)
both_true true true e = (refl, refl)
both_true true false e = absurd cc
both_true false b e = absurd cc

no_items : {A : Type 0} (xs : List A) → (length xs == 0) ≡ true → xs ≡ []
no_items [] e = refl
no_items (x ∷ xs) e = absurd (let z = eqb-true _ _ e in omega arith)

-- a test that chooses between something and nothing
chosen : {A : Type 0} (b : Bool) (x y : A) → cond b (Some x) None ≡ Some y → (b ≡ true) × (x ≡ y)
chosen true x y e = (refl, cc)
chosen false x y e = absurd cc

of_kind : (p : Packet) (kind : PacketKind) → p.kind ≡ kind
    → p ≡ record { order = p.order; id = p.id; kind = kind; body = p.body }
of_kind p kind e = ap (λ (k : PacketKind). record { order = p.order; id = p.id; kind = k; body = p.body }) e

control_by : (p : Packet) (kind : PacketKind) (order : Order) (id : ℕ) (body : List ℕ) → p.kind ≡ kind
    → said_to_board kind p.order p.id p.body ≡ Some (ControlPacket order id body) → p ≡ control_packet order id body
control_by p kinds.Control order id body is e =
    let o : p.order ≡ order = cc in let i : p.id ≡ id = cc in let b : p.body ≡ body = cc in
    of_kind p kinds.Control is ∙ (ap (λ (x : Order). control_packet x p.id p.body) o
    ∙ (ap (λ (x : ℕ). control_packet order x p.body) i ∙ ap (control_packet order id) b))
control_by p kinds.Status order id body is e = absurd (let c =
    chosen ((p.id == 0) && (length p.body == 15)) StatusRequest _ e in cc)
control_by p kinds.Resend order id body is e = absurd (let c =
    chosen (length p.body == 0) (ResendRequest p.id) _ e in cc)

-- a status packet says no reply
by : {A : Type 0} {y : A} (b : Bool) (r : Option A) → (r ≡ Some y → ⊥) → cond b r None ≡ Some y → ⊥
by true r f e = f e
by false r f e = cc

no_told : (mtu buffers : ℕ) (r : Option Header) (id : ℕ) (words : List ℕ)
    → status_with mtu buffers r ≡ Some (Reply id words) → ⊥
no_told mtu buffers None id words e = cc
no_told mtu buffers (Some h) id words e = let c = chosen ((h.kind == 0) && can_be_told mtu buffers h.id)
    (StatusReply mtu buffers h.id) _ e in cc

no_status : (body : List ℕ) (id : ℕ) (words : List ℕ) → status_told body ≡ Some (Reply id words) → ⊥
no_status [] id words e = cc
no_status (a ∷ []) id words e = cc
no_status (a ∷ b ∷ []) id words e = cc
no_status (a ∷ b ∷ c ∷ rest) id words e = by (length rest == 12) (status_with a b (header_of c))
    (no_told a b (header_of c) id words) e

no_reply : (zero_id : Bool) (body : List ℕ) (id : ℕ) (words : List ℕ)
    → cond zero_id (status_told body) None ≡ Some (Reply id words) → ⊥
no_reply true body id words e = no_status body id words e
no_reply false body id words e = cc

reply_by : (p : Packet) (kind : PacketKind) (id : ℕ) (words : List ℕ) → p.kind ≡ kind
    → said_to_hub kind p.id p.body ≡ Some (Reply id words) → p ≡ control_packet p.order id words
reply_by p kinds.Control id words is e =
    let i : p.id ≡ id = cc in let b : p.body ≡ words = cc in
    of_kind p kinds.Control is ∙ (ap (λ (x : ℕ). control_packet p.order x p.body) i ∙ ap (control_packet p.order id) b)
reply_by p kinds.Status id words is e = absurd (no_reply (p.id == 0) p.body id words e)
reply_by p kinds.Resend id words is e = absurd cc

-- only control packets are little-endian
big_by : (p : Packet) (order : Order) → IsPacket p → p.order ≡ order → (p.kind ≡ kinds.Control → ⊥) → p.order ≡ Big
big_by p Big is e other = e
big_by p Little is e other = absurd (other (is.order e))

resend_by : (p : Packet) (kind : PacketKind) (id : ℕ) → IsPacket p → p.kind ≡ kind
    → said_to_board kind p.order p.id p.body ≡ Some (ResendRequest id) → (p.id ≡ id) × (p ≡ resend_request id)
resend_by p kinds.Control id spelled is e = absurd cc
resend_by p kinds.Status id spelled is e = absurd (let c =
    chosen ((p.id == 0) && (length p.body == 15)) StatusRequest _ e in cc)
resend_by p kinds.Resend id spelled is e =
    let c = chosen (length p.body == 0) (ResendRequest p.id) (ResendRequest id) e in
    let i : p.id ≡ id = (let same = c.1 in cc) in
    let b = no_items p.body c.0 in
    let o = big_by p p.order spelled refl (λ k. cc) in (
      i,
      of_kind p kinds.Resend is ∙ (ap (λ (x : Order). record
          { order = x; id = p.id; kind = kinds.Resend; body = p.body }) o
          ∙ (ap (λ (x : ℕ). record { order = Big; id = x; kind = kinds.Resend; body = p.body }) i
          ∙ ap (λ (x : List ℕ). record { order = Big; id = id; kind = kinds.Resend; body = x }) b)),
    )

-- a status packet of this body
abbrev status_packet : List ℕ → Packet
status_packet body = record { order = Big; id = 0; kind = kinds.Status; body = body }

request_by : (p : Packet) (kind : PacketKind) → IsPacket p → p.kind ≡ kind
    → said_to_board kind p.order p.id p.body ≡ Some StatusRequest → (p ≡ status_packet p.body) × (length p.body ≡ 15)
request_by p kinds.Control spelled is e = absurd cc
request_by p kinds.Resend spelled is e = absurd (let c = chosen (length p.body == 0) (ResendRequest p.id) _ e in cc)
request_by p kinds.Status spelled is e =
    let c = chosen ((p.id == 0) && (length p.body == 15)) StatusRequest StatusRequest e in
    let both = both_true (p.id == 0) (length p.body == 15) c.0 in
    let i : p.id ≡ 0 = eqb-true _ _ both.0 in
    let o = big_by p p.order spelled refl (λ k. cc) in (
      of_kind p kinds.Status is ∙ (ap (λ (x : Order). record
          { order = x; id = p.id; kind = kinds.Status; body = p.body }) o
          ∙ ap (λ (x : ℕ). record { order = Big; id = x; kind = kinds.Status; body = p.body }) i),
      eqb-true _ _ both.1,
    )

-- ---- what is read is what the packet says

record IsRead (bytes : List ℕ) (packet : Packet) : Type 0 where
  is_packet : IsPacket packet
  spelled : bytes ≡ packet_bytes packet

module _ (below : Below) where
  board_read : (bytes : List ℕ) (r : Result Packet BadPacket) (m : ToBoard) → AreBytes bytes → packet_of bytes ≡ r
      → packet_to_board r ≡ Some m
      → (p : Packet) × IsRead bytes p × (said_to_board p.kind p.order p.id p.body ≡ Some m)
  board_read bytes (Ok p) m fits is e = let f = below.packets.found bytes p fits is in
      (p, record { is_packet = f.0; spelled = f.1 }, e)
  board_read bytes (Err fault) m fits is e = absurd cc

  board_says : (bytes : List ℕ) (m : ToBoard) → AreBytes bytes → to_board bytes ≡ Some m
      → (p : Packet) × IsRead bytes p × (said_to_board p.kind p.order p.id p.body ≡ Some m)
  unfolding to_board
  board_says bytes m fits e = board_read bytes (packet_of bytes) m fits refl e

  hub_read : (bytes : List ℕ) (r : Result Packet BadPacket) (m : ToHub) → AreBytes bytes → packet_of bytes ≡ r
      → packet_to_hub r ≡ Some m
      → (p : Packet) × IsRead bytes p × (said_to_hub p.kind p.id p.body ≡ Some m)
  hub_read bytes (Ok p) m fits is e = let f = below.packets.found bytes p fits is in
      (p, record { is_packet = f.0; spelled = f.1 }, e)
  hub_read bytes (Err fault) m fits is e = absurd cc

  hub_says : (bytes : List ℕ) (m : ToHub) → AreBytes bytes → to_hub bytes ≡ Some m
      → (p : Packet) × IsRead bytes p × (said_to_hub p.kind p.id p.body ≡ Some m)
  unfolding to_hub
  hub_says bytes m fits e = hub_read bytes (packet_of bytes) m fits refl e

  -- ---- control packets and re-send requests

  pub control_found : (bytes : List ℕ) (order : Order) (id : ℕ) (body : List ℕ) → AreBytes bytes
      → to_board bytes ≡ Some (ControlPacket order id body)
      → IsPacket (control_packet order id body) × (bytes ≡ packet_bytes (control_packet order id body))
  control_found bytes order id body fits e =
      let s = board_says bytes (ControlPacket order id body) fits e in
      let same = control_by s.0 s.0.kind order id body refl s.2 in
      (subst IsPacket same s.1.is_packet, s.1.spelled ∙ ap packet_bytes same)

  pub control_known : (bytes : List ℕ) (order : Order) (id : ℕ) (body : List ℕ)
      → IsPacket (control_packet order id body) → bytes ≡ packet_bytes (control_packet order id body)
      → to_board bytes ≡ Some (ControlPacket order id body)
  control_known bytes order id body is e = ap to_board e ∙ board_reads below.packets.back (control_packet order id body) is

  pub resend_found : (bytes : List ℕ) (id : ℕ) → AreBytes bytes → to_board bytes ≡ Some (ResendRequest id)
      → (id < 2 ^ 16) × (bytes ≡ packet_bytes (resend_request id))
  resend_found bytes id fits e =
      let s = board_says bytes (ResendRequest id) fits e in
      let same = resend_by s.0 s.0.kind id s.1.is_packet refl s.2 in
      (subst (λ (n : ℕ). n < 2 ^ 16) same.0 s.1.is_packet.id, s.1.spelled ∙ ap packet_bytes same.1)

  pub reply_found : (bytes : List ℕ) (id : ℕ) (words : List ℕ) → AreBytes bytes → to_hub bytes ≡ Some (Reply id words)
      → (order : Order) × IsPacket (control_packet order id words) ×
      (bytes ≡ packet_bytes (control_packet order id words))
  reply_found bytes id words fits e =
      let s = hub_says bytes (Reply id words) fits e in
      let same = reply_by s.0 s.0.kind id words refl s.2 in
      (s.0.order, subst IsPacket same s.1.is_packet, s.1.spelled ∙ ap packet_bytes same)

  pub reply_known : (bytes : List ℕ) (order : Order) (id : ℕ) (words : List ℕ)
      → IsPacket (control_packet order id words) → bytes ≡ packet_bytes (control_packet order id words)
      → to_hub bytes ≡ Some (Reply id words)
  reply_known bytes order id words is e = ap to_hub e ∙ hub_reads below.packets.back (control_packet order id words) is

  -- ---- status packets

  -- the bytes of words are four for each
  pub in_order_length : (words : List ℕ) → length (in_order Big words) ≡ 4 * length words
  in_order_length [] = refl
  in_order_length (w ∷ ws) = let h = in_order_length ws in
      omega (arith, length-append (word_bytes w) (in_order Big ws), h)

  pub request_found : (bytes : List ℕ) → AreBytes bytes → to_board bytes ≡ Some StatusRequest → IsStatusRequest bytes
  request_found bytes fits e =
      let s = board_says bytes StatusRequest fits e in
      let same = request_by s.0 s.0.kind s.1.is_packet refl s.2 in
      let spelled : bytes ≡ in_order Big (status_header ∷ s.0.body) = s.1.spelled ∙ ap packet_bytes same.0 in
      record {
        whole = omega (arith, ap length spelled, in_order_length (status_header ∷ s.0.body), same.1);
        begins = (in_order Big s.0.body, spelled);
      }

  -- bytes that begin with some words and are whole words after them are those words and others
  rest_words : (front bytes : List ℕ) → AreBytes bytes → (begins : IsPrefix (big_endian front) bytes)
      → length begins.0 % 4 ≡ 0
      → (words : List ℕ) × AreWords words × (bytes ≡ in_order Big front ++ in_order Big words) ×
      (length words ≡ length begins.0 / 4)
  rest_words front bytes fits begins whole =
      let rest_fits = back_of_all IsByte (big_endian front) begins.0 (subst AreBytes begins.1 fits) in (
        words_of Big begins.0,
        below.packets.words Big begins.0 rest_fits,
        begins.1 ∙ ap (λ (b : List ℕ). in_order Big front ++ b)
            (sym (below.packets.written_back Big begins.0 rest_fits whole)),
        below.packets.count Big begins.0,
      )

  pub request_known : (bytes : List ℕ) → AreBytes bytes → IsStatusRequest bytes → to_board bytes ≡ Some StatusRequest
  request_known bytes fits is =
      let count = ap length is.begins.1 in
      let split = length-append (big_endian (status_header ∷ [])) is.begins.0 in
      let whole = is.whole in
      let r = rest_words (status_header ∷ []) bytes fits is.begins (omega arith) in
      let packet = status_packet r.0 in
      let fifteen : length r.0 ≡ 15 = omega (arith, r.3) in
      let can : IsPacket packet = record {
        id = omega arith;
        body = r.1;
        length = omega arith;
        order = λ e. absurd cc;
      } in
      ap to_board r.2 ∙ (board_reads below.packets.back packet can ∙ ap
      (λ (n : ℕ). if n == 15 then Some StatusRequest else None) fifteen)

  -- a status reply: its first three words tell the status
  record IsTold (mtu buffers next : ℕ) (body : List ℕ) : Type 0 where
    mtu_is : IsMtu mtu
    buffers_are : IsBufferCount buffers
    next_is : IsIdentifier next
    rest : List ℕ
    words : body ≡ status_words mtu buffers next ++ rest
    twelve : length rest ≡ 12

  can_be : (mtu buffers next : ℕ) → can_be_told mtu buffers next ≡ true
      → IsMtu mtu × IsBufferCount buffers × IsIdentifier next
  can_be mtu buffers next e =
      let a = both_true _ _ e in let b = both_true _ _ a.0 in let c = both_true _ _ b.0 in let d =
      both_true _ _ c.0 in let f = both_true _ _ d.0 in (
        (leb-true _ _ f.0, leb-true _ _ f.1),
        (leb-true _ _ d.1, leb-true _ _ c.1),
        record { from_one = leb-true _ _ b.1; up_to_end = leb-true _ _ a.1 },
      )

  told_with : (a b w : ℕ) (rest : List ℕ) (h : Option Header) (mtu buffers next : ℕ) → header_of w ≡ h
      → status_with a b h ≡ Some (StatusReply mtu buffers next) → length rest ≡ 12
      → IsTold mtu buffers next (a ∷ b ∷ w ∷ rest)
  told_with a b w rest None mtu buffers next is e twelve = absurd cc
  told_with a b w rest (Some h) mtu buffers next is e twelve =
      let c = chosen ((h.kind == 0) && can_be_told a b h.id) (StatusReply a b h.id) (StatusReply mtu buffers next) e in
      let t = both_true (h.kind == 0) (can_be_told a b h.id) c.0 in
      let k : h.kind ≡ 0 = eqb-true _ _ t.0 in
      let m : a ≡ mtu = (let same = c.1 in cc) in let n : b ≡ buffers = (let same = c.1 in cc) in let i : h.id ≡ next =
      (let same = c.1 in cc) in
      let word : w ≡ packet_header next 0 = below.packets.header_found w h is
      ∙ (ap (λ (x : ℕ). packet_header x h.kind) i ∙ ap (packet_header next) k) in
      let ranges = can_be a b h.id t.1 in
      record {
        mtu_is = subst IsMtu m ranges.0;
        buffers_are = subst IsBufferCount n ranges.1;
        next_is = subst IsIdentifier i ranges.2;
        rest = rest;
        words = ap (λ (x : ℕ). x ∷ b ∷ w ∷ rest) m ∙ (ap (λ (x : ℕ). mtu ∷ x ∷ w ∷ rest) n
            ∙ ap (λ (x : ℕ). mtu ∷ buffers ∷ x ∷ rest) word);
        twelve = twelve;
      }

  told_by : (body : List ℕ) (mtu buffers next : ℕ) → status_told body ≡ Some (StatusReply mtu buffers next)
      → IsTold mtu buffers next body
  told_by [] mtu buffers next e = absurd cc
  told_by (a ∷ []) mtu buffers next e = absurd cc
  told_by (a ∷ b ∷ []) mtu buffers next e = absurd cc
  told_by (a ∷ b ∷ w ∷ rest) mtu buffers next e =
      elim (length rest == 12) as (λ t. (length rest == 12) ≡ t
      → cond t (status_with a b (header_of w)) None ≡ Some (StatusReply mtu buffers next)
      → IsTold mtu buffers next (a ∷ b ∷ w ∷ rest)) [
        | true ↦ λ twelve told. told_with a b w rest (header_of w) mtu buffers next refl told (eqb-true _ _ twelve)
        | false ↦ λ _ told. absurd cc
      ] refl e

  status_by : (p : Packet) (kind : PacketKind) (mtu buffers next : ℕ) → IsPacket p → p.kind ≡ kind
      → said_to_hub kind p.id p.body ≡ Some (StatusReply mtu buffers next)
      → (p ≡ status_packet p.body) × IsTold mtu buffers next p.body
  status_by p kinds.Control mtu buffers next spelled is e = absurd cc
  status_by p kinds.Resend mtu buffers next spelled is e = absurd cc
  status_by p kinds.Status mtu buffers next spelled is e =
      elim (p.id == 0) as (λ t. (p.id == 0) ≡ t → cond t (status_told p.body) None ≡ Some (StatusReply mtu buffers next)
      → (p ≡ status_packet p.body) × IsTold mtu buffers next p.body) [
        | true ↦ λ zero_id told.
            let i : p.id ≡ 0 = eqb-true _ _ zero_id in
            let o = big_by p p.order spelled refl (λ k. cc) in (
              of_kind p kinds.Status is ∙ (ap (λ (x : Order). record
                  { order = x; id = p.id; kind = kinds.Status; body = p.body }) o
                  ∙ ap (λ (x : ℕ). record { order = Big; id = x; kind = kinds.Status; body = p.body }) i),
              told_by p.body mtu buffers next told,
            )
        | false ↦ λ _ told. absurd cc
      ] refl e

  -- the bytes of words joined
  in_order_append : (front back : List ℕ) → in_order Big (front ++ back) ≡ in_order Big front ++ in_order Big back
  in_order_append [] back = refl
  in_order_append (w ∷ ws) back = ap (λ (b : List ℕ). word_bytes w ++ b) (in_order_append ws back)
      ∙ sym (append_assoc (word_bytes w) (in_order Big ws) (in_order Big back))

  pub status_found : (bytes : List ℕ) (mtu buffers next : ℕ) → AreBytes bytes
      → to_hub bytes ≡ Some (StatusReply mtu buffers next)
      → IsMtu mtu × IsBufferCount buffers × IsIdentifier next × IsStatusReply bytes mtu buffers next
  status_found bytes mtu buffers next fits e =
      let s = hub_says bytes (StatusReply mtu buffers next) fits e in
      let same = status_by s.0 s.0.kind mtu buffers next s.1.is_packet refl s.2 in
      let told = same.1 in
      let front = status_header ∷ status_words mtu buffers next in
      let spelled : bytes ≡ in_order Big (front ++ told.rest) = s.1.spelled
      ∙ (ap packet_bytes same.0 ∙ ap (λ (body : List ℕ). in_order Big (status_header ∷ body)) told.words) in (
        told.mtu_is,
        told.buffers_are,
        told.next_is,
        record {
          whole = omega (
            arith,
            ap length spelled,
            in_order_length (front ++ told.rest),
            length-append front told.rest,
            told.twelve,
          );
          begins = (in_order Big told.rest, spelled ∙ in_order_append front told.rest);
        },
      )

  pub status_known : (bytes : List ℕ) (mtu buffers next : ℕ) → AreBytes bytes → IsMtu mtu → IsBufferCount buffers
      → IsIdentifier next → IsStatusReply bytes mtu buffers next
      → to_hub bytes ≡ Some (StatusReply mtu buffers next)
  status_known bytes mtu buffers next fits mtu_is buffers_are next_is is =
      let front = status_header ∷ status_words mtu buffers next in
      let count = ap length is.begins.1 in
      let split = length-append (big_endian front) is.begins.0 in
      let whole = is.whole in
      let r = rest_words front bytes fits is.begins (omega arith) in
      let twelve : length r.0 ≡ 12 = omega (arith, r.3) in
      let packet = status_packet (status_words mtu buffers next ++ r.0) in
      let can : IsPacket packet = record {
        id = omega arith;
        body = (omega (arith, mtu_is.1), (omega (arith, buffers_are.1), (omega (arith, next_is.up_to_end), r.1)));
        length = omega arith;
        order = λ e. absurd cc;
      } in
      let spelled : bytes ≡ packet_bytes packet = r.2 ∙ sym (in_order_append front r.0) in
      ap to_hub spelled ∙ (hub_reads below.packets.back packet can
      ∙ (ap (λ (n : ℕ). if n == 12 then status_with mtu buffers (header_of (packet_header next 0)) else None) twelve
      ∙ status_is below.packets.back mtu buffers next mtu_is buffers_are next_is))

-- The answers of a board to the packets of a round.
use Rattle.std.proofs.Common.{◌≡◌, ℕ, zero, suc, ◌+◌, ◌-◌, ◌<◌, ◌≤◌, ◌^◌, true, false, cond, ◌==◌}
use Rattle.std.proofs.Common.{List, [], ◌∷◌, length, map, drop}
use Rattle.std.proofs.Common.{Some, refl, sym, ap, ◌∙◌, subst, arith, inl, inr}
use Rattle.std.proofs.lemmas.Bool.{eqb-true}
use Rattle.std.specs.List.{AllByRecursion}
use Rattle.ipb_base.specs.Word.{AreWords}
use Rattle.ipb_base.specs.Numbers.{payload_of}
use Rattle.ipb_base.proofs.WordLemmas.{AreWords-append}
use Rattle.transaction_codec.specs.declared.reply.Reply.{Reply}
use Rattle.transaction_codec.specs.Reply.{IsReply, AreReplies, HasForm, Carries, reply_words, replies_words}
use Rattle.transaction_codec.specs.Answer.{CanAnswer, reply_room}
use Rattle.board_bus.specs.Cells.{CellMap, HoldsWords}
use Rattle.board_bus.specs.Bodies.{replay, run_body}
use Rattle.packet_codec.specs.declared.packet.Packet.{Packet}
use Rattle.packet_codec.specs.Packet.{packet_bytes}
use Rattle.packet_ids.specs.Identifier.{identifier_at}
use Rattle.status_packet.specs.Range.{IsMtu}
use Rattle.world_model.specs.declared.heard.LogEntry.{LogEntry}
use Rattle.world_model.specs.Messages.{Reply as ReplyTo, control_packet, to_hub}
use Rattle.world_model.specs.Board.{Board, body_of, bodies_executed, expected_identifier, held_replies, numbered_count, numbered_replies}
use Rattle.world_model.specs.Board.{present_bus, replies, with_id}
use Rattle.world_model.specs.Facts.{IsBoard, IsLogged, IsSendable}
use Rattle.world_model.proofs.Places.{id_fits}
use Rattle.hub_lane.specs.RecoveryBelow.{RecoveryLaws}
use Rattle.hub_lane.specs.UnderWay.{count_executed}
use Rattle.world_model.proofs.Readings.{reply_read}

-- ---- answers are words

small_kind : (carried_all kind count carried : ℕ) → Carries carried_all kind count carried → kind < 2 ^ 4
small_kind n kind count carried (inl x) = elim x.0 [ inl a ↦ omega arith | inr b ↦ omega arith ]
small_kind n kind count carried (inr (inl x)) = elim x.0 [ inl a ↦ omega arith | inr b ↦ omega arith ]
small_kind n kind count carried (inr (inr x)) = elim x.0 [ inl a ↦ omega arith | inr b ↦ omega arith ]

small_form : (kind code count carried : ℕ) → HasForm kind code count carried → (kind < 2 ^ 4) × (code < 2 ^ 4)
small_form kind code count carried (inl x) = (small_kind 1 kind count carried x.1, omega arith)
small_form kind code count carried (inr (inl x)) = (small_kind 0 kind count carried x.1, omega (arith, x.0.1))
small_form kind code count carried (inr (inr x)) = (omega arith, omega arith)

one_reply : (r : Reply) → IsReply r → AreWords (reply_words r)
one_reply r is = let f = small_form r.kind r.code r.count (length r.values) is.form in (
  omega (
    arith,
    is.tid,
    is.count,
    f.0,
    f.1,
  ),
  is.values,
)

all_replies : (rs : List Reply) → AreReplies rs → AreWords (replies_words rs)
all_replies [] is = tt
all_replies (r ∷ rs) is = AreWords-append (reply_words r) (replies_words rs) (one_reply r is.0) (all_replies rs is.1)

answer_words : (body answer : List ℕ) → CanAnswer body answer → AreWords answer
answer_words body answer can = subst AreWords (sym can.spelled) (all_replies can.replies can.items)

-- ---- the packets of a log

logged_words : (mtu : ℕ) (log : List LogEntry) → AllByRecursion (IsLogged mtu) log
    → AllByRecursion AreWords (map body_of log)
logged_words mtu [] all = tt
logged_words mtu (e ∷ log) all = (all.0.words, logged_words mtu log all.1)

pub numbered_all : (mtu : ℕ) (log : List LogEntry) → AllByRecursion (IsLogged mtu) log → numbered_count log ≡ length log
numbered_all mtu [] all = refl
numbered_all mtu (e ∷ es) all = rw all.0.numbered (let h = numbered_all mtu es all.1 in omega (arith, h))

pub expects_next : (first : ℕ) (b : Board) → IsBoard first b → expected_identifier b ≡ identifier_at first (count_executed b + 1)
expects_next first b is = ap (λ (k : ℕ). identifier_at b.first (k + 1)) (numbered_all b.mtu b.log is.log) ∙ ap (λ (f :
    ℕ). identifier_at f (count_executed b + 1)) (sym is.same_first)

module _ (below : RecoveryLaws) where
  -- a reply can be sent where its body fits
  reply_sendable : (mtu : ℕ) (body answer : List ℕ) (cells : CellMap) → IsMtu mtu → CanAnswer body answer
      → length answer ≤ reply_room body → reply_room body + 1 ≤ payload_of mtu → IsSendable answer
  reply_sendable mtu body answer cells is can short room = record {
    words = answer_words body answer can;
    short =
        omega (arith, short, room, is.1);
  }

  pub new_reply_sendable : (first : ℕ) (b : Board) (body : List ℕ) → IsBoard first b → AreWords body
      → reply_room body + 1 ≤ payload_of b.mtu → IsSendable (run_body (present_bus b) body).reply
  new_reply_sendable first b body is words room =
      let holds = below.words_stay b.opening (bodies_executed b) is.opening (logged_words b.mtu b.log is.log) in
      reply_sendable b.mtu body (run_body (present_bus b) body).reply (present_bus b) is.mtu (below.answer
      (present_bus b) body holds words) (below.room (present_bus b) body) room

  -- ---- the replies that are held can be read

  replayed_sendable : (mtu : ℕ) (cells : CellMap) (log : List LogEntry) → IsMtu mtu → HoldsWords cells
      → AllByRecursion (IsLogged mtu) log → AllByRecursion IsSendable (replay cells (map body_of log)).replies
  replayed_sendable mtu cells [] is holds all = tt
  replayed_sendable mtu cells (e ∷ log) is holds all = (
    reply_sendable mtu e.body (run_body cells e.body).reply cells is (below.answer cells e.body holds all.0.words)
        (below.room cells e.body) all.0.room,
    replayed_sendable mtu (run_body cells e.body).cells log is (below.words_stay cells (e.body ∷ []) holds
        (all.0.words, tt)) all.1,
  )

  abbrev pub IsReadable : Packet → Type 0
  IsReadable p = to_hub (packet_bytes p) ≡ Some (ReplyTo p.id p.body)

  numbered_readable : (first place : ℕ) (log : List LogEntry) (rs : List (List ℕ)) → AllByRecursion IsSendable rs
      → AllByRecursion IsReadable (numbered_replies first place log rs)
  numbered_readable first place [] rs all = tt
  numbered_readable first place (e ∷ log) [] all = tt
  numbered_readable first place (e ∷ log) (r ∷ rs) all =
      elim e.numbered as (λ b. AllByRecursion IsReadable (cond b (control_packet e.order (identifier_at first place) r
      ∷ numbered_replies first (place + 1) log rs) (numbered_replies first place log rs))) [
        | true ↦ (
          reply_read below.back e.order (identifier_at first place) r (id_fits first place) all.0,
          numbered_readable first (place + 1) log rs all.1,
        )
        | false ↦ numbered_readable first place log rs all.1
      ]

  all_drop : {A : Type 0} (P : A → Type 0) (n : ℕ) (xs : List A) → AllByRecursion P xs → AllByRecursion P (drop n xs)
  all_drop P zero xs all = all
  all_drop P (suc n) [] all = tt
  all_drop P (suc n) (x ∷ xs) all = all_drop P n xs all.1

  with_id_is : (P : Packet → Type 0) (id : ℕ) (ps : List Packet) (p : Packet) → AllByRecursion P ps
      → with_id id ps ≡ Some p → P p × (p.id ≡ id)
  with_id_is P id [] p all e = absurd (cc)
  with_id_is P id (q ∷ ps) p all e = elim (q.id == id) as (λ b. (q.id == id) ≡ b
      → cond b (Some q) (with_id id ps) ≡ Some p → P p × (p.id ≡ id)) [
        | true ↦ λ is e. let same : q ≡ p = cc in subst (λ (x : Packet). P x × (x.id ≡ id)) same (
          all.0,
          eqb-true q.id id
              is,
        )
        | false ↦ λ is e. with_id_is P id ps p all.1 e
      ] refl e

  -- a held reply with an identifier is read as one with it
  pub held_read : (first : ℕ) (b : Board) (id : ℕ) (p : Packet) → IsBoard first b → with_id id (held_replies b) ≡ Some p
      → to_hub (packet_bytes p) ≡ Some (ReplyTo id p.body)
  held_read first b id p is e =
      let packets = numbered_replies b.first 1 b.log (replies b) in
      let readable = all_drop IsReadable (length packets - b.buffers) packets (numbered_readable b.first 1 b.log
      (replies b) (replayed_sendable b.mtu b.opening b.log is.mtu is.opening is.log)) in
      let found = with_id_is IsReadable id (held_replies b) p readable e in
      found.0 ∙ ap (λ (n : ℕ). Some (ReplyTo n p.body)) found.1

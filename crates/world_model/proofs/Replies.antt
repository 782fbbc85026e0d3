-- The replies of a board are words, and fit a packet.
use Rattle.std.proofs.Common.{ℕ, ◌+◌, ◌<◌, ◌≤◌, ◌^◌, List, [], ◌∷◌, length, map, sym, subst}
use Rattle.std.proofs.Common.{inl, inr, arith}
use Rattle.std.specs.List.{AllByRecursion}
use Rattle.ipb_base.specs.Word.{AreWords}
use Rattle.ipb_base.specs.Numbers.{payload_of}
use Rattle.ipb_base.proofs.WordLemmas.{AreWords-append}
use Rattle.transaction_codec.specs.declared.reply.Reply.{Reply}
use Rattle.transaction_codec.specs.Reply.{IsReply, AreReplies, HasForm, Carries, reply_words, replies_words}
use Rattle.transaction_codec.specs.Answer.{reply_room}
use Rattle.board_bus.specs.Cells.{CellMap, HoldsWords}
use Rattle.board_bus.specs.Bodies.{run_body, replay}
use Rattle.status_packet.specs.Range.{IsMtu}
use Rattle.world_model.specs.declared.heard.LogEntry.{LogEntry}
use Rattle.world_model.specs.Board.{Board, body_of, replies}
use Rattle.world_model.specs.Facts.{IsSendable, IsLogged, IsBoard}
use Rattle.world_model.specs.Below.{Below}

module _ (below : Below) where
  kind_fits : (done kind count carried : ℕ) → Carries done kind count carried → kind < 2 ^ 4
  kind_fits done kind count carried (inl x) = elim x.0 [ inl a ↦ omega arith | inr b ↦ omega arith ]
  kind_fits done kind count carried (inr (inl x)) = elim x.0 [ inl a ↦ omega arith | inr b ↦ omega arith ]
  kind_fits done kind count carried (inr (inr x)) = elim x.0 [ inl a ↦ omega arith | inr b ↦ omega arith ]

  form_fits : (kind code count carried : ℕ) → HasForm kind code count carried → (kind < 2 ^ 4) × (code < 2 ^ 4)
  form_fits kind code count carried (inl x) = (kind_fits 1 kind count carried x.1, omega arith)
  form_fits kind code count carried (inr (inl x)) = (kind_fits 0 kind count carried x.1, omega (arith, x.0.1))
  form_fits kind code count carried (inr (inr x)) = (omega arith, omega arith)

  reply_is_words : (r : Reply) → IsReply r → AreWords (reply_words r)
  reply_is_words r is = let f = form_fits r.kind r.code r.count (length r.values) is.form in
      (omega (arith, is.tid, is.count, f.0, f.1), is.values)

  replies_are_words : (rs : List Reply) → AreReplies rs → AreWords (replies_words rs)
  replies_are_words [] is = tt
  replies_are_words (r ∷ rs) is = AreWords-append (reply_words r) (replies_words rs) (reply_is_words r is.0)
      (replies_are_words rs is.1)

  -- what a bus of words answers to words is words
  answer_is_words : (cells : CellMap) (body : List ℕ) → HoldsWords cells → AreWords body
      → AreWords (run_body cells body).reply
  answer_is_words cells body holds fits =
      let can = below.bodies.answer cells body holds fits in
      subst AreWords (sym can.spelled) (replies_are_words can.replies can.items)

  -- the reply to a body that is not too long can be sent
  pub reply_sendable : (mtu : ℕ) (cells : CellMap) (body : List ℕ) → IsMtu mtu → HoldsWords cells → AreWords body
      → reply_room body + 1 ≤ payload_of mtu → IsSendable (run_body cells body).reply
  reply_sendable mtu cells body is holds fits room = record {
    words = answer_is_words cells body holds fits;
    short = omega (arith, below.bodies.room cells body, is.1);
  }

  replayed_sendable : (mtu : ℕ) (cells : CellMap) (log : List LogEntry) → IsMtu mtu → HoldsWords cells
      → AllByRecursion (IsLogged mtu) log → AllByRecursion IsSendable (replay cells (map body_of log)).replies
  replayed_sendable mtu cells [] is holds all = tt
  replayed_sendable mtu cells (e ∷ log) is holds all = (
    reply_sendable mtu cells e.body is holds all.0.words all.0.room,
    replayed_sendable mtu (run_body cells e.body).cells log is (below.bodies.kept cells e.body holds all.0.words) all.1,
  )

  replayed_holds : (mtu : ℕ) (cells : CellMap) (log : List LogEntry) → HoldsWords cells
      → AllByRecursion (IsLogged mtu) log → HoldsWords (replay cells (map body_of log)).cells
  replayed_holds mtu cells [] holds all = holds
  replayed_holds mtu cells (e ∷ log) holds all = replayed_holds mtu (run_body cells e.body).cells log
      (below.bodies.kept cells e.body holds all.0.words) all.1

  pub replies_sendable : (first : ℕ) (b : Board) → IsBoard first b → AllByRecursion IsSendable (replies b)
  replies_sendable first b is = replayed_sendable b.mtu b.opening b.log is.mtu is.opening is.log

  pub present_holds : (first : ℕ) (b : Board) → IsBoard first b
      → HoldsWords (replay b.opening (map body_of b.log)).cells
  present_holds first b is = replayed_holds b.mtu b.opening b.log is.opening is.log

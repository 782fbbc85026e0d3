-- What the laws of the crates below say of packets, boards and links, for the proofs here: no public clause speaks of
-- it.
use Rattle.std.specs.Prelude.{◌≡◌, ℕ, ◌≤◌, List, length, Some}
use Rattle.std.specs.List.{AllZip, AllByRecursion}
use Rattle.ipb_base.specs.Word.{AreWords}
use Rattle.ipb_base.specs.Lists.{IsPrefix}
use Rattle.transaction_codec.specs.Answer.{CanAnswer, reply_room}
use Rattle.board_bus.specs.Cells.{CellMap, HoldsWords}
use Rattle.board_bus.specs.Bodies.{replay, run_body}
use Rattle.packet_ids.specs.Identifier.{identifier_at}
use Rattle.world_model.specs.Hearings.{IsAmongLast}
use Rattle.world_model.specs.declared.datagram.Datagram.{Datagram}
use Rattle.world_model.specs.declared.heard.Heard.TheVariants.{Resent}
use Rattle.world_model.specs.Messages.{ResendRequest, to_board}
use Rattle.world_model.specs.Below.{ReadsBack}
use Rattle.world_model.specs.Board.{Board, hear}
use Rattle.world_model.specs.Hub.{Hub}
use Rattle.world_model.specs.Links.{IsHeard, IsJoined, Told}

pub record RecoveryLaws : Type 0 where
  pub back : ReadsBack
  pub words_stay : (cells : CellMap) (bodies : List (List ℕ)) → HoldsWords cells → AllByRecursion AreWords bodies
      → HoldsWords (replay cells bodies).cells
  pub answer : (cells : CellMap) (body : List ℕ) → HoldsWords cells → AreWords body
      → CanAnswer body (run_body cells body).reply
  pub answers : (cells : CellMap) (bodies : List (List ℕ)) → HoldsWords cells → AllByRecursion AreWords bodies
      → AllZip CanAnswer bodies (replay cells bodies).replies
  pub room : (cells : CellMap) (body : List ℕ) → length (run_body cells body).reply ≤ reply_room body
  pub held : (board : Board) (request : List ℕ) (id place : ℕ) → to_board request ≡ Some (ResendRequest id)
      → IsAmongLast board place → identifier_at board.first place ≡ id → (hear board request).heard ≡ Resent
  pub heard : (hub : Hub) (old new : Told) → IsJoined hub old → IsHeard old new → IsJoined hub new
  pub board : (old new : Told) → IsHeard old new → record new.board { log = old.board.log } ≡ old.board
  pub air : (old new : Told) → IsHeard old new → IsPrefix {T = Datagram} old.air new.air

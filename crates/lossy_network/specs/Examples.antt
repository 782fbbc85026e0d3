-- Links for worked examples, and how they stand: values alone.
use Rattle.std.specs.Prelude.{ℕ, List, [], ◌∷◌, length, map}
use Rattle.std.specs.List.{range_with_len}
use Rattle.ipb_base.specs.Word.{big_endian}
use Rattle.world_model.specs.Board.{bodies_executed}
use Rattle.world_model.specs.Examples.{board_with}
use Rattle.board_specs.specs.declared.spec.Fates.{Fates}
use Rattle.board_specs.specs.declared.spec.Fates.TheVariants.{Text}
use Rattle.lossy_network.specs.declared.fates.DatagramFate.{DatagramFate}
use Rattle.lossy_network.specs.Fates.{fate_at}
use Rattle.lossy_network.specs.Traffic.{place_of}
use Rattle.lossy_network.specs.Network.{Network, new_network}
use Rattle.lossy_network.specs.Calls.{Call, Send, after_call}

-- a status request, and a control packet that reads the word at address 4
abbrev pub status_asked : Call
status_asked = Send (big_endian (0x200000f1 ∷ 0 ∷ 0 ∷ 0 ∷ 0 ∷ 0 ∷ 0 ∷ 0 ∷ 0 ∷ 0 ∷ 0 ∷ 0 ∷ 0 ∷ 0 ∷ 0 ∷ 0 ∷ []))

abbrev pub four_asked : Call
four_asked = Send (big_endian (0x200001f0 ∷ 0x2000010f ∷ 4 ∷ []))

abbrev pub resend_asked : Call
resend_asked = Send (big_endian (0x200001f2 ∷ []))

-- how a link stands: the places of datagrams that are ready to be heard, and of those that are delayed; those that were
-- handed out, how many count as held, the quiet receives, and the executed packets
pub record Standing : Type 0 where
  pub queue : List ℕ
  pub delayed : List ℕ
  pub handed : List ℕ
  pub held : ℕ
  pub quiets : ℕ
  pub executed_count : ℕ

abbrev pub standing : Network → Standing
standing net = record {
  queue = net.traffic.queue;
  delayed = map place_of net.traffic.delayed;
  handed = net.handed;
  held = net.traffic.held;
  quiets = net.quiets;
  executed_count = length (bodies_executed net.told.board);
}

-- how a link stands after each of some calls
abbrev pub standings : Network → List Call → List Standing
standings net [] = []
standings net (call ∷ calls) = standing (after_call net call) ∷ standings (after_call net call) calls

-- so of a link with these fates to a board of 16 words
abbrev pub stands : List ℕ → List Call → List Standing
stands text calls = standings (new_network (board_with 1500 4 1) (Text text) []) calls

-- written shortly
abbrev pub stood : List ℕ → List ℕ → List ℕ → ℕ → ℕ → ℕ → Standing
stood queue delayed handed held quiets executed_count = record {
  queue = queue;
  delayed = delayed;
  handed = handed;
  held = held;
  quiets = quiets;
  executed_count = executed_count;
}

-- the fates of the first datagrams, this many
abbrev pub fates_to : ℕ → Fates → List DatagramFate
fates_to count fates = map (fate_at fates) (range_with_len 0 count)

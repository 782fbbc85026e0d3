-- Captures for worked examples.
use Rattle.std.specs.Prelude.{List, ℕ, [], ◌∷◌, true, false, replicate}
use Rattle.ipb_base.specs.Word.{big_endian}
use Rattle.capture_reader.specs.declared.capture.Caught.{Caught}
use Rattle.capture_reader.specs.declared.capture.Capture.{Capture}

abbrev pub sent_example : List ℕ → Caught
sent_example bytes = record { sent = true; bytes = bytes }

abbrev pub received_example : List ℕ → Caught
received_example bytes = record { sent = false; bytes = bytes }

-- a board is greeted, and a word is read at address 4
abbrev pub one_read : Capture
one_read = record {
  first = 1;
  items = sent_example (big_endian (0x200000f1 ∷ replicate 15 0))
      ∷ received_example (big_endian (0x200000f1 ∷ 1500 ∷ 16 ∷ 0x200001f0 ∷ replicate 12 0))
      ∷ sent_example (big_endian (0x200001f0 ∷ 0x2000010f ∷ 4 ∷ []))
      ∷ received_example (big_endian (0x200001f0 ∷ 0x20000100 ∷ 0xabcd ∷ []))
      ∷ [];
}

-- a datagram of no bytes
abbrev pub one_empty : Capture
one_empty = record { first = 1; items = sent_example [] ∷ [] }

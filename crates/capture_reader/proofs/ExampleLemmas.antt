-- Proofs of the worked examples.
use Rattle.std.proofs.Common.{◌≡◌, ℕ, ◌<◌, ◌≤◌, ◌^◌, List, [], ◌∷◌, refl, inl, inr}
use Rattle.std.proofs.Common.{arith, codes, Bool, true, false, ◌&&◌, nat_lt, replicate}
use Rattle.std.specs.List.{list_all}
use Rattle.ipb_base.specs.Word.{AreWords, big_endian}
use Rattle.transaction_codec.specs.declared.request.Op.TheVariants.{Read}
use Rattle.std.specs.Fmt.{digits}
use Rattle.std.proofs.lemmas.Bool.Decides.{nat_tests}
use Rattle.packet_codec.specs.declared.packet.Order.{Order}
use Rattle.packet_codec.specs.declared.packet.Order.TheVariants.{Big, Little}
use Rattle.packet_codec.specs.declared.packet.PacketKind.TheVariants as kinds
use Rattle.packet_codec.specs.Packet.{in_order}
use Rattle.packet_codec.specs.Reading.{packet_of, start_of}
use Rattle.capture_reader.specs.declared.capture.Caught.{Caught}
use Rattle.capture_reader.specs.Proved.{Proves, HasProof, sent_after, IsProved}
use Rattle.capture_reader.specs.Rows.{Row, StatusRequest, Status, Requests, Replies, IsOfRow, row_packet}
use Rattle.capture_reader.specs.Description.{IsDescription}
use Rattle.capture_reader.specs.Examples.{one_read, one_empty, sent_example, received_example}

all_parts : (a b : Bool) → (a && b) ≡ true → (a ≡ true) × (b ≡ true)
all_parts true b e = (refl, e)
all_parts false b e = absurd cc

some_bytes : (order : Order) (word : ℕ) (words : List ℕ) → [] ≡ in_order order (word ∷ words) → ⊥
some_bytes Big word words e = cc
some_bytes Little word words e = cc

no_row : (row : Row) → IsOfRow (record { sent = true; bytes = [] }) row → ⊥
no_row row is = some_bytes (row_packet row).order _ (row_packet row).body is.spelled

none : (other : ℕ) → HasProof 1 0 (record { sent = true; bytes = [] } ∷ []) other → other ≤ 0
none other (inl here) = let e = here.0 in absurd (cc)
none other (inr later) = absurd later

pub empty_proves : IsProved one_empty 0
empty_proves = record { greatest = none; shown = inl refl }

pub no_bytes : IsDescription one_empty (codes "first 1\n> raw -\nproved 0\n")
unfolding digits
no_bytes = record {
  datagrams = codes "> raw -\n";
  place = 0;
  said = (codes "> raw -\n", [], inr (no_row, refl), refl, refl);
  proved = empty_proves;
  whole = refl;
}

-- ---- a word is read

is_less : (word : ℕ) → nat_lt word (2 ^ 32) ≡ true → word < 2 ^ 32
is_less word e = grind (arith, nat_tests)

words_are : (words : List ℕ) → list_all (λ word. nat_lt word (2 ^ 32)) words ≡ true → AreWords words
words_are [] e = tt
words_are (word ∷ words) e =
    let parts = all_parts (nat_lt word (2 ^ 32)) (list_all (λ w. nat_lt w (2 ^ 32)) words) e in
    (is_less word parts.0, words_are words parts.1)

request : Caught
request = sent_example (big_endian (0x200000f1 ∷ replicate 15 0))

status : Caught
status = received_example (big_endian (0x200000f1 ∷ 1500 ∷ 16 ∷ 0x200001f0 ∷ replicate 12 0))

asked : Caught
asked = sent_example (big_endian (0x200001f0 ∷ 0x2000010f ∷ 4 ∷ []))

answered : Caught
answered = received_example (big_endian (0x200001f0 ∷ 0x20000100 ∷ 0xabcd ∷ []))

none_before : sent_after 1 0 request ≡ 0
unfolding request packet_of start_of
none_before = refl

one_before : sent_after 1 (sent_after 1 (sent_after 1 0 request) status) asked ≡ 1
unfolding request status asked packet_of start_of
one_before = refl

at_most : (sent : ℕ) (item : Caught) (other : ℕ) → Proves 1 sent item other → other ≤ sent
at_most sent item other (received_example, inl reply) = reply.was_sent
at_most sent item other (received_example, inr told) = told.was_sent

up_to_one : (other : ℕ) → HasProof 1 0 one_read.items other → other ≤ 1
unfolding request status asked answered
up_to_one other (inl here) = omega (arith, at_most 0 request other here)
up_to_one other (inr (inl here)) = omega (arith, none_before, at_most (sent_after 1 0 request) status other here)
up_to_one other (inr (inr (inl here))) = let e = here.0 in absurd (cc)
up_to_one other (inr (inr (inr (inl here)))) =
    omega (
      arith,
      one_before,
      at_most (sent_after 1 (sent_after 1 (sent_after 1 0 request) status) asked) answered other here,
    )
up_to_one other (inr (inr (inr (inr none)))) = absurd none

reply_shows : HasProof 1 0 one_read.items 1
unfolding request status asked answered packet_of start_of
reply_shows =
    inr (inr (inr (inl (
      refl,
      inl (record {
        head = record { order = Big; id = 1; kind = kinds.Control };
        spelled = refl;
        control = refl;
        from_one = omega arith;
        was_sent = omega arith;
        identifier = refl;
      }),
    ))))

pub read_proves : IsProved one_read 1
read_proves = record { greatest = up_to_one; shown = inr reply_shows }

request_row : IsOfRow request StatusRequest
unfolding request
request_row = record {
  direction = refl;
  range = tt;
  packet = record { id = omega arith; body = words_are (replicate 15 0) refl; length = omega arith; order = λ e. absurd cc };
  spelled = refl;
}

status_row : IsOfRow status (Status 1500 16 1)
unfolding status
status_row = record {
  direction = refl;
  range = ((omega arith, omega arith), (omega arith, omega arith), record { from_one = omega arith; up_to_end = omega arith });
  packet = record {
    id = omega arith;
    body = words_are (1500 ∷ 16 ∷ 0x200001f0 ∷ replicate 12 0) refl;
    length = omega arith;
    order = λ e. absurd cc;
  };
  spelled = refl;
}

asked_row : IsOfRow asked (Requests Big 1 (record { tid = 0; op = Read 4 1 } ∷ []))
unfolding asked
asked_row = record {
  direction = refl;
  range = (record { tid = omega arith; count = omega arith; words = (omega arith, tt) }, tt);
  packet = record { id = omega arith; body = words_are (0x2000010f ∷ 4 ∷ []) refl; length = omega arith; order = λ e. absurd cc };
  spelled = refl;
}

answered_row : IsOfRow answered (Replies Big 1 (record { tid = 0; kind = 0; count = 1; code = 0; values = 0xabcd ∷ [] } ∷ []))
unfolding answered
answered_row = record {
  direction = refl;
  range = (record { tid = omega arith; count = omega arith; form = inl (refl, inl (inl refl, refl)); values = (omega arith, tt) }, tt);
  packet = record { id = omega arith; body = words_are (0x20000100 ∷ 0xabcd ∷ []) refl; length = omega arith; order = λ e. absurd cc };
  spelled = refl;
}

pub read_described : IsDescription one_read
    (codes "first 1\n> status request\n< status 1500 16 1\n> control 1 big\n  0 read 0x00000004 1\n< control 1 big\n  0 read 0 1 0x0000abcd\nproved 1\n")
unfolding digits request status asked answered
read_described = record {
  datagrams = codes "> status request\n< status 1500 16 1\n> control 1 big\n  0 read 0x00000004 1\n< control 1 big\n  0 read 0 1 0x0000abcd\n";
  place = 1;
  said = (
    _,
    _,
    inl (StatusRequest, request_row, refl),
    (
      _,
      _,
      inl (Status 1500 16 1, status_row, refl),
      (
        _,
        _,
        inl (Requests Big 1 (record { tid = 0; op = Read 4 1 } ∷ []), asked_row, refl),
        (
          _,
          _,
          inl (Replies Big 1 (record { tid = 0; kind = 0; count = 1; code = 0; values = 0xabcd ∷ [] } ∷ []), answered_row, refl),
          refl,
          refl,
        ),
        refl,
      ),
      refl,
    ),
    refl,
  );
  proved = read_proves;
  whole = refl;
}

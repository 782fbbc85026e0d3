-- No datagram of an air was born after all its first sends, through every call.
use Rattle.std.proofs.Common.{◌≡◌, ◌∙◌, ◌⊎◌, ℕ, zero, suc, ◌+◌, ◌≤◌, Bool, true, false, List, [], ◌∷◌, ◌++◌, inl, inr}
use Rattle.std.proofs.Common.{Option, Some, None, refl, ap, subst, arith, if◌then◌else◌}
use Rattle.std.specs.List.{slice_get}
use Rattle.world_model.specs.declared.datagram.Datagram.{Datagram}
use Rattle.world_model.specs.declared.datagram.Direction.TheVariants.{ToBoard}
use Rattle.world_model.specs.Board.{Board, hear}
use Rattle.world_model.specs.Air.{goes_to, is_alive}
use Rattle.world_model.specs.World.{air_after_answer}
use Rattle.world_model.specs.Links.{Told, IsHeard, birth_of, first_sends, first_sends_from, is_first_send, sent_on}
use Rattle.world_model.specs.Links.{heard_by, heard_on, hears_all, then_told}
use Rattle.record_command.specs.Traffic.{AreBorn}
use Rattle.record_command.proofs.Lists.{found_both, get_either, goes}

-- what the crates below say of the board of a link that heard something
abbrev pub KeepsBoard : Type 0
KeepsBoard = (old new : Told) → IsHeard old new → record new.board { log = old.board.log } ≡ old.board

at_least : (first count : ℕ) (air : List Datagram) → count ≤ first_sends_from first count air
at_least first count [] = omega arith
at_least first count (datagram ∷ air) =
    by_flag (is_first_send first count datagram.direction datagram.bytes) (λ from. at_least first from air)
  where
    by_flag : (b : Bool) → ((from : ℕ) → from ≤ first_sends_from first from air)
        → count ≤ first_sends_from first (if b then count + 1 else count) air
    by_flag true later = let more = later (count + 1) in omega arith
    by_flag false later = later count

-- one more counts where it is a first send
count_more : (first count : ℕ) (air : List Datagram) (datagram : Datagram)
    → first_sends_from first count (air ++ datagram ∷ [])
    ≡ (if is_first_send first (first_sends_from first count air) datagram.direction datagram.bytes
    then first_sends_from first count air + 1 else first_sends_from first count air)
count_more first count [] datagram = refl
count_more first count (d ∷ air) datagram =
    count_more first (if is_first_send first count d.direction d.bytes then count + 1 else count) air datagram

-- more datagrams leave no fewer
no_fewer : (first count : ℕ) (air more : List Datagram)
    → first_sends_from first count air ≤ first_sends_from first count (air ++ more)
no_fewer first count [] more = at_least first count more
no_fewer first count (datagram ∷ air) more =
    no_fewer first (if is_first_send first count datagram.direction datagram.bytes then count + 1 else count) air more

grown : (old : Told) (board : Board) (more : List Datagram) → board.first ≡ old.board.first → AreBorn old
    → ((place : ℕ) (datagram : Datagram) → slice_get more place ≡ Some datagram
    → datagram.birth ≤ first_sends_from old.board.first 0 (old.air ++ more))
    → AreBorn (record { board = board; air = old.air ++ more })
grown old board more first is news place datagram there = by_part (get_either old.air more place datagram there)
  where
    count : first_sends_from board.first 0 (old.air ++ more) ≡ first_sends_from old.board.first 0 (old.air ++ more)
    count = ap (λ (f : ℕ). first_sends_from f 0 (old.air ++ more)) first

    by_part : (slice_get old.air place ≡ Some datagram) ⊎ ((j : ℕ) × (slice_get more j ≡ Some datagram))
        → datagram.birth ≤ first_sends_from board.first 0 (old.air ++ more)
    by_part (inl before) =
        let least = is place datagram before in
        let longer = no_fewer old.board.first 0 old.air more in
        rw count (omega arith)
    by_part (inr new) = let least = news new.0 datagram new.1 in rw count least

-- ---- a send

alone : (one other : Datagram) (place : ℕ) → slice_get (one ∷ []) place ≡ Some other → one ≡ other
alone one other zero there = cc
alone one other (suc place) there = absurd (cc)

pub are_born_sent : (old : Told) (bytes : List ℕ) → AreBorn old → AreBorn (sent_on old bytes)
are_born_sent old bytes is =
    let one : Datagram = record { direction = ToBoard; bytes = bytes; birth = birth_of old bytes } in
    grown old old.board (one ∷ []) refl is (λ place datagram there.
    let birth : birth_of old bytes ≡ datagram.birth = ap (λ (d : Datagram). d.birth) (alone one datagram place there) in
    let count : first_sends_from old.board.first 0 (old.air ++ one ∷ []) ≡ birth_of old bytes =
    count_more old.board.first 0 old.air one in
    omega arith)

-- ---- what the board hears

answered : (old : Told) (board : Board) (answer : Option (List ℕ)) → board.first ≡ old.board.first → AreBorn old
    → AreBorn (record { board = board; air = old.air ++ air_after_answer (first_sends old) answer })
answered old board None first is = grown old board [] first is (λ place datagram there. absurd (cc))
answered old board (Some bytes) first is =
    let more = air_after_answer (first_sends old) (Some bytes) in
    grown old board more first is (λ place datagram there.
    let birth : first_sends old ≡ datagram.birth = ap (λ (d : Datagram). d.birth) (alone _ datagram place there) in
    let longer = no_fewer old.board.first 0 old.air more in
    omega arith)

same_first : KeepsBoard → (old new : Told) (place : ℕ) → heard_by old (slice_get old.air place) ≡ Some new
    → new.board.first ≡ old.board.first
same_first keeps old new place e = ap (λ (b : Board). b.first) (keeps old new (record {
  places = place ∷ [];
  heard = ap (λ (step : Option Told). then_told step (λ after. hears_all after [])) e;
}))

one_born : (old new : Told) (datagram : Option Datagram) → heard_by old datagram ≡ Some new
    → new.board.first ≡ old.board.first → AreBorn old → AreBorn new
one_born old new None e first is = absurd (cc)
one_born old new (Some datagram) e first is =
    let after = heard_on old datagram.bytes in
    let same : after ≡ new = found_both (goes_to ToBoard datagram.direction) (is_alive (first_sends old) datagram)
    after new e in
    let heard = hear old.board datagram.bytes in
    let kept : heard.board.first ≡ old.board.first = ap (λ (t : Told). t.board.first) same ∙ first in
    subst AreBorn same (answered old heard.board heard.answer kept is)

all_born : KeepsBoard → (places : List ℕ) (old new : Told) → hears_all old places ≡ Some new → AreBorn old → AreBorn new
all_born keeps [] old new e is = let same : old ≡ new = cc in subst AreBorn same is
all_born keeps (place ∷ places) old new e is =
    let g = goes (heard_by old (slice_get old.air place)) (λ after. hears_all after places) new e in
    all_born keeps places g.between new g.goes_on
    (one_born old g.between (slice_get old.air place) g.stepped (same_first keeps old g.between place g.stepped) is)

pub are_born_heard : KeepsBoard → (old new : Told) → IsHeard old new → AreBorn old → AreBorn new
are_born_heard keeps old new heard is = all_born keeps heard.places old new heard.heard is

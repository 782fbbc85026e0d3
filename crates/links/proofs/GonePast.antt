-- What a waiter went past so far, and what it finds behind that.
use Rattle.std.proofs.Common.{◌≡◌, ℕ, ◌+◌, ◌<◌, List, [], ◌∷◌, ◌++◌, length, map, Option, refl, sym, ap, subst, ◌∙◌, append-nil, length-append, arith}
use Rattle.std.specs.List.{AllByRecursion, flat_map}
use Rattle.std.proofs.lemmas.List.Concat.{flat_map-append}
use Rattle.ipb_base.proofs.AllLemmas.{AllByRecursion-append}
use Rattle.links.specs.declared.found.Found.{Found}
use Rattle.links.specs.declared.found.Found.TheVariants.{Nothing, Arrival, Silence}
use Rattle.links.specs.declared.waiter.TheConstants.{MOST_FROM_ELSEWHERE}
use Rattle.links.specs.Finds.{Finds, IsFoundBehind, IsPast, Past, calls_past}
use Rattle.links.specs.Sockets.{AreCalls, Came, Look, Place, Socket, SocketCall}
use Rattle.links.proofs.Sockets.{more_calls, no_calls}

pub record GonePast (board : Place) (old new : Option Socket) (count : ℕ) : Type 0 where
  pub past : List Past
  pub called : AreCalls (flat_map calls_past past) old new
  pub gone_past : AllByRecursion (IsPast board) past
  pub counted : length past ≡ count

pub none_past : (board : Place) (told : Option Socket) → GonePast board told told 0
none_past board told = record { past = []; called = no_calls told; gone_past = tt; counted = refl }

pub one_past : (board : Place) (old mid new : Option Socket) (count : ℕ) → GonePast board old mid count → (one : Past)
    → IsPast board one → AreCalls (calls_past one) mid new → GonePast board old new (count + 1)
one_past board old mid new count before one is called = record {
  past = before.past ++ one ∷ [];
  called = subst (λ (calls : List SocketCall). AreCalls calls old new)
      (ap (λ (calls : List SocketCall). flat_map calls_past before.past ++ calls) (sym (append-nil (calls_past one)))
      ∙ sym (flat_map-append calls_past before.past (one ∷ [])))
      (more_calls (flat_map calls_past before.past) (calls_past one) old mid new before.called called);
  gone_past = AllByRecursion-append (IsPast board) before.past (one ∷ []) before.gone_past (is, tt);
  counted = omega (arith, length-append before.past (one ∷ []), before.counted);
}

behind_all : (board : Place) (sends count : ℕ) (last : Came) (found : Found) → count < MOST_FROM_ELSEWHERE
    → IsFoundBehind board sends 0 (last ∷ []) found → IsFoundBehind board sends count (last ∷ []) found
behind_all board sends count last Nothing low behind = behind
behind_all board sends count last Arrival low behind = (behind.0, low)
behind_all board sends count last (Silence before) low behind = (behind.0, behind.1, low)

pub found_behind : (board : Place) (sends : ℕ) (old mid new : Option Socket) (count : ℕ) (found : Found)
    → GonePast board old mid count → count < MOST_FROM_ELSEWHERE → (last : Came)
    → IsFoundBehind board sends 0 (last ∷ []) found → AreCalls (Look last ∷ []) mid new → Finds board sends old new found
found_behind board sends old mid new count found before low last behind called = record {
  past = before.past;
  last = last ∷ [];
  called = more_calls (flat_map calls_past before.past) (Look last ∷ []) old mid new before.called called;
  gone_past = before.gone_past;
  behind = subst (λ (past : ℕ). IsFoundBehind board sends past (last ∷ []) found) (sym before.counted)
      (behind_all board sends count last found low behind);
}

pub found_none : (board : Place) (sends : ℕ) (old new : Option Socket) (count : ℕ) → GonePast board old new count
    → count ≡ MOST_FROM_ELSEWHERE → Finds board sends old new (Silence sends)
found_none board sends old new count before all = record {
  past = before.past;
  last = [];
  called = subst (λ (calls : List SocketCall). AreCalls calls old new)
      (sym (append-nil (flat_map calls_past before.past))) before.called;
  gone_past = before.gone_past;
  behind = (refl, before.counted ∙ all);
}

-- Links whose answers are given beforehand, as those of a board that answers anything, and a rack of them. Profile
-- throughout.
use Rattle.std.specs.Prelude.{ℕ, ◌≤◌, ◌==◌, Bool, true, false, List, [], ◌∷◌, ◌++◌, map, Option, Some, None, Result, Ok, Err}
use Rattle.std.specs.Prelude.{vec_len}
use Rattle.std.specs.List.{All, list_any}
use Rattle.std.specs.Global.{Vec}
use Rattle.ipb_base.specs.Faults.{one_more}
use Rattle.reliable_engine.specs.Traffic.{Passed}
use Rattle.reliable_engine.specs.Traffic as passes
use Rattle.board_specs.specs.declared.spec.LinkSpec.{LinkSpec}
use Rattle.board_specs.specs.declared.spec.LinkSpec.TheVariants.{Sim, Udp}
use Rattle.links.specs.declared.link.TheConstants.{MAX_DATAGRAM}
use Rattle.links.specs.declared.link.Received.{Received}
use Rattle.links.specs.declared.link.Received.TheVariants.{Got, Quiet}
use Rattle.links.specs.declared.rack.RackFault.{RackFault}
use Rattle.links.specs.declared.rack.RackFault.TheVariants.{Failed, NoMemory}

-- each is not longer than a datagram may be
abbrev pub AreDatagrams : List (Vec ℕ) → Type 0
AreDatagrams answers = All (λ bytes. vec_len bytes ≤ MAX_DATAGRAM) answers

abbrev pub bytes_of : List (Vec ℕ) → List (List ℕ)
bytes_of answers = map (λ bytes. bytes.items) answers

abbrev pub lists_of : List (Vec (Vec ℕ)) → List (List (List ℕ))
lists_of lists = map (λ answers. bytes_of answers.items) lists

-- ---- a link

-- The answers that were handed out and those that are left, in order; the numbers, from 1, of the calls that fail; the
-- counts of its calls, its faults, and the receives that were quiet and that got an answer; what passed over it, in the
-- order of the calls that did not fail; and its number among the links of its rack. A count stands still at 2^64 - 1.
pub record ScriptState : Type 0 where
  pub handed : List (List ℕ)
  pub left : List (List ℕ)
  pub fail : List ℕ
  pub calls : ℕ
  pub faults : ℕ
  pub quiets : ℕ
  pub gots : ℕ
  pub passed : List Passed
  pub number : ℕ

-- a link with these answers, before its first call, and the first of its rack unless the rack says otherwise
abbrev pub new_script : List (List ℕ) → List ℕ → ScriptState
new_script answers fail =
    record { handed = []; left = answers; fail = fail; calls = 0; faults = 0; quiets = 0; gots = 0; passed = []; number = 0 }

-- the link with this number among those of its rack
abbrev pub script_with_number : ℕ → ScriptState → ScriptState
script_with_number number link = record link { number = number }

-- each call is counted, and those whose numbers are named fail
abbrev pub script_call_counted : ScriptState → ScriptState
script_call_counted link = record link { calls = one_more link.calls }

-- a send: the datagram is taken, and forgotten
abbrev pub script_with_send : ScriptState → List ℕ → ScriptState
script_with_send link bytes = record (script_call_counted link) { passed = link.passed ++ passes.Sent bytes ∷ [] }

abbrev pub fails : ScriptState → Bool
fails link = list_any (λ number. number == one_more link.calls) link.fail

abbrev pub script_with_fault : ScriptState → ScriptState
script_with_fault link = record (script_call_counted link) { faults = one_more link.faults }

-- what a receive answers, what it leaves in its buffer, and the link after it
pub record ScriptReceipt : Type 0 where
  pub answer : Received
  pub bytes : List ℕ
  pub after : ScriptState

abbrev pub receipt_of : ScriptState → List (List ℕ) → ScriptReceipt
receipt_of link [] = record {
  answer = Quiet;
  bytes = [];
  after = record link { quiets = one_more link.quiets; passed = link.passed ++ passes.Quiet ∷ [] };
}
receipt_of link (bytes ∷ left) = record {
  answer = Got;
  bytes = bytes;
  after = record link {
    handed = link.handed ++ bytes ∷ [];
    left = left;
    gots = one_more link.gots;
    passed = link.passed ++ passes.Got bytes ∷ [];
  };
}

-- a receive takes the first of the answers that are left, and is quiet behind the last
abbrev pub script_receipt : ScriptState → ScriptReceipt
script_receipt link = receipt_of (script_call_counted link) link.left

-- ---- a rack

-- The lists of answers for the links that are still to be made, in order; the specs that links were made of, in order;
-- the faults; and the links given back, in order.
pub record ScriptRackState : Type 0 where
  pub left : List (List (List ℕ))
  pub made : List LinkSpec
  pub faults : ℕ
  pub kept : List ScriptState

abbrev pub new_rack : List (List (List ℕ)) → ScriptRackState
new_rack lists = record { left = lists; made = []; faults = 0; kept = [] }

-- the answers of the next link: the first list that is left, or none
abbrev pub next_answers : List (List (List ℕ)) → List (List ℕ)
next_answers [] = []
next_answers (answers ∷ lists) = answers

abbrev pub lists_after : List (List (List ℕ)) → List (List (List ℕ))
lists_after [] = []
lists_after (answers ∷ lists) = lists

-- no such link tells what it carries, as one to a simulated board would
abbrev pub is_simulated : LinkSpec → Bool
is_simulated (Sim mtu buffers first ranges fates) = true
is_simulated (Udp address port wait) = false

-- a link that is made uses up a list, and a make that fails uses up none
abbrev pub after_make : Result ScriptState RackFault → LinkSpec → ScriptRackState → ScriptRackState
after_make (Ok link) spec rack = record rack { left = lists_after rack.left; made = rack.made ++ spec ∷ [] }
after_make (Err Failed) spec rack = record rack { faults = one_more rack.faults }
after_make (Err NoMemory) spec rack = rack

-- a link given back stands behind the others
abbrev pub after_keep : ScriptState → ScriptRackState → ScriptRackState
after_keep link rack = record rack { kept = rack.kept ++ link ∷ [] }

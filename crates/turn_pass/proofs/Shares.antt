-- Threads may share a turn where its value may go from one to another.
use denote.RattleType.{RattleType}
use denote.Param.Send.{IsSend, IsSync, part_keyless, sendable}
use Rattle.std.proofs.Crossing.{crosses, frees}
use Rattle.std.specs.contracts.alloc.Global as Heap
use Rattle.std.specs.contracts.impls.GlobalAllocator.TheImpl.{ghosts}
use Rattle.atomic_table.specs.contracts.send_lease.SendLease as Lease
use Rattle.atomic_table.proofs.shared.Shared.TheSendSync.{the_sync as shared_sync}
use Rattle.atomic_table.proofs.Rights.{right_send}
use Rattle.turn_pass.specs.declared.chronicle.Chronicle as Chronicle
use Rattle.turn_pass.specs.contracts.turn.Turn as Turn

lease_sync : (T : RattleType) → IsSync (Lease.the_row T Heap.the_row ghosts)
lease_sync T = record {
  shared = λ d b o κ q.
      part_keyless (Lease.the_row T Heap.the_row ghosts) (right_send T Heap.the_row ghosts frees) q d b o;
}

pub turn_sync : (V : RattleType) (g : Chronicle.Ghosts V.Denot) → IsSend V → IsSync (Turn.the_row V g)
turn_sync V g s = search (shared_sync, lease_sync, sendable, crosses) depth 40 fits 20000

-- Threads may share what the clients of a run share.
use Rattle.std.proofs.Common.{ℕ, List, [], ◌∷◌}
use denote.Ref.{NamedLft}
use denote.RattleType.{Denots, RattleType}
use denote.Struct.Struct.{Struct}
use denote.Param.Send.{AllSync, Common, IsSend, IsSync, shr_sync, struct_sync}
use Rattle.std.proofs.Crossing.{sync}
use Rattle.links.specs.declared.link.Link as Link
use Rattle.hub_multiplexer.proofs.Shares.{hub_sync}
use Rattle.client_threads.specs.contracts.context.Context as Context

-- the fields of a struct, or what a closure holds
pub fields_shared : (fields : List RattleType) → AllSync fields → (d : Denots fields) (b o : ℕ)
    → Common ((Struct (record { name = []; args = []; types = []; fields = fields })).shr_at d b o)
fields_shared fields shared d b o =
    (struct_sync (record { name = []; args = []; types = []; fields = fields }) shared).shared d b o

pub context_sync : (ℓ : NamedLft) (R L G : RattleType) (g : Link.Ghosts L.Denot) → IsSync R → IsSend L → IsSync G
    → IsSync (Context.the_row ℓ R L G g)
context_sync ℓ R L G g runtime links gate = record {
  shared = λ d b o. fields_shared (_ ∷ _ ∷ _ ∷ _ ∷ [])
      (shr_sync ℓ.mir _ R runtime, (sync, (shr_sync ℓ.mir _ _ (hub_sync L g links), (shr_sync ℓ.mir _ G gate, tt))))
      (d.rt, (d.alloc, (d.hub, (d.gate, tt)))) b o;
}

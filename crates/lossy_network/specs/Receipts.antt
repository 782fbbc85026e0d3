-- What a receive of a simulated link comes to. Profile.
use Rattle.std.specs.Prelude.{◌≡◌, ℕ, List, [], ◌∷◌}
use Rattle.world_model.specs.Links.{IsHandedAt}
use Rattle.links.specs.declared.link.Received.TheVariants.{Got}
use Rattle.lossy_network.specs.Network.{Network, all_taken, with_call_counted, handed_out, quiet_receipt, network_receipt, with_queue}

-- the queue came to its end, and the receive is quiet
pub record QuietReceipt (old : Network) : Type 0 where
  pub is : network_receipt old ≡ quiet_receipt (all_taken (with_call_counted old))
  pub none : (all_taken (with_call_counted old)).traffic.queue ≡ []

-- a datagram for the hub, within its lifetime, came to the front, and is handed out
pub record GotReceipt (old : Network) : Type 0 where
  pub place : ℕ
  pub bytes : List ℕ
  pub rest : List ℕ
  pub queue : (all_taken (with_call_counted old)).traffic.queue ≡ place ∷ rest
  pub there : IsHandedAt (all_taken (with_call_counted old)).told bytes place
  pub is : network_receipt old ≡ record {
    answer = Got;
    bytes = bytes;
    after = handed_out (with_queue (all_taken (with_call_counted old)) rest) place bytes;
  }

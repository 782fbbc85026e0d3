use Rattle.std.proofs.Common.{◌++◌, ◌∷◌, [], List, ap, sym, subst, ◌∙◌}
use Rattle.ipb_base.proofs.AllLemmas.{AllByRecursion-append}
use Rattle.capture_reader.specs.declared.capture.Caught.{Caught}
use Rattle.capture_reader.specs.CaptureText.{IsItem, AreItems}
use Rattle.ipb_base.specs.Fronts.{all_of}
use Rattle.capture_reader.specs.Parsing.{datagram_at}
use Rattle.ipb_base.proofs.Fronts.{one_more}
use Rattle.capture_reader.proofs.Datagrams.{datagrams_shorten}
use Rattle.capture_reader.proofs.undescribing.read_datagrams.Goals as goal

pub datagrams-preserved : goal.datagrams-preserved
datagrams-preserved c =
    let first = c.in-Some.first in
    let is = rw c.in-Some.is at c.in_ok-first.ensures.item in
    let e = rw c.in-Some.is at c.in_ok-first.ensures.read in
    record {
      ranges = subst AreItems (sym c.in_ok-push.ensures.items)
          (AllByRecursion-append IsItem c.datagrams.items.items (first.item ∷ []) c.datagrams.invariant.ranges (is, tt));
      read = ap (λ (items : List Caught). items ++ (all_of datagram_at first.rest.now).0) c.in_ok-push.ensures.items
          ∙ (one_more datagram_at datagrams_shorten c.datagrams.items.items c.datagrams.rest.now first.rest.now first.item e
          ∙ c.datagrams.invariant.read);
    }

-- What is said of the index of a table that is listed.
use Rattle.std.proofs.Common.{ℕ, ◌≤◌, List, length, Option, Result, Ok, Err, IfOk, OnOk}
use Rattle.access_policy.specs.declared.policy.Rule.{Rule}
use Rattle.node_tree.specs.Maps.{RegisterMap}
use Rattle.node_tree.specs.Names.{IsIndexOf}
use Rattle.node_tree.specs.Refusals.{KeepsRules}
use Rattle.script_lang.specs.declared.session.Session.{Session}
use Rattle.session_input.specs.declared.refusal.Unread.{Unread}
use Rattle.session_input.specs.Deserved.{IsListed, StandsForSession}
use Rattle.session_input.specs.Numbers.{document_bytes}

pub listed : (bytes root : List ℕ) (session : Session) (policy : Option (List Rule))
    (result : Result RegisterMap Unread) → length bytes ≤ document_bytes → StandsForSession bytes session policy
    → IfOk result (IsIndexOf session.tables root) → OnOk result (KeepsRules session.tables root)
    → IfOk result (IsListed bytes root)
listed bytes root session policy (Err why) fits stands is kept = tt
listed bytes root session policy (Ok index) fits stands is kept = record {
  fits = fits;
  session = session;
  policy = policy;
  stands = stands;
  compiles = kept;
  is_index = is;
}

-- What `check` owes to its input. Profile.
use Rattle.std.specs.Prelude.{◌≡◌, ℕ, ◌==◌, List, [], length, Some, false}
use Rattle.std.specs.FinMap.{entries}
use Rattle.node_tree.specs.Maps.{RegisterMap}
use Rattle.node_tree.specs.Overlaps.{overlapping}
use Rattle.session_input.specs.Deserved.{BreaksInCheck, IsListed}
use Rattle.session_input.specs.Numbers.{document_bytes}
use Rattle.transcript.specs.Listing.{listing_text}
use Rattle.command_terms.specs.Documents.{IsRefusedDocument, long_document_line}
use Rattle.command_terms.specs.Numbers.{told_status}
use Rattle.command_terms.specs.Terms.{Terms, uses_none}

-- 0 where no registers overlap
abbrev pub listing_status : RegisterMap → ℕ
listing_status registers = told_status (length (overlapping [] (entries registers)) == 0)

-- The text lists the registers of a table of the session that the bytes stand for.
pub record IsListingOf (bytes root : List ℕ) (status : ℕ) (text : List ℕ) : Type 0 where
  pub registers : RegisterMap
  pub listed : IsListed bytes root registers
  pub spelled : text ≡ listing_text registers
  pub told : status ≡ listing_status registers

-- It takes a document, which is refused by the first rule that it breaks, and lists the registers of a table. It makes no
-- links.
abbrev pub check_terms : List ℕ → Terms
check_terms root = record {
  limit = Some document_bytes;
  makes_links = false;
  lets_in = false;
  long_line = long_document_line;
  Right = λ bytes. (registers : RegisterMap) × IsListed bytes root registers;
  Refuses = IsRefusedDocument (BreaksInCheck root);
  Done = λ bytes given status text. IsListingOf bytes root status text;
  Uses = uses_none;
}

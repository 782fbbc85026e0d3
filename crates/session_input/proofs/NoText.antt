-- Bytes that are not the text of a document are no document of a session.
use Rattle.std.proofs.Common.{ℕ, List}
use Rattle.script_lang.specs.declared.refusal.DocWhy.TheVariants.{NotToml, Shape, NoBoards, ManyBoards, ManyClients}
use Rattle.script_lang.specs.declared.refusal.DocWhy.TheVariants.{DuplicateBoard}
use Rattle.session_input.specs.declared.refusal.Refusal.{Refusal}
use Rattle.session_input.specs.declared.refusal.Refusal.TheVariants.{TooLong, Document, Table, Policy, NoServe}
use Rattle.session_input.specs.declared.refusal.Refusal.TheVariants.{OneBoard, NotSim, Compile, Board, Script}
use Rattle.session_input.specs.Deserved.{DeservesUnread, IsNoText}

pub no_text : (bytes : List ℕ) (r : Refusal) → IsNoText bytes r → DeservesUnread bytes r
no_text bytes TooLong is = is
no_text bytes (Document path NotToml) is = is
no_text bytes (Document path Shape) is = absurd is
no_text bytes (Document path NoBoards) is = absurd is
no_text bytes (Document path ManyBoards) is = absurd is
no_text bytes (Document path ManyClients) is = absurd is
no_text bytes (Document path DuplicateBoard) is = absurd is
no_text bytes (Table table path why) is = absurd is
no_text bytes (Policy path) is = absurd is
no_text bytes NoServe is = absurd is
no_text bytes OneBoard is = absurd is
no_text bytes (NotSim name) is = absurd is
no_text bytes (Compile table path why) is = absurd is
no_text bytes (Board name why) is = absurd is
no_text bytes (Script client line why) is = absurd is

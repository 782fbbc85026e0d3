-- What `load` owes. Profile.
use Rattle.std.specs.Prelude.{◌≡◌, ℕ, Bool, List, None, true, false, []}
use Rattle.ipb_base.specs.Lists.{IsPrefix}
use Rattle.board_specs.specs.declared.spec.LinkSpec.{LinkSpec}
use Rattle.board_history.specs.Links.{LinkReport}
use Rattle.command_terms.specs.Numbers.{told_status}
use Rattle.command_terms.specs.Terms.{Terms}
use Rattle.load_run.specs.Generated.{boards, steps}
use Rattle.load_run.specs.Loading.{IsLoadOf}
use Rattle.session_run.specs.Links.{AreLeft, link_specs}

-- Of the number of operations, what the link that was given back shows, the status and the text, which is the summary of
-- a generated session:
pub record IsSummaryOf (count : ℕ) (links : List LinkReport) (status : ℕ) (text : List ℕ) : Type 0 where
  -- whether every operation was replied to with code 0, and the summary that tells it
  pub done : Bool
  pub load : IsLoadOf count links done text
  -- the status is 0 exactly where it was
  pub told : status ≡ told_status done

-- At every status: a link was made of the spec of the board of the generated session and given back, or none was; what
-- was sent to the board, and so what it executed, is a merge of bodies that the scripts ask of it, some of each
-- client's, in its order.
pub record AreLoaded (count : ℕ) (specs : List LinkSpec) (links : List LinkReport) : Type 0 where
  pub first : IsPrefix specs (link_specs (boards count))
  pub left : AreLeft 0 (boards count) (steps count) links

-- It reads nothing, runs the generated session of so many operations over a link that the rack makes, and writes the
-- summary.
abbrev pub load_terms : ℕ → Terms
load_terms count = record {
  limit = None;
  makes_links = true;
  lets_in = false;
  long_line = [];
  Right = λ bytes. Unit {0};
  Refuses = λ bytes line. ⊥;
  Done = λ bytes given status text. IsSummaryOf count given.links status text;
  Uses = λ bytes specs links. AreLoaded count specs links;
}

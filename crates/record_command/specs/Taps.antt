-- A rack of taps, as contracts see it. What private functions promise one another; no public clause speaks of these.
use Rattle.std.specs.Prelude.{ℕ, List}
use Rattle.board_specs.specs.declared.spec.LinkSpec.{LinkSpec}
use Rattle.links.specs.declared.link.Link.{Ghosts}
use Rattle.record_command.specs.Traffic.{Tapped}

-- the taps that were given back, in order; the specs of the links that were made elsewhere; and how often one was asked
-- for
pub record TapsState (L : Type 0) : Type 0 where
  pub kept : List (Tapped L)
  pub made : List LinkSpec
  pub faults : ℕ

-- what contracts see of a tap is what they see of its link
abbrev pub tap_ghosts : {L : Type 0} → Ghosts L → Ghosts (Tapped L)
tap_ghosts seen = record {
  telling = λ tap. seen.telling tap.link;
  faults = λ tap. seen.faults tap.link;
  quiets = λ tap. seen.quiets tap.link;
  gots = λ tap. seen.gots tap.link;
  held = λ tap. seen.held tap.link;
  traffic = λ tap. seen.traffic tap.link;
  number = λ tap. seen.number tap.link;
}

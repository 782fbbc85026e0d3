use Rattle.std.proofs.Common.{◌≡◌, ℕ, zero, suc, List, [], ◌∷◌, Some, refl, subst}
use Rattle.std.specs.List.{slice_get}
use Rattle.std.proofs.lemmas.Option.{same_Some}
use Rattle.board_specs.specs.declared.spec.BoardSpec.{BoardSpec}
use Rattle.world_model.specs.Settings.{Limits}
use Rattle.board_history.specs.Links.{LinkReport}
use Rattle.client_history.specs.Boards.{AreServedOver, IsServedAt, IsServedOver, ServedBoard}
use Rattle.client_history.proofs.boards.each_board_was_served.Goals as goal

served_at : (settings : Limits) (specs : List BoardSpec) (boards : List ServedBoard) (links : List LinkReport)
    (position : ℕ) (served : ServedBoard) → AreServedOver settings specs boards links
    → slice_get boards position ≡ Some served → IsServedAt settings specs links position served
served_at settings [] [] [] position served are at = absurd cc
served_at settings [] [] (l ∷ ls) position served are at = absurd are
served_at settings [] (b ∷ bs) ls position served are at = absurd are
served_at settings (s ∷ ss) [] ls position served are at = absurd are
served_at settings (s ∷ ss) (b ∷ bs) [] position served are at = absurd are
served_at settings (s ∷ ss) (b ∷ bs) (l ∷ ls) zero served are at = record {
  spec = s;
  link = l;
  document = refl;
  link_there = refl;
  served_over = subst (λ (x : ServedBoard). IsServedOver settings s x l) (same_Some b served at) are.0;
}
served_at settings (s ∷ ss) (b ∷ bs) (l ∷ ls) (suc k) served are at =
    let later = served_at settings ss bs ls k served are.1 at in
    record {
      spec = later.spec;
      link = later.link;
      document = later.document;
      link_there = later.link_there;
      served_over = later.served_over;
    }

pub returns : goal.returns
returns c = served_at

use Rattle.std.proofs.Common.{◌≡◌, ◌++◌, ◌∷◌, [], ◌+◌, ◌||◌, ◌==◌, Some, get_or, map, option_map, sym, ap, ◌∙◌, cond}
use Rattle.std.proofs.Common.{take}
use Rattle.std.specs.List.{slice_get}
use Rattle.std.proofs.lemmas.Option.{slice_get-map}
use Rattle.run_audit.specs.declared.places.PieceShown.{PieceShown}
use Rattle.run_audit.specs.Counts.{distinct}
use Rattle.run_audit.specs.Taken.{has}
use Rattle.run_audit.specs.Steps.{place_of, piece_kept}
use Rattle.run_audit.proofs.Distinct.{among_push, distinct_push, is_among}
use Rattle.run_audit.proofs.Keys.{last_there}
use Rattle.run_audit.proofs.Misplacing.{read_mapped, take_next}
use Rattle.run_audit.proofs.counts.distinct_places.Goals as goal

nothing : PieceShown
nothing = record { line = 0; client = 0; body = 0; index = 0; place = 0; transaction = 0 }

pub loop-piece-preserved : goal.loop-piece-preserved
unfolding nothing
loop-piece-preserved c =
    let pieces = map piece_kept c.args.pieces.now in
    let places = map place_of pieces in
    let i = c.loop-piece.piece-index in
    let place = (get_or c.args.pieces.now i nothing).place in
    let at : slice_get places i ≡ Some place =
    slice_get-map place_of pieces i
    ∙ ap (option_map place_of) (read_mapped piece_kept c.args.pieces.now i nothing c.loop-piece-test.true) in
    let next : take (i + 1) places ≡ take i places ++ place ∷ [] = take_next places i place at in
    let was = c.in_ok-take_place.ensures.was ∙ c.loop-piece.invariant.places place in
    record {
      last' = last_there (has c.take_place.new.taken) _ (get_or c.args.pieces.now i nothing)
          (c.in_ok-take_place.ensures.places place);
      places = λ other.
          c.in_ok-take_place.ensures.places other
          ∙ (ap (λ b. b || (other == place)) (c.loop-piece.invariant.places other)
          ∙ (sym (among_push other place (take i places)) ∙ ap (is_among other) (sym next)));
      count =
          c.in_ok-take_place.ensures.count
          ∙ (ap (λ b. cond b c.loop-piece.places.count (c.loop-piece.places.count + 1)) was
          ∙ (ap (λ n. cond (is_among place (take i places)) n (n + 1)) c.loop-piece.invariant.count
          ∙ (sym (distinct_push (take i places) place) ∙ ap distinct (sym next))));
    }

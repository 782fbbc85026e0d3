-- The links and the pairs that a call gave back, together.
use Rattle.std.proofs.Common.{◌≡◌, List, [], ◌++◌, Option, Some, None}
use Rattle.std.proofs.Common.{refl, sym, ap, ◌∙◌, subst, append-nil, map}
use Rattle.std.specs.Prelude.{option_map}
use Rattle.ipb_outside.specs.declared.sink.Sink.{Ghosts as SinkGhosts}
use Rattle.ipb_outside.specs.declared.source.Source.{Ghosts as SourceGhosts}
use Rattle.ipb_outside.specs.Pairs.{Came, Went, pair_shown}
use Rattle.board_history.specs.Links.{LinkReport}
use Rattle.command_terms.specs.Outside.{GivenBack, no_pairs}
use Rattle.command_terms.proofs.Leaving.{Told, at_links}

append_none : {C : Type 0} (all : Option (List C)) → all ≡ option_map (λ rest. [] ++ rest) all
append_none None = refl
append_none (Some rest) = refl

behind_none : {C : Type 0} (all : Option (List C)) → all ≡ option_map (λ before. before ++ []) all
behind_none None = refl
behind_none (Some before) = ap Some (sym (append-nil before))

module _ {L I O : Type 0} (shown : L → LinkReport) (source : SourceGhosts I) (sink : SinkGhosts O) (old new : List L)
    (coming coming_now kept kept_now : Option (List (I × O))) where
  -- these links were given back, these pairs came and went back, and so it is
  abbrev pub Together : (GivenBack → Type 0) → Type 0
  Together holds = Told shown old new (λ links. (came : List (I × O)) × (back : List (I × O))
      × Came coming coming_now came × Went kept kept_now back
      × holds (record { links = links; came = map (pair_shown source sink) came; back = map (pair_shown source sink) back }))

  -- and so it is therefore
  pub therefore : (holds also : GivenBack → Type 0) → ((given : GivenBack) → holds given → also given)
      → Together holds → Together also
  therefore holds also then told =
      (told.0, told.1, (told.2.0, told.2.1, told.2.2, told.2.3, then _ told.2.4))

  -- these links, and no pair, where the door was not called
  pub without_pairs : coming_now ≡ coming → kept_now ≡ kept → (holds : GivenBack → Type 0)
      → Told shown old new (λ links. holds (no_pairs links)) → Together holds
  without_pairs came_none kept_none holds told = (
    told.0,
    told.1,
    (
      [],
      [],
      subst (λ all. coming ≡ option_map (λ rest. [] ++ rest) all) (sym came_none) (append_none coming),
      kept_none ∙ behind_none kept,
      told.2,
    ),
  )

  -- what more is known of the links
  pub with_links : (P : List LinkReport → Type 0) (holds also : GivenBack → Type 0)
      → ((given : GivenBack) → P given.links → holds given → also given)
      → Told shown old new P → Together holds → Together also
  with_links P holds also then of_links told = (
    told.0,
    told.1,
    (
      told.2.0,
      told.2.1,
      told.2.2,
      told.2.3,
      then _ (at_links shown old new told.0 told.1 P of_links) told.2.4,
    ),
  )

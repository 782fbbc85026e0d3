-- The numbers of links among those of their rack, from a greeting on to the end of a session.
use Rattle.std.proofs.Common.{◌≡◌, ◌∙◌, ℕ, List, [], ◌∷◌, ◌++◌, map, sym, refl, ap, append_assoc, append-nil}
use Rattle.std.proofs.lemmas.List.{map-append, map_push}
use Rattle.links.specs.declared.link.Link.{Ghosts}
use Rattle.world_model.specs.Settings.{Limits}
use Rattle.board_specs.specs.declared.spec.BoardSpec.{BoardSpec}
use Rattle.hub_lane.specs.Lanes.{LaneState}
use Rattle.board_history.specs.Links.{numbers_of}
use Rattle.board_greeting.specs.Boards.{AreReached}
use Rattle.board_greeting.specs.Reports.{shown_by}
use Rattle.board_greeting.specs.Standings.{all_at_hub, lanes_in, links_in, number_in, numbers_in, with_lanes}
use Rattle.board_greeting.specs.declared.standing.Standing.{Standing}
use Rattle.board_greeting.specs.declared.standing.Standing.TheVariants.{Live, AtHub, Silent, Down}

abbrev pub lane_numbers : {L : Type 0} → List (LaneState L) → List ℕ
lane_numbers {L} lanes = map (λ (l : LaneState L). l.number) lanes

-- boards that were greeted, once lanes with the numbers of those that went stand in their places
pub numbers_back : {L : Type 0} (seen : Ghosts L) (settings : Limits) (specs : List BoardSpec)
    (boards : List (Standing L)) (news : List (LaneState L)) → AreReached (shown_by seen) settings specs boards
    → lane_numbers news ≡ lane_numbers (lanes_in boards)
    → numbers_in seen.number (with_lanes (all_at_hub boards) news)
    ≡ numbers_of (map (shown_by seen) (links_in boards))
numbers_back seen settings specs [] news are same = refl
numbers_back seen settings [] (b ∷ boards) news are same = absurd are
numbers_back seen settings (s ∷ specs) (Live lane ∷ boards) [] are same = absurd cc
numbers_back {L} seen settings (s ∷ specs) (Live lane ∷ boards) (n ∷ news) are same =
    let first : n.number ≡ lane.number = cc in
    let later : lane_numbers news ≡ lane_numbers (lanes_in boards) = cc in
    let opened : lane.number ≡ seen.number lane.link = ap (λ (l : LaneState L). l.number) are.0.as_told.opened' in
    ap (λ (k : ℕ). k ∷ numbers_in seen.number (with_lanes (all_at_hub boards) news)) (first ∙ opened)
    ∙ ap (λ (ks : List ℕ). seen.number lane.link ∷ ks) (numbers_back seen settings specs boards news are.1 later)
numbers_back seen settings (s ∷ specs) (AtHub ∷ boards) news are same = absurd are.0
numbers_back seen settings (s ∷ specs) (Silent link ∷ boards) news are same =
    ap (λ (ks : List ℕ). seen.number link ∷ ks) (numbers_back seen settings specs boards news are.1 same)
numbers_back seen settings (s ∷ specs) (Down link ∷ boards) news are same =
    ap (λ (ks : List ℕ). seen.number link ∷ ks) (numbers_back seen settings specs boards news are.1 same)

numbers_are : {L : Type 0} (seen : Ghosts L) (links : List L)
    → numbers_of (map (shown_by seen) links) ≡ map seen.number links
numbers_are seen [] = refl
numbers_are seen (l ∷ links) = ap (λ (ks : List ℕ). seen.number l ∷ ks) (numbers_are seen links)

-- ---- links given back one after another

-- the link of the next board joins those that were kept
pub number_more : {L : Type 0} (number : L → ℕ) (old new : List L) (link : L) (board : Standing L)
    (boards others : List (Standing L)) (whole : List ℕ) → new ≡ old ++ link ∷ []
    → number link ∷ [] ≡ number_in number board → boards ≡ board ∷ others
    → map number old ++ numbers_in number boards ≡ whole → map number new ++ numbers_in number others ≡ whole
number_more {L} number old new link board boards others whole push same here is =
    let rest = numbers_in number others in
    ap (λ (ls : List L). map number ls ++ rest) push
    ∙ (ap (λ (ks : List ℕ). ks ++ rest) (map_push number old link)
    ∙ (append_assoc (map number old) (number link ∷ []) rest
    ∙ (ap (λ (ks : List ℕ). map number old ++ (ks ++ rest)) same
    ∙ (sym (ap (λ (bs : List (Standing L)). map number old ++ numbers_in number bs) here) ∙ is))))

behind : (front xs ys : List ℕ) → front ++ xs ≡ front ++ ys → xs ≡ ys
behind [] xs ys is = is
behind (n ∷ front) xs ys is = let later : front ++ xs ≡ front ++ ys = cc in behind front xs ys later

-- none is left
pub numbers_end : {L : Type 0} (seen : Ghosts L) (kept now links : List L) (boards left : List (Standing L))
    → now ≡ kept ++ links → left ≡ []
    → map seen.number now ++ numbers_in seen.number left ≡ map seen.number kept ++ numbers_in seen.number boards
    → numbers_of (map (shown_by seen) links) ≡ numbers_in seen.number boards
numbers_end {L} seen kept now links boards left grown none is =
    let number = seen.number in
    let all : map number kept ++ map number links ≡ map number kept ++ numbers_in number boards =
    sym (map-append number kept links) ∙ (sym (ap (map number) grown) ∙ (sym (append-nil (map number now))
    ∙ (sym (ap (λ (bs : List (Standing L)). map number now ++ numbers_in number bs) none) ∙ is))) in
    numbers_are seen links ∙ behind (map number kept) (map number links) (numbers_in number boards) all

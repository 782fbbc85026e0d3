-- Whether every planned body of a client was asked, after a call on a hub of berths.
use Rattle.std.proofs.Common.{◌≡◌, ◌∙◌, ℕ, List, [], ◌∷◌, ◌++◌, map, length, refl, sym, ap, subst, arith, ⊎_elim}
use Rattle.std.proofs.Common.{append_assoc, append-nil, eqb}
use Rattle.std.specs.List.{AllByRecursion, filter_map}
use Rattle.std.proofs.lemmas.List.Elements.{filter-append, filter_map-append}
use Rattle.turn_pass.specs.Record.{Recorded, made_by}
use Rattle.turn_pass.specs.Pass.{Knowledge, Told}
use Rattle.lane_record.specs.declared.item.Item.{Item}
use Rattle.lane_record.specs.Coding.{Head, as_recorded, item_from}
use Rattle.lane_record.specs.Items.{asked_count, planned_count}
use Rattle.hub_lane.specs.declared.answers.Asked.TheVariants as asks
use Rattle.hub_multiplexer.specs.AnyCalls.{AddsAs, AskMeansAs, BegunAs}
use Rattle.hub_multiplexer.specs.Manner.{FoundLane, with_more}
use Rattle.hub_multiplexer.specs.OwnItems.{of_client, own_items}
use Rattle.hub_multiplexer.proofs.AskedAll.{AllAsked, nothing_left}
use Rattle.hub_multiplexer.proofs.OwnItems.{CanBeRead, asked_own, planned_own}
use Rattle.board_berth.specs.Manner.{IsAnsweredAt, IsFoundBerth, IsOverBefore, IsUnansweredAt, berth_manner}
use Rattle.board_berth.specs.Records.{Stretch, entries_from, greeted_entry}
use Rattle.board_berth.proofs.Submitting.{all_made, asked_more, own_in, planned_with, read_all, read_greeted, read_made}

-- of the past greetings nothing is open
over_all : (head : Head) (n : ℕ) (ss : List Stretch) → AllByRecursion (IsOverBefore head) ss
    → asked_count n (own_in n ss) ≡ planned_count n (own_in n ss)
over_all head n [] all = refl
over_all head n (s ∷ later) all =
    let first = of_client n s.items in
    let asked = asked_more n first (own_in n later) in
    let planned = planned_with n first (own_in n later) in
    let asked' = asked_own n s.items in
    let planned' = planned_own n s.items in
    let over = (all.0.over n).asked in
    let rest = over_all head n later all.1 in
    omega (arith, asked, planned, asked', planned', over, rest)

front_own : CanBeRead → (n : ℕ) (past : List Stretch) (front : List Recorded) (s : Stretch)
    → front ≡ entries_from 0 past ++ greeted_entry (length past) s ∷ []
    → filter_map item_from (made_by n front) ≡ own_in n past
front_own read n past front s is =
    let all = entries_from 0 past in
    let last = greeted_entry (length past) s ∷ [] in
    ap (λ (l : List Recorded). filter_map item_from (made_by n l)) is
    ∙ (ap (filter_map item_from) (filter-append (λ (x : Recorded). eqb x.entry.maker n) all last)
    ∙ (filter_map-append item_from (made_by n all) (made_by n last)
    ∙ (ap (λ (l : List Item). filter_map item_from (made_by n all) ++ l) (read_greeted n (length past) s [])
    ∙ (append-nil (filter_map item_from (made_by n all)) ∙ read_all read n 0 past))))

front_own_of : CanBeRead → (n : ℕ) (lane : FoundLane) (f : IsFoundBerth lane)
    → filter_map item_from (made_by n lane.front) ≡ own_in n f.past
front_own_of read n lane f = ⊎_elim
    (λ (is : IsAnsweredAt f.past lane). front_own read n f.past lane.front
    (record { by = is.by; head = lane.head; items = [] }) is.front)
    (λ (is : IsUnansweredAt f.past lane). ap (λ (l : List Recorded). filter_map item_from (made_by n l)) is.front
    ∙ read_all read n 0 f.past) f.present

-- a client that asked all in the present greeting asked all
asked_all_found : CanBeRead → (k : Knowledge) (lane : FoundLane) (added : List Item) → Told k (berth_manner.shows lane)
    → IsFoundBerth (with_more lane added)
    → asked_count k.number (of_client k.number lane.items) ≡ planned_count k.number (of_client k.number lane.items)
    → AllAsked k
asked_all_found read k lane added told f all =
    let n = k.number in
    let last = of_client n lane.items in
    let items = map as_recorded lane.items in
    let own : own_items k ≡ own_in n f.past ++ last =
    ap (filter_map item_from) (all_made k (berth_manner.shows lane) told)
    ∙ (ap (filter_map item_from) (filter-append (λ (x : Recorded). eqb x.entry.maker n) lane.front items)
    ∙ (filter_map-append item_from (made_by n lane.front) (made_by n items)
    ∙ (ap (λ (l : List Item). l ++ filter_map item_from (made_by n items))
    (front_own_of read n (with_more lane added) f)
    ∙ ap (λ (l : List Item). own_in n f.past ++ l) (read_made read n lane.items)))) in
    let over = over_all lane.head n f.past f.over in
    let asked = asked_more n (own_in n f.past) last in
    let planned = planned_with n (own_in n f.past) last in
    subst (λ (l : List Item). asked_count n l ≡ planned_count n l) (sym own)
    (omega (arith, all, over, asked, planned))

pub nothing_left_there : CanBeRead → (k : Knowledge) (lane : FoundLane) (added : List Item) (after : Knowledge)
    → AddsAs berth_manner k lane added after → AskMeansAs berth_manner k asks.Nothing lane added → AllAsked after
nothing_left_there read k lane added after a means = nothing_left berth_manner read k lane added after a
    (asked_all_found read k lane added a.found a.legal means.0, means.1)

-- a greeting that begins plans nothing
pub begun_still : (k after : Knowledge) → BegunAs berth_manner k after → AllAsked k → AllAsked after
begun_still k after b all =
    let opened = made_by k.number k.opening.entries in
    let number : after.number ≡ k.number = ap (λ (z : Knowledge). z.number) b.rest_same in
    let own : own_items after ≡ own_items k =
    (λ i. filter_map item_from (made_by (b.rest_same i).number (b.rest_same i).opening.entries ++ b.mine_now i))
    ∙ (ap (filter_map item_from) (sym (append_assoc opened k.mine b.grew.added))
    ∙ (filter_map-append item_from (opened ++ k.mine) b.grew.added
    ∙ (ap (λ (l : List Item). own_items k ++ l) b.no_body ∙ append-nil (own_items k)))) in
    (λ i. asked_count (number i) (own i)) ∙ (all ∙ (λ i. planned_count (sym number i) (sym own i)))

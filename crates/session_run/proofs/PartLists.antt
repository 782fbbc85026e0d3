-- The parts of the clients, board by board.
use Rattle.std.proofs.Common.{◌≡◌, ℕ, zero, suc, ◌+◌, ◌<◌, ◌∙◌, List, [], ◌∷◌, ◌++◌, length, drop, get_or, map, Option}
use Rattle.std.proofs.Common.{refl, sym, ap, subst, arith, append_assoc, append-nil, set, take}
use Rattle.std.specs.List.{AllByRecursion}
use Rattle.std.proofs.lemmas.List.{drop_all, drop_more, length-map, length-take-le, map-append, nil_from_length}
use Rattle.std.proofs.lemmas.List.{set_at, take_all, take_more}
use Rattle.lane_record.specs.declared.outcome.Outcome.{Outcome}
use Rattle.client_threads.specs.declared.result.ClientResult.{ClientResult}
use Rattle.board_history.specs.Runs.{parts_with}
use Rattle.script_plans.specs.declared.board_run.ClientPart.{ClientPart}
use Rattle.script_plans.specs.Plan.{ClientBodies}
use Rattle.session_run.specs.Parts.{HasClients, HasLanes, HasNext, next_of, others_of, outcomes_on_lane, parts_from}

-- the parts on each board, by what is left of each client's outcomes
abbrev pub parts_by : List (List ClientBodies) → List (List (List Outcome)) → List (List ClientPart)
parts_by [] clients = []
parts_by (planned ∷ boards) clients =
    parts_with planned (map next_of clients) [] ∷ parts_by boards (map others_of clients)

abbrev pub left_from : ℕ → List ClientResult → List (List (List Outcome))
left_from lane results = map (λ (r : ClientResult). drop lane r.lanes) results

next_from : (lane : ℕ) (lanes : List (List Outcome)) → next_of (drop lane lanes) ≡ get_or lanes lane []
next_from zero [] = refl
next_from (suc lane) [] = refl
next_from zero (outcomes ∷ lanes) = refl
next_from (suc lane) (outcomes ∷ lanes) = next_from lane lanes

others_next : (lane : ℕ) (lanes : List (List Outcome)) → others_of (drop lane lanes) ≡ drop (suc lane) lanes
others_next zero [] = refl
others_next (suc lane) [] = refl
others_next zero (outcomes ∷ lanes) = refl
others_next (suc lane) (outcomes ∷ lanes) = others_next lane lanes

others_from : (lane : ℕ) (lanes : List (List Outcome)) → others_of (drop lane lanes) ≡ drop (lane + 1) lanes
others_from lane lanes =
    let up : suc lane ≡ lane + 1 = omega arith in
    others_next lane lanes ∙ ap (λ (n : ℕ). drop n lanes) up

next_from_all : (lane : ℕ) (results : List ClientResult)
    → map next_of (left_from lane results) ≡ outcomes_on_lane lane results
next_from_all lane [] = refl
next_from_all lane (r ∷ results) =
    ap (λ (os : List Outcome). os ∷ map next_of (left_from lane results)) (next_from lane r.lanes)
    ∙ ap (λ (l : List (List Outcome)). get_or r.lanes lane [] ∷ l) (next_from_all lane results)

others_from_all : (lane : ℕ) (results : List ClientResult)
    → map others_of (left_from lane results) ≡ left_from (lane + 1) results
others_from_all lane [] = refl
others_from_all lane (r ∷ results) =
    ap (λ (os : List (List Outcome)). os ∷ map others_of (left_from lane results)) (others_from lane r.lanes)
    ∙ ap (λ (l : List (List (List Outcome))). drop (lane + 1) r.lanes ∷ l) (others_from_all lane results)

pub parts_by_lane : (lane : ℕ) (boards : List (List ClientBodies)) (results : List ClientResult)
    → parts_by boards (left_from lane results) ≡ parts_from lane boards results
parts_by_lane lane [] results = refl
parts_by_lane lane (planned ∷ boards) results =
    ap (λ (l : List (List Outcome)). parts_with planned l [] ∷ parts_by boards (map others_of (left_from lane results)))
    (next_from_all lane results)
    ∙ ap (λ (ps : List (List ClientPart)). parts_with planned (outcomes_on_lane lane results) [] ∷ ps)
    (ap (parts_by boards) (others_from_all lane results) ∙ parts_by_lane (lane + 1) boards results)

-- all lanes are those from the first on
pub all_left : (results : List ClientResult) → map (λ (r : ClientResult). r.lanes) results ≡ left_from 0 results
all_left [] = refl
all_left (r ∷ results) = ap (λ (l : List (List (List Outcome))). r.lanes ∷ l) (all_left results)

-- ---- one board

-- the clients so far, and those that are left
pub record PartsSoFar (k : ℕ) (planned rest : List ClientBodies) (before now : List (List (List Outcome)))
    (parts : List ClientPart) : Type 0 where
  pub whole : parts ++ parts_with rest (map next_of (drop k before)) [] ≡ parts_with planned (map next_of before) []
  pub others : now ≡ map others_of (take k before) ++ drop k before
  pub many : length rest + k ≡ length before

pub get_behind : {A : Type 0} (front rest : List A) (k : ℕ) (d : A) → length front ≡ k
    → get_or (front ++ rest) k d ≡ get_or rest 0 d
get_behind [] rest k d is = ap (λ (n : ℕ). get_or rest n d) (sym is)
get_behind (f ∷ front) rest zero d is = absurd cc
get_behind (f ∷ front) rest (suc k) d is = get_behind front rest k d (omega (arith, is))

long_so_far : (k : ℕ) (before : List (List (List Outcome))) → k < length before
    → length (map others_of (take k before)) ≡ k
long_so_far k before within =
    let same = length-map (take k before) others_of in
    let long = length-take-le k before (omega (arith, within)) in
    omega (arith, same, long)

-- the next client is as it was before
still_there : (k : ℕ) (planned rest : List ClientBodies) (before now : List (List (List Outcome)))
    (client : List (List Outcome)) (parts : List ClientPart) → PartsSoFar k planned rest before now parts
    → k < length before → client ≡ get_or now k client → client ≡ get_or before k client
still_there k planned rest before now client parts so_far within at = at
    ∙ (ap (λ (l : List (List (List Outcome))). get_or l k client) so_far.others
    ∙ (get_behind (map others_of (take k before)) (drop k before) k client (long_so_far k before within)
    ∙ ap (λ (l : List (List (List Outcome))). get_or l 0 client) (drop_more before k client within)))

-- one client more
pub client_done : (k : ℕ) (planned rest later : List ClientBodies) (p : ClientBodies)
    (before now after : List (List (List Outcome))) (client left : List (List Outcome)) (outcomes : List Outcome)
    (lates : List (Option (List ℕ))) (parts more : List ClientPart) → PartsSoFar k planned rest before now parts
    → rest ≡ p ∷ later → k < length before → client ≡ get_or now k client → client ≡ outcomes ∷ left → lates ≡ []
    → more ≡ parts ++ record { planned = p; outcomes = outcomes; lates = lates } ∷ [] → after ≡ set now k left
    → PartsSoFar (k + 1) planned later before after more
client_done k planned rest later p before now after client left outcomes lates parts more so_far is within at taken none
    pushed put =
    let front = map others_of (take k before) in
    let behind = drop (k + 1) before in
    let part : ClientPart = record { planned = p; outcomes = outcomes; lates = [] } in
    let push : more ≡ parts ++ part ∷ [] = pushed
    ∙ ap (λ (l : List (Option (List ℕ))). parts ++ record { planned = p; outcomes = outcomes; lates = l } ∷ []) none in
    let long = long_so_far k before within in
    let here = still_there k planned rest before now client parts so_far within at in
    let begins : drop k before ≡ client ∷ behind =
    drop_more before k client within ∙ ap (λ (l : List (List Outcome)). l ∷ behind) (sym here) in
    let fronts : take (k + 1) before ≡ take k before ++ client ∷ [] =
    take_more before k client within ∙ ap (λ (l : List (List Outcome)). take k before ++ l ∷ []) (sym here) in
    let many = so_far.many in
    let one = ap (λ (l : List ClientBodies). length l) is in
    record {
      whole = ap (λ (l : List ClientPart). l ++ parts_with later (map next_of behind) []) push
          ∙ (append_assoc parts (part ∷ []) (parts_with later (map next_of behind) [])
          ∙ (ap (λ (l : List (List Outcome)). parts ++ parts_with (p ∷ later) (next_of l ∷ map next_of behind) []) (sym
          taken)
          ∙ (ap (λ (l : List (List (List Outcome))). parts ++ parts_with (p ∷ later) (map next_of l) []) (sym begins)
          ∙ (ap (λ (l : List ClientBodies). parts ++ parts_with l (map next_of (drop k before)) []) (sym is)
          ∙ so_far.whole))));
      others = put
          ∙ (ap (λ (l : List (List (List Outcome))). set l k left)
          (so_far.others ∙ ap (λ (l : List (List (List Outcome))). front ++ l) begins)
          ∙ (set_at front client behind left k long
          ∙ (ap (λ (l : List (List Outcome)). front ++ others_of l ∷ behind) (sym taken)
          ∙ (sym (append_assoc front (others_of client ∷ []) behind)
          ∙ ap (λ (l : List (List (List Outcome))). l ++ behind)
          (sym (map-append others_of (take k before) (client ∷ []))
          ∙ ap (map others_of) (sym fronts))))));
      many = omega (arith, many, one);
    }

-- a client has outcomes on the next lane, if each has
next_at : (k : ℕ) (clients : List (List (List Outcome))) (client : List (List Outcome)) → k < length clients
    → client ≡ get_or clients k client → AllByRecursion HasNext clients → HasNext client
next_at k [] client within is all = absurd (omega (arith, within))
next_at zero (c ∷ clients) client within is all = subst HasNext (sym is) all.0
next_at (suc k) (c ∷ clients) client within is all = next_at k clients client (omega (arith, within)) is all.1

pub client_has_next : (k : ℕ) (planned rest : List ClientBodies) (before now : List (List (List Outcome)))
    (client : List (List Outcome)) (parts : List ClientPart) → PartsSoFar k planned rest before now parts
    → k < length before → client ≡ get_or now k client → AllByRecursion HasNext before → HasNext client
client_has_next k planned rest before now client parts so_far within at all =
    next_at k before client within (still_there k planned rest before now client parts so_far within at) all

-- ---- all boards

-- what is left of a client's outcomes is of so many boards
abbrev pub HasLeft : ℕ → List (List Outcome) → Type 0
HasLeft many lanes = length lanes ≡ many

-- the boards so far, and those that are left
pub record BoardsSoFar (boards rest : List (List ClientBodies)) (lanes now : List (List (List Outcome)))
    (parts : List (List ClientPart)) : Type 0 where
  pub whole : parts ++ parts_by rest now ≡ parts_by boards lanes
  pub left : AllByRecursion (HasLeft (length rest)) now
  pub clients' : AllByRecursion (HasClients (length now)) rest

lanes_left : (many : ℕ) (results : List ClientResult) → AllByRecursion (HasLanes many) results
    → AllByRecursion (HasLeft many) (map (λ (r : ClientResult). r.lanes) results)
lanes_left many [] all = tt
lanes_left many (r ∷ results) all = (all.0, lanes_left many results all.1)

pub none_done : (boards : List (List ClientBodies)) (results : List ClientResult) (now : List (List (List Outcome)))
    → now ≡ map (λ (r : ClientResult). r.lanes) results → AllByRecursion (HasLanes (length boards)) results
    → AllByRecursion (HasClients (length results)) boards
    → BoardsSoFar boards boards (map (λ (r : ClientResult). r.lanes) results) now []
none_done boards results now is lanes clients = record {
  whole = ap (parts_by boards) is;
  left = subst (AllByRecursion (HasLeft (length boards))) (sym is) (lanes_left (length boards) results lanes);
  clients' = subst (λ (n : ℕ). AllByRecursion (HasClients n) boards)
      (sym (ap (λ (l : List (List (List Outcome))). length l) is
      ∙ length-map results (λ (r : ClientResult). r.lanes))) clients;
}

some_next : (many : ℕ) (clients : List (List (List Outcome))) → 0 < many → AllByRecursion (HasLeft many) clients
    → AllByRecursion HasNext clients
some_next many [] some all = tt
some_next many (c ∷ clients) some all = (omega (arith, some, all.0), some_next many clients some all.1)

one_less : (many : ℕ) (clients : List (List (List Outcome))) → AllByRecursion (HasLeft (suc many)) clients
    → AllByRecursion (HasLeft many) (map others_of clients)
one_less many [] all = tt
one_less many ([] ∷ clients) all = absurd (omega (arith, all.0))
one_less many ((o ∷ others) ∷ clients) all = (omega (arith, all.0), one_less many clients all.1)

pub all_have_next : (boards rest later : List (List ClientBodies)) (planned : List ClientBodies)
    (lanes now : List (List (List Outcome))) (parts : List (List ClientPart)) → BoardsSoFar boards rest lanes now parts
    → rest ≡ planned ∷ later → AllByRecursion HasNext now
all_have_next boards rest later planned lanes now parts so_far is =
    let one = ap (λ (l : List (List ClientBodies)). length l) is in
    some_next (length rest) now (omega (arith, one)) so_far.left

pub has_clients : (boards rest later : List (List ClientBodies)) (planned : List ClientBodies)
    (lanes now : List (List (List Outcome))) (parts : List (List ClientPart)) → BoardsSoFar boards rest lanes now parts
    → rest ≡ planned ∷ later → HasClients (length now) planned
has_clients boards rest later planned lanes now parts so_far is =
    (subst (AllByRecursion (HasClients (length now))) is so_far.clients').0

-- one board more
pub board_done : (boards rest later : List (List ClientBodies)) (planned : List ClientBodies)
    (lanes now after : List (List (List Outcome))) (parts more : List (List ClientPart)) (made : List ClientPart)
    → BoardsSoFar boards rest lanes now parts → rest ≡ planned ∷ later → made ≡ parts_with planned (map next_of now) []
    → more ≡ parts ++ made ∷ [] → after ≡ map others_of now → BoardsSoFar boards later lanes after more
board_done boards rest later planned lanes now after parts more made so_far is makes push others =
    let here = subst (λ (l : List (List ClientBodies)). BoardsSoFar boards l lanes now parts) is so_far in
    let rests = parts_by later (map others_of now) in
    record {
      whole = ap (λ (l : List (List (List Outcome))). more ++ parts_by later l) others
          ∙ (ap (λ (l : List (List ClientPart)). l ++ rests) push
          ∙ (append_assoc parts (made ∷ []) rests
          ∙ (ap (λ (l : List ClientPart). parts ++ l ∷ rests) makes ∙ here.whole)));
      left = subst (AllByRecursion (HasLeft (length later))) (sym others) (one_less (length later) now here.left);
      clients' = subst (λ (n : ℕ). AllByRecursion (HasClients n) later)
          (sym (ap (λ (l : List (List (List Outcome))). length l) others ∙ length-map now others_of)) here.clients'.1;
    }

pub all_done : (boards rest : List (List ClientBodies)) (results : List ClientResult)
    (now : List (List (List Outcome))) (parts : List (List ClientPart))
    → BoardsSoFar boards rest (map (λ (r : ClientResult). r.lanes) results) now parts → length rest ≡ 0
    → parts ≡ parts_from 0 boards results
all_done boards rest results now parts so_far over =
    let none = nil_from_length rest over in
    let here = subst (λ (l : List (List ClientBodies)). BoardsSoFar boards l (map (λ (r : ClientResult). r.lanes)
    results)
    now parts) none so_far in
    sym (append-nil parts) ∙ (here.whole ∙ (ap (parts_by boards) (all_left results) ∙ parts_by_lane 0 boards results))

-- a slice of all clients that was written is written back whole
pub written_back : (n : ℕ) (old new : List (List (List Outcome))) → n ≡ length old → new ≡ map others_of old
    → take n (new ++ drop (length new) old) ≡ map others_of old
written_back n old new is made =
    let same : length new ≡ length old =
    ap (λ (l : List (List (List Outcome))). length l) made ∙ length-map old others_of in
    ap (λ (l : List (List (List Outcome))). take n (new ++ l)) (drop_all (length new) old (omega (arith, same)))
    ∙ (ap (take n) (append-nil new) ∙ (take_all n new (omega (arith, same, is)) ∙ made))

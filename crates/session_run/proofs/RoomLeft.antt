-- A lane has room for all that the clients of a session ask.
use Rattle.std.proofs.Common.{◌≡◌, inl, inr, ℕ, ◌+◌, ◌*◌, ◌≤◌, ◌<◌, List, [], ◌∷◌, ◌++◌, length, sum_by, Some, None}
use Rattle.std.proofs.Common.{refl, sym, ap, ◌∙◌, arith, take, drop, get_or, length-append, append_assoc}
use Rattle.std.specs.List.{AllByRecursion}
use Rattle.std.proofs.lemmas.List.{drop_more, take-append-drop}
use Rattle.std.proofs.lemmas.List.Sums.{sum_by-append, sum_by-cons}
use Rattle.ipb_base.specs.Numbers.{payload_of}
use Rattle.world_model.specs.Hub.{Hub}
use Rattle.world_model.specs.Settings.{Limits}
use Rattle.hub_lane.specs.Lanes.{BoardStatus, KnowsBoard}
use Rattle.transaction_codec.specs.Answer.{reply_room}
use Rattle.transaction_codec.specs.Request.{op_count}
use Rattle.mtu_packer.specs.Packed.{words_with_answer}
use Rattle.lane_record.specs.declared.item.Item.{Item}
use Rattle.lane_record.specs.Items.{plan_in}
use Rattle.lane_tables.specs.Planned.{IsFull, one_with, planned_bodies, planned_words, words_with}
use Rattle.script_steps.specs.Executable.{AreExecutable}
use Rattle.script_steps.specs.Packing.{AreWithinLimits, all_operations}
use Rattle.script_steps.specs.declared.operation.Step.{Step}
use Rattle.script_plans.specs.declared.greeting.Greeting.{Greeting}
use Rattle.script_plans.specs.declared.greeting.Greeting.TheVariants.{Live}
use Rattle.script_plans.specs.Plan.{ClientBodies, all_bodies, planned_on, plans_on}
use Rattle.lane_record.specs.Dispatches.{all_plans_from, plans_from}
use Rattle.session_run.specs.Clients.{bodies_of_plans}
use Rattle.session_run.specs.Room.{HasRoomFor}

-- ---- what is planned already

bodies_append : (xs ys : List Item) → planned_bodies (xs ++ ys) ≡ planned_bodies xs + planned_bodies ys
bodies_append [] ys = omega arith
bodies_append (x ∷ xs) ys =
    let rest = bodies_append xs ys in
    elim (plan_in x.what)
    as (λ o. one_with o (planned_bodies (xs ++ ys)) ≡ one_with o (planned_bodies xs) + planned_bodies ys) [
      | None ↦ rest
      | Some body ↦ omega (arith, rest)
    ]

words_append : (xs ys : List Item) → planned_words (xs ++ ys) ≡ planned_words xs + planned_words ys
words_append [] ys = omega arith
words_append (x ∷ xs) ys =
    let rest = words_append xs ys in
    elim (plan_in x.what)
    as (λ o. words_with o (planned_words (xs ++ ys)) ≡ words_with o (planned_words xs) + planned_words ys) [
      | None ↦ rest
      | Some body ↦ omega (arith, rest)
    ]

bodies_planned : (client seq : ℕ) (bodies : List (List ℕ))
    → planned_bodies (plans_from client seq bodies) ≡ length bodies
bodies_planned client seq [] = refl
bodies_planned client seq (b ∷ bs) = let rest = bodies_planned client (seq + 1) bs in omega (arith, rest)

words_planned : (client seq : ℕ) (bodies : List (List ℕ))
    → planned_words (plans_from client seq bodies) ≡ sum_by words_with_answer bodies
words_planned client seq [] = refl
words_planned client seq (b ∷ bs) =
    let rest = words_planned client (seq + 1) bs in
    omega (arith, rest, sum_by-cons words_with_answer b bs)

all_bodies_planned : (from : ℕ) (plans : List ClientBodies)
    → planned_bodies (all_plans_from from (bodies_of_plans plans)) ≡ length (all_bodies plans)
all_bodies_planned from [] = refl
all_bodies_planned from (p ∷ plans) =
    omega (
      arith,
      all_bodies_planned (from + 1) plans,
      bodies_planned from 0 p.bodies,
      bodies_append (plans_from from 0 p.bodies) (all_plans_from (from + 1) (bodies_of_plans plans)),
      length-append p.bodies (all_bodies plans),
    )

all_words_planned : (from : ℕ) (plans : List ClientBodies)
    → planned_words (all_plans_from from (bodies_of_plans plans)) ≡ sum_by words_with_answer (all_bodies plans)
all_words_planned from [] = refl
all_words_planned from (p ∷ plans) =
    omega (
      arith,
      all_words_planned (from + 1) plans,
      words_planned from 0 p.bodies,
      words_append (plans_from from 0 p.bodies) (all_plans_from (from + 1) (bodies_of_plans plans)),
      sum_by-append words_with_answer p.bodies (all_bodies plans),
    )

-- ---- one body

pub not_full : (items : List Item) (body : List ℕ) → HasRoomFor items (body ∷ [])
    → IsFull items (length body) (reply_room body) → ⊥
not_full items body room (inl many) = let few = room.few in absurd (omega (arith, few, many))
not_full items body room (inr long) =
    let short = room.short in
    absurd (omega (arith, short, long, sum_by-cons words_with_answer body []))

-- ---- the bodies of a client

pub room_for_next : (items : List Item) (client i : ℕ) (bodies : List (List ℕ)) (body : List ℕ)
    → HasRoomFor items bodies → i < length bodies → body ≡ get_or bodies i body
    → HasRoomFor (items ++ plans_from client 0 (take i bodies)) (body ∷ [])
room_for_next items client i bodies body room within is =
    let front = take i bodies in
    let back = drop (i + 1) bodies in
    let split : bodies ≡ front ++ body ∷ back = sym (take-append-drop i bodies)
    ∙ ap (λ (l : List (List ℕ)). front ++ l) (drop_more bodies i body within
    ∙ ap (λ (b : List ℕ). b ∷ back) (sym is)) in
    let few = room.few in
    let short = room.short in
    record {
      few = omega (
        arith,
        few,
        ap length split,
        length-append front (body ∷ back),
        bodies_append items (plans_from client 0 front),
        bodies_planned client 0 front,
      );
      short = omega (
        arith,
        short,
        ap (sum_by words_with_answer) split,
        sum_by-append words_with_answer front (body ∷ back),
        sum_by-cons words_with_answer body back,
        sum_by-cons words_with_answer body [],
        words_append items (plans_from client 0 front),
        words_planned client 0 front,
      );
    }

-- ---- client by client

-- what a board told is within the limits of packets
pub payload_within : {settings : Limits} {status : BoardStatus} {hub : Hub} (payload : ℕ)
    → KnowsBoard settings status hub → payload ≡ payload_of status.mtu → (16 ≤ payload) × (payload ≤ 2243)
payload_within payload knows is =
    let mtu = knows.mtu in (omega (arith, is, mtu.0), omega (arith, is, mtu.1))

-- what transcript promises of the bodies on one board
abbrev pub FewBodies : Type 0
FewBodies = (payload board : ℕ) (scripts : List (List Step)) → 16 ≤ payload → payload ≤ 2243
    → AllByRecursion AreExecutable scripts → 13 * length (all_bodies (plans_on board (Live payload) scripts))
    ≤ sum_by op_count (all_operations scripts) + 12 * length (all_operations scripts)

abbrev pub ShortBodies : Type 0
ShortBodies = (payload board : ℕ) (scripts : List (List Step)) → 16 ≤ payload → payload ≤ 2243
    → AllByRecursion AreExecutable scripts
    → sum_by words_with_answer (all_bodies (plans_on board (Live payload) scripts))
    ≤ 6 * sum_by op_count (all_operations scripts)

bodies_on_append : (board : ℕ) (told : Greeting) (xs ys : List (List Step))
    → all_bodies (plans_on board told (xs ++ ys))
    ≡ all_bodies (plans_on board told xs) ++ all_bodies (plans_on board told ys)
bodies_on_append board told [] ys = refl
bodies_on_append board told (x ∷ xs) ys =
    ap (λ (l : List (List ℕ)). (planned_on board told x).bodies ++ l) (bodies_on_append board told xs ys)
    ∙ sym (append_assoc (planned_on board told x).bodies (all_bodies (plans_on board told xs))
    (all_bodies (plans_on board told ys)))

pub room_for_client : FewBodies → ShortBodies → (payload board k : ℕ) (scripts : List (List Step)) (steps : List Step)
    (items : List Item) (plans : List ClientBodies) → 16 ≤ payload → payload ≤ 2243
    → AllByRecursion AreExecutable scripts → AreWithinLimits scripts → k < length scripts
    → steps ≡ get_or scripts k steps → plans ≡ plans_on board (Live payload) (take k scripts)
    → items ≡ all_plans_from 1 (bodies_of_plans plans) → HasRoomFor items (planned_on board (Live payload) steps).bodies
room_for_client few_law short_law payload board k scripts steps items plans low high can limits within is so_far are =
    let told = Live payload in
    let front = all_bodies (plans_on board told (take k scripts)) in
    let here = (planned_on board told steps).bodies in
    let back = all_bodies (plans_on board told (drop (k + 1) scripts)) in
    let cut : scripts ≡ take k scripts ++ steps ∷ drop (k + 1) scripts = sym (take-append-drop k scripts)
    ∙ ap (λ (l : List (List Step)). take k scripts ++ l) (drop_more scripts k steps within
    ∙ ap (λ (s : List Step). s ∷ drop (k + 1) scripts) (sym is)) in
    let split : all_bodies (plans_on board told scripts) ≡ front ++ (here ++ back) =
    ap (λ (l : List (List Step)). all_bodies (plans_on board told l)) cut
    ∙ bodies_on_append board told (take k scripts) (steps ∷ drop (k + 1) scripts) in
    let made : all_bodies plans ≡ front = ap all_bodies so_far in
    let many = few_law payload board scripts low high can in
    let long = short_law payload board scripts low high can in
    let limit = limits.operations' in
    let words = limits.words' in
    record {
      few = omega (
        arith,
        many,
        limit,
        words,
        ap length split,
        length-append front (here ++ back),
        length-append here back,
        ap planned_bodies are,
        all_bodies_planned 1 plans,
        ap length made,
      );
      short = omega (
        arith,
        long,
        words,
        ap (sum_by words_with_answer) split,
        sum_by-append words_with_answer front (here ++ back),
        sum_by-append words_with_answer here back,
        ap planned_words are,
        all_words_planned 1 plans,
        ap (sum_by words_with_answer) made,
      );
    }

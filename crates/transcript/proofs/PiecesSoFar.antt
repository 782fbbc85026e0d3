-- What a piece of an operation came to, what the pieces came to so far, and those that are left.
use Rattle.std.proofs.Common.{◌≡◌, ℕ, ◌+◌, ◌<◌, ◌≤◌, Bool, true, false, cond, List, [], ◌∷◌, ◌++◌, length, drop, get_or}
use Rattle.std.proofs.Common.{map, Option, Some, None, unwrap_or, refl, sym, ap, ◌∙◌, append-nil}
use Rattle.std.specs.List.{flat_map, slice_get}
use Rattle.reply_join.specs.declared.answer.Answer.{Answer}
use Rattle.std.proofs.lemmas.List.{append_assoc, drop_all, drop_more}
use Rattle.std.proofs.lemmas.Option.{slice_get_read}
use Rattle.script_steps.specs.declared.operation.Verb.{Verb}
use Rattle.script_plans.specs.declared.planned.PieceAt.{PieceAt}
use Rattle.transcript.specs.declared.body_end.BodyEnd.{BodyEnd}
use Rattle.transcript.specs.declared.body_end.Told.{Told}
use Rattle.transcript.specs.declared.line.OpResult.{OpResult}
use Rattle.std.specs.Option.{option_map}
use Rattle.transcript.specs.Ends.{piece_result, result_in, told_at}
use Rattle.transcript.specs.Results.{combined_result, first_not_done, is_good, shown_result, shown_not_done, values_in}
use Rattle.transcript.specs.Steps.{not_done_in}

no_fault : (good : Bool) (f : OpResult → OpResult) (r : OpResult) (rest : Option OpResult)
    → option_map f (cond good None (Some r)) ≡ None → cond good rest (Some r) ≡ rest
no_fault true f r rest none = refl
no_fault false f r rest none = absurd cc

a_fault : (good : Bool) (f : OpResult → OpResult) (r fault : OpResult) (rest : Option OpResult)
    → option_map f (cond good None (Some r)) ≡ Some fault → option_map f (cond good rest (Some r)) ≡ Some fault
a_fault true f r fault rest is = absurd cc
a_fault false f r fault rest is = is

-- the piece at a place is the first of those that are left
left_at : (ends : List BodyEnd) (pieces : List PieceAt) (i : ℕ) (d : PieceAt) → i < length pieces
    → map (piece_result ends) (drop i pieces)
    ≡ piece_result ends (get_or pieces i d) ∷ map (piece_result ends) (drop (i + 1) pieces)
left_at ends pieces i d within = ap (map (piece_result ends)) (drop_more pieces i d within)

-- its words are the next ones
pub words_on : (ends : List BodyEnd) (pieces : List PieceAt) (i : ℕ) (d : PieceAt) (words more : List ℕ)
    → i < length pieces → more ≡ words ++ values_in (piece_result ends (get_or pieces i d))
    → more ++ flat_map values_in (map (piece_result ends) (drop (i + 1) pieces))
    ≡ words ++ flat_map values_in (map (piece_result ends) (drop i pieces))
words_on ends pieces i d words more within grown =
    let rest = flat_map values_in (map (piece_result ends) (drop (i + 1) pieces)) in
    ap (λ (ws : List ℕ). ws ++ rest) grown
    ∙ (append_assoc words (values_in (piece_result ends (get_or pieces i d))) rest
    ∙ ap (λ (rs : List OpResult). words ++ flat_map values_in rs) (sym (left_at ends pieces i d within)))

-- it was done in time, so the first that was not is one behind it
pub fault_on : (verb : Verb) (mask : ℕ) (ends : List BodyEnd) (pieces : List PieceAt) (i : ℕ) (d : PieceAt)
    → i < length pieces
    → option_map (shown_not_done verb mask) (not_done_in (piece_result ends (get_or pieces i d))) ≡ None
    → first_not_done (map (piece_result ends) (drop (i + 1) pieces))
    ≡ first_not_done (map (piece_result ends) (drop i pieces))
fault_on verb mask ends pieces i d within none =
    let r = piece_result ends (get_or pieces i d) in
    sym (ap first_not_done (left_at ends pieces i d within)
    ∙ no_fault (is_good r) (shown_not_done verb mask) r
    (first_not_done (map (piece_result ends) (drop (i + 1) pieces))) none)

-- it was not, so it is the first that was not, and this is shown of it
pub fault_here : (verb : Verb) (mask : ℕ) (ends : List BodyEnd) (pieces : List PieceAt) (i : ℕ) (d : PieceAt)
    (fault : OpResult) → i < length pieces
    → option_map (shown_not_done verb mask) (not_done_in (piece_result ends (get_or pieces i d))) ≡ Some fault
    → option_map (shown_not_done verb mask) (first_not_done (map (piece_result ends) (drop i pieces))) ≡ Some fault
fault_here verb mask ends pieces i d fault within failed =
    let r = piece_result ends (get_or pieces i d) in
    ap (λ (rs : List OpResult). option_map (shown_not_done verb mask) (first_not_done rs))
    (left_at ends pieces i d within)
    ∙ a_fault (is_good r) (shown_not_done verb mask) r fault
    (first_not_done (map (piece_result ends) (drop (i + 1) pieces))) failed

-- what they came to together
pub came_to_fault : (verb : Verb) (mask : ℕ) (results : List OpResult) (fault : OpResult)
    → option_map (shown_not_done verb mask) (first_not_done results) ≡ Some fault → fault ≡ combined_result verb mask results
came_to_fault verb mask results fault is =
    sym (ap (λ (first : Option OpResult). unwrap_or first (shown_result verb mask (flat_map values_in results))) is)

pub came_to_words : (verb : Verb) (mask : ℕ) (ends : List BodyEnd) (pieces : List PieceAt) (i : ℕ) (words : List ℕ)
    → length pieces ≤ i
    → words ++ flat_map values_in (map (piece_result ends) (drop i pieces))
    ≡ flat_map values_in (map (piece_result ends) pieces)
    → first_not_done (map (piece_result ends) (drop i pieces)) ≡ first_not_done (map (piece_result ends) pieces)
    → shown_result verb mask words ≡ combined_result verb mask (map (piece_result ends) pieces)
came_to_words verb mask ends pieces i words past all none =
    let results = map (piece_result ends) pieces in
    let words_are : words ≡ flat_map values_in results = sym (append-nil words)
    ∙ (ap (λ (ps : List PieceAt). words ++ flat_map values_in (map (piece_result ends) ps))
    (sym (drop_all i pieces past)) ∙ all) in
    let faultless : first_not_done results ≡ None = sym none
    ∙ ap (λ (ps : List PieceAt). first_not_done (map (piece_result ends) ps)) (drop_all i pieces past) in
    ap (shown_result verb mask) words_are
    ∙ sym (ap (λ (first : Option OpResult). unwrap_or (option_map (shown_not_done verb mask) first)
    (shown_result verb mask (flat_map values_in results))) faultless)

-- ---- of one piece

-- the answer at a place
pub answer_at : (answers : List Answer) (index : ℕ) (x is : Answer) → index < length answers
    → x ≡ get_or answers index x → x ≡ is → slice_get answers index ≡ Some is
answer_at answers index x is within at same =
    slice_get_read answers (length answers) index x refl within at ∙ ap (λ (a : Answer). Some a) same

-- what is told where a body ended so
pub end_at : (ends : List BodyEnd) (body index : ℕ) (end : BodyEnd) (told : Told) → body < length ends
    → end ≡ get_or ends body end → end.told ≡ told → result_in (slice_get ends body) index ≡ told_at told index
end_at ends body index end told within at same =
    ap (λ (r : Option BodyEnd). result_in r index) (slice_get_read ends (length ends) body end refl within at)
    ∙ ap (λ (t : Told). told_at t index) same

-- what an operation shows of a failed piece then
pub fault_at : (verb : Verb) (mask : ℕ) (ends : List BodyEnd) (body index : ℕ) (end : BodyEnd) (told : Told)
    → body < length ends → end ≡ get_or ends body end → end.told ≡ told
    → option_map (shown_not_done verb mask) (not_done_in (result_in (slice_get ends body) index))
    ≡ option_map (shown_not_done verb mask) (not_done_in (told_at told index))
fault_at verb mask ends body index end told within at same =
    ap (λ (r : OpResult). option_map (shown_not_done verb mask) (not_done_in r))
    (end_at ends body index end told within at same)

-- no words are added where a piece has none
pub no_words : (words : List ℕ) (r is : OpResult) → r ≡ is → values_in is ≡ [] → words ≡ words ++ values_in r
no_words words r is same none =
    sym (append-nil words) ∙ ap (λ (ws : List ℕ). words ++ ws) (sym (ap values_in same ∙ none))

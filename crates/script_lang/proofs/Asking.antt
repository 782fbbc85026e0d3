-- A line that asks for an operation has the numbers that the operation takes.
use Rattle.std.proofs.Common.{◌≡◌, ℕ, Bool, true, false, if◌then◌else◌, List, [], ◌∷◌, Option, Some, None, codes, refl}
use Rattle.std.proofs.Common.{sym, subst}
use Rattle.std.specs.Str.{bytes_eq}
use Rattle.ipb_base.specs.Word.{AreWords}
use Rattle.script_lang.specs.declared.call.Call.{Call}
use Rattle.script_lang.specs.declared.call.Command.{Command}
use Rattle.script_lang.specs.declared.call.Command.TheVariants.{Nothing, Dispatch, Ask}
use Rattle.script_steps.specs.declared.operation.Verb.{Verb}
use Rattle.script_lang.specs.Lines.{takes, call_of, command_of, dispatch_of, numbers_of, is_comment, verb_named}
use Rattle.script_lang.specs.Texts.{◌>>=◌, cut_at}
use Rattle.script_lang.proofs.SmallNumbers.{AreSmall, all_small}

abbrev pub AsksWell : Option Command → Type 0
AsksWell None = Unit {0}
AsksWell (Some Nothing) = Unit {0}
AsksWell (Some Dispatch) = Unit {0}
AsksWell (Some (Ask call)) = (takes call.verb call.numbers ≡ true) × AreWords call.numbers

by_takes : (verb : Verb) (board name numbers : List ℕ) (b : Bool) → AreWords numbers → takes verb numbers ≡ b
    → AsksWell (if b then Some (Ask (record { verb = verb; board = board; name = name; numbers = numbers })) else None)
by_takes verb board name numbers true are is = (is, are)
by_takes verb board name numbers false are is = tt

by_numbers : (verb : Verb) (board name : List ℕ) (found : Option (List ℕ)) → AreSmall found
    → AsksWell (found >>= λ numbers. if takes verb numbers then Some
    (Ask (record { verb = verb; board = board; name = name; numbers = numbers })) else None)
by_numbers verb board name None are = tt
by_numbers verb board name (Some numbers) are = by_takes verb board name numbers (takes verb numbers) are refl

by_names : (verb : Verb) (words : List (List ℕ)) (found : Option (List ℕ × List ℕ))
    → AsksWell (found >>= λ names. numbers_of words >>= λ numbers.
    if takes verb numbers then Some
    (Ask (record { verb = verb; board = names.0; name = names.1; numbers = numbers })) else None)
by_names verb words None = tt
by_names verb words (Some names) = by_numbers verb names.0 names.1 (numbers_of words) (all_small words)

call_asks : (verb : Verb) (words : List (List ℕ)) → AsksWell (call_of verb words)
call_asks verb [] = tt
call_asks verb (place ∷ words) = by_names verb words (cut_at 58 place)

dispatch_asks : (words : List (List ℕ)) → AsksWell (dispatch_of words)
dispatch_asks [] = tt
dispatch_asks (word ∷ words) = tt

by_verb : (words : List (List ℕ)) (found : Option Verb) → AsksWell (found >>= λ verb. call_of verb words)
by_verb words None = tt
by_verb words (Some verb) = call_asks verb words

by_word : (b : Bool) (one other : Option Command) → AsksWell one → AsksWell other → AsksWell (if b then one else other)
by_word true one other first second = first
by_word false one other first second = second

pub command_asks : (words : List (List ℕ)) → AsksWell (command_of words)
command_asks [] = tt
command_asks (word ∷ words) =
    by_word (is_comment word) (Some Nothing)
    (if bytes_eq word (codes "dispatch") then dispatch_of words else
    (verb_named word >>= λ verb. call_of verb words)) tt
    (by_word (bytes_eq word (codes "dispatch")) (dispatch_of words) (verb_named word >>= λ verb. call_of verb words)
    (dispatch_asks words) (by_verb words (verb_named word)))

pub takes_asked : (words : List (List ℕ)) (call : Call) → Some (Ask call) ≡ command_of words
    → takes call.verb call.numbers ≡ true
takes_asked words call is = (subst AsksWell (sym is) (command_asks words)).0

pub numbers_asked : (words : List (List ℕ)) (call : Call) → Some (Ask call) ≡ command_of words → AreWords call.numbers
numbers_asked words call is = (subst AsksWell (sym is) (command_asks words)).1

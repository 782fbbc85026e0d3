-- How a call ends, put together from what its command answered and what was written of it.
use Rattle.std.proofs.Common.{◌≡◌, ◌⊎◌, inl, inr, ℕ, List, [], Option, Result, Ok, Err, String, Global}
use Rattle.std.proofs.Common.{refl, sym, ap, ◌∙◌, append-nil, subst, arith, ◌==◌, if◌then◌else◌}
use Rattle.std.proofs.KnownBytes.{prepend_known-nil}
use Rattle.board_specs.specs.declared.spec.LinkSpec.{LinkSpec}
use Rattle.ipb_outside.specs.Faults.{RisesExactlyIf}
use Rattle.ipb_outside.specs.Told.{AppendsPart, TakesAtMost}
use Rattle.command_words.specs.declared.command.Command.{Command}
use Rattle.command_words.specs.Commands.{usage_text}
use Rattle.command_terms.specs.declared.answer.Answer.{Answer}
use Rattle.command_terms.specs.Numbers.{door_fault_status, no_memory_status, rack_fault_status, read_fault_status}
use Rattle.command_terms.specs.Numbers.{usage_status, write_fault_status}
use Rattle.command_terms.specs.Outside.{GivenBack, no_pairs}
use Rattle.command_terms.specs.Terms.{AreTerms, most_bytes}
use Rattle.command_terms.proofs.Leaving.{same_Err}
use Rattle.session_serve.proofs.Standing.{none_served}
use Rattle.ipbus_program.specs.declared.no_answer.NoAnswer.{NoAnswer}
use Rattle.ipbus_program.specs.declared.no_answer.NoAnswer.TheVariants.{NoMemory, ReadFault, RackFault, DoorFault}
use Rattle.ipbus_program.specs.Commands.{terms_of}
use Rattle.ipbus_program.specs.Ended.{Ended, IsStatus, IsTextless}
use Rattle.ipbus_program.specs.Outputs.{Delivers}
use Rattle.ipbus_program.specs.Outside.{Outside}
use Rattle.ipbus_program.specs.Owed.{AreCommand, AreNoCommand, OwesText, OwesUsage, UsedFrom}
use Rattle.ipbus_program.specs.Owed.{UsedSome, Wrote, WroteOwed, WroteOwedPart}
use Rattle.ipbus_program.specs.Steps.{InputLeaves, status_of}
use Rattle.ipbus_program.proofs.Causes.{is_status, wrote_answer}
use Rattle.ipbus_program.proofs.Deserved.{one_command}
use Rattle.ipbus_program.proofs.OverLinks.{ran_by_words}

-- ---- statuses

pub textless_of : (why : NoAnswer) → IsTextless (status_of why)
textless_of ReadFault = inl refl
textless_of NoMemory = inr (inl refl)
textless_of RackFault = inr (inr (inl refl))
textless_of DoorFault = inr (inr (inr refl))

known_of : (why : NoAnswer) → IsStatus (status_of why)
known_of ReadFault = inr (inr (inr (inr (inl refl))))
known_of NoMemory = inr (inr (inr (inr (inr (inr (inl refl))))))
known_of RackFault = inr (inr (inr (inr (inr (inr (inr (inl refl)))))))
known_of DoorFault = inr (inr (inr (inr (inr (inr (inr (inr refl)))))))

-- no two reasons have one
why_of : ℕ → NoAnswer
why_of status =
    if status == read_fault_status then ReadFault
    else if status == rack_fault_status then RackFault
    else if status == door_fault_status then DoorFault
    else NoMemory

why_of_status : (why : NoAnswer) → why_of (status_of why) ≡ why
unfolding why_of
why_of_status ReadFault = refl
why_of_status RackFault = refl
why_of_status DoorFault = refl
why_of_status NoMemory = refl

pub one_reason : (why other : NoAnswer) → status_of why ≡ status_of other → why ≡ other
one_reason why other same = sym (why_of_status why) ∙ ap why_of same ∙ why_of_status other

-- ---- faults

-- a count that rises where one holds does where the other does that goes with it
pub rises_as : {P Q : Type 0} → (Q → P) → (P → Q) → {before now : ℕ} → RisesExactlyIf P before now
    → RisesExactlyIf Q before now
rises_as back forth rises = (λ q. rises.0 (back q), rises.1, λ other. rises.2 (λ p. other (forth p)))

-- so does that of a fault at its status
pub status_rises : {result : Result Answer NoAnswer} {why : NoAnswer} {status : ℕ} → result ≡ Err why
    → status ≡ status_of why → (fault : NoAnswer) → {before now : ℕ} → RisesExactlyIf (result ≡ Err fault) before now
    → RisesExactlyIf (status ≡ status_of fault) before now
status_rises {why = why} is told fault =
    rises_as (λ same. is ∙ ap Err (one_reason why fault (sym told ∙ same)))
    (λ same. told ∙ ap status_of (same_Err why fault (sym is ∙ same)))

abbrev pub outside : Option (List ℕ) → Option (List ℕ) → List LinkSpec → List LinkSpec → Option (List ℕ)
    → Option (List ℕ) → GivenBack → Outside
outside left left_now made made_now written written_now given = record {
  left = left;
  left_now = left_now;
  written = written;
  written_now = written_now;
  made = made;
  made_now = made_now;
  given_back = given;
}

-- ---- the words are no command

module _ (words : List (String Global)) (left : Option (List ℕ)) (made : List LinkSpec)
    (written written_now : Option (List ℕ)) where
  -- nothing was read and no link was made
  abbrev pub Untouched : ℕ → Type 0
  Untouched status = Ended words (outside left left made made written written_now (no_pairs [])) status

  none_taken : (command : Command) → TakesAtMost (most_bytes (terms_of command)) left left
  none_taken command = ([], omega arith, sym (prepend_known-nil left))

  unread_known : {status : ℕ}
      → (status ≡ usage_status) ⊎ ((status ≡ write_fault_status) ⊎ (status ≡ no_memory_status)) → IsStatus status
  unread_known (inl is) = inr (inr (inl is))
  unread_known (inr (inl is)) = inr (inr (inr (inr (inr (inl is)))))
  unread_known (inr (inr is)) = inr (inr (inr (inr (inr (inr (inl is))))))

  -- so a call ends by what it wrote
  unread_with : {status : ℕ}
      → (status ≡ usage_status) ⊎ ((status ≡ write_fault_status) ⊎ (status ≡ no_memory_status))
      → (status ≡ usage_status → WroteOwed (OwesUsage words left left) written written_now)
      → (status ≡ write_fault_status → WroteOwedPart (OwesText words left left (no_pairs [])) written written_now)
      → Untouched status
  unread_with is usage cut = record {
    known = unread_known is;
    specs = [];
    grown = sym (append-nil made);
    counted = refl;
    in_order = tt;
    used = inl refl;
    served = none_served;
    taken = λ command asked. none_taken command;
    done = λ done. absurd (omega (arith, is, done));
    over_any_link = λ done. tt;
    usage = usage;
    refused = λ told. absurd (omega (arith, is, told));
    reads = λ told. absurd (omega (arith, is, told));
    cut = cut;
    unreached = λ told. absurd (omega (arith, is, told));
    unserved = λ told. absurd (omega (arith, is, told));
  }

  usage_written : OwesUsage words left left usage_text → {handed : List ℕ} → handed ≡ usage_text → (met meets : ℕ)
      → {result : ℕ} → Delivers usage_status handed written written_now met meets result → Untouched result
  usage_written usage same met meets (inl (is, wrote)) =
      unread_with (inl is) (λ told. (usage_text, usage, subst (Wrote written written_now) same wrote))
      (λ told. absurd (omega (arith, is, told)))
  usage_written usage same met meets (inr (is, (rose, part))) =
      unread_with (inr (inl is)) (λ told. absurd (omega (arith, is, told)))
      (λ told. (usage_text, (usage_status, inr (inr (refl, usage))), subst (AppendsPart written written_now) same part))

  -- the usage line was handed to the output
  pub usage_ended : AreNoCommand words → {handed : List ℕ} → handed ≡ usage_text → (met meets : ℕ) → {result : ℕ}
      → Delivers usage_status handed written written_now met meets result → Untouched result
  usage_ended none = usage_written (record { words_are = none; unread = refl; usage = refl })

  -- memory ran out before the words were read
  pub unread_ended : Untouched no_memory_status
  unread_ended =
      unread_with (inr (inr refl)) (λ told. absurd (omega (arith, told))) (λ told. absurd (omega (arith, told)))

-- ---- the words are this command

module _ (words : List (String Global)) {command : Command} (laws : AreTerms (terms_of command))
    (are : AreCommand words command) (left left_now : Option (List ℕ)) (made made_now : List LinkSpec)
    (written written_now : Option (List ℕ)) (given : GivenBack) where
  some : {specs : List LinkSpec} → UsedFrom (terms_of command) left left_now specs given.links
      → UsedSome words left left_now specs given.links
  some used = (command, are, used)

  none_or_some : {specs : List LinkSpec}
      → (given.links ≡ []) ⊎ UsedFrom (terms_of command) left left_now specs given.links
      → (given.links ≡ []) ⊎ UsedSome words left left_now specs given.links
  none_or_some (inl none) = inl none
  none_or_some (inr used) = inr (some used)

  taken_by : TakesAtMost (most_bytes (terms_of command)) left left_now → (other : Command) → AreCommand words other
      → TakesAtMost (most_bytes (terms_of other)) left left_now
  taken_by took other asked =
      subst (λ c. TakesAtMost (most_bytes (terms_of c)) left left_now) (one_command are asked) took

  -- there is no answer
  pub failed : {result : Result Answer NoAnswer} (why : NoAnswer) → result ≡ Err why
      → InputLeaves (terms_of command) left left_now made made_now result given
      → Ended words (outside left left_now made made_now written written_now given) (status_of why)
  failed why is leaves =
      let textless = textless_of why in record {
        known = known_of why;
        specs = leaves.specs;
        grown = leaves.grown;
        counted = leaves.counted;
        in_order = leaves.in_order;
        used = none_or_some leaves.used;
        served = leaves.back;
        taken = taken_by leaves.taken;
        done = λ done. absurd (omega (arith, done, textless));
        over_any_link = λ done. absurd (omega (arith, done, textless));
        usage = λ told. absurd (omega (arith, told, textless));
        refused = λ told. absurd (omega (arith, told, textless));
        reads = λ told. (command, are, leaves.reads (is ∙ ap Err (one_reason why ReadFault told)));
        cut = λ told. absurd (omega (arith, told, textless));
        unreached = λ told.
            let rack = is ∙ ap Err (one_reason why RackFault told) in
            (some (leaves.behind RackFault rack tt), leaves.untouched rack);
        unserved = λ told.
            let door = is ∙ ap Err (one_reason why DoorFault told) in
            (command, are, leaves.serves door, leaves.behind DoorFault door tt);
      }

  -- there is one, and it was handed to the output
  pub delivered : {answer : Answer} {handed : List ℕ} → handed ≡ answer.text.items → (met meets : ℕ) → {result : ℕ}
      → Delivers answer.status handed written written_now met meets result
      → InputLeaves (terms_of command) left left_now made made_now (Ok answer) given
      → Ended words (outside left left_now made made_now written written_now given) result
  delivered {answer} {handed} same met meets {result} delivers leaves =
      let wrote = wrote_answer words command laws are left left_now given answer.status answer.text.items handed same
      written written_now met meets result leaves.owed delivers in
      let found = wrote.has_text in record {
        known = is_status found;
        specs = leaves.specs;
        grown = leaves.grown;
        counted = leaves.counted;
        in_order = leaves.in_order;
        used = none_or_some leaves.used;
        served = leaves.back;
        taken = taken_by leaves.taken;
        done = wrote.done;
        over_any_link = λ told.
            ran_by_words left left_now leaves.specs given words command are leaves.used result written written_now
            (wrote.done told);
        usage = λ told. absurd (omega (arith, found, told));
        refused = wrote.refused;
        reads = λ told. absurd (omega (arith, found, told));
        cut = wrote.cut;
        unreached = λ told. absurd (omega (arith, found, told));
        unserved = λ told. absurd (omega (arith, found, told));
      }

-- An input that tells its bytes is answered as they deserve.
use Rattle.std.proofs.Common.{◌≡◌, ℕ, ◌+◌, ◌<◌, ◌≤◌, ◌⊎◌, inl, inr, ⊎_elim, List, ◌++◌, length, Option, Some, None, sym}
use Rattle.std.proofs.Common.{Bool, true, false, Result, Err}
use Rattle.std.proofs.Common.{refl, ap, subst, ◌∙◌}
use Rattle.std.proofs.Common.{arith, length-append, append-nil}
use Rattle.std.specs.Io.KnownBytes.{prepend_known, append_known, IsAtEnd}
use Rattle.std.proofs.lemmas.Option.{none-some, same_Some}
use Rattle.ipb_base.specs.Faults.{Rose}
use Rattle.ipb_outside.specs.Told.{TakesCount}
use Rattle.board_specs.specs.declared.spec.LinkSpec.{LinkSpec}
use Rattle.board_history.specs.Links.{LinkReport}
use Rattle.command_words.specs.declared.command.Command.{Command}
use Rattle.ipb_outside.specs.Faults.{RisesExactlyIf}
use Rattle.command_terms.specs.Numbers.{no_memory_status, refused_status}
use Rattle.command_terms.specs.Outside.{GivenBack}
use Rattle.command_terms.specs.Terms.{AreTerms, Reads, Terms, most_bytes}
use Rattle.ipbus_program.specs.declared.no_answer.NoAnswer.{NoAnswer}
use Rattle.ipbus_program.specs.declared.no_answer.NoAnswer.TheVariants.{DoorFault, NoMemory, RackFault, ReadFault}
use Rattle.ipbus_program.specs.Commands.{terms_of}
use Rattle.ipbus_program.specs.Ended.{IsCalm, IsWhole}
use Rattle.ipbus_program.specs.Owed.{AnswersInput, HasInput, IsReadBy, IsRefused, UsedFrom, Wrote}
use Rattle.ipbus_program.specs.Steps.{InputLeaves, status_of}
use Rattle.command_terms.specs.declared.answer.Answer.{Answer}
use Rattle.ipbus_program.proofs.Causes.{done_small, most_is, small_is}

-- words are one command
pub one_command : {found : Option Command} {command other : Command} → found ≡ Some command → found ≡ Some other
    → command ≡ other
one_command {command = command} {other = other} is asked = same_Some command other (sym is ∙ asked)

-- so what it left is what any left that they are
pub left_by : {found : Option Command} {command other : Command} → found ≡ Some command → found ≡ Some other
    → {before now : Option (List ℕ)} {made makes : List LinkSpec} {result : Result Answer NoAnswer} {given : GivenBack}
    → InputLeaves (terms_of command) before now made makes result given
    → InputLeaves (terms_of other) before now made makes result given
left_by is asked {before} {now} {made} {makes} {result} {given} leaves =
    subst (λ c. InputLeaves (terms_of c) before now made makes result given) (one_command is asked) leaves

-- bytes taken from an input that tells are no more than it has
told_taken : (before now : Option (List ℕ)) (bytes taken : List ℕ) → before ≡ Some bytes
    → before ≡ prepend_known taken now → length taken ≤ length bytes
told_taken before None bytes taken told took = absurd (none-some bytes (sym took ∙ told))
told_taken before (Some rest) bytes taken told took =
    let whole : taken ++ rest ≡ bytes = same_Some (taken ++ rest) bytes (sym took ∙ told) in
    let lengths : length taken + length rest ≡ length bytes = sym (length-append taken rest) ∙ ap length whole in
    omega arith

-- and those read to its end are all that it has
told_read : (before now : Option (List ℕ)) (bytes read : List ℕ) → before ≡ Some bytes
    → before ≡ prepend_known read now → IsAtEnd now
    → read ≡ bytes
told_read before None bytes read told all at_end = absurd (none-some bytes (sym all ∙ told))
told_read before (Some rest) bytes read told all at_end =
    sym (append-nil read) ∙ ap (λ more. read ++ more) (sym at_end) ∙ same_Some (read ++ rest) bytes (sym all ∙ told)

-- ---- what is refused

module _ {terms : Terms} (laws : AreTerms terms) where
  -- a command that refuses reads its input
  refuses_reads : (limit : Option ℕ) → terms.limit ≡ limit → (bytes line : List ℕ) → terms.Refuses bytes line
      → Reads terms
  refuses_reads None is bytes line refused = absurd (laws.unrefused is bytes line refused)
  refuses_reads (Some limit) is bytes line refused = (limit, is)

  -- what was read to its end are all bytes
  all_read : {before : Option (List ℕ)} {bytes : List ℕ} → before ≡ Some bytes → (now : Option (List ℕ))
      (read : List ℕ) → Reads terms → IsReadBy terms.limit before now read → read ≡ bytes
  all_read {before} {bytes} told now read (limit, is) to_end =
      let all = subst (λ l. IsReadBy l before now read) is to_end in
      told_read before now bytes read told all.all all.at_end

  module _ {before now : Option (List ℕ)} {bytes : List ℕ} (told : before ≡ Some bytes) where
    -- what is refused of bytes that were read is what all bytes deserve
    by_stop : {text : List ℕ} → Reads terms → (refused : IsRefused terms before now text)
        → IsAtEnd now ⊎ (length refused.bytes ≡ most_bytes terms) → terms.Refuses bytes text
    by_stop {text} reads refused (inl at_end) =
        subst (λ bs. terms.Refuses bs text) (told_read before now bytes refused.bytes told refused.read.taken at_end)
        refused.refused
    by_stop {text} (limit, is) refused (inr count) =
        let fewer = told_taken before now bytes refused.bytes told refused.read.taken in
        let most = most_is terms limit is in
        let long : limit < length refused.bytes = omega (arith, count, most) in
        let longer : limit < length bytes = omega (arith, long, fewer) in
        let same : text ≡ terms.long_line =
        laws.one_line refused.bytes text terms.long_line refused.refused (laws.long limit refused.bytes is long) in
        subst (terms.Refuses bytes) (sym same) (laws.long limit bytes is longer)

    refused_deserves : {text : List ℕ} → Reads terms → IsRefused terms before now text → terms.Refuses bytes text
    refused_deserves reads refused = by_stop reads refused refused.read.stopped

    -- what all bytes deserve is what was refused of those that were read
    refused_line : {given : GivenBack} {status : ℕ} {text : List ℕ} (line : List ℕ) → terms.Refuses bytes line
        → Reads terms → AnswersInput terms before now given status text → (status ≡ refused_status) × (text ≡ line)
    refused_line {given} {status} {text} line deserved reads (inl done) =
        absurd (laws.done_apart bytes line given status text
        (subst (λ bs. terms.Done bs given status text) (all_read told now done.bytes reads done.read) done.done) deserved)
    refused_line {text = text} line deserved reads (inr (refused, why)) =
        (refused, laws.one_line bytes text line (refused_deserves reads why) deserved)

    -- bytes for which boards were used deserve no refusal
    used_undeserved : {specs : List LinkSpec} {links : List LinkReport} (line : List ℕ) → terms.Refuses bytes line
        → Reads terms → UsedFrom terms before now specs links → ⊥
    used_undeserved {specs} {links} line deserved reads used =
        laws.uses_apart bytes line specs links
        (subst (λ bs. terms.Uses bs specs links) (all_read told now used.bytes reads used.read) used.uses) deserved

    -- of an input that is longer than that as much was taken as is read at most
    taken_by : {text : List ℕ} → most_bytes terms ≤ length bytes → (why : IsRefused terms before now text)
        → IsAtEnd now ⊎ (length why.bytes ≡ most_bytes terms) → TakesCount (most_bytes terms) before now
    taken_by long why (inr count) = (why.bytes, count, why.read.taken)
    taken_by long why (inl at_end) =
        let all = told_read before now bytes why.bytes told why.read.taken at_end in
        let most = why.read.no_more in
        let longer : most_bytes terms ≤ length why.bytes =
        subst (λ bs. most_bytes terms ≤ length bs) (sym all) long in
        (why.bytes, omega (arith, most, longer), why.read.taken)

    pub taken_of_long : {given : GivenBack} {status : ℕ} {text : List ℕ} → most_bytes terms ≤ length bytes
        → AnswersInput terms before now given status text → status ≡ refused_status
        → TakesCount (most_bytes terms) before now
    taken_of_long long (inl done) refused =
        let small = done_small laws done in absurd (omega (arith, refused, small))
    taken_of_long long (inr (told_so, why)) refused = taken_by long why why.read.stopped

  -- the line that bytes deserve was written, where the answer was
  pub deserved_refused : {before now : Option (List ℕ)} {bytes : List ℕ} (line : List ℕ) → before ≡ Some bytes
      → terms.Refuses bytes line → {given : GivenBack} {status result : ℕ} {text handed : List ℕ}
      → AnswersInput terms before now given status text → handed ≡ text → (old new : Option (List ℕ))
      → (result ≡ status) × Wrote old new handed → (result ≡ refused_status) × Wrote old new line
  deserved_refused {bytes = bytes} line told deserved answers same old new (is, wrote) =
      let refused = refused_line told line deserved (refuses_reads terms.limit refl bytes line deserved) answers in
      (is ∙ refused.0, wrote ∙ ap (append_known old) (same ∙ refused.1))

  -- bytes that deserve no refusal are done whole
  unrefused_by : (limit : Option ℕ) → terms.limit ≡ limit → {before now : Option (List ℕ)} (bytes : List ℕ)
      → HasInput limit before bytes → ((line : List ℕ) → terms.Refuses bytes line → ⊥) → {text : List ℕ}
      → IsRefused terms before now text → ⊥
  unrefused_by None is bytes has unbroken {text} refused = laws.unrefused is refused.bytes text refused.refused
  unrefused_by (Some limit) is bytes has unbroken {text} refused =
      unbroken text (refused_deserves has (limit, is) refused)

  pub accepted_whole : {before now : Option (List ℕ)} (bytes : List ℕ) → HasInput terms.limit before bytes
      → ((line : List ℕ) → terms.Refuses bytes line → ⊥) → {given : GivenBack} {status result : ℕ} {text : List ℕ}
      → AnswersInput terms before now given status text → result ≡ status → IsWhole result
  accepted_whole bytes has unbroken (inl done) is =
      inl (⊎_elim (λ zero. inl (is ∙ zero)) (λ one. inr (is ∙ one)) (small_is _ (done_small laws done)))
  accepted_whole bytes has unbroken (inr (refused, why)) is =
      absurd (unrefused_by terms.limit refl bytes has unbroken why)

  -- ---- where there is no answer

  no_rack : (makes : Bool) → terms.makes_links ≡ makes → {left left_now : Option (List ℕ)} {specs : List LinkSpec}
      {links : List LinkReport} {Risen : Type 0} → (terms.makes_links ≡ true → Risen → ⊥)
      → UsedFrom terms left left_now specs links → Risen → ⊥
  no_rack true is calm used rose = calm is rose
  no_rack false is {specs = specs} {links = links} calm used rose = laws.unlinked is used.bytes specs links used.uses

  -- where nothing of what the command uses failed, memory ran out
  pub calm_without : {left left_now : Option (List ℕ)} {made makes : List LinkSpec} {given : GivenBack}
      {input input_now rack rack_now door door_now : ℕ} {result : Result Answer NoAnswer}
      → IsCalm terms input input_now rack rack_now door door_now
      → InputLeaves terms left left_now made makes result given
      → RisesExactlyIf (result ≡ Err ReadFault) input input_now
      → RisesExactlyIf (result ≡ Err RackFault) rack rack_now → RisesExactlyIf (result ≡ Err DoorFault) door door_now
      → (why : NoAnswer) → result ≡ Err why → status_of why ≡ no_memory_status
  calm_without calm leaves inputs racks doors ReadFault is = absurd (calm.0 (leaves.reads is) (inputs.0 is))
  calm_without calm leaves inputs racks doors RackFault is =
      absurd (no_rack terms.makes_links refl calm.1 (leaves.behind RackFault is tt) (racks.0 is))
  calm_without calm leaves inputs racks doors DoorFault is = absurd (calm.2 (leaves.serves is) (doors.0 is))
  calm_without calm leaves inputs racks doors NoMemory is = refl

  -- nor do bytes that deserve a refusal meet a fault of boards or of connections
  pub deserved_without : {before now : Option (List ℕ)} {bytes : List ℕ} (line : List ℕ) → before ≡ Some bytes
      → terms.Refuses bytes line → {made makes : List LinkSpec} {given : GivenBack} {input input_now : ℕ}
      {result : Result Answer NoAnswer} → InputLeaves terms before now made makes result given
      → RisesExactlyIf (result ≡ Err ReadFault) input input_now → ¬ Rose input input_now
      → (why : NoAnswer) → result ≡ Err why → status_of why ≡ no_memory_status
  deserved_without line told deserved leaves inputs calm ReadFault is = absurd (calm (inputs.0 is))
  deserved_without {bytes = bytes} line told deserved leaves inputs calm RackFault is =
      absurd (used_undeserved told line deserved (refuses_reads terms.limit refl bytes line deserved)
      (leaves.behind RackFault is tt))
  deserved_without {bytes = bytes} line told deserved leaves inputs calm DoorFault is =
      absurd (used_undeserved told line deserved (refuses_reads terms.limit refl bytes line deserved)
      (leaves.behind DoorFault is tt))
  deserved_without line told deserved leaves inputs calm NoMemory is = refl

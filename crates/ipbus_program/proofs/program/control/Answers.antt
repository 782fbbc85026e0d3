use Rattle.std.proofs.Common.{Ok, Err, Result, ◌∙◌, ◌≡◌, ◌⊎◌, ◌≤◌, ℕ, Some, inl, inr, ⊎_elim, map, string_bytes, ap}
use Rattle.std.proofs.Common.{sym, subst, arith, rules, refl}
use Rattle.std.proofs.lemmas.Grind.{common_steps}
use Rattle.ipb_outside.specs.Faults.{RisesExactlyIf}
use Rattle.board_greeting.specs.Reports.{shown_by}
use Rattle.command_terms.specs.declared.answer.Answer.{Answer}
use Rattle.command_terms.specs.Numbers.{refused_status, write_fault_status}
use Rattle.ipbus_program.specs.declared.no_answer.NoAnswer.{NoAnswer}
use Rattle.ipbus_program.specs.declared.no_answer.NoAnswer.TheVariants.{DoorFault, RackFault, ReadFault}
use Rattle.ipbus_program.specs.Ended.{IsSessionless, IsTextless}
use Rattle.ipbus_program.specs.Owed.{AreCommand, AreNoCommand}
use Rattle.ipbus_program.specs.Steps.{status_of}
use Rattle.ipbus_program.proofs.Answered.{answered, none_in_frames, nothing_given, unanswered}
use Rattle.ipbus_program.proofs.Causes.{HasText, answer_status, delivered_fault, delivered_status, delivered_whole}
use Rattle.ipbus_program.proofs.Deserved.{accepted_whole, calm_without, deserved_refused, deserved_without, left_by}
use Rattle.ipbus_program.proofs.Deserved.{one_command, taken_of_long}
use Rattle.ipbus_program.proofs.Ending.{rises_as, status_rises, textless_of, unread_ended, usage_ended}
use Rattle.ipbus_program.proofs.program.control.Given.{Over}
use Rattle.ipbus_program.proofs.program.control.Goals.{After-answer_command, After-deliver-in-Ok, After-status}
use Rattle.ipbus_program.proofs.program.control.Goals as goal

-- the words are the command that was called
are_command : (g : Over) (c : After-answer_command g) → AreCommand c.args.words.now c.in-Ok-Some.command
are_command g c = search rules

module _ (g : Over) (c : After-deliver-in-Ok g) where
  -- an answer has the status of a text that was made, or of a refusal
  small_status : (c.in-Ok.answer.status ≤ 1) ⊎ (c.in-Ok.answer.status ≡ refused_status)
  small_status =
      answer_status (c.terms_are_terms.ensures c.in-Ok-Some.command) c.in-Ok.ensures.leaves.2.4.owed

  -- the call answers it, or that of a fault of the output
  told_status : (c.deliver-in-Ok.result ≡ c.in-Ok.answer.status) ⊎ (c.deliver-in-Ok.result ≡ write_fault_status)
  told_status = delivered_status c.deliver-in-Ok.ensures.delivers

  has_text : HasText c.deliver-in-Ok.result
  has_text =
      ⊎_elim (λ is. ⊎_elim (λ small. inl (omega (arith, is, small))) (λ refused. inr (inl (is ∙ refused))) small_status)
      (λ fault. inr (inr fault)) told_status

  -- without a session it is a refusal
  sessionless : IsSessionless c.deliver-in-Ok.result → c.in-Ok.answer.status ≡ refused_status
  sessionless none =
      let small = small_status in
      let told = told_status in
      omega (arith, small, told, none)

  -- and no fault is told but one of the output
  told_elsewhere : (fault : NoAnswer) → {before now : ℕ}
      → RisesExactlyIf (◌≡◌ {A = Result Answer NoAnswer} (Ok c.in-Ok.answer) (Err fault)) before now
      → RisesExactlyIf (c.deliver-in-Ok.result ≡ status_of fault) before now
  told_elsewhere fault =
      let has = has_text in
      let textless = textless_of fault in
      rises_as (λ told. absurd (omega (arith, has, told, textless))) (λ never. absurd cc)

-- where there is no answer, the status is one of a call that wrote nothing
textless : (g : Over) (c : After-status g) → IsTextless c.status.result
textless g c = subst IsTextless (sym c.status.ensures) (textless_of c.in-Err-answer_command.why)

-- ---- the words are no command, or memory ran out before they were read

pub returns-in-Ok-None-clause-ended : goal.returns-in-Ok-None-clause-ended
returns-in-Ok-None-clause-ended g c =
    nothing_given (shown_by g.R.L.Link) g.D.Incoming.Source g.D.Outgoing.Sink _ _ _
    (usage_ended c.args.words.now _ _ _ _ (search rules) c.as_bytes.ensures.value _ _ c.deliver.ensures.delivers)

pub returns-in-Ok-None-clause-unwritten : goal.returns-in-Ok-None-clause-unwritten
returns-in-Ok-None-clause-unwritten g c =
    let told = delivered_status c.deliver.ensures.delivers in
    (λ textless. absurd (omega (arith, told, textless)), c.deliver.ensures.ended_kept)

pub returns-in-Ok-None-clause-listens : goal.returns-in-Ok-None-clause-listens
returns-in-Ok-None-clause-listens g c port count asked =
    let none : AreNoCommand c.args.words.now = search rules in
    absurd (let never = sym none ∙ asked in cc)

pub returns-in-Ok-None-clause-in_frames : goal.returns-in-Ok-None-clause-in_frames
returns-in-Ok-None-clause-in_frames g c port count asked =
    let none : AreNoCommand c.args.words.now = search rules in
    absurd (let never = sym none ∙ asked in cc)

pub returns-in-Err-clause-ended : goal.returns-in-Err-clause-ended
returns-in-Err-clause-ended g c =
    nothing_given (shown_by g.R.L.Link) g.D.Incoming.Source g.D.Outgoing.Sink _ _ _
    (unread_ended c.args.words.now _ _ _ _)

pub returns-in-Err-clause-listens : goal.returns-in-Err-clause-listens
returns-in-Err-clause-listens g c port count asked = (λ done. absurd (omega (arith, done)), inl refl)

pub returns-in-Err-clause-in_frames : goal.returns-in-Err-clause-in_frames
returns-in-Err-clause-in_frames g c port count asked =
    none_in_frames (shown_by g.R.L.Link) g.D.Incoming.Source g.D.Outgoing.Sink _ _ _

-- ---- the command was called

pub answer_command-requires-after_bounds : goal.answer_command-requires-after_bounds
answer_command-requires-after_bounds g c κs bounds = λ count same.
    let are : AreCommand c.args.words.now c.in-Ok-Some.command = search rules in
    c.a_load_has_a_bound.ensures (map string_bytes c.args.words.now) count (are ∙ ap Some same)

pub returns-in-Ok-clause-ended : goal.returns-in-Ok-clause-ended
returns-in-Ok-clause-ended g c =
    answered (shown_by g.R.L.Link) g.D.Incoming.Source g.D.Outgoing.Sink _ _ _ _ _ _ c.args.words.now
    (c.terms_are_terms.ensures c.in-Ok-Some.command)
    (are_command g (goal.at.returns-in-Ok-clause-ended g c).After-answer_command) _ _ c.as_slice.ensures.value _ _
    c.deliver-in-Ok.ensures.delivers c.in-Ok.ensures.leaves

pub returns-clause-ended : goal.returns-clause-ended
returns-clause-ended g c =
    rw c.status.ensures
    (unanswered (shown_by g.R.L.Link) g.D.Incoming.Source g.D.Outgoing.Sink _ _ _ _ _ _ c.args.words.now
    (c.terms_are_terms.ensures c.in-Ok-Some.command)
    (are_command g (goal.at.returns-clause-ended g c).After-answer_command) _ _ c.in-Err-answer_command.is
    c.answer_command.ensures.leaves)

pub returns-in-Ok-clause-in_frames : goal.returns-in-Ok-clause-in_frames
returns-in-Ok-clause-in_frames g c port count asked =
    c.answer_command.ensures.in_frames port count
    (one_command (are_command g (goal.at.returns-in-Ok-clause-in_frames g c).After-answer_command) asked)

pub returns-clause-in_frames : goal.returns-clause-in_frames
returns-clause-in_frames g c port count asked =
    c.answer_command.ensures.in_frames port count
    (one_command (are_command g (goal.at.returns-clause-in_frames g c).After-answer_command) asked)

pub returns-in-Ok-clause-input_faults : goal.returns-in-Ok-clause-input_faults
returns-in-Ok-clause-input_faults g c =
    told_elsewhere g (goal.at.returns-in-Ok-clause-input_faults g c).After-deliver-in-Ok ReadFault
    c.in-Ok.ensures.input_faults

pub returns-in-Ok-clause-rack_faults : goal.returns-in-Ok-clause-rack_faults
returns-in-Ok-clause-rack_faults g c =
    told_elsewhere g (goal.at.returns-in-Ok-clause-rack_faults g c).After-deliver-in-Ok RackFault
    c.in-Ok.ensures.rack_faults

pub returns-in-Ok-clause-door_faults : goal.returns-in-Ok-clause-door_faults
returns-in-Ok-clause-door_faults g c =
    told_elsewhere g (goal.at.returns-in-Ok-clause-door_faults g c).After-deliver-in-Ok DoorFault
    c.in-Ok.ensures.door_faults

pub returns-clause-input_faults : goal.returns-clause-input_faults
returns-clause-input_faults g c =
    status_rises c.in-Err-answer_command.is c.status.ensures ReadFault c.answer_command.ensures.input_faults

pub returns-clause-rack_faults : goal.returns-clause-rack_faults
returns-clause-rack_faults g c =
    status_rises c.in-Err-answer_command.is c.status.ensures RackFault c.answer_command.ensures.rack_faults

pub returns-clause-door_faults : goal.returns-clause-door_faults
returns-clause-door_faults g c =
    status_rises c.in-Err-answer_command.is c.status.ensures DoorFault c.answer_command.ensures.door_faults

pub returns-in-Ok-clause-output_faults : goal.returns-in-Ok-clause-output_faults
returns-in-Ok-clause-output_faults g c =
    let small = small_status g (goal.at.returns-in-Ok-clause-output_faults g c).After-deliver-in-Ok in (
      delivered_fault c.deliver-in-Ok.ensures.delivers (λ told. omega (arith, small, told)),
      c.deliver-in-Ok.ensures.later,
      c.deliver-in-Ok.ensures.unfaulted,
    )

pub returns-in-Ok-clause-unread : goal.returns-in-Ok-clause-unread
returns-in-Ok-clause-unread g c none =
    c.answer_command.ensures.unread
    (none c.in-Ok-Some.command (are_command g (goal.at.returns-in-Ok-clause-unread g c).After-answer_command))

pub returns-clause-unread : goal.returns-clause-unread
returns-clause-unread g c none =
    c.answer_command.ensures.unread
    (none c.in-Ok-Some.command (are_command g (goal.at.returns-clause-unread g c).After-answer_command))

pub returns-in-Ok-clause-unwritten : goal.returns-in-Ok-clause-unwritten
returns-in-Ok-clause-unwritten g c =
    let told = has_text g (goal.at.returns-in-Ok-clause-unwritten g c).After-deliver-in-Ok in
    (λ textless. absurd (omega (arith, told, textless)), c.deliver-in-Ok.ensures.ended_kept)

pub returns-in-Ok-clause-unmade : goal.returns-in-Ok-clause-unmade
returns-in-Ok-clause-unmade g c =
    let at = goal.at.returns-in-Ok-clause-unmade g c in
    let alone = c.in-Ok.ensures.alone in
    ⊎_elim (λ none. alone.2 (none c.in-Ok-Some.command (are_command g at.After-answer_command)))
    (λ told. (alone.0 (sessionless g at.After-deliver-in-Ok told)).0)

pub returns-in-Ok-clause-shut : goal.returns-in-Ok-clause-shut
returns-in-Ok-clause-shut g c =
    let at = goal.at.returns-in-Ok-clause-shut g c in
    let alone = c.in-Ok.ensures.alone in
    let has = has_text g at.After-deliver-in-Ok in (
      ⊎_elim (λ none. alone.3 (none c.in-Ok-Some.command (are_command g at.After-answer_command)))
          (⊎_elim (λ told. (alone.0 (sessionless g at.After-deliver-in-Ok told)).1)
          (λ told. absurd (omega (arith, has, told)))),
      c.in-Ok.ensures.none_out,
    )

pub returns-in-Ok-clause-listens : goal.returns-in-Ok-clause-listens
returns-in-Ok-clause-listens g c port count asked =
    let at = goal.at.returns-in-Ok-clause-listens g c in
    let listens = c.in-Ok.ensures.listens port count (one_command (are_command g at.After-answer_command) asked) in
    let told = told_status g at.After-deliver-in-Ok in
    (λ done. listens.0 (λ refused. omega (arith, told, done, refused)), listens.1)

pub returns-clause-listens : goal.returns-clause-listens
returns-clause-listens g c port count asked =
    let at = goal.at.returns-clause-listens g c in
    let listens = c.answer_command.ensures.listens port count (one_command (are_command g at.After-answer_command) asked) in
    let told = textless g at.After-status in
    (λ done. absurd (omega (arith, told, done)), listens.1)

-- ---- what is owed to an input that tells its bytes

pub returns-in-Ok-clause-unbroken : goal.returns-in-Ok-clause-unbroken
returns-in-Ok-clause-unbroken g c command bytes asked has unbroken unfaulted quiet =
    let are = are_command g (goal.at.returns-in-Ok-clause-unbroken g c).After-answer_command in
    accepted_whole (c.terms_are_terms.ensures command) bytes has unbroken
    (left_by are asked c.in-Ok.ensures.leaves.2.4).owed
    (delivered_whole c.deliver-in-Ok.ensures.delivers unfaulted).0

pub returns-in-Ok-clause-right : goal.returns-in-Ok-clause-right
returns-in-Ok-clause-right g c command bytes asked has right =
    returns-in-Ok-clause-unbroken g c command bytes asked has
    (λ line. (c.terms_are_terms.ensures command).right_apart bytes line right)

pub returns-clause-unbroken : goal.returns-clause-unbroken
returns-clause-unbroken g c command bytes asked has unbroken unfaulted quiet =
    let are = are_command g (goal.at.returns-clause-unbroken g c).After-answer_command in
    let called = c.answer_command.ensures in
    inr (c.status.ensures
    ∙ calm_without (c.terms_are_terms.ensures command) quiet (left_by are asked called.leaves.2.4) called.input_faults
    called.rack_faults called.door_faults c.in-Err-answer_command.why c.in-Err-answer_command.is)

pub returns-clause-right : goal.returns-clause-right
returns-clause-right g c command bytes asked has right =
    returns-clause-unbroken g c command bytes asked has
    (λ line. (c.terms_are_terms.ensures command).right_apart bytes line right)

pub returns-in-Ok-clause-deserved : goal.returns-in-Ok-clause-deserved
returns-in-Ok-clause-deserved g c command bytes line asked told deserved calm unfaulted =
    let are = are_command g (goal.at.returns-in-Ok-clause-deserved g c).After-answer_command in
    inl (deserved_refused (c.terms_are_terms.ensures command) line told deserved
    (left_by are asked c.in-Ok.ensures.leaves.2.4).owed c.as_slice.ensures.value _ _
    (delivered_whole c.deliver-in-Ok.ensures.delivers unfaulted))

pub returns-clause-deserved : goal.returns-clause-deserved
returns-clause-deserved g c command bytes line asked told deserved calm unfaulted =
    let are = are_command g (goal.at.returns-clause-deserved g c).After-answer_command in
    let called = c.answer_command.ensures in
    inr (c.status.ensures
    ∙ deserved_without (c.terms_are_terms.ensures command) line told deserved (left_by are asked called.leaves.2.4)
    called.input_faults calm c.in-Err-answer_command.why c.in-Err-answer_command.is)

pub returns-in-Ok-clause-too_long : goal.returns-in-Ok-clause-too_long
returns-in-Ok-clause-too_long g c command bytes asked told long refused =
    let at = goal.at.returns-in-Ok-clause-too_long g c in
    let status = told_status g at.After-deliver-in-Ok in
    taken_of_long (c.terms_are_terms.ensures command) told long
    (left_by (are_command g at.After-answer_command) asked c.in-Ok.ensures.leaves.2.4).owed
    (omega (arith, status, refused))

-- ---- nothing is owed to other words

pub returns-in-Ok-None-clause-unbroken : goal.returns-in-Ok-None-clause-unbroken
returns-in-Ok-None-clause-unbroken g c command bytes asked has unbroken unfaulted quiet =
    let none : AreNoCommand c.args.words.now = search rules in
    absurd (let never = sym none ∙ asked in cc)

pub returns-in-Ok-None-clause-right : goal.returns-in-Ok-None-clause-right
returns-in-Ok-None-clause-right g c command bytes asked has right unfaulted quiet =
    let none : AreNoCommand c.args.words.now = search rules in
    absurd (let never = sym none ∙ asked in cc)

pub returns-in-Ok-None-clause-deserved : goal.returns-in-Ok-None-clause-deserved
returns-in-Ok-None-clause-deserved g c command bytes line asked told deserved calm unfaulted =
    let none : AreNoCommand c.args.words.now = search rules in
    absurd (let never = sym none ∙ asked in cc)

pub returns-in-Ok-None-clause-too_long : goal.returns-in-Ok-None-clause-too_long
returns-in-Ok-None-clause-too_long g c command bytes asked told long refused =
    let none : AreNoCommand c.args.words.now = search rules in
    absurd (let never = sym none ∙ asked in cc)

-- ---- faults, and what is left alone

pub returns-in-Ok-None-clause-input_faults : goal.returns-in-Ok-None-clause-input_faults
returns-in-Ok-None-clause-input_faults g c = grind (arith, common_steps)

pub returns-in-Ok-None-clause-rack_faults : goal.returns-in-Ok-None-clause-rack_faults
returns-in-Ok-None-clause-rack_faults g c = grind (arith, common_steps)

pub returns-in-Ok-None-clause-door_faults : goal.returns-in-Ok-None-clause-door_faults
returns-in-Ok-None-clause-door_faults g c = grind (arith, common_steps)

pub returns-in-Ok-None-clause-output_faults : goal.returns-in-Ok-None-clause-output_faults
returns-in-Ok-None-clause-output_faults g c = grind (arith, common_steps)

pub returns-in-Ok-None-clause-other_words : goal.returns-in-Ok-None-clause-other_words
returns-in-Ok-None-clause-other_words g c = grind (arith, common_steps)

pub returns-clause-output_faults : goal.returns-clause-output_faults
returns-clause-output_faults g c = grind (arith, common_steps)

pub returns-clause-unwritten : goal.returns-clause-unwritten
returns-clause-unwritten g c = grind (arith, common_steps)

pub returns-clause-other_words : goal.returns-clause-other_words
returns-clause-other_words g c = grind (arith, common_steps)

pub returns-in-Ok-clause-other_words : goal.returns-in-Ok-clause-other_words
returns-in-Ok-clause-other_words g c = grind (arith, common_steps)

-- Which answer is owed to an input, and what was written of it.
use Rattle.std.proofs.Common.{◌≡◌, ℕ, ◌+◌, ◌<◌, ◌≤◌, ◌⊎◌, inl, inr, ⊎_elim, List, length, Option, None, Some, refl}
use Rattle.std.proofs.Common.{sym, ◌∙◌, ap, subst, arith, String, Global}
use Rattle.ipb_outside.specs.Told.{AppendsPart}
use Rattle.command_words.specs.declared.command.Command.{Command}
use Rattle.command_terms.specs.Numbers.{IsDoneStatus, refused_status, write_fault_status}
use Rattle.command_terms.specs.Outside.{GivenBack}
use Rattle.command_terms.specs.Terms.{AreTerms, Owes, Terms, most_bytes, most_of}
use Rattle.ipbus_program.specs.Commands.{terms_of}
use Rattle.ipbus_program.specs.Ended.{IsStatus}
use Rattle.ipbus_program.specs.Owed.{AreCommand, IsReadBy, IsReadToEnd, IsRefused, IsDone, AnswersInput}
use Rattle.ipbus_program.specs.Owed.{OwesDone, OwesRefusal, OwesWords, OwesText}
use Rattle.ipbus_program.specs.Owed.{Wrote, WroteOwed, WroteOwedPart}
use Rattle.ipbus_program.specs.Outputs.{Delivers}
use Rattle.ipbus_program.specs.Steps.{IsTooLong}

pub done_small_status : {n : ℕ} → IsDoneStatus n → n ≤ 1
done_small_status (inl zero) = omega (arith, zero)
done_small_status (inr one) = omega (arith, one)

-- the statuses of an answer to bytes that break no rule
pub done_small : {terms : Terms} → AreTerms terms → {before now : Option (List ℕ)} {given : GivenBack} {status : ℕ}
    {text : List ℕ} → IsDone terms before now given status text → status ≤ 1
done_small laws {status = status} {text = text} done =
    done_small_status (laws.told done.bytes _ status text done.done)

-- and to any
pub answer_status : {terms : Terms} → AreTerms terms → {before now : Option (List ℕ)} {given : GivenBack} {status : ℕ}
    {text : List ℕ} → AnswersInput terms before now given status text → (status ≤ 1) ⊎ (status ≡ refused_status)
answer_status laws (inl done) = inl (done_small laws done)
answer_status laws (inr (refused, why)) = inr refused

-- ---- a command that reads

pub most_is : (terms : Terms) (limit : ℕ) → terms.limit ≡ Some limit → most_bytes terms ≡ limit + 1
most_is terms limit is = ap most_of is

pub read_by : (terms : Terms) (limit : ℕ) → terms.limit ≡ Some limit → (before now : Option (List ℕ)) (bytes : List ℕ)
    → IsReadToEnd before now bytes → IsReadBy terms.limit before now bytes
read_by terms limit is before now bytes read = subst (λ l. IsReadBy l before now bytes) (sym is) read

-- an input that was read whole, of at most so many bytes
module _ (terms : Terms) (before now : Option (List ℕ)) (bytes : List ℕ) (most : length bytes ≤ most_bytes terms) where
  refused_by : (limit : Option ℕ) → (limit ≡ None → terms.limit ≡ None) → IsReadBy limit before now bytes
      → (text : List ℕ) → (terms.limit ≡ None → ⊥) → terms.Refuses bytes text → IsRefused terms before now text
  refused_by None is read text reads why = absurd (reads (is refl))
  refused_by (Some limit) is read text reads why = record {
    bytes = bytes;
    read = record { taken = read.all; no_more = most; stopped = inl read.at_end };
    refused = why;
  }

  -- is answered by what is owed to its bytes
  pub input_answered : AreTerms terms → IsReadBy terms.limit before now bytes
      → (given : GivenBack) (status : ℕ) (text : List ℕ) → Owes terms bytes given status text
      → AnswersInput terms before now given status text
  input_answered laws read given status text (inl done) = inl (record { bytes = bytes; read = read; done = done })
  input_answered laws read given status text (inr refused) =
      inr (
        refused.0,
        refused_by terms.limit (λ none. none) read text
            (λ none. laws.unrefused none bytes text refused.1) refused.1,
      )

-- one that is too long is refused so
pub long_answered : (terms : Terms) → AreTerms terms → (before now : Option (List ℕ)) (given : GivenBack)
    (status : ℕ) (text : List ℕ) → IsTooLong terms before now → status ≡ refused_status → text ≡ terms.long_line
    → AnswersInput terms before now given status text
long_answered terms laws before now given status text is refused line =
    let took = is.took in
    let most = most_is terms is.reads.0 is.reads.1 in
    let long : is.reads.0 < length took.0 = let n = took.1 in omega (arith, n, most) in
    inr (
      refused,
      record {
        bytes = took.0;
        read = record {
          taken = took.2;
          no_more = let n = took.1 in omega (arith, n);
          stopped = inr took.1;
        };
        refused = subst (terms.Refuses took.0) (sym line) (laws.long is.reads.0 took.0 is.reads.1 long);
      },
    )

pub small_is : (n : ℕ) → n ≤ 1 → (n ≡ 0) ⊎ (n ≡ 1)
small_is n small = grind arith

-- the statuses with which a text was handed to the output
abbrev pub HasText : ℕ → Type 0
HasText result = (result ≤ 1) ⊎ ((result ≡ refused_status) ⊎ (result ≡ write_fault_status))

pub is_status : {result : ℕ} → HasText result → IsStatus result
is_status (inl small) = ⊎_elim (λ zero. inl zero) (λ one. inr (inl one)) (small_is _ small)
is_status (inr (inl refused)) = inr (inr (inr (inl refused)))
is_status (inr (inr fault)) = inr (inr (inr (inr (inr (inl fault)))))

-- ---- what was written

-- it was the status of the text that was answered, or that of a fault of the output
pub delivered_status : {status result : ℕ} {Whole Part : Type 0}
    → ((result ≡ status) × Whole) ⊎ ((result ≡ write_fault_status) × Part)
    → (result ≡ status) ⊎ (result ≡ write_fault_status)
delivered_status (inl (is, wrote)) = inl is
delivered_status (inr (is, part)) = inr is

-- where the output met no fault, the text was written whole
pub delivered_whole : {status result : ℕ} {Whole Risen Part : Type 0}
    → ((result ≡ status) × Whole) ⊎ ((result ≡ write_fault_status) × (Risen × Part)) → (Risen → ⊥)
    → (result ≡ status) × Whole
delivered_whole (inl whole) calm = whole
delivered_whole (inr (is, (rose, part))) calm = absurd (calm rose)

-- where its status was answered, it met one
pub delivered_fault : {status result : ℕ} {Whole Risen Part : Type 0}
    → ((result ≡ status) × Whole) ⊎ ((result ≡ write_fault_status) × (Risen × Part))
    → (status ≡ write_fault_status → ⊥) → result ≡ write_fault_status → Risen
delivered_fault (inl (is, whole)) other told = absurd (other (sym is ∙ told))
delivered_fault (inr (is, (rose, part))) other told = rose

-- by the status, what was written of an answer
pub record WroteAnswer (words : List (String Global)) (before now : Option (List ℕ)) (given : GivenBack)
    (old new : Option (List ℕ)) (result : ℕ) : Type 0 where
  pub has_text : HasText result
  pub done : IsDoneStatus result → WroteOwed (OwesDone words before now given result) old new
  pub refused : result ≡ refused_status → WroteOwed (OwesRefusal words before now) old new
  pub cut : result ≡ write_fault_status → WroteOwedPart (OwesText words before now given) old new

-- `handed` is the text as it was handed to the output, `old` and `new` are what the output has, and `met` and `meets`
-- its faults
module _ (words : List (String Global)) (command : Command) (laws : AreTerms (terms_of command))
    (are : AreCommand words command)
    (before now : Option (List ℕ)) (given : GivenBack) (status : ℕ) (text handed : List ℕ) (same : handed ≡ text)
    (old new : Option (List ℕ)) (met meets result : ℕ) where
  owes : AnswersInput (terms_of command) before now given status text → OwesWords words before now given status text
  owes (inl done) = inl (command, are, done)
  owes (inr (refused, why)) = inr (inl (refused, (command, are, why)))

  pub wrote_answer : AnswersInput (terms_of command) before now given status text
      → Delivers status handed old new met meets result → WroteAnswer words before now given old new result
  wrote_answer answers (inr (is, (rose, part))) = record {
    has_text = inr (inr is);
    done = λ told. absurd (omega (arith, is, told));
    refused = λ told. absurd (omega (arith, is, told));
    cut = λ told. (text, (status, owes answers), subst (AppendsPart old new) same part);
  }
  wrote_answer (inl done) (inl (is, wrote)) =
      let small = done_small laws done in record {
        has_text = inl (omega (arith, is, small));
        done = λ told. (
          text,
          (command, are, subst (λ n. IsDone (terms_of command) before now given n text) (sym is) done),
          subst (Wrote old new) same wrote,
        );
        refused = λ told. absurd (omega (arith, is, told, small));
        cut = λ told. absurd (omega (arith, is, told, small));
      }
  wrote_answer (inr (refused, why)) (inl (is, wrote)) = record {
    has_text = inr (inl (is ∙ refused));
    done = λ told. absurd (omega (arith, is, told, refused));
    refused = λ told. (text, (command, are, why), subst (Wrote old new) same wrote);
    cut = λ told. absurd (omega (arith, is, told, refused));
  }

-- What the worked examples rest on.
use Rattle.std.proofs.Common.{◌≡◌, ◌≤◌, ◌<◌, ℕ, List, length, take, Some, None, refl}
use Rattle.std.specs.List.{position_from}
use Rattle.ipb_base.specs.Digits.{digits_number}
use Rattle.session_input.specs.Numbers.{document_bytes}
use Rattle.audit_command.specs.declared.refusal.AuditRefusal.TheVariants.{NoLength}
use Rattle.audit_command.specs.Headline.{IsRefused}
use Rattle.audit_command.specs.Input.{HasLength}
use Rattle.audit_command.specs.Lines.{refusal_line}
use Rattle.audit_command.specs.Numbers.{audit_bytes, length_digits}
use Rattle.audit_command.proofs.Lengths.{ends, no_line, no_number, not_long, small_of, too_few}

without : (bytes : List ℕ) → length bytes ≤ audit_bytes
    → ((number : ℕ) (rest : List ℕ) → ¬ HasLength bytes number rest) → IsRefused bytes (refusal_line NoLength)
without bytes fits none = record {
  refusal = NoLength;
  deserved = (
    not_long bytes fits (λ number rest has. absurd (none number rest has)),
    λ document transcript parts. none (length document) _ parts,
  );
  spelled = refl;
}

-- no line feed
pub without_line : (bytes : List ℕ) → length bytes ≤ audit_bytes → position_from ends 0 bytes ≡ None
    → IsRefused bytes (refusal_line NoLength)
without_line bytes fits none = without bytes fits (λ number rest has. no_line bytes number rest none has)

-- a first line that is no number
pub without_number : (bytes : List ℕ) (end : ℕ) → length bytes ≤ audit_bytes → position_from ends 0 bytes ≡ Some end
    → digits_number 10 length_digits (take end bytes) ≡ None → IsRefused bytes (refusal_line NoLength)
without_number bytes end fits is none =
    without bytes fits (λ number rest has. no_number bytes number rest end is none has)

-- fewer bytes than the number
pub with_fewer : (bytes : List ℕ) (number : ℕ) (rest : List ℕ) → length bytes ≤ audit_bytes
    → HasLength bytes number rest → number ≤ document_bytes → length rest < number
    → IsRefused bytes (refusal_line NoLength)
with_fewer bytes number rest fits has few fewer = record {
  refusal = NoLength;
  deserved = (not_long bytes fits (small_of bytes number rest has few), too_few bytes number rest has fewer);
  spelled = refl;
}

use Rattle.std.proofs.Common.{rules, ℕ, ◌≤◌, ◌<◌, List, length, arith}
use Rattle.session_input.specs.Numbers.{document_bytes}
use Rattle.audit_command.specs.Input.{HasLength}
use Rattle.audit_command.specs.Numbers.{audit_bytes}
use Rattle.audit_command.proofs.Lengths.{not_long, small_of, too_few}
use Rattle.audit_command.proofs.parts.parts_of.Goals as goal

pub returns-in_default-clause-refused : goal.returns-in_default-clause-refused
returns-in_default-clause-refused c =
    let bytes = c.args.bytes.now in
    let none : (number : ℕ) (rest : List ℕ) → ¬ HasLength bytes number rest = c.length_of.ensures.none (search rules) in
    let fits : length bytes ≤ audit_bytes = omega (arith, c.if-bytes-gt-MAX_AUDIT.false) in (
      not_long bytes fits (λ number rest has. absurd (none number rest has)),
      λ document transcript parts. none (length document) _ parts,
    )

pub returns-then-number-rest-clause-refused : goal.returns-then-number-rest-clause-refused
returns-then-number-rest-clause-refused c =
    let bytes = c.args.bytes.now in
    let has : HasLength bytes c.in-Some.number c.in-Some.rest.now = search rules in
    let fits : length bytes ≤ audit_bytes = omega (arith, c.if-bytes-gt-MAX_AUDIT.false) in
    let few : c.in-Some.number ≤ document_bytes = omega (arith, c.if-number-gt-MAX_DOCUMENT.false) in
    let fewer : length c.in-Some.rest.now < c.in-Some.number = omega (arith, c.if-number-rest.true) in (
      not_long bytes fits (small_of bytes c.in-Some.number c.in-Some.rest.now has few),
      too_few bytes c.in-Some.number c.in-Some.rest.now has fewer,
    )

pub returns-clause-fits : goal.returns-clause-fits
returns-clause-fits c =
    let bytes = c.args.bytes.now in
    let has : HasLength bytes c.in-Some.number c.in-Some.rest.now = search rules in
    let fits : length bytes ≤ audit_bytes = omega (arith, c.if-bytes-gt-MAX_AUDIT.false) in
    let few : c.in-Some.number ≤ document_bytes = omega (arith, c.if-number-gt-MAX_DOCUMENT.false) in
    not_long bytes fits (small_of bytes c.in-Some.number c.in-Some.rest.now has few)

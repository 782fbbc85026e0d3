-- Errors of the machine, and what a call of a socket came to by them. Profile.
use Rattle.std.specs.Prelude.{ℕ, ℤ, Bool, List, [], ◌∷◌, Option, Some, None, if◌then◌else◌, ◌==◌, unsigned_abs}
use Rattle.std.specs.List.{list_any}
use Rattle.std_edges.specs.declared.errors.SendOutcome.{SendOutcome}
use Rattle.std_edges.specs.declared.errors.SendOutcome.TheVariants.{Sent, Lost, Failed}

-- Errors that say nothing of the socket and the address, and may be gone at the next call: EPERM, EINTR, EAGAIN,
-- ENOMEM, EACCES, ENETDOWN, ENETUNREACH, ENOBUFS, ECONNREFUSED, EHOSTDOWN and EHOSTUNREACH, by their numbers on Linux.
abbrev pub passing_errors : List ℕ
passing_errors = 1 ∷ 4 ∷ 11 ∷ 12 ∷ 13 ∷ 100 ∷ 101 ∷ 105 ∷ 111 ∷ 112 ∷ 113 ∷ []

abbrev pub is_passing : ℕ → Bool
is_passing number = list_any (λ passing. passing == number) passing_errors

-- the number of an error of the machine; any other error has 0, which is none
abbrev pub number_in : Option ℤ → ℕ
number_in (Some code) = unsigned_abs code
number_in None = 0

-- a datagram of so many bytes is sent where all of them went
abbrev pub sent_of : ℕ → ℕ → SendOutcome
sent_of count length = if count == length then Sent else Failed

-- a datagram that the machine refuses by an error that passes is lost on its way
abbrev pub refused_by : ℕ → SendOutcome
refused_by number = if is_passing number then Lost else Failed

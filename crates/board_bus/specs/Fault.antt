-- The info codes of refused accesses, bus errors and timeouts. Their numbers are those of `transaction_codec`, by its
-- law `the_info_codes_of_a_header`. IPbus 2.0, info codes.
use Rattle.std.specs.Prelude.{ℕ, Option, Some, None}
use Rattle.transaction_codec.specs.declared.info_code.TheConstants.{SUCCESS, READ_ERROR, WRITE_ERROR, READ_TIMEOUT}
use Rattle.transaction_codec.specs.declared.info_code.TheConstants.{WRITE_TIMEOUT}
use Rattle.board_bus.specs.declared.fault.BusFault.{BusFault}
use Rattle.board_bus.specs.declared.fault.BusFault.TheVariants.{ReadError, WriteError, ReadTimeout, WriteTimeout}

abbrev pub fault_code : BusFault → ℕ
fault_code ReadError = READ_ERROR
fault_code WriteError = WRITE_ERROR
fault_code ReadTimeout = READ_TIMEOUT
fault_code WriteTimeout = WRITE_TIMEOUT

-- the info code of a reply, by the refusal that ended its transaction, if there was one
abbrev pub info_code : Option BusFault → ℕ
info_code None = SUCCESS
info_code (Some fault) = fault_code fault

-- A number that keeps the rule of its key lies between the bounds of the rule.
use Rattle.std.proofs.Common.{ℕ, ◌≤◌, Option, Some, None, codes, arith}
use Rattle.std.proofs.lemmas.Bool.Decides.{nat_tests}
use Rattle.toml.specs.Data.{Members, get_member}
use Rattle.ipb_base.specs.Digits.{is_between}
use Rattle.address_table.specs.Numbers.{number}
use Rattle.std.specs.Option.{option_and_then, unwrap_or}
use Rattle.script_lang.specs.Texts.{checked_value}
use Rattle.address_table.specs.Limits.{IsFormat}
use Rattle.world_model.specs.Settings.{AreLimits}
use Rattle.script_lang.specs.Sessions.{settings_of, format_of}

pub between-checked : (least most default : ℕ) (o : Option ℕ) → least ≤ default → default ≤ most
    → (least ≤ unwrap_or (checked_value (is_between least most) o) default)
    × (unwrap_or (checked_value (is_between least most) o) default ≤ most)
between-checked least most default None low high = (low, high)
between-checked least most default (Some n) low high = grind (arith, nat_tests)

-- the settings of a document are settings
pub are_limits : (document : Members) → AreLimits (settings_of document)
are_limits document =
    let rounds =
    between-checked 1 255 8 (option_and_then number (get_member (codes "rounds") document)) (omega arith)
    (omega arith) in
    let window =
    between-checked 1 16 16 (option_and_then number (get_member (codes "window") document)) (omega arith)
    (omega arith) in
    record { some_rounds = rounds.0; some_window = window.0; window_in_range = window.1 }

-- the format of the tables of a document is one that tables have
pub is_format : (document : Members) → IsFormat (format_of document)
is_format document =
    between-checked 1 2 1 (option_and_then number (get_member (codes "format") document)) (omega arith) (omega arith)

-- How the code names the tables of keys. No public clause speaks of it.
use Rattle.std.specs.Prelude.{ℕ, if◌then◌else◌, List, Option, Some, None}
use Rattle.toml.specs.Data.{Members}
use Rattle.address_table.specs.Rules.{has_key}
use Rattle.script_lang.specs.declared.keys.Form.{Form}
use Rattle.script_lang.specs.declared.keys.Form.TheVariants.{Document, SimBoard, NoisyBoard, UdpBoard, Range, Client}
use Rattle.script_lang.specs.Keys.{KeyRule, document_keys, sim_keys, sim_keys_with_noise, udp_keys, range_keys}
use Rattle.script_lang.specs.Keys.{client_keys}

abbrev pub form_keys : Form → List KeyRule
form_keys Document = document_keys
form_keys SimBoard = sim_keys
form_keys NoisyBoard = sim_keys_with_noise
form_keys UdpBoard = udp_keys
form_keys Range = range_keys
form_keys Client = client_keys

-- the first of two keys that is not there
abbrev pub first_absent : List ℕ → List ℕ → Members → Option (List ℕ)
first_absent first second ms =
    if has_key first ms then (if has_key second ms then None else Some second) else Some first

-- What a document without faults stands for, its tables left aside. Profile.
use Rattle.std.specs.Prelude.{ℕ, List, [], ◌∷◌, codes, if◌then◌else◌}
use Rattle.std.specs.Option.{unwrap_or, option_and_then}
use Rattle.toml.specs.Data.{Members, no_members, get_member, as_table}
use Rattle.address_table.specs.Rules.{has_key}
use Rattle.board_bus.specs.declared.kind.RangeKind.TheVariants.{Rw}
use Rattle.board_bus.specs.declared.range.Range.{Range}
use Rattle.board_specs.specs.declared.spec.Fates.{Fates}
use Rattle.board_specs.specs.declared.spec.Fates.TheVariants as fates
use Rattle.board_specs.specs.declared.spec.LinkSpec.{LinkSpec}
use Rattle.board_specs.specs.declared.spec.LinkSpec.TheVariants.{Sim, Udp}
use Rattle.board_specs.specs.declared.spec.BoardSpec.{BoardSpec}
use Rattle.world_model.specs.Settings.{Limits}
use Rattle.script_lang.specs.Keys.{document_keys, sim_keys, sim_keys_with_noise, udp_keys, range_keys, is_udp}
use Rattle.script_lang.specs.Fields.{number_at, text_at, items_at, numbers_in, texts_in, tables_in}
use Rattle.script_lang.specs.Texts.{endpoint, range_kind_named}

abbrev pub settings_of : Members → Limits
settings_of document = record {
  rounds = number_at document_keys (codes "rounds") document;
  window = number_at document_keys (codes "window") document;
}

-- the format of the register tables
abbrev pub format_of : Members → ℕ
format_of document = number_at document_keys (codes "format") document

-- a range; its kind is `rw` where it is left out
abbrev pub range_of : Members → Range
range_of ms = record {
  base = number_at range_keys (codes "base") ms;
  size = number_at range_keys (codes "size") ms;
  kind = unwrap_or (range_kind_named (text_at (codes "kind") ms)) Rw;
  init = numbers_in (items_at (codes "init") ms);
}

-- noise where it is there, else the text of the fates
abbrev pub fates_of : Members → Fates
fates_of ms =
    if has_key (codes "noise") ms then fates.Noise (number_at sim_keys_with_noise (codes "noise") ms)
    else fates.Text (text_at (codes "fates") ms)

abbrev pub sim_of : Members → LinkSpec
sim_of ms =
    Sim
    (number_at sim_keys (codes "mtu") ms)
    (number_at sim_keys (codes "buffers") ms)
    (number_at sim_keys (codes "first") ms)
    (tables_in range_of (items_at (codes "ranges") ms))
    (fates_of ms)

-- the address and the port that a text writes
abbrev pub endpoint_of : List ℕ → List ℕ × ℕ
endpoint_of text = unwrap_or (endpoint text) (0 ∷ 0 ∷ 0 ∷ 0 ∷ [], 0)

abbrev pub udp_of : Members → LinkSpec
udp_of ms =
    let address = endpoint_of (text_at (codes "address") ms) in
    Udp address.0 address.1 (number_at udp_keys (codes "wait") ms)

abbrev pub link_of : Members → LinkSpec
link_of ms = if is_udp ms then udp_of ms else sim_of ms

abbrev pub board_of : Members → BoardSpec
board_of ms = record {
  name = text_at (codes "name") ms;
  table = text_at (codes "table") ms;
  link = link_of ms;
}

abbrev pub boards_of : Members → List BoardSpec
boards_of document = tables_in board_of (items_at (codes "board") document)

-- the lines of a client
abbrev pub script_of : Members → List (List ℕ)
script_of ms = texts_in (items_at (codes "script") ms)

abbrev pub scripts_of : Members → List (List (List ℕ))
scripts_of document = tables_in script_of (items_at (codes "client") document)

-- the names of the register tables, and the values that they are written as
abbrev pub tables_of : Members → Members
tables_of document = unwrap_or (option_and_then as_table (get_member (codes "tables") document)) no_members

-- The keys that the tables of a session document may have: what stands under each, whether it has to be there, and what
-- a number is where it is left out. The needed keys of a table stand in byte order. Profile.
use Rattle.std.specs.Prelude.{ℕ, Bool, true, false, if◌then◌else◌, List, [], ◌∷◌, map, codes, Option}
use Rattle.std.specs.Str.{bytes_eq}
use Rattle.std.specs.Option.{option_and_then}
use Rattle.toml.specs.Data.{Members, get_member, as_str}
use Rattle.address_table.specs.Rules.{has_key, holds_of}
use Rattle.ipb_base.specs.Lists.{first_named}
use Rattle.ipb_base.specs.Numbers.{least_mtu, greatest_mtu}
use Rattle.packet_ids.specs.declared.places.TheConstants.{IDENTIFIERS}
use Rattle.status_packet.specs.Range.{most_buffers}
use Rattle.world_model.specs.declared.settings.TheConstants.{MAX_WINDOW}
use Rattle.script_lang.specs.declared.keys.TextRule.TheVariants.{Any, Id, Link, RangeWord, Fates, Endpoint}
use Rattle.script_lang.specs.declared.keys.TableKind.{TableKind}
use Rattle.script_lang.specs.declared.keys.TableKind.TheVariants.{Board, Range, Client}
use Rattle.script_lang.specs.declared.keys.ItemKind.TheVariants as items
use Rattle.script_lang.specs.declared.keys.Kind.{Kind}
use Rattle.script_lang.specs.declared.keys.Kind.TheVariants.{Number, Text, Names, Array}

-- a key: its name, what stands under it, and whether it has to be there
pub record KeyRule : Type 0 where
  pub name : List ℕ
  pub kind : Kind
  pub is_needed : Bool

abbrev pub needed_key : List ℕ → Kind → KeyRule
needed_key name kind = record { name = name; kind = kind; is_needed = true }

abbrev pub optional : List ℕ → Kind → KeyRule
optional name kind = record { name = name; kind = kind; is_needed = false }

-- any number of 32 bits, and 0 where it is left out
abbrev pub word : Kind
word = Number 0 0xffffffff 0

-- the most rounds in which a hub waits for a board
abbrev pub most_rounds : ℕ
most_rounds = 255

-- the document itself
abbrev pub document_keys : List KeyRule
document_keys =
    optional (codes "board") (Array (items.Table Board))
    ∷ optional (codes "client") (Array (items.Table Client))
    ∷ optional (codes "format") (Number 1 2 1)
    ∷ optional (codes "rounds") (Number 1 most_rounds 8)
    ∷ optional (codes "tables") Names
    ∷ optional (codes "window") (Number 1 MAX_WINDOW 16)
    ∷ []

-- a simulated board: `fates` is empty where it is left out
abbrev pub sim_keys : List KeyRule
sim_keys =
    optional (codes "buffers") (Number 1 most_buffers 16)
    ∷ optional (codes "fates") (Text Fates)
    ∷ optional (codes "first") (Number 1 IDENTIFIERS 1)
    ∷ optional (codes "link") (Text Link)
    ∷ optional (codes "mtu") (Number least_mtu greatest_mtu 1500)
    ∷ needed_key (codes "name") (Text Id)
    ∷ optional (codes "ranges") (Array (items.Table Range))
    ∷ needed_key (codes "table") (Text Any)
    ∷ []

-- a simulated board without `fates` may have `noise`
abbrev pub sim_keys_with_noise : List KeyRule
sim_keys_with_noise = optional (codes "noise") word ∷ sim_keys

-- a board behind a UDP port
abbrev pub udp_keys : List KeyRule
udp_keys =
    needed_key (codes "address") (Text Endpoint)
    ∷ optional (codes "link") (Text Link)
    ∷ needed_key (codes "name") (Text Id)
    ∷ needed_key (codes "table") (Text Any)
    ∷ optional (codes "wait") (Number 1 10000 100)
    ∷ []

-- a range of a simulated board: `kind` is `rw` where it is left out
abbrev pub range_keys : List KeyRule
range_keys =
    needed_key (codes "base") word
    ∷ optional (codes "init") (Array items.Number)
    ∷ optional (codes "kind") (Text RangeWord)
    ∷ needed_key (codes "size") word
    ∷ []

-- a client
abbrev pub client_keys : List KeyRule
client_keys = needed_key (codes "script") (Array items.Text) ∷ []

-- a board is simulated unless its `link` is `udp`
abbrev pub is_udp : Members → Bool
is_udp ms = holds_of (bytes_eq (codes "udp")) (option_and_then as_str (get_member (codes "link") ms))

abbrev pub board_keys : Members → List KeyRule
board_keys ms = if is_udp ms then udp_keys else if has_key (codes "fates") ms then sim_keys else sim_keys_with_noise

-- the keys of a table that is an item
abbrev pub keys_of : TableKind → Members → List KeyRule
keys_of Board ms = board_keys ms
keys_of Range ms = range_keys
keys_of Client ms = client_keys

-- what stands under a key of this name, if there is one
abbrev pub kind_at : List KeyRule → List ℕ → Option Kind
kind_at keys name = first_named (map (λ (key : KeyRule). (key.name, key.kind)) keys) name

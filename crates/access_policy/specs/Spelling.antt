-- How a pattern and a rule are written, and the pattern that a text writes. Profile.
use Rattle.std.specs.Prelude.{◌≡◌, ◌≤◌, ℕ, Bool, true, false, ◌&&◌, if◌then◌else◌, List, [], ◌∷◌, ◌++◌, length, map}
use Rattle.std.specs.Prelude.{codes, decimal}
use Rattle.std.specs.Prelude.{Option, Some, None, option_map}
use Rattle.std.specs.List.{AllByRecursion, join_with_byte}
use Rattle.std.specs.Option.{option_map_or}
use Rattle.std.specs.Str.{bytes_eq}
use Rattle.address_table.specs.Rules.{is_id}
use Rattle.address_table.specs.declared.kinds.Permission.{Permission}
use Rattle.address_table.specs.declared.kinds.Permission.TheVariants.{R, W, Rw}
use Rattle.node_tree.specs.Names.{dot}
use Rattle.script_lang.specs.Texts.{◌>>=◌, cut_at}
use Rattle.access_policy.specs.declared.limits.TheConstants.{MAX_INDEX}
use Rattle.access_policy.specs.declared.policy.BoardPattern.{BoardPattern}
use Rattle.access_policy.specs.declared.policy.BoardPattern.TheVariants as boards
use Rattle.access_policy.specs.declared.policy.Effect.{Effect}
use Rattle.access_policy.specs.declared.policy.Effect.TheVariants.{Allow, Deny}
use Rattle.access_policy.specs.declared.policy.ItemPattern.{ItemPattern}
use Rattle.access_policy.specs.declared.policy.ItemPattern.TheVariants.{Any, Id, Indexed, AnyIndex}
use Rattle.access_policy.specs.declared.policy.Pattern.{Pattern}
use Rattle.access_policy.specs.declared.policy.Rule.{Rule}
use Rattle.access_policy.specs.Names.{in_brackets, index_in, index_text, parts_of}

-- ---- as written

abbrev pub board_text : BoardPattern → List ℕ
board_text boards.Any = codes "*"
board_text (boards.Named name) = name

abbrev pub item_text : ItemPattern → List ℕ
item_text Any = codes "*"
item_text (Id id) = id
item_text (Indexed id index) = id ++ index_text (Some index)
item_text (AnyIndex id) = id ++ codes "[*]"

-- the items, and `**` behind them where the rest of a name may be anything
abbrev pub item_texts : List ItemPattern → Bool → List (List ℕ)
item_texts items rest = map item_text items ++ (if rest then codes "**" ∷ [] else [])

abbrev pub pattern_text : Pattern → List ℕ
pattern_text pattern =
    board_text pattern.board ++ (codes ":" ++ join_with_byte dot (item_texts pattern.items pattern.rest))

abbrev pub effect_text : Effect → List ℕ
effect_text Allow = codes "allow"
effect_text Deny = codes "deny"

abbrev pub access_text : Permission → List ℕ
access_text R = codes "r"
access_text W = codes "w"
access_text Rw = codes "rw"

abbrev pub client_text : Option ℕ → List ℕ
client_text client = option_map_or (λ number. codes " client " ++ decimal number) client []

-- a rule in one line: `deny w b0:a`, `allow rw *:** client 2`
abbrev pub rule_text : Rule → List ℕ
rule_text rule =
    effect_text rule.effect ++ (codes " " ++ (access_text rule.access ++ (codes " "
    ++ (pattern_text rule.pattern ++ client_text rule.client))))

-- ---- as read

-- `*` or the name of a board
abbrev pub board_in : List ℕ → Option BoardPattern
board_in text =
    if bytes_eq text (codes "*") then Some boards.Any else if is_id text then Some (boards.Named text) else None

-- what brackets behind an id hold: `*` or an index
abbrev pub index_pattern : List ℕ → List ℕ → Option ItemPattern
index_pattern id inside =
    if bytes_eq inside (codes "*") then Some (AnyIndex id) else option_map (Indexed id) (index_in inside)

unfoldable pub indexed_in : List ℕ → Option ItemPattern
indexed_in text = do
  parts ← in_brackets text
  if is_id parts.0 then index_pattern parts.0 parts.1 else None

-- one item: `*`, `id`, `id[n]` or `id[*]`
abbrev pub item_in : List ℕ → Option ItemPattern
item_in text =
    if bytes_eq text (codes "*") then Some Any else if is_id text then Some (Id text) else indexed_in text

abbrev pub is_last : List (List ℕ) → Bool
is_last [] = true
is_last (part ∷ parts) = false

-- a last `**`
abbrev pub is_rest : List ℕ → List (List ℕ) → Bool
is_rest part behind = bytes_eq part (codes "**") && is_last behind

-- the items that parts of a text write, and whether a last `**` stands behind them
abbrev pub items_in_parts : List (List ℕ) → Option (List ItemPattern × Bool)
items_in_parts [] = Some ([], false)
items_in_parts (part ∷ parts) =
    if is_rest part parts then Some ([], true)
    else item_in part >>= λ item. option_map (λ more. (item ∷ more.0, more.1)) (items_in_parts parts)

abbrev pub items_in : List ℕ → Option (List ItemPattern × Bool)
items_in text = items_in_parts (parts_of text)

-- the pattern that a text writes: what its first `:` cuts off is the board, and `.` parts the items
unfoldable pub pattern_of : List ℕ → Option Pattern
pattern_of text = do
  parts ← cut_at 58 text
  board ← board_in parts.0
  items ← items_in parts.1
  Some (record { board = board; items = items.0; rest = items.1 })

-- ---- what can be written

-- a name keeps the rule of ids
abbrev pub IsBoardPattern : BoardPattern → Type 0
IsBoardPattern boards.Any = Unit {0}
IsBoardPattern (boards.Named name) = is_id name ≡ true

-- so does an id, and an index is one that a node can have
abbrev pub IsItemPattern : ItemPattern → Type 0
IsItemPattern Any = Unit {0}
IsItemPattern (Id id) = is_id id ≡ true
IsItemPattern (Indexed id index) = (is_id id ≡ true) × (index ≤ MAX_INDEX)
IsItemPattern (AnyIndex id) = is_id id ≡ true

-- and there is an item, or `**`
pub record IsPattern (pattern : Pattern) : Type 0 where
  pub board' : IsBoardPattern pattern.board
  pub items' : AllByRecursion IsItemPattern pattern.items
  pub some : pattern.rest ≡ false → 1 ≤ length pattern.items

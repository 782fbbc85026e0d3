-- A text of values is read as the tables that its lines define.
use Rattle.std.proofs.Common.{◌≡◌, ℕ, suc, ◌-◌, ◌<◌, ◌==◌, true, false, List, [], ◌∷◌, ◌++◌, length, map, Option, Some, None}
use Rattle.std.proofs.Common.{option_and_then, refl, sym, ap, ◌∙◌, subst, arith, append_assoc}
use Rattle.std.specs.List.{AllByRecursion, filter, flat_map}
use Rattle.std.proofs.lemmas.Bool.{cases_Bool}
use Rattle.std.proofs.lemmas.Bool.Decides.{nat_tests}
use Rattle.std.proofs.Common.{inl, inr}
use Rattle.toml_parser.specs.Lexical.{first, skip_blank}
use Rattle.toml_parser.proofs.LexicalLemmas.{skip_from-nil}
use Rattle.toml.specs.Data.{Data, member, no_members, table}
use Rattle.toml.specs.Parse.{line, lines, parse_document, skip_bom}
use Rattle.toml.specs.Tables.{Document, Expression, close, define, no_nodes}
use Rattle.toml.proofs.Blanks.{skip_newline, skip_within}
use Rattle.toml.proofs.ReadLines.{Turn, run}
use Rattle.toml.proofs.Turns.{lines_end, lines_more, lines_refused}
use Rattle.board_specs.specs.declared.spec.BoardSpec.{BoardSpec}
use Rattle.config_store.specs.declared.state.StateEntry.{StateEntry}
use Rattle.config_store.specs.States.{state_entries}
use Rattle.config_store.specs.Text.{heading}
use Rattle.config_laws.specs.Applied.{AreAmong}
use Rattle.config_laws.specs.ReadBack.{CanBeReadBack, CanBeSpelled, IsBareKey}
use Rattle.config_laws.specs.Saved.{entry_text, is_on, saved_text, values_text}
use Rattle.config_laws.proofs.TextNodes.{all_defined, all_lines, board_line, rooted, state_key, value_line}
use Rattle.config_laws.proofs.TextWords.{heading_turn, value_turn}

-- a text is lines of these expressions
abbrev pub SpellsLines : List Expression → List ℕ → Type 0
SpellsLines [] text = text ≡ []
SpellsLines (e ∷ es) text = (rest : List ℕ) × Turn e.0 e.1 text rest × SpellsLines es rest

read_step : (m : ℕ) (doc : Document) (x : List ℕ) (e : Expression) (after : List ℕ) (es : List Expression)
    (defined : Option Document) → defined ≡ define doc e → 0 < m → (length (skip_blank x) == 0) ≡ false
    → line (skip_blank x) ≡ Some (e, after)
    → ((next : Document) → lines (m - 1) next after ≡ option_and_then (λ n. run n es) (Some next))
    → lines m doc x ≡ option_and_then (λ n. run n es) defined
read_step m doc x e after es None same some other read more = lines_refused m doc x e after some other read (sym same)
read_step m doc x e after es (Some next) same some other read more =
    lines_more m doc next x e after some other read (sym same) ∙ more next

read_all : (es : List Expression) (text x : List ℕ) (doc : Document) (m : ℕ) → SpellsLines es text
    → skip_blank x ≡ skip_blank text → length x < m → lines m doc x ≡ run doc es
read_all [] text x doc m h skip room = lines_end m doc x (omega arith) (rw (skip, h, skip_from-nil true false) refl)
read_all (e ∷ es) text x doc m h skip room =
    let (rest, turn, more) = h in
    let (s, at_start, read, some, shorter, not_bom) = turn in
    let same : skip_blank x ≡ s = skip ∙ at_start in
    let other : (length (skip_blank x) == 0) ≡ false = rw same (grind (arith, nat_tests)) in
    let within = skip_within x in
    read_step m doc x e (10 ∷ rest) es (define doc e) refl (omega arith) other (rw same read)
    (λ next. read_all es rest (10 ∷ rest) next (m - 1) more (skip_newline rest) (omega (arith, ap length same)))

no_bom : (text : List ℕ) → (first text == 239) ≡ false → skip_bom text ≡ text
unfolding skip_bom
no_bom text h = rw h

document_read : (es : List Expression) (text : List ℕ) (doc : Document) → SpellsLines es text
    → (first text == 239) ≡ false → run (no_nodes, []) es ≡ Some doc → parse_document text ≡ Some (close doc.0)
unfolding parse_document
document_read es text doc h start ran =
    rw (no_bom text start, read_all es text text (no_nodes, []) (suc (length text)) h refl (omega arith), ran) refl

-- ---- the lines of a text of values

values_spelled : (vs : List StateEntry) → AllByRecursion CanBeSpelled vs → (es : List Expression) (rest : List ℕ)
    → SpellsLines es rest → SpellsLines (map value_line vs ++ es) (flat_map entry_text vs ++ rest)
values_spelled [] spelled es rest h = h
values_spelled (v ∷ vs) spelled es rest h =
    let more = flat_map entry_text vs ++ rest in
    subst (SpellsLines (value_line v ∷ (map value_line vs ++ es)))
    (sym (append_assoc (entry_text v) (flat_map entry_text vs) rest)) (
      more,
      value_turn v.name v.value more spelled.0.quotable spelled.0.word,
      values_spelled vs spelled.1 es rest h,
    )

spelled_on : (spec : BoardSpec) (entries : List StateEntry) → AllByRecursion CanBeSpelled entries
    → AllByRecursion CanBeSpelled (filter (is_on spec.name) entries)
spelled_on spec [] spelled = tt
spelled_on spec (e ∷ entries) spelled = elim (cases_Bool (is_on spec.name e)) [
  | inl here ↦ rw here (spelled.0, spelled_on spec entries spelled.1)
  | inr away ↦ rw away (spelled_on spec entries spelled.1)
]

boards_spelled : (specs : List BoardSpec) (entries : List StateEntry)
    → AllByRecursion (λ (spec : BoardSpec). IsBareKey spec.name) specs → AllByRecursion CanBeSpelled entries
    → SpellsLines (all_lines entries specs) (saved_text specs entries)
boards_spelled [] entries bare spelled = refl
boards_spelled (s ∷ specs) entries bare spelled =
    let mine = filter (is_on s.name) entries in
    let later = saved_text specs entries in
    let rest = values_text entries s.name ++ later in
    subst (SpellsLines (board_line s.name ∷ (map value_line mine ++ all_lines entries specs)))
    (sym (append_assoc (heading s.name) (values_text entries s.name) later)) (
      rest,
      heading_turn s.name rest bare.0,
      values_spelled mine (spelled_on s entries spelled) (all_lines entries specs) later
          (boards_spelled specs entries bare.1 spelled),
    )

starts_plain : (specs : List BoardSpec) (entries : List StateEntry) → (first (saved_text specs entries) == 239) ≡ false
starts_plain [] entries = refl
starts_plain (s ∷ specs) entries = refl

pub read_back : (specs : List BoardSpec) (entries : List StateEntry) → CanBeReadBack specs entries
    → (value : Data) × (parse_document (saved_text specs entries) ≡ Some (member state_key value no_members))
    × AreAmong entries (state_entries value)
read_back specs entries is =
    let all = all_defined specs entries is.some is.own is.apart is.spelled is.on in (
      table (close all.nodes),
      document_read (all_lines entries specs) (saved_text specs entries) (rooted all.nodes, all.last)
          (boards_spelled specs entries is.boards is.spelled) (starts_plain specs entries) all.runs,
      all.each,
    )

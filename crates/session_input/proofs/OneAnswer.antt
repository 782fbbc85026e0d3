-- A session has one answer to a command.
use Rattle.std.proofs.Common.{◌≡◌, ◌⊎◌, ℕ, List, [], ◌∷◌, Option, Some, None, inl, inr, refl, sym}
use Rattle.std.proofs.Common.{ap, subst, ◌∙◌, slice_get}
use Rattle.std.specs.List.{AllByRecursion, AllZip}
use Rattle.access_policy.specs.Decisions.{names_of, ruled_scripts}
use Rattle.access_policy.specs.declared.policy.Rule.{Rule}
use Rattle.board_bus.specs.declared.range.BusRefusal.{BusRefusal}
use Rattle.board_bus.specs.Ranges.{refusal_of}
use Rattle.board_specs.specs.declared.spec.BoardSpec.{BoardSpec}
use Rattle.node_tree.specs.declared.refusal.CompileWhy.{CompileWhy}
use Rattle.node_tree.specs.declared.refusal.CompileRefusal.TheVariants.{At}
use Rattle.node_tree.specs.Maps.{Name, TableMap, RegisterMap}
use Rattle.node_tree.specs.Refusals.{KeepsRules, IsRefusal}
use Rattle.script_steps.specs.declared.operation.Step.{Step}
use Rattle.script_lang.specs.declared.script_refusal.ScriptWhy.{ScriptWhy}
use Rattle.script_lang.specs.declared.session.Session.{Session}
use Rattle.script_lang.specs.Scripts.{LineFault, script_faults, steps_of}
use Rattle.session_input.specs.declared.refusal.Refusal.{Refusal}
use Rattle.session_input.specs.declared.refusal.Refusal.TheVariants.{TooLong, Document, Table, Policy, NoServe}
use Rattle.session_input.specs.declared.refusal.Refusal.TheVariants.{OneBoard, NotSim, Compile, Board, Script}
use Rattle.session_input.specs.Below.{TableLaws}
use Rattle.session_input.specs.Deserved.{IsToldFirst, ranges_of, Compiles, HasIndex, HasBus, AreCompiled}
use Rattle.session_input.specs.Deserved.{AreSteps}
use Rattle.session_input.specs.Deserved.{TellsCompile, TellsBus, TellsLine, BreaksBuses}
use Rattle.session_input.specs.Deserved.{BreaksScripts}
use Rattle.session_input.specs.Deserved.{BreaksInRun, BreaksInServe}

-- ---- the first board that is not right

pub all_right : (Right Told : BoardSpec → Type 0) → ((b : BoardSpec) → Right b → Told b → ⊥) → (bs : List BoardSpec)
    → AllByRecursion Right bs → IsToldFirst Right Told bs → ⊥
all_right Right Told apart [] right first = first
all_right Right Told apart (b ∷ bs) right (inl told) = apart b right.0 told
all_right Right Told apart (b ∷ bs) right (inr later) = all_right Right Told apart bs right.1 later.1

pub one_told : (Right Told Told' : BoardSpec → Type 0) (C : Type 0)
    → ((b : BoardSpec) → Right b → Told b → ⊥) → ((b : BoardSpec) → Right b → Told' b → ⊥)
    → ((b : BoardSpec) → Told b → Told' b → C)
    → (bs : List BoardSpec) → IsToldFirst Right Told bs → IsToldFirst Right Told' bs → C
one_told Right Told Told' C apart apart' same [] first second = absurd first
one_told Right Told Told' C apart apart' same (b ∷ bs) (inl told) (inl told') = same b told told'
one_told Right Told Told' C apart apart' same (b ∷ bs) (inl told) (inr later) = absurd (apart b later.0 told)
one_told Right Told Told' C apart apart' same (b ∷ bs) (inr later) (inl told) = absurd (apart' b later.0 told)
one_told Right Told Told' C apart apart' same (b ∷ bs) (inr later) (inr later') =
    one_told Right Told Told' C apart apart' same bs later.1 later'.1

-- ---- one rule of one board, table or line

same_some : {A : Type 0} (o : Option A) (x y : A) → o ≡ Some x → o ≡ Some y → x ≡ y
same_some o x y a b = cc

not_none : {A : Type 0} (o : Option A) (x : A) → o ≡ None → o ≡ Some x → ⊥
not_none o x a b = cc

-- what a refusal is that tells one
pub record IsOfBus (b : BoardSpec) (r : Refusal) : Type 0 where
  pub why : BusRefusal
  pub is : r ≡ Board b.name why
  pub of : refusal_of (ranges_of b.link) ≡ Some why

of_bus : (b : BoardSpec) (r : Refusal) → TellsBus b r → IsOfBus b r
of_bus b (Board name why) told = record { why = why; is = ap (λ n. Board n why) told.0; of = told.1 }
of_bus b TooLong told = absurd told
of_bus b (Document path why) told = absurd told
of_bus b (Table table path why) told = absurd told
of_bus b (Policy path) told = absurd told
of_bus b NoServe told = absurd told
of_bus b OneBoard told = absurd told
of_bus b (NotSim name) told = absurd told
of_bus b (Compile table path why) told = absurd told
of_bus b (Script client line why) told = absurd told

pub record IsOfTable (tables : TableMap) (root : Name) (r : Refusal) : Type 0 where
  pub name : Name
  pub path : Name
  pub why : CompileWhy
  pub is : r ≡ Compile name path why
  pub of : IsRefusal tables root (At name path why)

pub of_table : (tables : TableMap) (root : Name) (r : Refusal) → TellsCompile tables root r → IsOfTable tables root r
of_table tables root (Compile name path why) told = record { name = name; path = path; why = why; is = refl; of = told }
of_table tables root TooLong told = absurd told
of_table tables root (Document path why) told = absurd told
of_table tables root (Table table path why) told = absurd told
of_table tables root (Policy path) told = absurd told
of_table tables root NoServe told = absurd told
of_table tables root OneBoard told = absurd told
of_table tables root (NotSim name) told = absurd told
of_table tables root (Board name why) told = absurd told
of_table tables root (Script client line why) told = absurd told

pub record IsOfLine (faults : List LineFault) (r : Refusal) : Type 0 where
  pub client : ℕ
  pub line : ℕ
  pub why : ScriptWhy
  pub is : r ≡ Script client line why
  pub of : slice_get faults 0 ≡ Some (client, line, why)

of_line : (faults : List LineFault) (r : Refusal) → TellsLine faults r → IsOfLine faults r
of_line faults (Script client line why) told = record { client = client; line = line; why = why; is = refl; of = told }
of_line faults TooLong told = absurd told
of_line faults (Document path why) told = absurd told
of_line faults (Table table path why) told = absurd told
of_line faults (Policy path) told = absurd told
of_line faults NoServe told = absurd told
of_line faults OneBoard told = absurd told
of_line faults (NotSim name) told = absurd told
of_line faults (Compile table path why) told = absurd told
of_line faults (Board name why) told = absurd told

pub bus_apart : (r : Refusal) (b : BoardSpec) → HasBus b → TellsBus b r → ⊥
bus_apart r b right told = let o = of_bus b r told in not_none (refusal_of (ranges_of b.link)) o.why right o.of

pub same_bus : (r q : Refusal) (b : BoardSpec) → TellsBus b r → TellsBus b q → r ≡ q
same_bus r q b first second =
    let o = of_bus b r first in
    let p = of_bus b q second in
    o.is ∙ (ap (λ why. Board b.name why) (same_some (refusal_of (ranges_of b.link)) o.why p.why o.of p.of) ∙ sym p.is)

pub same_line : (faults : List LineFault) (r q : Refusal) → TellsLine faults r → TellsLine faults q → r ≡ q
same_line faults r q first second =
    let o = of_line faults r first in
    let p = of_line faults q second in
    let same : (o.client, o.line, o.why) ≡ (p.client, p.line, p.why) = same_some (slice_get faults 0) _ _ o.of p.of in
    o.is ∙ (ap (λ (f : LineFault). Script f.0 f.1 f.2) same ∙ sym p.is)

pub no_line : (faults : List LineFault) (r : Refusal) → faults ≡ [] → TellsLine faults r → ⊥
no_line faults r none told =
    let o = of_line faults r told in
    not_none (slice_get faults 0) (o.client, o.line, o.why) (ap (λ fs. slice_get fs 0) none) o.of

module _ (laws : TableLaws) where
  pub table_apart : (tables : TableMap) (root : Name) (r : Refusal) → KeepsRules tables root
      → TellsCompile tables root r → ⊥
  table_apart tables root r kept told =
      let o = of_table tables root r told in laws.not_refused tables root o.name o.path o.why kept o.of

  pub same_table : (tables : TableMap) (root : Name) (r q : Refusal) → TellsCompile tables root r
      → TellsCompile tables root q → r ≡ q
  same_table tables root r q first second =
      let o = of_table tables root r first in
      let p = of_table tables root q second in
      let same = laws.one_refusal tables root o.name p.name o.path p.path o.why p.why o.of p.of in
      let name = same.0 in
      let path = same.1 in
      let why = same.2 in
      let is = o.is in
      let other = p.is in
      cc

  same_indexes : (tables : TableMap) (bs : List BoardSpec) (xs ys : List RegisterMap)
      → AllZip (HasIndex tables) bs xs → AllZip (HasIndex tables) bs ys → xs ≡ ys
  same_indexes tables [] [] [] one other = refl
  same_indexes tables [] [] (y ∷ ys) one other = absurd other
  same_indexes tables [] (x ∷ xs) ys one other = absurd one
  same_indexes tables (b ∷ bs) [] ys one other = absurd one
  same_indexes tables (b ∷ bs) (x ∷ xs) [] one other = absurd other
  same_indexes tables (b ∷ bs) (x ∷ xs) (y ∷ ys) one other =
      let first = laws.one_index tables b.table x y one.0 other.0 in
      let rest = same_indexes tables bs xs ys one.1 other.1 in
      cc

  -- ---- one session

  module _ (s : Session) where
    later_compiled : (r : Refusal) → BreaksBuses s r ⊎ BreaksScripts s r → AllByRecursion (Compiles s.tables) s.boards
    later_compiled r (inl b) = b.compiled.compile
    later_compiled r (inr c) = c.boards.compiled.compile

    abbrev faults_of : List RegisterMap → List LineFault
    faults_of indexes = script_faults s.boards indexes s.scripts

    pub one_indexes : (xs ys : List RegisterMap) → AreCompiled s xs → AreCompiled s ys → xs ≡ ys
    one_indexes xs ys one other = same_indexes s.tables s.boards xs ys one.each_index other.each_index

    not_faulty : (r : Refusal) (policy : Option (List Rule)) (steps : List (List Step)) → BreaksScripts s r
        → AreSteps s policy steps → ⊥
    not_faulty r policy steps c d =
        let same = one_indexes c.indexes d.registers c.boards.compiled d.boards.compiled in
        no_line (faults_of c.indexes) r (ap faults_of same ∙ d.faultless) c.first

    last : (r q : Refusal) → BreaksScripts s r → BreaksScripts s q → r ≡ q
    last r q c e =
        let same = one_indexes e.indexes c.indexes e.boards.compiled c.boards.compiled in
        same_line (faults_of c.indexes) r q c.first (subst (λ xs. TellsLine (faults_of xs) q) same e.first)

    after : (r q : Refusal) → BreaksBuses s r ⊎ BreaksScripts s r → BreaksBuses s q ⊎ BreaksScripts s q → r ≡ q
    after r q (inl b) (inl e) =
        one_told HasBus (λ board. TellsBus board r) (λ board. TellsBus board q) (r ≡ q) (bus_apart r) (bus_apart q)
        (same_bus r q) s.boards b.first e.first
    after r q (inl b) (inr later) =
        absurd (all_right HasBus (λ board. TellsBus board r) (bus_apart r) s.boards later.boards.buses b.first)
    after r q (inr later) (inl b) =
        absurd (all_right HasBus (λ board. TellsBus board q) (bus_apart q) s.boards later.boards.buses b.first)
    after r q (inr x) (inr y) = last r q x y

    apart : (r : Refusal) (b : BoardSpec) → Compiles s.tables b → TellsCompile s.tables b.table r → ⊥
    apart r b kept told = table_apart s.tables b.table r kept told

    pub one_break : (policy : Option (List Rule)) (r q : Refusal) → BreaksInRun s policy r → BreaksInRun s policy q
        → r ≡ q
    one_break policy r q (inl a) (inl e) =
        one_told (Compiles s.tables) (λ b. TellsCompile s.tables b.table r) (λ b. TellsCompile s.tables b.table q)
        (r ≡ q) (apart r) (apart q)
        (λ b. same_table s.tables b.table r q) s.boards a e
    one_break policy r q (inl a) (inr later) =
        absurd (all_right (Compiles s.tables) (λ b. TellsCompile s.tables b.table r) (apart r) s.boards
        (later_compiled q later) a)
    one_break policy r q (inr later) (inl a) =
        absurd (all_right (Compiles s.tables) (λ b. TellsCompile s.tables b.table q) (apart q) s.boards
        (later_compiled r later) a)
    one_break policy r q (inr x) (inr y) = after r q x y

    pub runs_unbroken : (policy : Option (List Rule)) (r : Refusal) (steps : List (List Step)) → AreSteps s policy steps
        → BreaksInRun s policy r → ⊥
    runs_unbroken policy r steps runs (inl a) =
        all_right (Compiles s.tables) (λ b. TellsCompile s.tables b.table r)
        (apart r) s.boards runs.boards.compiled.compile a
    runs_unbroken policy r steps runs (inr (inl b)) =
        all_right HasBus (λ board. TellsBus board r) (bus_apart r) s.boards runs.boards.buses b.first
    runs_unbroken policy r steps runs (inr (inr c)) = not_faulty r policy steps c runs

    pub one_serve_break : (policy : Option (List Rule)) (r q : Refusal) → BreaksInServe s policy r
        → BreaksInServe s policy q → r ≡ q
    one_serve_break (Some rules) r q first second = first ∙ sym second
    one_serve_break None r q first second = one_break None r q first second

    pub one_steps : (policy : Option (List Rule)) (steps more : List (List Step)) → AreSteps s policy steps
        → AreSteps s policy more → steps ≡ more
    one_steps policy steps more one other =
        let same = one_indexes one.registers other.registers one.boards.compiled other.boards.compiled in
        one.meant
        ∙ (ap (λ xs. ruled_scripts policy (names_of s.boards) (steps_of s.boards xs s.scripts)) same ∙ sym other.meant)

-- Sessions that are the same, node for node, keep the same rules.
use Rattle.std.proofs.Common.{List, [], ◌∷◌, Option, Some, None, inl, inr, sym}
use Rattle.std.proofs.Common.{subst}
use Rattle.std.specs.List.{AllByRecursion, AllZip}
use Rattle.std.specs.FinMap.{get}
use Rattle.access_policy.specs.declared.policy.Rule.{Rule}
use Rattle.address_table.specs.declared.nodes.Table.{Table}
use Rattle.board_specs.specs.declared.spec.BoardSpec.{BoardSpec}
use Rattle.node_tree.specs.declared.refusal.CompileRefusal.TheVariants.{At}
use Rattle.node_tree.specs.Maps.{Name, RegisterMap}
use Rattle.node_tree.specs.Names.{IsIndexOf}
use Rattle.node_tree.specs.Same.{SameFound, SameTables}
use Rattle.script_steps.specs.declared.operation.Step.{Step}
use Rattle.script_lang.specs.declared.session.Session.{Session}
use Rattle.script_lang.specs.Document.{SameSession, SameTableAt}
use Rattle.session_input.specs.declared.refusal.Refusal.{Refusal}
use Rattle.session_input.specs.Below.{TableLaws}
use Rattle.session_input.specs.Deserved.{IsToldFirst, Compiles, HasIndex, AreCompiled, HaveBuses, AreSteps}
use Rattle.session_input.specs.Deserved.{TellsCompile}
use Rattle.session_input.specs.Deserved.{BreaksInRun, BreaksInServe}
use Rattle.session_input.proofs.OneAnswer.{of_table}

found_same : (o p : Option Table) → SameTableAt o p → SameFound o p
found_same None None same = tt
found_same None (Some u) same = absurd same
found_same (Some t) None same = absurd same
found_same (Some t) (Some u) same = same

pub first_moved : (Right Right' Told Told' : BoardSpec → Type 0) → ((b : BoardSpec) → Right b → Right' b)
    → ((b : BoardSpec) → Told b → Told' b)
    → (bs : List BoardSpec) → IsToldFirst Right Told bs → IsToldFirst Right' Told' bs
first_moved Right Right' Told Told' right told [] first = first
first_moved Right Right' Told Told' right told (b ∷ bs) (inl here) = inl (told b here)
first_moved Right Right' Told Told' right told (b ∷ bs) (inr later) =
    inr (right b later.0, first_moved Right Right' Told Told' right told bs later.1)

all_moved : (P Q : BoardSpec → Type 0) → ((b : BoardSpec) → P b → Q b) → (bs : List BoardSpec) → AllByRecursion P bs
    → AllByRecursion Q bs
all_moved P Q gives [] all = tt
all_moved P Q gives (b ∷ bs) all = (gives b all.0, all_moved P Q gives bs all.1)

zip_moved : (P Q : BoardSpec → RegisterMap → Type 0) → ((b : BoardSpec) (x : RegisterMap) → P b x → Q b x)
    → (bs : List BoardSpec) (xs : List RegisterMap) → AllZip P bs xs → AllZip Q bs xs
zip_moved P Q gives [] [] all = tt
zip_moved P Q gives [] (x ∷ xs) all = absurd all
zip_moved P Q gives (b ∷ bs) [] all = absurd all
zip_moved P Q gives (b ∷ bs) (x ∷ xs) all = (gives b x all.0, zip_moved P Q gives bs xs all.1)

-- what holds of the second session holds of the first
module _ (laws : TableLaws) (s t : Session) (same : SameSession s t) where
  same_tables : SameTables s.tables t.tables
  same_tables name = found_same (get s.tables name) (get t.tables name) (same.tables name)

  pub kept_moved : (b : BoardSpec) → Compiles t.tables b → Compiles s.tables b
  kept_moved b kept = (laws.same_kept s.tables t.tables b.table same_tables).1 kept

  index_moved : (b : BoardSpec) (x : RegisterMap) → HasIndex t.tables b x → HasIndex s.tables b x
  index_moved b x index = (laws.same_index s.tables t.tables b.table x same_tables).1 index

  pub root_moved : (root : Name) (x : RegisterMap) → IsIndexOf t.tables root x → IsIndexOf s.tables root x
  root_moved root x index = (laws.same_index s.tables t.tables root x same_tables).1 index

  pub told_moved : (root : Name) (r : Refusal) → TellsCompile t.tables root r → TellsCompile s.tables root r
  told_moved root r told =
      let o = of_table t.tables root r told in
      subst (TellsCompile s.tables root) (sym o.is)
      ((laws.same_refused s.tables t.tables root (At o.name o.path o.why) same_tables).1 o.of)

  pub compiled_moved : (xs : List RegisterMap) → AreCompiled t xs → AreCompiled s xs
  compiled_moved xs c = record {
    compile = rw same.boards (all_moved (Compiles t.tables) (Compiles s.tables) kept_moved t.boards c.compile);
    each_index =
        rw same.boards (zip_moved (HasIndex t.tables) (HasIndex s.tables) index_moved t.boards xs c.each_index);
  }

  pub buses_moved : (xs : List RegisterMap) → HaveBuses t xs → HaveBuses s xs
  buses_moved xs c = record { compiled = compiled_moved xs c.compiled; buses = rw same.boards c.buses }

  pub steps_moved : (policy : Option (List Rule)) (steps : List (List Step)) → AreSteps t policy steps
      → AreSteps s policy steps
  steps_moved policy steps a = record {
    registers = a.registers;
    boards = buses_moved a.registers a.boards;
    faultless = rw (same.boards, same.scripts) a.faultless;
    meant = rw (same.boards, same.scripts) a.meant;
  }

  pub break_moved : (policy : Option (List Rule)) (r : Refusal) → BreaksInRun t policy r → BreaksInRun s policy r
  break_moved policy r (inl a) =
      inl (rw same.boards
      (first_moved (Compiles t.tables) (Compiles s.tables) (λ b. TellsCompile t.tables b.table r)
      (λ b. TellsCompile s.tables b.table r)
      kept_moved (λ b told. told_moved b.table r told) t.boards a))
  break_moved policy r (inr (inl b)) =
      inr (inl (record {
        indexes = b.indexes;
        compiled = compiled_moved b.indexes b.compiled;
        first = rw same.boards b.first;
      }))
  break_moved policy r (inr (inr c)) =
      inr (inr (record {
        indexes = c.indexes;
        boards = buses_moved c.indexes c.boards;
        first = rw (same.boards, same.scripts) c.first;
      }))

  pub serve_moved : (policy : Option (List Rule)) (r : Refusal) → BreaksInServe t policy r → BreaksInServe s policy r
  serve_moved (Some rules) r broken = broken
  serve_moved None r broken = break_moved None r broken

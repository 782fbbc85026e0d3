use Rattle.std.proofs.Common.{◌≡◌, ◌≢◌, Some, None, map, take, subst, sym, ap, ◌∙◌, rules, arith}
use Rattle.std.specs.List.{slice_get}
use Rattle.std.specs.Option.{unwrap_or}
use Rattle.std.proofs.lemmas.List.{take_all, length-map}
use Rattle.std.proofs.lemmas.Option.{same_Some}
use denote.Enum.Bare.{differs_false, differs_true}
use Rattle.run_audit.specs.contracts.fate.Fate.{the_type}
use Rattle.run_audit.specs.declared.fate.Fate.{Fate}
use Rattle.run_audit.specs.Apart.{Body, body_in, fate_of}
use Rattle.run_audit.specs.Steps.{asking}
use Rattle.run_audit.proofs.ApartLines.{IsTold, apart_found, apart_none, fate_told, told_more, told_past}
use Rattle.run_audit.proofs.Misplacing.{take_next}
use Rattle.run_audit.proofs.Walking.{read_here}
use Rattle.run_audit.proofs.apart.first_apart.Goals as goal

pub loop-ask-preserved-in_default : goal.loop-ask-preserved-in_default
loop-ask-preserved-in_default c =
    let lines = map asking c.args.asked.now in
    let i = c.loop-ask.ask-index in
    let line = asking c.ask-item.result in
    let at : slice_get lines i ≡ Some line =
    read_here asking c.args.asked.now i c.ask-item.result c.loop-ask-test.true c.ask-item.is in
    let none : body_in c.args.runs.now line ≡ None = search rules in
    record {
      told = subst (IsTold (body_in c.args.runs.now) c.loop-ask.told) (sym (take_next lines i line at))
          (told_past (body_in c.args.runs.now) c.loop-ask.told (take i lines) line c.loop-ask.invariant.told none);
      last' = c.loop-ask.invariant.last';
    }

pub returns-then-ne : goal.returns-then-ne
returns-then-ne c = λ shown are.
    let lines = map asking c.args.asked.now in
    let i = c.loop-ask.ask-index in
    let line = asking c.ask-item.result in
    let at : slice_get lines i ≡ Some line =
    read_here asking c.args.asked.now i c.ask-item.result c.loop-ask-test.true c.ask-item.is in
    let body : body_in c.args.runs.now line ≡ Some c.in-Some.body = search rules in
    let fate : c.fate_in-fate.result ≡ fate_told line = search rules in
    let first : c.in_ok-first_told.field-0 ≡ unwrap_or (fate_of c.loop-ask.told c.in-Some.body) (fate_told line) =
    c.in_ok-first_told.ensures.first ∙ ap (unwrap_or (fate_of c.loop-ask.told c.in-Some.body)) fate in
    let apart : c.in_ok-first_told.field-0 ≢ fate_told line =
    λ same. differs_true the_type c.in_ok-first_told.field-0 c.fate_in-fate.result (sym c.ne.ensures ∙ c.if-ne.true)
    (same ∙ sym fate) in
    apart_found c.args.session.now.boards c.args.scripts.now shown c.args.runs.now lines are c.loop-ask.told i line at
    c.loop-ask.invariant.told c.in-Some.body body c.in_ok-first_told.field-0 first apart

pub loop-ask-preserved : goal.loop-ask-preserved
loop-ask-preserved c =
    let lines = map asking c.args.asked.now in
    let i = c.loop-ask.ask-index in
    let line = asking c.ask-item.result in
    let at : slice_get lines i ≡ Some line =
    read_here asking c.args.asked.now i c.ask-item.result c.loop-ask-test.true c.ask-item.is in
    let body : body_in c.args.runs.now line ≡ Some c.in-Some.body = search rules in
    let fate : c.fate_in-fate.result ≡ fate_told line = search rules in
    let first : c.in_ok-first_told.field-0 ≡ unwrap_or (fate_of c.loop-ask.told c.in-Some.body) (fate_told line) =
    c.in_ok-first_told.ensures.first ∙ ap (unwrap_or (fate_of c.loop-ask.told c.in-Some.body)) fate in
    let same : c.in_ok-first_told.field-0 ≡ fate_told line =
    differs_false the_type (search rules) c.in_ok-first_told.field-0 c.fate_in-fate.result
    (sym c.ne.ensures ∙ c.if-ne.false)
    ∙ fate in
    record {
      told = subst (IsTold (body_in c.args.runs.now) c.first_told.new.told) (sym (take_next lines i line at))
          (told_more (body_in c.args.runs.now) c.loop-ask.told (take i lines) line c.loop-ask.invariant.told c.in-Some.body
          body c.in_ok-first_told.field-0 first c.first_told.new.told same c.in_ok-first_told.ensures.here
          c.in_ok-first_told.ensures.others);
      last' = λ last is.
          subst (λ (l : Body × Fate). fate_of c.first_told.new.told l.0 ≡ Some l.1)
          (same_Some (c.in-Some.body, c.fate_in-fate.result) last is)
          (c.in_ok-first_told.ensures.here ∙ ap Some (same ∙ sym fate));
    }

pub returns : goal.returns
returns c = λ shown are.
    let lines = map asking c.args.asked.now in
    let i = c.loop-ask.ask-index in
    let whole : take i lines ≡ lines =
    take_all i lines (omega (arith, length-map c.args.asked.now asking, c.loop-ask-test.false)) in
    apart_none c.args.session.now.boards c.args.scripts.now shown c.args.runs.now lines are c.loop-ask.told
    (subst (IsTold (body_in c.args.runs.now) c.loop-ask.told) whole c.loop-ask.invariant.told)

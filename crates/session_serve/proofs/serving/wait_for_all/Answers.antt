use Rattle.std.proofs.Common.{◌∙◌, ◌∷◌, ◌++◌, [], ap, append_assoc, length-append, subst, sym, arith}
use Rattle.std.proofs.lemmas.Grind.{common_steps}
use Rattle.std.specs.List.{AllZip}
use Rattle.ipb_outside.specs.Pairs.{pair_shown}
use Rattle.session_serve.specs.Seats.{IsDoneOf}
use Rattle.session_serve.proofs.Lists.{zip_push}
use Rattle.session_serve.proofs.serving.wait_for_all.Goals as goal

pub loop-one-preserved : goal.loop-one-preserved
loop-one-preserved g c =
    let i = c.loop-one.invariant in
    let one = c.in-Some.one in
    let yielded = c.loop-one.yielded in
    let rest = c.next.new.self.rest.items in
    let shows = pair_shown g.S.Source g.O.Sink in
    let longer = length-append yielded (one ∷ []) in
    let many = i.so_many in
    let len = c.push_reserved.ensures.len in
    record {
      all = append_assoc yielded (one ∷ []) rest
          ∙ (ap (λ l. yielded ++ l) (sym c.in-Some.ensures.steps.0) ∙ i.all);
      done' = subst (AllZip (IsDoneOf shows) (yielded ++ one ∷ [])) (sym c.push_reserved.ensures.items)
          (zip_push (IsDoneOf shows) yielded c.loop-one.done.items one c.finish.result i.done' c.finish.ensures);
      room = c.push_reserved.ensures.capacity ∙ i.room;
      so_many = omega (arith, longer, many, len);
    }

pub loop-one-init : goal.loop-one-init
loop-one-init g c = grind (arith, common_steps)

pub push_reserved-requires : goal.push_reserved-requires
push_reserved-requires g c = grind (arith, common_steps)

pub returns : goal.returns
returns g c = grind (arith, common_steps)

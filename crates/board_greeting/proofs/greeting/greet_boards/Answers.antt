use Rattle.std.proofs.Common.{◌≤◌, ◌∙◌, ◌++◌, [], ap, append-nil, map, refl, subst, sym}
use Rattle.ipb_base.specs.Faults.{Rose}
use Rattle.board_greeting.specs.Boards.{HasRoom}
use Rattle.board_greeting.specs.Standings.{links_in}
use Rattle.board_greeting.specs.Reports.{shown_by}
use Rattle.board_greeting.proofs.Boards.{fresh_links, made_still, none_made}
use Rattle.board_greeting.proofs.greeting.greet_boards.Goals as goal

pub returns-in_default-clause-left : goal.returns-in_default-clause-left
returns-in_default-clause-left g c = (
  [],
  sym (append-nil (g.R.Rack.kept c.args.rack.now)),
  (tt, none_made c.args.specs.now (g.R.Rack.made c.args.rack.now)),
)

pub keep_all-requires-clause-room : goal.keep_all-requires-clause-room
keep_all-requires-clause-room g c κs within =
    let boards = c.greet_into.new.boards.items in
    subst (HasRoom g.R.Rack c.greet_into.new.rack) (sym (fresh_links (shown_by g.R.L.Link) c.args.settings
    c.args.specs.now boards c.greet_into.ensures.fresh).1) c.greet_into.ensures.room

pub returns-in-Err-clause-left : goal.returns-in-Err-clause-left
returns-in-Err-clause-left g c =
    let boards = c.greet_into.new.boards.items in
    let links = links_in boards in
    let shows = shown_by g.R.L.Link in
    let fresh = fresh_links shows c.args.settings c.args.specs.now boards c.greet_into.ensures.fresh in (
      links,
      c.keep_all.ensures.kept ∙ ap (λ kept. kept ++ links) c.greet_into.ensures.kept,
      (
        fresh.0,
        made_still c.args.specs.now (map shows links) (map shows links) (g.R.Rack.made c.args.rack.now)
            (g.R.Rack.made c.greet_into.new.rack) (g.R.Rack.made c.keep_all.new.rack) c.greet_into.ensures.made refl
            c.keep_all.ensures.made,
      ),
    )

pub returns-in-Ok-greet_into-clause-room : goal.returns-in-Ok-greet_into-clause-room
returns-in-Ok-greet_into-clause-room g c =
    subst (HasRoom g.R.Rack c.greet_into.new.rack) c.in-Ok-greet_into.ensures.all c.greet_into.ensures.room

pub returns-in-Ok-greet_into-clause-faults : goal.returns-in-Ok-greet_into-clause-faults
returns-in-Ok-greet_into-clause-faults g c =
    let faults = c.in-Ok-greet_into.ensures.faults in (λ e. faults.0 cc, faults.1, λ _. faults.2 (λ e. cc))

pub returns-in-Err-clause-faults : goal.returns-in-Err-clause-faults
returns-in-Err-clause-faults g c =
    let before = g.R.Rack.faults c.args.rack.now in
    let faults = c.in-Err.ensures.faults in
    let still = c.keep_all.ensures.faults in (
      λ e. subst (Rose before) (sym still) (faults.0 cc),
      subst (λ now. before ≤ now) (sym still) faults.1,
      λ other. still ∙ faults.2 (λ e. other cc),
    )

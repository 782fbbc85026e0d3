use Rattle.std.proofs.Common.{◌∙◌, ap, subst, sym}
use Rattle.board_greeting.proofs.Boards.{can_begin_here, is_reached}
use Rattle.hub_lane.specs.Greeting.{IsUnused}
use Rattle.record_command.specs.Traffic.{Tapped}
use Rattle.record_command.specs.Taps.{tap_ghosts}
use Rattle.record_command.proofs.Tapped.{unused_for}
use Rattle.record_command.proofs.record.greet_tapped.Goals as goal

pub new-requires-clause-told : goal.new-requires-clause-told
new-requires-clause-told g c = unused_for c.args.spec.now.link (g.R.L.Link.telling c.in_ok-link.link) c.in_ok-link.ensures.told

pub greet-requires-clause-unused : goal.greet-requires-clause-unused
greet-requires-clause-unused g c =
    subst (IsUnused (tap_ghosts g.R.L.Link)) (sym c.new.ensures) (record {
      no_faults = c.in_ok-link.ensures.no_faults;
      no_quiets = c.in_ok-link.ensures.no_quiets;
      no_gots = c.in_ok-link.ensures.no_gots;
      none_held = c.in_ok-link.ensures.none_held;
      no_traffic = c.in_ok-link.ensures.no_traffic;
    })

pub greet-requires-clause-begins : goal.greet-requires-clause-begins
greet-requires-clause-begins g c =
    can_begin_here c.words_stay_words.ensures.opening c.args.settings c.args.spec.now.link
    (g.R.L.Link.telling c.new.result.link) c.window-window.ensures.range c.requires.reached.made
    c.requires.reached.words
    (ap (λ (tap : Tapped _). g.R.L.Link.telling tap.link) c.new.ensures ∙ c.in_ok-link.ensures.told)

pub returns-clause-reached : goal.returns-clause-reached
returns-clause-reached g c =
    is_reached (tap_ghosts g.R.L.Link) c.args.settings c.args.spec.now c.new.result c.greet.result
    (ap (λ (tap : Tapped _). g.R.L.Link.telling tap.link) c.new.ensures ∙ c.in_ok-link.ensures.told)
    c.greet.ensures.fresh c.greet.ensures.ready c.greet.ensures.told c.greet.ensures.silent c.greet.ensures.silent_told
    c.greet.ensures.none_told c.greet.ensures.down_none_told c.greet.ensures.silent_asked c.greet.ensures.down_asked
    c.greet.ensures.down

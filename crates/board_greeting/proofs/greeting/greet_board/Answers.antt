use Rattle.board_greeting.proofs.Boards.{can_begin_here, is_reached}
use Rattle.board_greeting.proofs.greeting.greet_board.Goals as goal

pub greet-requires-clause-begins : goal.greet-requires-clause-begins
greet-requires-clause-begins g c =
    can_begin_here c.words_stay_words.ensures.opening c.args.settings c.args.spec.now.link
    (g.R.L.Link.telling c.in_ok-link.link) c.window-window.ensures.range c.requires.reached.made
    c.requires.reached.words
    c.in_ok-link.ensures.told

pub returns-clause-reached : goal.returns-clause-reached
returns-clause-reached g c =
    is_reached g.R.L.Link c.args.settings c.args.spec.now c.in_ok-link.link c.greet.result c.in_ok-link.ensures.told
    c.greet.ensures.fresh c.greet.ensures.ready c.greet.ensures.told c.greet.ensures.silent c.greet.ensures.silent_told
    c.greet.ensures.none_told c.greet.ensures.down_none_told c.greet.ensures.silent_asked c.greet.ensures.down_asked
    c.greet.ensures.down

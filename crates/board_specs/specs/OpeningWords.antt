-- What holds of the ranges that the boards of a session open with. Profile.
use Rattle.std.specs.List.{AllByRecursion}
use Rattle.ipb_base.specs.Word.{AreWords}
use Rattle.board_bus.specs.declared.range.Range.{Range}
use Rattle.board_specs.specs.declared.spec.BoardSpec.{BoardSpec}
use Rattle.board_specs.specs.declared.spec.LinkSpec.{LinkSpec}
use Rattle.board_specs.specs.declared.spec.LinkSpec.TheVariants.{Sim, Udp}

-- the words that the ranges of a simulated board name have 32 bits
abbrev pub NamesWords : Range → Type 0
NamesWords range = AreWords range.init

abbrev pub LinkNamesWords : LinkSpec → Type 0
LinkNamesWords (Sim mtu buffers first ranges fates) = AllByRecursion NamesWords ranges
LinkNamesWords (Udp address port wait) = Unit {0}

abbrev pub OpensOnWords : BoardSpec → Type 0
OpensOnWords board = LinkNamesWords board.link

-- Boards that keep the rules of documents and have a bus can be made links of.
use Rattle.std.proofs.Common.{◌≡◌, List, [], ◌∷◌, None}
use Rattle.std.specs.List.{AllByRecursion}
use Rattle.board_bus.specs.Ranges.{refusal_of}
use Rattle.board_specs.specs.declared.spec.BoardSpec.{BoardSpec}
use Rattle.board_specs.specs.declared.spec.LinkSpec.{LinkSpec}
use Rattle.board_specs.specs.declared.spec.LinkSpec.TheVariants.{Sim, Udp}
use Rattle.board_specs.specs.OpeningWords.{OpensOnWords}
use Rattle.script_lang.specs.Limits.{KeepsRules, LinkKeepsRules}
use Rattle.session_input.specs.Deserved.{HasBus, ranges_of}
use Rattle.board_history.specs.Links.{CanBeMade}
use Rattle.session_run.specs.Links.{CanBeReached}

link_made : (link : LinkSpec) → LinkKeepsRules link → refusal_of (ranges_of link) ≡ None → CanBeMade link
link_made (Sim mtu buffers first ranges fates) kept bus = (kept, bus)
link_made (Udp address port wait) kept bus = tt

pub all_made : (bs : List BoardSpec) → AllByRecursion KeepsRules bs → AllByRecursion HasBus bs
    → AllByRecursion (λ (board : BoardSpec). CanBeMade board.link) bs
all_made [] kept buses = tt
all_made (b ∷ bs) kept buses = (link_made b.link kept.0 buses.0, all_made bs kept.1 buses.1)

pub all_reached : (bs : List BoardSpec) → AllByRecursion (λ (board : BoardSpec). CanBeMade board.link) bs
    → AllByRecursion OpensOnWords bs → AllByRecursion CanBeReached bs
all_reached [] made words = tt
all_reached (b ∷ bs) made words = (record { made = made.0; words = words.0 }, all_reached bs made.1 words.1)

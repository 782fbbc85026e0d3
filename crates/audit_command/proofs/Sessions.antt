-- Sessions of simulated boards that can be run can be audited.
use Rattle.std.proofs.Common.{◌≡◌, ◌∙◌, ℕ, suc, ◌+◌, ◌*◌, ◌≤◌, ◌<◌, ◌^◌, List, [], ◌∷◌, length, map, Option, Some}
use Rattle.std.proofs.Common.{None, refl, ap, arith, length-append}
use Rattle.std.proofs.lemmas.List.{length-map}
use Rattle.std.specs.List.{AllByRecursion, AllZip}
use Rattle.access_policy.specs.Decisions.{ruled_from, ruled_scripts}
use Rattle.access_policy.specs.declared.policy.Rule.{Rule}
use Rattle.board_bus.specs.Ranges.{refusal_of}
use Rattle.board_specs.specs.declared.spec.BoardSpec.{BoardSpec}
use Rattle.board_specs.specs.declared.spec.LinkSpec.{LinkSpec}
use Rattle.board_specs.specs.declared.spec.LinkSpec.TheVariants.{Sim, Udp}
use Rattle.node_tree.specs.Maps.{RegisterMap}
use Rattle.script_steps.specs.Rulings.{Asked, asked_operations}
use Rattle.script_steps.specs.declared.operation.Step.{Step}
use Rattle.script_steps.specs.declared.operation.Step.TheVariants.{Do, Denied, Dispatch}
use Rattle.script_lang.specs.Limits.{IsWithin, KeepsRules, LinkKeepsRules}
use Rattle.script_lang.specs.declared.script_refusal.TheConstants.{MAX_LINES}
use Rattle.script_lang.specs.declared.session.Session.{Session}
use Rattle.session_input.specs.Deserved.{AreSteps, Compiles, HasBus, HasIndex, HaveBuses, ranges_of}
use Rattle.session_input.specs.Recording.{IsSimulated}
use Rattle.transcript_reader.specs.Entries.{Entry, IsHere, IsLinkHere, clients_from, entries, operations_from}
use Rattle.audit_command.specs.Boards.{AreSimulated, IsAuditable}

-- ---- boards

link_here : (link : LinkSpec) → LinkKeepsRules link → refusal_of (ranges_of link) ≡ None → IsSimulated link
    → IsLinkHere link
link_here (Sim mtu buffers first ranges fates) kept bus simulated = (kept.mtu_in_range, bus)
link_here (Udp address port wait) kept bus simulated = absurd simulated

pub all_here : (boards : List BoardSpec) → AllByRecursion KeepsRules boards → AllByRecursion HasBus boards
    → AreSimulated boards → AllByRecursion IsHere boards
all_here [] kept buses simulated = tt
all_here (b ∷ bs) kept buses simulated =
    (link_here b.link kept.0 buses.0 simulated.0, all_here bs kept.1 buses.1 simulated.1)

-- boards that an audit takes are of this process, and their ranges are buses
pub each_simulated : (boards : List BoardSpec) → AllByRecursion IsAuditable boards → AreSimulated boards
each_simulated [] taken = tt
each_simulated (b ∷ bs) taken = (taken.0.simulated, each_simulated bs taken.1)

each_bus : (boards : List BoardSpec) → AllByRecursion IsAuditable boards → AllByRecursion HasBus boards
each_bus [] taken = tt
each_bus (b ∷ bs) taken = (taken.0.bus, each_bus bs taken.1)

pub have_buses : (session : Session) (indexes : List RegisterMap)
    → AllByRecursion (Compiles session.tables) session.boards
    → AllZip (HasIndex session.tables) session.boards indexes
    → AllByRecursion IsAuditable session.boards
    → HaveBuses session indexes
have_buses session indexes compile each taken = record {
  compiled = record { compile = compile; each_index = each };
  buses = each_bus session.boards taken;
}

-- ---- lines

operations_count : (number : ℕ) (asks : List Asked) → length (operations_from number asks) ≡ length asks
operations_count number [] = refl
operations_count number (ask ∷ asks) = ap suc (operations_count (number + 1) asks)

asked_few : (steps : List Step) → length (asked_operations steps) ≤ length steps
asked_few [] = omega arith
asked_few (Do op ∷ steps) = let few = asked_few steps in omega (arith, few)
asked_few (Denied rule op ∷ steps) = let few = asked_few steps in omega (arith, few)
asked_few (Dispatch ∷ steps) = let few = asked_few steps in omega (arith, few)

clients_few : (client : ℕ) (scripts : List (List Step)) → AllByRecursion (λ steps. length steps ≤ MAX_LINES) scripts
    → length (clients_from client scripts) ≤ 200001 * length scripts
clients_few client [] short = omega arith
clients_few client (steps ∷ scripts) short =
    let few = clients_few (client + 1) scripts short.1 in
    let one = short.0 in
    let asks = asked_few steps in
    let count = operations_count 1 (asked_operations steps) in
    let all = length-append (operations_from 1 (asked_operations steps)) (clients_from (client + 1) scripts) in
    omega (arith, few, one, asks, count, all)

-- a policy leaves as many scripts as there were
ruled_from_count : (rules : List Rule) (names : List (List ℕ)) (client : ℕ) (scripts : List (List Step))
    → length (ruled_from rules names client scripts) ≡ length scripts
ruled_from_count rules names client [] = refl
ruled_from_count rules names client (steps ∷ scripts) = ap suc (ruled_from_count rules names (client + 1) scripts)

ruled_count : (policy : Option (List Rule)) (names : List (List ℕ)) (scripts : List (List Step))
    → length (ruled_scripts policy names scripts) ≡ length scripts
ruled_count None names scripts = refl
ruled_count (Some rules) names scripts = ruled_from_count rules names 1 scripts

pub few_lines : (session : Session) (policy : Option (List Rule)) (steps : List (List Step)) → IsWithin session
    → AreSteps session policy steps → AllByRecursion (λ steps. length steps ≤ MAX_LINES) steps
    → length (entries session.boards steps) + 1 < 2 ^ 32
few_lines session policy steps within runs short =
    let boards = within.few_boards in
    let clients = within.few_clients in
    let count : length steps ≡ length session.scripts =
    ap length runs.meant ∙ ruled_count policy _ _ ∙ length-map session.scripts _ in
    let lines = clients_few 1 steps short in
    let all = length-append (clients_from 1 steps) (map Entry.Board session.boards) in
    let last = length-map session.boards Entry.Board in
    omega (arith, boards, clients, count, lines, all, last)

-- What a server leaves, put together from what its steps say.
use Rattle.std.proofs.Common.{◌≡◌, inl, inr, ℕ, ◌+◌, List, [], ◌∷◌, length}
use Rattle.std.proofs.Common.{Result, Ok, Err, IfOk, suc}
use Rattle.std.proofs.Common.{refl, ap, ◌∙◌}
use Rattle.ipb_outside.specs.Pairs.{PairReport}
use Rattle.board_specs.specs.declared.spec.LinkSpec.{LinkSpec}
use Rattle.hub_lane.specs.declared.answers.BoardState.{BoardState}
use Rattle.hub_session.specs.declared.served.Served.{Served}
use Rattle.session_serve.specs.Boards.{states_of}
use Rattle.session_serve.specs.Connections.{Conversation, HaveExchanged}
use Rattle.script_lang.specs.declared.session.Session.{Session}
use Rattle.session_input.specs.Deserved.{IsServable, session_part}
use Rattle.session_serve.specs.declared.report.ServeFault.{ServeFault}
use Rattle.session_serve.specs.declared.report.ServeFault.TheVariants.{Rack}
use Rattle.session_serve.specs.Faults.{IsServeFailure}
use Rattle.session_serve.specs.Serving.{AreBack}
use Rattle.command_terms.specs.declared.answer.Answer.{Answer}
use Rattle.command_terms.specs.Leaving.{Leaves}
use Rattle.command_terms.specs.Outside.{GivenBack}
use Rattle.command_terms.specs.Terms.{Owes}
use Rattle.serve_command.specs.Below.{ServeLaws}
use Rattle.serve_command.specs.Serving.{IsLinkedTo, IsServiceOf}
use Rattle.serve_command.specs.Steps.{ServeLeaves, ServesSession}
use Rattle.serve_command.specs.Terms.{serve_terms}

as_many_came : (boards : List BoardState) (client : ℕ) (cs : List Conversation) (came back : List PairReport)
    (served : List Served) → HaveExchanged boards client cs came back served → length came ≡ length served
as_many_came boards client [] [] [] [] is = refl
as_many_came boards client [] [] [] (served ∷ serveds) is = absurd is
as_many_came boards client [] [] (back ∷ backs) served is = absurd is
as_many_came boards client [] (came ∷ cames) back served is = absurd is
as_many_came boards client (c ∷ cs) [] back served is = absurd is
as_many_came boards client (c ∷ cs) (came ∷ cames) [] served is = absurd is
as_many_came boards client (c ∷ cs) (came ∷ cames) (back ∷ backs) [] is = absurd is
as_many_came boards client (c ∷ cs) (came ∷ cames) (back ∷ backs) (served ∷ serveds) is =
    ap suc (as_many_came boards (client + 1) cs cames backs serveds is.1)

pub service_of : ServeLaws → (count : ℕ) (bytes : List ℕ) (session : Session) (given : GivenBack) (status : ℕ)
    (text : List ℕ) → IsServable bytes session
    → ServesSession session count given status text
    → IsServiceOf bytes count given.links given.came given.back status text
service_of laws count bytes session given status text can serves = record {
  session = session;
  servable = can;
  connections = serves.connections;
  lines = serves.lines;
  spelled = serves.spelled;
  pairs = as_many_came (states_of serves.served.boards) 1 serves.served.conversations given.came given.back
      serves.connections serves.served.exchanged ∙ serves.all;
  as_many = serves.all;
  memory = serves.memory;
  served = serves.served;
  rightly = laws.rightly (session_part can.stands.document) session serves.served.boards given.links
      can.stands.is_session serves.served.over_links;
  frames = laws.frames (session_part can.stands.document) session given.links given.came given.back serves.connections
      serves.lines serves.served can.stands.is_session;
  unasked = laws.unasked session.settings session.boards given.links given.came given.back serves.connections
      serves.lines serves.served;
  ruled = laws.ruled session.settings session.boards given.links given.came given.back serves.connections serves.lines
      serves.served;
  numbers = laws.numbers session.settings session.boards given.links given.came given.back serves.connections
      serves.lines serves.served serves.memory;
  status' = serves.told;
}

service_owed : ServeLaws → (count : ℕ) (bytes : List ℕ) (session : Session) (given : GivenBack)
    (result : Result Answer ServeFault) → IsServable bytes session
    → IfOk result (λ answer. ServesSession session count given answer.status answer.text.items)
    → IfOk result (λ answer. Owes (serve_terms count) bytes given answer.status answer.text.items)
service_owed laws count bytes session given (Ok answer) can serves =
    inl (service_of laws count bytes session given answer.status answer.text.items can serves)
service_owed laws count bytes session given (Err why) can serves = tt

pub serve_leaves : ServeLaws → (count : ℕ) (bytes : List ℕ) (session : Session) (made makes : List LinkSpec)
    (result : Result Answer ServeFault) (given : GivenBack) → IsServable bytes session
    → ServeLeaves session count made makes result given
    → Leaves AreBack IsServeFailure Rack (serve_terms count) bytes made makes result given
serve_leaves laws count bytes session made makes result given can leaves =
    let made' = leaves.links_made in
    let linked : IsLinkedTo bytes made'.specs given.links =
    record { session = session; servable = can; first = made'.first; linked = leaves.linked } in record {
      specs = made'.specs;
      grown = made'.grown;
      counted = made'.many;
      in_order = made'.in_order;
      used = inr linked;
      back = leaves.back;
      owed = service_owed laws count bytes session given result can leaves.serves;
      behind = λ fault is failed. linked;
      untouched = leaves.untouched;
    }

-- What follows for boards that were served, put together.
use Rattle.std.proofs.Common.{◌≡◌, ℕ, ◌+◌, List, [], ◌∷◌, length, map, IfOk, Option}
use Rattle.std.proofs.Common.{Result, Ok, Err}
use Rattle.std.proofs.Common.{sym, ◌∙◌, subst}
use Rattle.std.specs.List.{AllByRecursion}
use Rattle.std.specs.Result.{IsErr, IsErrAnd}
use Rattle.ipb_outside.specs.declared.sink.Sink.{Ghosts as SinkGhosts}
use Rattle.ipb_outside.specs.declared.source.Source.{Ghosts as SourceGhosts}
use Rattle.ipb_outside.specs.Pairs.{PairReport}
use Rattle.board_specs.specs.declared.spec.BoardSpec.{BoardSpec}
use Rattle.board_specs.specs.declared.spec.LinkSpec.{LinkSpec}
use Rattle.world_model.specs.Settings.{Limits}
use Rattle.board_history.specs.Links.{IsUntouched, LinkReport}
use Rattle.board_greeting.specs.Links.{AreMadeFor}
use Rattle.script_lang.specs.declared.session.Session.{Session}
use Rattle.transcript.specs.declared.line.BoardLine.{BoardLine}
use Rattle.hub_lane.specs.declared.answers.BoardState.{BoardState}
use Rattle.hub_session.specs.declared.served.Served.{Served}
use Rattle.session_serve.specs.declared.report.ServeFault.{ServeFault}
use Rattle.session_serve.specs.declared.report.ServeFault.TheVariants.{NoMemory, Rack}
use Rattle.session_serve.specs.Boards.{AreLinksTo, states_of}
use Rattle.session_serve.specs.Connections.{Conversation, HaveExchanged, WereServed}
use Rattle.client_history.specs.Boards.{AreServedOver, IsServedOver, ServedBoard}
use Rattle.session_serve.specs.Serving.{AreBack, AreServed, HadMemory}
use Rattle.serve_command.specs.Text.{all_closed, serve_status, serve_text}
use Rattle.command_terms.specs.declared.answer.Answer.{Answer}
use Rattle.command_terms.specs.Numbers.{refused_status}
use Rattle.command_terms.specs.Outside.{GivenBack}
use Rattle.command_terms.proofs.Leaving.{same_Err}
use Rattle.command_terms.proofs.Pairs.{Together}
use Rattle.command_terms.proofs.Statuses.{done_is_no_refusal, told_is_done}
use Rattle.serve_command.specs.Steps.{ServeLeaves}
use Rattle.serve_command.specs.Serving.{AreServedRightly, IsServedRightly}

module _ (settings : Limits)
    (one : (spec : BoardSpec) (served : ServedBoard) (link : LinkReport) → IsServedOver settings spec served link
    → IsServedRightly settings spec served link) where
  pub all_rightly : (specs : List BoardSpec) (boards : List ServedBoard) (links : List LinkReport)
      → AreServedOver settings specs boards links → AreServedRightly settings specs boards links
  all_rightly [] [] [] over = tt
  all_rightly [] [] (link ∷ links) over = absurd over
  all_rightly [] (served ∷ boards) links over = absurd over
  all_rightly (spec ∷ specs) [] links over = absurd over
  all_rightly (spec ∷ specs) (served ∷ boards) [] over = absurd over
  all_rightly (spec ∷ specs) (served ∷ boards) (link ∷ links) over =
      (one spec served link over.0, all_rightly specs boards links over.1)

-- ---- what a server left

pub serve_failed : (session : Session) (count : ℕ) (made makes : List LinkSpec) (result : Result Answer ServeFault)
    (fault : ServeFault) (given : GivenBack) → AreLinksTo session.boards given.links
    → AreMadeFor session.boards given.links made makes
    → AreBack given.came given.back → IsErr result → IsErrAnd result (λ why. why ≡ fault)
    → (fault ≡ Rack → AllByRecursion IsUntouched given.links)
    → ServeLeaves session count made makes result given
serve_failed session count made makes (Ok answer) fault given linked links_made back fails is untouched = absurd cc
serve_failed session count made makes (Err why) fault given linked links_made back fails is untouched = record {
  linked = linked;
  links_made = links_made;
  back = back;
  serves = tt;
  untouched = λ rack. untouched (sym is ∙ same_Err why Rack rack);
}

-- what each connection exchanged tells that it was served
were_served : (boards : List BoardState) (client : ℕ) (cs : List Conversation) (came back : List PairReport)
    (served : List Served) → HaveExchanged boards client cs came back served
    → WereServed boards client came back served
were_served boards client [] [] [] [] is = tt
were_served boards client [] [] [] (served ∷ serveds) is = absurd is
were_served boards client [] [] (back ∷ backs) served is = absurd is
were_served boards client [] (came ∷ cames) back served is = absurd is
were_served boards client (c ∷ cs) [] back served is = absurd is
were_served boards client (c ∷ cs) (came ∷ cames) [] served is = absurd is
were_served boards client (c ∷ cs) (came ∷ cames) (back ∷ backs) [] is = absurd is
were_served boards client (c ∷ cs) (came ∷ cames) (back ∷ backs) (served ∷ serveds) is =
    (is.0.was_served, were_served boards (client + 1) cs cames backs serveds is.1)

pub served_back : (settings : Limits) (specs : List BoardSpec) (links : List LinkReport) (came back : List PairReport)
    (connections : List Served) (lines : List BoardLine) → AreServed settings specs links came back connections lines
    → AreBack came back
served_back settings specs links came back connections lines is = (
  map (λ (b : ServedBoard). b.told) is.boards,
  record {
    served = connections;
    each = were_served (states_of is.boards) 1 is.conversations came back connections is.exchanged;
  },
)

pub served_done : (session : Session) (count : ℕ) (made makes : List LinkSpec) (boards : List BoardSpec)
    → boards ≡ session.boards → (answer : Answer) (connections : List Served) (lines : List BoardLine)
    (given : GivenBack)
    → AreLinksTo boards given.links → AreMadeFor boards given.links made makes
    → AreServed session.settings boards given.links given.came given.back connections lines
    → length connections ≡ count → AllByRecursion HadMemory connections
    → answer.text.items ≡ serve_text connections lines → answer.status ≡ serve_status connections
    → ServeLeaves session count made makes (Ok answer) given
served_done session count made makes boards same answer connections lines given linked links_made served all memory
    spelled told =
    let here : AreServed session.settings session.boards given.links given.came given.back connections lines =
    subst (λ specs. AreServed session.settings specs given.links given.came given.back connections lines) same served in
    record {
      linked = subst (λ specs. AreLinksTo specs given.links) same linked;
      links_made = subst (λ specs. AreMadeFor specs given.links made makes) same links_made;
      back = served_back session.settings session.boards given.links given.came given.back connections lines here;
      serves = record {
        connections = connections;
        lines = lines;
        served = here;
        all = all;
        memory = memory;
        spelled = spelled;
        told = told;
      };
      untouched = λ never. absurd cc;
    }

pub no_memory_is_no_rack : (fault : ServeFault) → fault ≡ NoMemory → fault ≡ Rack → ⊥
no_memory_is_no_rack fault is rack = cc

-- the text of a server is no refusal
module _ {L I O : Type 0} (shown : L → LinkReport) (source : SourceGhosts I) (sink : SinkGhosts O) (old new : List L)
    (coming coming_now kept kept_now : Option (List (I × O))) where
  pub not_refused : (session : Session) (count : ℕ) (made makes : List LinkSpec) (Q : Type 0)
      (result : Result Answer ServeFault)
      → Together shown source sink old new coming coming_now kept kept_now
      (ServeLeaves session count made makes result)
      → IfOk result (λ answer. answer.status ≡ refused_status → Q)
  not_refused session count made makes Q (Ok answer) told = λ refused.
      let serves = told.2.4.serves in
      absurd (done_is_no_refusal answer.status
      (told_is_done (all_closed serves.connections) answer.status serves.told) refused)
  not_refused session count made makes Q (Err why) told = tt

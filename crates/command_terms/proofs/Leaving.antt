-- What a command leaves, put together from what it did.
use Rattle.std.proofs.Common.{◌≡◌, inl, inr, ℕ, List, [], ◌++◌, map, Result, Ok, Err, IfOk}
use Rattle.std.proofs.Common.{refl, sym, ap, ◌∙◌, subst, append-nil}
use Rattle.std.proofs.lemmas.List.{append_cancel_left}
use Rattle.std.specs.Result.{IsErr, IsErrAnd}
use Rattle.ipb_outside.specs.Pairs.{PairReport}
use Rattle.board_specs.specs.declared.spec.LinkSpec.{LinkSpec}
use Rattle.board_history.specs.Links.{LinkReport}
use Rattle.command_terms.specs.declared.answer.Answer.{Answer}
use Rattle.command_terms.specs.Leaving.{Leaves}
use Rattle.command_terms.specs.Numbers.{refused_status}
use Rattle.command_terms.specs.Outside.{GivenBack, NoneCame, no_pairs}
use Rattle.command_terms.specs.Terms.{Owes, Terms}

-- what is said of the links that were given back, by what each shows
abbrev pub Told : {L : Type 0} → (L → LinkReport) → List L → List L → (List LinkReport → Type 0) → Type 0
Told {L} shown old new holds = (links : List L) × (new ≡ old ++ links) × holds (map shown links)

pub at_links : {L : Type 0} (shown : L → LinkReport) (old new links : List L) → new ≡ old ++ links
    → (holds : List LinkReport → Type 0) → Told shown old new holds → holds (map shown links)
at_links shown old new links grown holds told =
    subst (λ found. holds (map shown found)) (append_cancel_left old told.0 links (sym told.1 ∙ grown)) told.2

-- and of the same boards
pub at_boards : {L B : Type 0} (shown : L → LinkReport) (old new links : List L) → new ≡ old ++ links
    → {own boards : B} → own ≡ boards → (holds : B → List LinkReport → Type 0) → Told shown old new (holds own)
    → holds boards (map shown links)
at_boards shown old new links grown {own = own} same holds told =
    subst (λ b. holds b (map shown links)) same (at_links shown old new links grown (holds own) told)

pub same_Err : {T E : Type 0} (why other : E) → ◌≡◌ {A = Result T E} (Err why) (Err other) → why ≡ other
same_Err why other same = cc

pub none_came : NoneCame [] []
none_came = (refl, refl)

-- ---- nothing was made

module _ {E : Type 0} (Served : List PairReport → List PairReport → Type 0) (none : Served [] []) (Fails : E → Type 0)
    (rack_failed : E) where
  nothing_used : (terms : Terms) (bytes : List ℕ) (made : List LinkSpec) (result : Result Answer E)
      → IfOk result (λ answer. Owes terms bytes (no_pairs []) answer.status answer.text.items)
      → ((fault : E) → result ≡ Err fault → Fails fault → ⊥)
      → Leaves Served Fails rack_failed terms bytes made made result (no_pairs [])
  nothing_used terms bytes made result owed calm = record {
    specs = [];
    grown = sym (append-nil made);
    counted = refl;
    in_order = tt;
    used = inl refl;
    back = none;
    owed = owed;
    behind = λ fault is failed. absurd (calm fault is failed);
    untouched = λ rack. tt;
  }

  pub nothing_left : {L : Type 0} (shown : L → LinkReport) (kept : List L) (terms : Terms) (bytes : List ℕ)
      (made : List LinkSpec) (result : Result Answer E)
      → IfOk result (λ answer. Owes terms bytes (no_pairs []) answer.status answer.text.items)
      → ((fault : E) → result ≡ Err fault → Fails fault → ⊥)
      → Told shown kept kept (λ links. Leaves Served Fails rack_failed terms bytes made made result (no_pairs links))
  nothing_left shown kept terms bytes made result owed calm =
      ([], sym (append-nil kept), nothing_used terms bytes made result owed calm)

  same_error : (result : Result Answer E) (fault other : E) → IsErrAnd result (λ why. why ≡ fault) → result ≡ Err other
      → other ≡ fault
  same_error (Ok answer) fault other is same = absurd cc
  same_error (Err why) fault other is same = sym (same_Err why other same) ∙ is

  pub failure_left : {L : Type 0} (shown : L → LinkReport) (kept : List L) (terms : Terms) (bytes : List ℕ)
      (made : List LinkSpec) (result : Result Answer E) (fault : E)
      → IsErr result → IsErrAnd result (λ why. why ≡ fault) → (Fails fault → ⊥)
      → Told shown kept kept (λ links. Leaves Served Fails rack_failed terms bytes made made result (no_pairs links))
  failure_left shown kept terms bytes made (Ok answer) fault fails is calm = absurd cc
  failure_left shown kept terms bytes made (Err why) fault fails is calm =
      nothing_left shown kept terms bytes made (Err why) tt
      (λ other same failed. calm (subst Fails (same_error (Err why) fault other is same) failed))

  pub error_left : {L : Type 0} (shown : L → LinkReport) (kept : List L) (terms : Terms) (bytes : List ℕ)
      (made : List LinkSpec) (why : E) → (Fails why → ⊥)
      → Told shown kept kept (λ links. Leaves Served Fails rack_failed terms bytes made made (Err why) (no_pairs links))
  error_left shown kept terms bytes made why calm =
      nothing_left shown kept terms bytes made (Err why) tt
      (λ other same failed. calm (subst Fails (sym (same_Err why other same)) failed))

  pub refusal_left : {L : Type 0} (shown : L → LinkReport) (kept : List L) (terms : Terms) (bytes : List ℕ)
      (made : List LinkSpec) (answer : Answer) → terms.Refuses bytes answer.text.items → answer.status ≡ refused_status
      → Told shown kept kept
      (λ links. Leaves Served Fails rack_failed terms bytes made made (Ok answer) (no_pairs links))
  refusal_left shown kept terms bytes made answer deserved status =
      nothing_left shown kept terms bytes made (Ok answer) (inr (status, deserved)) (λ fault is failed. absurd cc)

-- ---- links were made, and there is no answer

pub failed_over : {L B E : Type 0} (shown : L → LinkReport) (old new : List L) {own boards : B} → own ≡ boards
    → (Left Made : B → List LinkReport → Type 0) → Told shown old new (Left own) → Told shown old new (Made own)
    → (Untouched : List LinkReport → Type 0) (rack : E) (Leaving : Result Answer E → List LinkReport → Type 0)
    → ((why : E) (links : List LinkReport) → Left boards links → Made boards links → (why ≡ rack → Untouched links)
    → Leaving (Err why) links)
    → (result : Result Answer E) (fault : E) → IsErr result → IsErrAnd result (λ why. why ≡ fault)
    → (fault ≡ rack → Told shown old new Untouched) → Told shown old new (Leaving result)
failed_over shown old new same Left Made left made Untouched rack Leaving put (Ok answer) fault fails is untouched =
    absurd cc
failed_over shown old new same Left Made left made Untouched rack Leaving put (Err why) fault fails is untouched = (
  left.0,
  left.1,
  put why (map shown left.0) (at_boards shown old new left.0 left.1 same Left left)
      (at_boards shown old new left.0 left.1 same Made made)
      (λ failed. at_links shown old new left.0 left.1 Untouched (untouched (sym is ∙ failed))),
)

-- ---- the same with another error, and with what follows of the pairs

module _ {E F : Type 0} (Served Served_now : List PairReport → List PairReport → Type 0)
    (served_as : (came back : List PairReport) → Served came back → Served_now came back) (Fails : E → Type 0)
    (rack : E) (Failed : F → Type 0) (rack_now : F) (terms : Terms) (bytes : List ℕ) (made makes : List LinkSpec)
    (given : GivenBack) where
  pub done_as : (answer : Answer) → Leaves Served Fails rack terms bytes made makes (Ok answer) given
      → Leaves Served_now Failed rack_now terms bytes made makes (Ok answer) given
  done_as answer leaves = record {
    specs = leaves.specs;
    grown = leaves.grown;
    counted = leaves.counted;
    in_order = leaves.in_order;
    used = leaves.used;
    back = served_as given.came given.back leaves.back;
    owed = leaves.owed;
    behind = λ fault is failed. absurd cc;
    untouched = λ is. absurd cc;
  }

  pub failed_as : (convert : E → F) (fault : E) (result : Result Answer F)
      → (Failed (convert fault) → Fails fault) → (convert fault ≡ rack_now → fault ≡ rack)
      → IsErr result → IsErrAnd result (λ why. why ≡ convert fault)
      → Leaves Served Fails rack terms bytes made makes (Err fault) given
      → Leaves Served_now Failed rack_now terms bytes made makes result given
  failed_as convert fault (Ok answer) behind is_rack fails is leaves = absurd cc
  failed_as convert fault (Err why) behind is_rack fails is leaves = record {
    specs = leaves.specs;
    grown = leaves.grown;
    counted = leaves.counted;
    in_order = leaves.in_order;
    used = leaves.used;
    back = served_as given.came given.back leaves.back;
    owed = tt;
    behind = λ other same failed.
        leaves.behind fault refl
        (behind (subst Failed (sym (same_Err why other same) ∙ is) failed));
    untouched = λ same. leaves.untouched (ap Err (is_rack (sym is ∙ same_Err why rack_now same)));
  }

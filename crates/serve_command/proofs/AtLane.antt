-- The frames for a live board, and the bodies that were submitted on its lane.
use Rattle.std.proofs.Common.{◌≡◌, ◌≢◌, ℕ, ◌+◌, ◌≤◌, ◌==◌, ◌&&◌, ◌||◌, Bool, true, false, cond, if◌then◌else◌}
use Rattle.std.proofs.Common.{List, [], ◌∷◌, Option, Some, None, refl, sym, ap, ap₂, ◌∙◌, subst, inl, inr, arith}
use Rattle.std.proofs.Common.{count_by}
use Rattle.std.specs.List.{AllByRecursion, cons_option, filter_map, slice_get}
use Rattle.std.proofs.lemmas.Bool.{eq-eqb}
use Rattle.std.proofs.lemmas.Bool.Decides.{eqb_tells}
use Rattle.packet_codec.specs.declared.packet.Order.{Order}
use Rattle.packet_codec.specs.declared.packet.Packet.{Packet}
use Rattle.lane_record.specs.declared.outcome.Outcome.{Outcome}
use Rattle.lane_record.specs.declared.outcome.Outcome.TheVariants.{Replied, TimedOut, Unsent, LinkLost}
use Rattle.lane_record.specs.Outcomes.{is_given_up, is_lost, place_of}
use Rattle.lane_record.specs.Submissions.{Submission}
use Rattle.hub_lane.specs.declared.answers.BoardState.{BoardState}
use Rattle.hub_lane.specs.declared.answers.BoardState.TheVariants.{Lane}
use Rattle.hub_session.specs.Answers.{control_packet, reply_of_outcome, reply_of_packet, reply_to}
use Rattle.hub_session.specs.Codes.{link_lost_code, replied_code, timed_out_code, unsent_code}
use Rattle.hub_session.specs.Exchanges.{Exchange, request_of, submission_in, submissions_on}
use Rattle.hub_framing.specs.Frames.{ReplyFrame}
use Rattle.board_bus.specs.Cells.{CellMap}
use Rattle.board_history.specs.Parts.{IsReplied}
use Rattle.board_history.specs.Links.{HasFailed, LinkReport}
use Rattle.board_history.proofs.Waits.{count_cons}
use Rattle.client_history.specs.Shown.{IsNotLostUnlessFailed, IsReplyCarried, IsRightlyReplied, given_up, places_in}
use Rattle.serve_command.specs.Answers.{has_code_at}
use Rattle.serve_command.specs.Frames.{IsAnsweredAsCarried, IsAnsweredRightly, is_given_up_at, place_in, place_on}
use Rattle.serve_command.proofs.Counting.{IsCodeOf}
use Rattle.serve_command.proofs.Lanes.{same_lane}
use Rattle.serve_command.proofs.OneFrame.{Became, HasBecome, IsAsked, IsNothing, at_packet}

any_of : (xs : List Submission) → AllByRecursion (λ (s : Submission). Unit {0}) xs
any_of [] = tt
any_of (x ∷ xs) = (tt, any_of xs)

none_more : (n : ℕ) → 0 + n ≡ n
none_more n = omega arith

module _ (boards : List BoardState) (position lane : ℕ) (here : slice_get boards position ≡ Some (Lane lane))
    (alone : (at : ℕ) → slice_get boards at ≡ Some (Lane lane) → at ≡ position) where
  is_here : (at : ℕ) → (at == position) ≡ true → slice_get boards at ≡ Some (Lane lane)
  is_here at test = elim (eqb_tells at position) [
    | inl same ↦ ap (slice_get boards) same.1 ∙ here
    | inr apart ↦ (let e = sym test ∙ apart.0 in absurd cc)
  ]

  lane_of : (at l : ℕ) → slice_get boards at ≡ Some (Lane l) → (l == lane) ≡ (at == position)
  lane_of at l there = elim (eqb_tells l lane) [
    | inl same ↦
        (let place = alone at (subst (λ (n : ℕ). slice_get boards at ≡ Some (Lane n)) same.1 there) in
        same.0 ∙ sym (eq-eqb at position place))
    | inr other ↦ elim (eqb_tells at position) [
      | inl place ↦
          (let found : Some (Lane l) ≡ Some (Lane lane) = sym there ∙ ap (slice_get boards) place.1 ∙ here in
          absurd (other.1 (same_lane l lane found)))
      | inr apart ↦ other.0 ∙ sym apart.0
    ]
  ]

  submitted : Exchange → Option Submission
  submitted e = submission_in lane (request_of boards e.frame) e.got

  abbrev Nothing : Exchange → Type 0
  Nothing e = IsNothing (e.frame.board == position) e.frame.board (control_packet e.frame.packet)
      (slice_get boards e.frame.board) e.got

  abbrev BecameSo : Exchange → Submission → Type 0
  BecameSo e s = HasBecome (e.frame.board == position) lane (control_packet e.frame.packet)
      (slice_get boards e.frame.board) e.got s

  abbrev BecameAt : Exchange → Option Submission → Type 0
  BecameAt e o = Became (e.frame.board == position) e.frame.board lane (control_packet e.frame.packet)
      (slice_get boards e.frame.board) e.got o

  became : (e : Exchange) → IsAsked boards e → BecameAt e (submission_in lane (request_of boards e.frame) e.got)
  became e asked =
      at_packet e.frame.board lane (e.frame.board == position) (control_packet e.frame.packet)
      (slice_get boards e.frame.board) e.got asked (is_here e.frame.board) (λ l there. lane_of e.frame.board l there)

  -- ---- each frame

  module _ (P : Submission → Type 0) (Q : Exchange → Type 0) (nothing : (e : Exchange) → Nothing e → Q e)
      (some : (e : Exchange) (s : Submission) → BecameSo e s → P s → Q e) where
    one_then : (e : Exchange) (o : Option Submission) (rest : List Submission) → BecameAt e o
        → AllByRecursion P (cons_option o rest) → Q e × AllByRecursion P rest
    one_then e None rest is all = (nothing e is, all)
    one_then e (Some s) rest is all = (some e s is all.0, all.1)

    pub each_then : (es : List Exchange) → AllByRecursion (IsAsked boards) es
        → AllByRecursion P (submissions_on boards lane es) → AllByRecursion Q es
    each_then [] asked all = tt
    each_then (e ∷ es) asked all =
        let first = one_then e (submission_in lane (request_of boards e.frame) e.got) (submissions_on boards lane es)
        (became e asked.0) all in (first.0, each_then es asked.1 first.1)

  -- ---- places

  place_is : (e : Exchange) (s : Submission) → BecameSo e s → place_on position e ≡ place_of s.outcome
  place_is e s is = ap (λ (b : Bool). if b then place_in e.got else None) is.is_for ∙ ap place_in is.got'

  one_place : (e : Exchange) (o : Option Submission) (rest : List Submission) (later : List ℕ) → BecameAt e o
      → later ≡ places_in rest → cons_option (place_on position e) later ≡ places_in (cons_option o rest)
  one_place e None rest later is same = ap (λ (p : Option ℕ). cons_option p later) is.no_place ∙ same
  one_place e (Some s) rest later is same =
      ap₂ (λ (p : Option ℕ) (l : List ℕ). cons_option p l) (place_is e s is) same

  pub places_are : (es : List Exchange) → AllByRecursion (IsAsked boards) es
      → filter_map (place_on position) es ≡ places_in (submissions_on boards lane es)
  places_are [] asked = refl
  places_are (e ∷ es) asked =
      one_place e (submission_in lane (request_of boards e.frame) e.got) (submissions_on boards lane es)
      (filter_map (place_on position) es) (became e asked.0) (places_are es asked.1)

  -- ---- codes

  -- the reply frame of a frame whose body became so
  abbrev reply_of : Exchange → Packet → Outcome → ReplyFrame
  reply_of e request outcome = reply_of_outcome e.frame.board request.order request.id outcome

  reply_is : (e : Exchange) (s : Submission) (is : BecameSo e s)
      → reply_to boards e.frame e.got ≡ reply_of e is.request s.outcome
  reply_is e s is =
      ap (λ (p : Option Packet). reply_of_packet e.frame.board p (slice_get boards e.frame.board) e.got) is.packet'
      ∙ ap (λ (b : Option BoardState). reply_of_packet e.frame.board (Some is.request) b e.got) is.state'
      ∙ ap (reply_of_packet e.frame.board (Some is.request) (Some (Lane lane))) is.got'

  code_is : (code : ℕ) (e : Exchange) (s : Submission) (is : BecameSo e s)
      → has_code_at code position boards e ≡ ((reply_of e is.request s.outcome).code == code)
  code_is code e s is =
      ap₂ (λ (b : Bool) (r : ReplyFrame). b && (r.code == code)) is.is_for (reply_is e s is)

  -- ---- how many frames are answered so

  module _ (test : Exchange → Bool) (kind : Outcome → Bool) (nothing : (e : Exchange) → Nothing e → test e ≡ false)
      (some : (e : Exchange) (s : Submission) → BecameSo e s → test e ≡ kind s.outcome) where
    abbrev count : List Submission → ℕ
    count submissions = count_by (λ (s : Submission). kind s.outcome) submissions

    one_counted : (e : Exchange) (o : Option Submission) (rest : List Submission) → BecameAt e o
        → cond (test e) 1 0 + count rest ≡ count (cons_option o rest)
    one_counted e None rest is =
        ap (λ (b : Bool). cond b 1 0 + count rest) (nothing e is) ∙ none_more (count rest)
    one_counted e (Some s) rest is =
        ap (λ (b : Bool). cond b 1 0 + count rest) (some e s is)
        ∙ sym (count_cons (λ (x : Submission). kind x.outcome) s rest)

    counted : (es : List Exchange) → AllByRecursion (IsAsked boards) es
        → count_by test es ≡ count (submissions_on boards lane es)
    counted [] asked = refl
    counted (e ∷ es) asked =
        count_cons test e es ∙ ap (λ (n : ℕ). cond (test e) 1 0 + n) (counted es asked.1)
        ∙ one_counted e (submission_in lane (request_of boards e.frame) e.got) (submissions_on boards lane es)
        (became e asked.0)

  -- so of the frames that are answered by the code of a kind of outcomes
  pub coded_are : (code : ℕ) (kind : Outcome → Bool) → IsCodeOf kind code → (es : List Exchange)
      → AllByRecursion (IsAsked boards) es → count_by (has_code_at code position boards) es
      ≡ count_by (λ (s : Submission). kind s.outcome) (submissions_on boards lane es)
  coded_are code kind is_code es asked =
      counted (has_code_at code position boards) kind (λ e is. is.no_code code is_code.near)
      (λ e s is.
      code_is code e s is ∙ is_code.of_outcome e.frame.board is.request.order is.request.id s.outcome) es asked

  -- ---- which frames have a place

  pub placed_by_code : (code : ℕ) (Q : Option ℕ → Type 0) → code ≤ 3
      → ((board id : ℕ) (order : Order) (o : Outcome) → ((reply_of_outcome board order id o).code == code) ≡ true
      → Q (place_of o)) → (es : List Exchange) → AllByRecursion (IsAsked boards) es
      → AllByRecursion (λ e. has_code_at code position boards e ≡ true → Q (place_on position e)) es
  placed_by_code code Q near of_outcome es asked =
      each_then (λ (s : Submission). Unit {0})
      (λ e. has_code_at code position boards e ≡ true → Q (place_on position e))
      (λ e is coded. let never = sym (is.no_code code near) ∙ coded in absurd cc)
      (λ e s is one coded.
      subst Q (sym (place_is e s is))
      (of_outcome e.frame.board is.request.id is.request.order s.outcome (sym (code_is code e s is) ∙ coded))) es asked
      (any_of (submissions_on boards lane es))

  -- ---- code 0

  at_position : (e : Exchange) (s : Submission) → BecameSo e s → e.frame.board ≡ position
  at_position e s is = elim (eqb_tells e.frame.board position) [
    | inl same ↦ same.1
    | inr apart ↦ (let e = sym is.is_for ∙ apart.0 in absurd cc)
  ]

  module _ (opening : CellMap) (done : List (List ℕ)) where
    outcome_right : (e : Exchange) (body : List ℕ) (outcome : Outcome)
        (is : BecameSo e (record { body = body; outcome = outcome }))
        → ((reply_of e is.request outcome).code == replied_code) ≡ true
        → IsRightlyReplied opening done (record { body = body; outcome = outcome })
        → IsAnsweredRightly opening done boards position e
    outcome_right e body (Replied place words) is coded right =
        let s : Submission = record { body = body; outcome = Replied place words } in record {
          place = place;
          place' = place_is e s is;
          request = is.request;
          request' = is.packet';
          words = words;
          executed_there = record { body' = right.body' ∙ ap Some (sym is.body'); words' = right.words' };
          reply = reply_is e s is
              ∙ ap (λ (board : ℕ). reply_of_outcome board is.request.order is.request.id (Replied place words))
              (at_position e s is);
        }
    outcome_right e body (TimedOut place rounds) is coded right = absurd cc
    outcome_right e body Unsent is coded right = absurd cc
    outcome_right e body (LinkLost place) is coded right = absurd cc

    pub all_right : (es : List Exchange) → AllByRecursion (IsAsked boards) es
        → AllByRecursion (IsRightlyReplied opening done) (submissions_on boards lane es)
        → AllByRecursion (λ e. has_code_at replied_code position boards e ≡ true
        → IsAnsweredRightly opening done boards position e) es
    all_right es asked right =
        each_then (IsRightlyReplied opening done)
        (λ e. has_code_at replied_code position boards e ≡ true → IsAnsweredRightly opening done boards position e)
        (λ e is coded. let never = sym (is.no_code replied_code (omega arith)) ∙ coded in absurd cc)
        (λ e s is one coded.
        outcome_right e s.body s.outcome is (sym (code_is replied_code e s is) ∙ coded) one) es asked right

  module _ (link : LinkReport) where
    outcome_carried : (e : Exchange) (body : List ℕ) (outcome : Outcome)
        (is : BecameSo e (record { body = body; outcome = outcome }))
        → ((reply_of e is.request outcome).code == replied_code) ≡ true
        → IsReplyCarried link (record { body = body; outcome = outcome })
        → IsAnsweredAsCarried link boards position e
    outcome_carried e body (Replied place words) is coded brought =
        let s : Submission = record { body = body; outcome = Replied place words } in record {
          place = place;
          place' = place_is e s is;
          request = is.request;
          request' = is.packet';
          words = words;
          carried = brought;
          reply = reply_is e s is
              ∙ ap (λ (board : ℕ). reply_of_outcome board is.request.order is.request.id (Replied place words))
              (at_position e s is);
        }
    outcome_carried e body (TimedOut place rounds) is coded brought = absurd cc
    outcome_carried e body Unsent is coded brought = absurd cc
    outcome_carried e body (LinkLost place) is coded brought = absurd cc

    pub all_carried : (es : List Exchange) → AllByRecursion (IsAsked boards) es
        → AllByRecursion (IsReplyCarried link) (submissions_on boards lane es)
        → AllByRecursion (λ e. has_code_at replied_code position boards e ≡ true
        → IsAnsweredAsCarried link boards position e) es
    all_carried es asked brought =
        each_then (IsReplyCarried link)
        (λ e. has_code_at replied_code position boards e ≡ true → IsAnsweredAsCarried link boards position e)
        (λ e is coded. let never = sym (is.no_code replied_code (omega arith)) ∙ coded in absurd cc)
        (λ e s is one coded.
        outcome_carried e s.body s.outcome is (sym (code_is replied_code e s is) ∙ coded) one) es asked brought

  -- ---- codes 1 and 2

  given_up_as : (board id : ℕ) (order : Order) (o : Outcome)
      → (((reply_of_outcome board order id o).code == timed_out_code)
      || ((reply_of_outcome board order id o).code == unsent_code)) ≡ is_given_up o
  given_up_as board id order (Replied place words) = refl
  given_up_as board id order (TimedOut place rounds) = refl
  given_up_as board id order Unsent = refl
  given_up_as board id order (LinkLost place) = refl

  pub given_up_are : (es : List Exchange) → AllByRecursion (IsAsked boards) es
      → count_by (is_given_up_at position boards) es ≡ given_up (submissions_on boards lane es)
  given_up_are es asked =
      counted (is_given_up_at position boards) is_given_up
      (λ e is.
      ap₂ (λ (a b : Bool). a || b) (is.no_code timed_out_code (omega arith)) (is.no_code unsent_code (omega arith)))
      (λ e s is.
      ap₂ (λ (a b : Bool). a || b) (code_is timed_out_code e s is) (code_is unsent_code e s is)
      ∙ given_up_as e.frame.board is.request.id is.request.order s.outcome) es asked

  -- ---- code 3

  lost_as : (link : LinkReport) (board id : ℕ) (order : Order) (o : Outcome)
      → ((reply_of_outcome board order id o).code == link_lost_code) ≡ true → (is_lost o ≡ true → HasFailed link)
      → HasFailed link
  lost_as link board id order (Replied place words) coded failed = absurd cc
  lost_as link board id order (TimedOut place rounds) coded failed = absurd cc
  lost_as link board id order Unsent coded failed = absurd cc
  lost_as link board id order (LinkLost place) coded failed = failed refl

  pub all_lost : (link : LinkReport) (es : List Exchange) → AllByRecursion (IsAsked boards) es
      → AllByRecursion (IsNotLostUnlessFailed link) (submissions_on boards lane es)
      → AllByRecursion (λ e. has_code_at link_lost_code position boards e ≡ true → HasFailed link) es
  all_lost link es asked lost =
      each_then (IsNotLostUnlessFailed link)
      (λ e. has_code_at link_lost_code position boards e ≡ true → HasFailed link)
      (λ e is coded. let never = sym (is.no_code link_lost_code (omega arith)) ∙ coded in absurd cc)
      (λ e s is one coded.
      lost_as link e.frame.board is.request.id is.request.order s.outcome (sym (code_is link_lost_code e s is) ∙ coded)
      one) es asked lost

  -- ---- where all was replied to

  coded_0 : (board id code : ℕ) (order : Order) (o : Outcome) → IsReplied o → code ≢ replied_code
      → ((reply_of_outcome board order id o).code == code) ≡ true → ⊥
  coded_0 board id code order (Replied place words) replied other coded = elim (eqb_tells replied_code code) [
    | inl same ↦ other (sym same.1)
    | inr apart ↦ (let e = sym apart.0 ∙ coded in absurd cc)
  ]
  coded_0 board id code order (TimedOut place rounds) replied other coded = absurd replied
  coded_0 board id code order Unsent replied other coded = absurd replied
  coded_0 board id code order (LinkLost place) replied other coded = absurd replied

  pub none_coded : (code : ℕ) → code ≤ 3 → code ≢ replied_code → (es : List Exchange)
      → AllByRecursion (IsAsked boards) es
      → AllByRecursion (λ (s : Submission). IsReplied s.outcome) (submissions_on boards lane es)
      → AllByRecursion (λ e. has_code_at code position boards e ≡ true → ⊥) es
  none_coded code near other es asked replied =
      each_then (λ (s : Submission). IsReplied s.outcome) (λ e. has_code_at code position boards e ≡ true → ⊥)
      (λ e is coded. let never = sym (is.no_code code near) ∙ coded in absurd cc)
      (λ e s is one coded.
      coded_0 e.frame.board is.request.id code is.request.order s.outcome one other
      (sym (code_is code e s is) ∙ coded)) es asked replied

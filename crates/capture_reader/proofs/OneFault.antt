-- A text that is no capture has one first fault.
use Rattle.std.proofs.Common.{◌≡◌, ◌≢◌, ◌⊎◌, ℕ, List, [], ◌∷◌, ◌++◌, length, refl, sym, ap, ◌∙◌, inl, inr, arith}
use Rattle.std.proofs.Common.{append_assoc, subst}
use Rattle.packet_ids.specs.Identifier.{IsIdentifier}
use Rattle.capture_reader.specs.declared.capture.Caught.{Caught}
use Rattle.capture_reader.specs.declared.capture.Capture.{Capture}
use Rattle.capture_reader.specs.declared.refusal.CaptureWhy.{CaptureWhy}
use Rattle.capture_reader.specs.declared.refusal.CaptureWhy.TheVariants.{First, Form, Long}
use Rattle.capture_reader.specs.declared.refusal.CaptureRefusal.{CaptureRefusal}
use Rattle.capture_reader.specs.declared.refusal.CaptureRefusal.TheVariants.{At, NoMemory}
use Rattle.capture_reader.specs.CaptureText.{item_text, items_text, first_text, capture_text, AreItems, IsCapture}
use Rattle.capture_reader.specs.Faults.{BreaksItemLine, IsLaterFault, IsFirstFault, NoFirstLine, IsCaptureFault}
use Rattle.capture_reader.specs.Reading.{first_at}
use Rattle.capture_reader.proofs.FirstLine.{first_again, no_fault, good_line}
use Rattle.capture_reader.proofs.ItemLines.{same_front}
use Rattle.ipb_base.proofs.Fronts.{parts_of}

-- what follows the first line
behind_first : (left right : ℕ) (rest more : List ℕ) → IsIdentifier left
    → IsIdentifier right → first_text left ++ rest ≡ first_text right ++ more
    → (left ≡ right) × (rest ≡ more)
behind_first left right rest more is of e =
    parts_of left right rest more (sym (first_again left rest is) ∙ (ap first_at e ∙ first_again right more of))

later_parts : (text : List ℕ) (line : ℕ) (why : CaptureWhy) → (fault : IsLaterFault text line why)
    → text ≡ first_text fault.before.first ++ (items_text fault.before.items ++ fault.rest)
later_parts text line why fault =
    fault.parts ∙ append_assoc (first_text fault.before.first) (items_text fault.before.items) fault.rest

pub none : (capture : Capture) (line : ℕ) (why : CaptureWhy) → IsCapture capture
    → IsFirstFault (capture_text capture) line why → ⊥
none capture line why is (inl (one, first, no_line)) = no_line capture.first (items_text capture.items) is.first refl
none capture line why is (inr fault) =
    let parts = behind_first capture.first fault.before.first (items_text capture.items) _ is.first fault.ranges.first
    (later_parts (capture_text capture) line why fault) in
    no_fault capture.items fault.before.items fault.rest why is.items fault.ranges.items parts.1 fault.rule

-- one line breaks one rule
one_rule : (why other : CaptureWhy) (text : List ℕ) → BreaksItemLine why text → BreaksItemLine other text → why ≡ other
one_rule First other text is of = absurd is
one_rule why First text is of = absurd of
one_rule Form Form text is of = refl
one_rule Long Long text is of = refl
one_rule Form Long text is of = absurd (is.none of.item of.rest of.bytes of.begins)
one_rule Long Form text is of = absurd (of.none is.item is.rest is.bytes is.begins)

-- a line of a datagram, and no faulty one, stands at the front
broken : (items : List Caught) (rest more : List ℕ) (why : CaptureWhy) → AreItems items
    → rest ≡ items_text items ++ more → length items ≢ 0 → BreaksItemLine why rest → ⊥
broken [] rest more why are e some is = some refl
broken (item ∷ items) rest more why are e some is =
    good_line why item (items_text items ++ more) are.0
    (subst (BreaksItemLine why) (e ∙ append_assoc (item_text item) (items_text items) more) is)

-- the lines before the fault are the same
same_lines : (xs ys : List Caught) (rest more : List ℕ) (why other : CaptureWhy) → AreItems xs → AreItems ys
    → items_text xs ++ rest ≡ items_text ys ++ more → BreaksItemLine why rest → BreaksItemLine other more
    → (length xs ≡ length ys) × (rest ≡ more)
same_lines [] [] rest more why other are fit e is of = (refl, e)
same_lines [] (y ∷ ys) rest more why other are fit e is of =
    absurd (broken (y ∷ ys) rest more why fit e (λ z. absurd (omega arith)) is)
same_lines (x ∷ xs) [] rest more why other are fit e is of =
    absurd (broken (x ∷ xs) more rest other are (sym e) (λ z. absurd (omega arith)) of)
same_lines (x ∷ xs) (y ∷ ys) rest more why other are fit e is of =
    let front = same_front x y (items_text xs ++ rest) (items_text ys ++ more) are.0.bytes fit.0.bytes
    (sym (append_assoc (item_text x) (items_text xs) rest) ∙ (e ∙ append_assoc (item_text y) (items_text ys) more)) in
    let later = same_lines xs ys rest more why other are.1 fit.1 front.1 is of in
    (omega (arith, later.0), later.1)

later : (text : List ℕ) (line line' : ℕ) (why why' : CaptureWhy) → IsLaterFault text line why
    → IsLaterFault text line' why' → (line ≡ line') × (why ≡ why')
later text line line' why why' is of =
    let parts = behind_first is.before.first of.before.first (items_text is.before.items ++ is.rest)
    (items_text of.before.items ++ of.rest) is.ranges.first of.ranges.first
    (sym (later_parts text line why is) ∙ later_parts text line' why' of) in
    let same = same_lines is.before.items of.before.items is.rest of.rest why why' is.ranges.items of.ranges.items parts.1
    is.rule of.rule in (
      omega (arith, is.counted, of.counted, same.0),
      one_rule why why' is.rest is.rule (subst (BreaksItemLine why') (sym same.1) of.rule),
    )

no_first_line : (text : List ℕ) (line : ℕ) (why : CaptureWhy) → NoFirstLine text → IsLaterFault text line why → ⊥
no_first_line text line why no_line fault =
    no_line fault.before.first _ fault.ranges.first (later_parts text line why fault)

pub one : (text : List ℕ) (line line' : ℕ) (why why' : CaptureWhy) → IsFirstFault text line why
    → IsFirstFault text line' why' → (line ≡ line') × (why ≡ why')
one text line line' why why' (inl (l, w, n)) (inl (l', w', n')) = (l ∙ sym l', w ∙ sym w')
one text line line' why why' (inl (l, w, n)) (inr fault) = absurd (no_first_line text line' why' n fault)
one text line line' why why' (inr fault) (inl (l, w, n)) = absurd (no_first_line text line why n fault)
one text line line' why why' (inr is) (inr of) = later text line line' why why' is of

pub refused_by : (text : List ℕ) (refusal : CaptureRefusal) → IsCaptureFault text refusal → (line : ℕ) (why : CaptureWhy)
    → IsFirstFault text line why → (refusal ≡ At line why) ⊎ (refusal ≡ NoMemory)
refused_by text NoMemory is line why fault = inr refl
refused_by text (At line' why') is line why fault =
    let same = one text line' line why' why is fault in inl (rw (same.0, same.1) refl)

pub no_fault_read : (text : List ℕ) (capture : Capture) → IsCapture capture × (text ≡ capture_text capture) → (line : ℕ)
    (why : CaptureWhy) → IsFirstFault text line why → ⊥
no_fault_read text capture read line why fault =
    none capture line why read.0 (subst (λ (t : List ℕ). IsFirstFault t line why) read.1 fault)

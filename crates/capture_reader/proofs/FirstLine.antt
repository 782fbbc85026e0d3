-- The first line of a capture, and its lines together.
use Rattle.std.proofs.Common.{◌≡◌, ℕ, ◌<◌, ◌^◌, List, [], ◌∷◌, ◌++◌, length, Some, None, refl, sym, ap}
use Rattle.std.proofs.Common.{◌∙◌, inr, arith, append_assoc, codes, subst}
use Rattle.std.specs.Fmt.{decimal}
use Rattle.std.proofs.lemmas.Bool.Decides.{nat_tests}
use Rattle.packet_ids.specs.Identifier.{IsIdentifier}
use Rattle.capture_reader.specs.declared.capture.Caught.{Caught}
use Rattle.capture_reader.specs.declared.capture.Capture.{Capture}
use Rattle.capture_reader.specs.declared.refusal.CaptureWhy.{CaptureWhy}
use Rattle.capture_reader.specs.declared.refusal.CaptureWhy.TheVariants.{First, Form, Long}
use Rattle.capture_reader.specs.declared.refusal.CaptureRefusal.{CaptureRefusal}
use Rattle.capture_reader.specs.declared.refusal.CaptureRefusal.TheVariants.{At, NoMemory}
use Rattle.capture_reader.specs.CaptureText.{item_text, items_text, first_text, capture_text, IsItem, AreItems, IsCapture}
use Rattle.capture_reader.specs.Faults.{NoFirstLine, BreaksItemLine, IsCaptureFault}
use Rattle.ipb_base.specs.Fronts.{behind}
use Rattle.capture_reader.specs.Fronts.{with_text}
use Rattle.capture_reader.specs.Reading.{number_at, id_of, first_in, first_at, IsItemsFault}
use Rattle.capture_reader.proofs.ItemLines.{some_line, same_front, one_list}
use Rattle.ipb_base.proofs.Fronts.{bound, parts_of}
use Rattle.capture_reader.proofs.WithTexts.{texted}
use Rattle.capture_reader.proofs.Numbers.{number_again}
use Rattle.ipb_base.proofs.FrontWords.{behind_again, behind_found}

known : (first : ℕ) → IsIdentifier first → id_of first ≡ Some first
known first is = let low = is.from_one in let high = is.up_to_end in grind (arith, nat_tests)

id_found : (number first : ℕ) → id_of number ≡ Some first → IsIdentifier first
id_found number first e = record { from_one = grind (arith, nat_tests); up_to_end = grind (arith, nat_tests) }

line_of : (first : ℕ) (rest : List ℕ) → first_text first ++ rest ≡ codes "first " ++ (decimal first ++ 10 ∷ rest)
line_of first rest =
    append_assoc (codes "first ") (decimal first ++ codes "\n") rest
    ∙ ap (λ (t : List ℕ). codes "first " ++ t) (append_assoc (decimal first) (codes "\n") rest)

in_again : (first : ℕ) (rest : List ℕ) → IsIdentifier first → first_in (first_text first ++ rest) ≡ Some first
unfolding first_in
in_again first rest is =
    let small : first < 2 ^ 32 = omega (arith, is.up_to_end) in
    ap first_in (line_of first rest) ∙ rw (number_again first 10 rest small (omega arith)) (known first is)

-- the first line is read again
pub first_again : (first : ℕ) (rest : List ℕ) → IsIdentifier first
    → first_at (first_text first ++ rest) ≡ Some (first, rest)
unfolding first_at
first_again first rest is =
    rw (in_again first rest is) (ap (with_text first) (behind_again (first_text first) rest))

in_found : (text : List ℕ) (first : ℕ) → first_in text ≡ Some first → IsIdentifier first
unfolding first_in
in_found text first e =
    let rest = bound (behind (codes "first ") text) _ first e in
    let read = bound (number_at rest.0) _ first rest.2 in id_found read.0.0 first read.2

pub first_found : (text rest : List ℕ) (first : ℕ) → first_at text ≡ Some (first, rest)
    → IsIdentifier first × (text ≡ first_text first ++ rest)
unfolding first_at
first_found text rest first e =
    let one = bound (first_in text) _ (first, rest) e in
    let parts = texted one.0 first (behind (first_text one.0) text) rest one.2 in (
      subst IsIdentifier parts.0 (in_found text one.0 one.1),
      behind_found (first_text one.0) text rest parts.1 ∙ ap (λ (f : ℕ). first_text f ++ rest) parts.0,
    )

pub no_first : (text : List ℕ) → first_at text ≡ None → NoFirstLine text
no_first text none first rest is e =
    absurd (let same = sym none ∙ (ap first_at e ∙ first_again first rest is) in cc)

pub no_capture : (text : List ℕ) (capture : Capture) → first_at text ≡ None → IsCapture capture
    → text ≡ capture_text capture → ⊥
no_capture text capture none is e = no_first text none capture.first (items_text capture.items) is.first e

-- a faulty line is no line of a capture
pub good_line : (why : CaptureWhy) (item : Caught) (rest : List ℕ) → IsItem item
    → BreaksItemLine why (item_text item ++ rest) → ⊥
good_line First item rest is breaks = breaks
good_line Form item rest is breaks = breaks.none item rest is.bytes refl
good_line Long item rest is breaks =
    let same = same_front item breaks.item rest breaks.rest is.bytes breaks.bytes breaks.begins in
    omega (arith, breaks.long, is.length, ap (λ (i : Caught). length i.bytes) same.0)

some_fault : (why : CaptureWhy) → BreaksItemLine why [] → ⊥
some_fault First breaks = breaks
some_fault Form breaks = breaks.some refl
some_fault Long breaks = some_line breaks.item breaks.rest breaks.begins

fault_at : (why : CaptureWhy) (left right : List ℕ) → left ≡ right → BreaksItemLine why right → BreaksItemLine why left
fault_at why left right e breaks = subst (BreaksItemLine why) (sym e) breaks

pub no_fault : (xs before : List Caught) (rest : List ℕ) (why : CaptureWhy) → AreItems xs → AreItems before
    → items_text xs ≡ items_text before ++ rest → BreaksItemLine why rest → ⊥
no_fault [] [] rest why are good e breaks = some_fault why (fault_at why [] rest e breaks)
no_fault [] (b ∷ before) rest why are good e breaks =
    some_line b (items_text before ++ rest) (e ∙ append_assoc (item_text b) (items_text before) rest)
no_fault (x ∷ xs) [] rest why are good e breaks =
    good_line why x (items_text xs) are.0 (fault_at why (item_text x ++ items_text xs) rest e breaks)
no_fault (x ∷ xs) (b ∷ before) rest why are good e breaks =
    let front = same_front x b (items_text xs) (items_text before ++ rest) are.0.bytes good.0.bytes
    (e ∙ append_assoc (item_text b) (items_text before) rest) in
    no_fault xs before rest why are.1 good.1 front.1 breaks

-- the text of a capture, line by line
behind_first : (text rest : List ℕ) (first : ℕ) (capture : Capture) → first_at text ≡ Some (first, rest)
    → IsCapture capture → text ≡ capture_text capture → (capture.first ≡ first) × (items_text capture.items ≡ rest)
behind_first text rest first capture e is same =
    parts_of capture.first first (items_text capture.items) rest
    (sym (first_again capture.first (items_text capture.items) is.first) ∙ (ap first_at (sym same) ∙ e))

pub no_items_fault : (text rest : List ℕ) (first : ℕ) (refusal : CaptureRefusal) → first_at text ≡ Some (first, rest)
    → IsItemsFault rest refusal → (capture : Capture) → IsCapture capture → text ≡ capture_text capture
    → refusal ≡ NoMemory
no_items_fault text rest first NoMemory e fault capture is same = refl
no_items_fault text rest first (At line why) e fault capture is same =
    absurd (no_fault capture.items fault.before fault.rest why is.items fault.ranges
    ((behind_first text rest first capture e is same).1 ∙ fault.parts) fault.rule)

pub items_fault : (text rest : List ℕ) (first : ℕ) (refusal : CaptureRefusal) → first_at text ≡ Some (first, rest)
    → IsItemsFault rest refusal → IsCaptureFault text refusal
items_fault text rest first NoMemory e fault = tt
items_fault text rest first (At line why) e fault =
    let line1 = first_found text rest first e in
    inr (record {
      before = record { first = first; items = fault.before };
      rest = fault.rest;
      ranges = record { first = line1.0; items = fault.ranges };
      parts = line1.1 ∙ (ap (λ (t : List ℕ). first_text first ++ t) fault.parts
          ∙ sym (append_assoc (first_text first) (items_text fault.before) fault.rest));
      counted = fault.counted;
      rule = fault.rule;
    })

pub whole : (text rest : List ℕ) (first : ℕ) (items : List Caught) → first_at text ≡ Some (first, rest)
    → AreItems items → rest ≡ items_text items
    → IsCapture (record { first = first; items = items }) × (text ≡ capture_text (record { first = first; items = items }))
whole text rest first items e are is =
    let line1 = first_found text rest first e in
    (record { first = line1.0; items = are }, line1.1 ∙ ap (λ (t : List ℕ). first_text first ++ t) is)

pub only_one : (text rest : List ℕ) (first : ℕ) (items : List Caught) → first_at text ≡ Some (first, rest)
    → AreItems items → rest ≡ items_text items → (capture : Capture) → IsCapture capture → text ≡ capture_text capture
    → ◌≡◌ {A = Capture} (record { first = first; items = items }) capture
only_one text rest first items e are is capture good same =
    let parts = behind_first text rest first capture e good same in
    let list = one_list items capture.items are good.items (sym (parts.1 ∙ is)) in
    ap (λ (f : ℕ). record { first = f; items = items }) (sym parts.0)
    ∙ ap (λ (xs : List Caught). record { first = capture.first; items = xs }) list

pub same_text : (one other : Capture) → IsCapture one → IsCapture other → capture_text one ≡ capture_text other
    → one ≡ other
same_text one other is of e =
    only_one (capture_text one) (items_text one.items) one.first one.items
    (first_again one.first (items_text one.items) is.first) is.items refl other of e

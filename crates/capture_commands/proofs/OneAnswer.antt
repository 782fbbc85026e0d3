-- An input deserves one refusal or has one answer.
use Rattle.std.proofs.Common.{◌≡◌, ◌⊎◌, ℕ, List, Option, Some, inl, inr, refl, sym, ap, subst, ◌∙◌}
use Rattle.std.proofs.Common.{arith}
use Rattle.capture_reader.specs.declared.capture.Capture.{Capture}
use Rattle.capture_reader.specs.declared.refusal.CaptureWhy.{CaptureWhy}
use Rattle.capture_reader.specs.CaptureText.{IsCapture, capture_text}
use Rattle.capture_reader.specs.Description.{IsDescription}
use Rattle.capture_reader.specs.Faults.{IsFirstFault}
use Rattle.command_terms.specs.Numbers.{refused_status}
use Rattle.capture_commands.specs.declared.refusal.TextRefusal.{TextRefusal}
use Rattle.capture_commands.specs.declared.refusal.TextRefusal.TheVariants as refusal
use Rattle.capture_commands.specs.Lines.{refusal_line}
use Rattle.capture_commands.specs.Numbers.{capture_bytes}
use Rattle.capture_commands.specs.Texts.{DeservesAsCapture, DeservesAsDescription, IsDescribed, IsDescriptionOf}
use Rattle.capture_commands.specs.Texts.{IsRefused, IsTextOf, IsUndescribed}

-- bytes that deserve one refusal at most are refused by one line
pub one_line : (Deserves : List ℕ → TextRefusal → Type 0)
    → ((bytes : List ℕ) (one other : TextRefusal) → Deserves bytes one → Deserves bytes other → one ≡ other)
    → (bytes line other : List ℕ) → IsRefused Deserves bytes line → IsRefused Deserves bytes other → line ≡ other
one_line Deserves one bytes line other is of =
    is.spelled
    ∙ (ap refusal_line (one bytes is.refusal of.refusal is.deserved of.deserved) ∙ sym of.spelled)

-- ---- describe

module _ (one_fault : (text : List ℕ) (line line' : ℕ) (why why' : CaptureWhy) → IsFirstFault text line why
    → IsFirstFault text line' why' → (line ≡ line') × (why ≡ why')) where
  pub one_as_capture : (bytes : List ℕ) (one other : TextRefusal) → DeservesAsCapture bytes one
      → DeservesAsCapture bytes other → one ≡ other
  one_as_capture bytes refusal.LongCapture refusal.LongCapture is of = refl
  one_as_capture bytes refusal.LongCapture (refusal.Capture line why) is of = absurd (omega (arith, is, of.0))
  one_as_capture bytes (refusal.Capture line why) refusal.LongCapture is of = absurd (omega (arith, is.0, of))
  one_as_capture bytes (refusal.Capture line why) (refusal.Capture line' why') is of =
      let same = one_fault bytes line line' why why' is.1 of.1 in rw (same.0, same.1) refl
  one_as_capture bytes refusal.LongDescription other is of = absurd is
  one_as_capture bytes refusal.NotDescription other is of = absurd is
  one_as_capture bytes one refusal.LongDescription is of = absurd of
  one_as_capture bytes one refusal.NotDescription is of = absurd of

module _ (no_fault : (capture : Capture) (line : ℕ) (why : CaptureWhy) → IsCapture capture
    → ¬ IsFirstFault (capture_text capture) line why) where
  undeserved : (bytes : List ℕ) (capture : Capture) → IsTextOf bytes capture → (one : TextRefusal)
      → DeservesAsCapture bytes one → ⊥
  undeserved bytes capture read refusal.LongCapture is = omega (arith, read.fits, is)
  undeserved bytes capture read (refusal.Capture line why) is =
      no_fault capture line why read.is_capture (subst (λ (t : List ℕ). IsFirstFault t line why) read.spelled is.1)
  undeserved bytes capture read refusal.LongDescription is = is
  undeserved bytes capture read refusal.NotDescription is = is

  pub capture_unrefused : (bytes line : List ℕ) (capture : Capture) → IsTextOf bytes capture
      → IsRefused DeservesAsCapture bytes line → ⊥
  capture_unrefused bytes line capture read is = undeserved bytes capture read is.refusal is.deserved

-- ---- undescribe

pub one_as_description : (bytes : List ℕ) (one other : TextRefusal) → DeservesAsDescription bytes one
    → DeservesAsDescription bytes other → one ≡ other
one_as_description bytes refusal.LongDescription refusal.LongDescription is of = refl
one_as_description bytes refusal.LongDescription refusal.NotDescription is of = absurd (omega (arith, is, of.0))
one_as_description bytes refusal.NotDescription refusal.LongDescription is of = absurd (omega (arith, is.0, of))
one_as_description bytes refusal.NotDescription refusal.NotDescription is of = refl
one_as_description bytes refusal.LongCapture other is of = absurd is
one_as_description bytes (refusal.Capture line why) other is of = absurd is
one_as_description bytes one refusal.LongCapture is of = absurd of
one_as_description bytes one (refusal.Capture line why) is of = absurd of

not_deserved : (bytes : List ℕ) (capture : Capture) → IsDescriptionOf bytes capture → (one : TextRefusal)
    → DeservesAsDescription bytes one → ⊥
not_deserved bytes capture read refusal.LongDescription is = omega (arith, read.fits, is)
not_deserved bytes capture read refusal.LongCapture is = is
not_deserved bytes capture read (refusal.Capture line why) is = is
not_deserved bytes capture read refusal.NotDescription is = is.1 capture read.is_capture read.described

pub description_unrefused : (bytes line : List ℕ) (capture : Capture) → IsDescriptionOf bytes capture
    → IsRefused DeservesAsDescription bytes line → ⊥
description_unrefused bytes line capture read is = not_deserved bytes capture read is.refusal is.deserved

-- ---- one answer

module _ (one_capture : (one other : Capture) → IsCapture one → IsCapture other → capture_text one ≡ capture_text other
    → one ≡ other)
    (one_description : (capture : Capture) (text other : List ℕ) → IsDescription capture text
    → IsDescription capture other → text ≡ other) where
  pub described_once : (bytes : List ℕ) (s t : ℕ) (a b : List ℕ) → IsDescribed bytes s a → IsDescribed bytes t b
      → (s ≡ t) × (a ≡ b)
  described_once bytes s t a b is of =
      let same = one_capture is.capture of.capture is.read.is_capture of.read.is_capture
      (sym is.read.spelled ∙ of.read.spelled) in (
        is.told ∙ sym of.told,
        one_description of.capture a b (subst (λ (c : Capture). IsDescription c a) same is.described) of.described,
      )

module _ (one_described : (text : List ℕ) (one other : Capture) → IsCapture one → IsCapture other
    → IsDescription one text → IsDescription other text → one ≡ other) where
  pub undescribed_once : (bytes : List ℕ) (s t : ℕ) (a b : List ℕ) → IsUndescribed bytes s a → IsUndescribed bytes t b
      → (s ≡ t) × (a ≡ b)
  undescribed_once bytes s t a b is of =
      let same = one_described bytes is.capture of.capture is.read.is_capture of.read.is_capture is.read.described
      of.read.described in (is.told ∙ sym of.told, is.spelled ∙ (ap capture_text same ∙ sym of.spelled))

-- something is made of bytes, or they are refused by one line
pub one_owed : (Done : List ℕ → ℕ → List ℕ → Type 0) (Refused : List ℕ → List ℕ → Type 0)
    → ((bytes : List ℕ) (s t : ℕ) (a b : List ℕ) → Done bytes s a → Done bytes t b → (s ≡ t) × (a ≡ b))
    → ((bytes line other : List ℕ) → Refused bytes line → Refused bytes other → line ≡ other)
    → ((bytes line : List ℕ) (s : ℕ) (a : List ℕ) → Done bytes s a → Refused bytes line → ⊥)
    → (bytes : List ℕ) (s t : ℕ) (a b : List ℕ)
    → Done bytes s a ⊎ ((s ≡ refused_status) × Refused bytes a)
    → Done bytes t b ⊎ ((t ≡ refused_status) × Refused bytes b) → (s ≡ t) × (a ≡ b)
one_owed Done Refused one_done one_line apart bytes s t a b (inl is) (inl of) = one_done bytes s t a b is of
one_owed Done Refused one_done one_line apart bytes s t a b (inl is) (inr of) = absurd (apart bytes b s a is of.1)
one_owed Done Refused one_done one_line apart bytes s t a b (inr is) (inl of) = absurd (apart bytes a t b of is.1)
one_owed Done Refused one_done one_line apart bytes s t a b (inr is) (inr of) =
    (is.0 ∙ sym of.0, one_line bytes a b is.1 of.1)

pub same_limit : (limit : ℕ) → ◌≡◌ {A = Option ℕ} (Some capture_bytes) (Some limit) → limit ≡ capture_bytes
same_limit limit is = cc

-- What datagrams prove, one after the other.
use Rattle.std.proofs.Common.{◌≡◌, ◌⊎◌, ℕ, ◌+◌, ◌-◌, ◌<◌, ◌≤◌, List, ◌∷◌, length, drop, get_or, refl, sym, ap, ◌∙◌}
use Rattle.std.proofs.Common.{inl, inr, arith, subst, Bool, true, false, cond, max}
use Rattle.std.proofs.lemmas.Bool.{cases_lt}
use Rattle.std.proofs.lemmas.List.{at_drop_more}
use Rattle.packet_ids.specs.Identifier.{IsIdentifier, identifier_at}
use Rattle.status_packet.specs.Range.{IsMtu, IsBufferCount}
use Rattle.status_packet.specs.StatusBytes.{IsStatusReply}
use Rattle.capture_reader.specs.declared.capture.Caught.{Caught}
use Rattle.capture_reader.specs.Proved.{ProvesByReply, ProvesByStatus, Proves, HasProof, sent_after}
use Rattle.capture_reader.specs.Describing.{IsLastPlace, IsGreatest}

status_shown : (first sent last place mtu buffers next : ℕ) (bytes : List ℕ) → IsMtu mtu → IsBufferCount buffers
    → IsIdentifier next → IsStatusReply bytes mtu buffers next → place ≡ last - 1
    → (last ≡ 0) ⊎ ((1 ≤ last) × (last ≤ sent + 1) × (identifier_at first last ≡ next))
    → (place ≡ 0) ⊎ ProvesByStatus first sent bytes place
status_shown first sent last place mtu buffers next bytes m b n told is (inl none) = inl (omega arith)
status_shown first sent last place mtu buffers next bytes m b n told is (inr found) =
    let back : place + 1 ≡ last = omega (arith, found.0) in
    inr (record {
      mtu = mtu;
      buffers = buffers;
      next = next;
      mtu_range = m;
      buffer_range = b;
      identifier_range = n;
      told = told;
      was_sent = omega (arith, found.1);
      identifier = ap (identifier_at first) back ∙ found.2;
    })

pub status_greatest : (first sent last place mtu buffers next : ℕ) (bytes : List ℕ) → IsMtu mtu → IsBufferCount buffers
    → IsIdentifier next → IsStatusReply bytes mtu buffers next
    → ((mtu' buffers' next' : ℕ) → IsMtu mtu' → IsBufferCount buffers' → IsIdentifier next'
    → IsStatusReply bytes mtu' buffers' next' → next ≡ next')
    → IsLastPlace first (sent + 1) next last → place ≡ last - 1 → IsGreatest (ProvesByStatus first sent bytes) place
status_greatest first sent last place mtu buffers next bytes m b n told one is e = record {
  greatest = λ other p.
      let same = one p.mtu p.buffers p.next p.mtu_range p.buffer_range p.identifier_range p.told in
      omega (arith, is.greatest (other + 1) (omega arith) (omega (arith, p.was_sent)) (p.identifier ∙ sym same));
  shown = status_shown first sent last place mtu buffers next bytes m b n told e is.found;
}

pub no_status : (first sent : ℕ) (bytes : List ℕ)
    → ((mtu buffers next : ℕ) → IsMtu mtu → IsBufferCount buffers → IsIdentifier next
    → IsStatusReply bytes mtu buffers next → ⊥)
    → IsGreatest (ProvesByStatus first sent bytes) 0
no_status first sent bytes none = record {
  greatest = λ other p.
      absurd (none p.mtu p.buffers p.next p.mtu_range p.buffer_range p.identifier_range p.told);
  shown = inl refl;
}

from_reply : (first sent a m : ℕ) (item : Caught) → item.sent ≡ false → m ≡ a
    → (a ≡ 0) ⊎ ProvesByReply first sent item.bytes a → (m ≡ 0) ⊎ Proves first sent item m
from_reply first sent a m item received e (inl none) = inl (e ∙ none)
from_reply first sent a m item received e (inr shown) =
    inr (received, inl (subst (ProvesByReply first sent item.bytes) (sym e) shown))

from_status : (first sent a m : ℕ) (item : Caught) → item.sent ≡ false → m ≡ a
    → (a ≡ 0) ⊎ ProvesByStatus first sent item.bytes a → (m ≡ 0) ⊎ Proves first sent item m
from_status first sent a m item received e (inl none) = inl (e ∙ none)
from_status first sent a m item received e (inr shown) =
    inr (received, inr (subst (ProvesByStatus first sent item.bytes) (sym e) shown))

shown_by : (first sent a b m : ℕ) (item : Caught) → item.sent ≡ false
    → IsGreatest (ProvesByReply first sent item.bytes) a → IsGreatest (ProvesByStatus first sent item.bytes) b
    → (m ≡ max a b) → (a < b) ⊎ (b ≤ a) → (m ≡ 0) ⊎ Proves first sent item m
shown_by first sent a b m item received r s e (inl less) =
    from_status first sent b m item received (omega arith) s.shown
shown_by first sent a b m item received r s e (inr more) =
    from_reply first sent a m item received (omega arith) r.shown

at_most : (first sent a b m other : ℕ) (item : Caught) → IsGreatest (ProvesByReply first sent item.bytes) a
    → IsGreatest (ProvesByStatus first sent item.bytes) b → m ≡ max a b
    → ProvesByReply first sent item.bytes other ⊎ ProvesByStatus first sent item.bytes other → other ≤ m
at_most first sent a b m other item r s e (inl p) = omega (arith, r.greatest other p)
at_most first sent a b m other item r s e (inr p) = omega (arith, s.greatest other p)

pub both_greatest : (first sent a b m : ℕ) (item : Caught) → item.sent ≡ false
    → IsGreatest (ProvesByReply first sent item.bytes) a → IsGreatest (ProvesByStatus first sent item.bytes) b
    → m ≡ max a b → IsGreatest (Proves first sent item) m
both_greatest first sent a b m item received r s e = record {
  greatest = λ other p. at_most first sent a b m other item r s e p.1;
  shown = shown_by first sent a b m item received r s e (cases_lt a b);
}

-- ---- one datagram more

-- what is proved before a datagram, and by those that are left
abbrev pub Left : ℕ → ℕ → List Caught → ℕ → ℕ → Type 0
Left first sent items place other = (other ≤ place) ⊎ HasProof first sent items other

one_left : (first sent place shown more other : ℕ) (item : Caught) (rest : List Caught)
    → IsGreatest (Proves first sent item) shown → more ≡ max shown place → Left first sent (item ∷ rest) place other
    → Left first (sent_after first sent item) rest more other
one_left first sent place shown more other item rest is e (inl less) = inl (omega arith)
one_left first sent place shown more other item rest is e (inr (inl here)) = inl (omega (arith, is.greatest other here))
one_left first sent place shown more other item rest is e (inr (inr later)) = inr later

grown_by : (b : Bool) (sent : ℕ) → cond b (sent + 1) sent ≤ sent + 1
grown_by true sent = omega arith
grown_by false sent = omega arith

pub grown : (first sent : ℕ) (item : Caught) → sent_after first sent item ≤ sent + 1
grown first sent item = grown_by _ sent

shown_before : (first more place : ℕ) (items : List Caught) → more ≡ place → (place ≡ 0) ⊎ HasProof first 0 items place
    → (more ≡ 0) ⊎ HasProof first 0 items more
shown_before first more place items e (inl none) = inl (e ∙ none)
shown_before first more place items e (inr proof) = inr (subst (HasProof first 0 items) (sym e) proof)

shown_here : (first sent more shown : ℕ) (items : List Caught) (item : Caught) (rest : List Caught) → more ≡ shown
    → ((other : ℕ) → HasProof first sent (item ∷ rest) other → HasProof first 0 items other)
    → (shown ≡ 0) ⊎ Proves first sent item shown → (more ≡ 0) ⊎ HasProof first 0 items more
shown_here first sent more shown items item rest e back (inl none) = inl (e ∙ none)
shown_here first sent more shown items item rest e back (inr proof) =
    inr (subst (HasProof first 0 items) (sym e) (back shown (inl proof)))

one_shown : (first sent place shown more : ℕ) (items : List Caught) (item : Caught) (rest : List Caught)
    → IsGreatest (Proves first sent item) shown → more ≡ max shown place
    → ((other : ℕ) → HasProof first sent (item ∷ rest) other → HasProof first 0 items other)
    → (place ≡ 0) ⊎ HasProof first 0 items place → (shown < place) ⊎ (place ≤ shown)
    → (more ≡ 0) ⊎ HasProof first 0 items more
one_shown first sent place shown more items item rest is e back before (inl less) =
    shown_before first more place items (omega arith) before
one_shown first sent place shown more items item rest is e back before (inr large) =
    shown_here first sent more shown items item rest (omega arith) back is.shown

-- the datagrams so far and those that are left
pub record Walk (first : ℕ) (items : List Caught) (sent place : ℕ) (rest : List Caught) : Type 0 where
  pub left : (other : ℕ) → HasProof first 0 items other → Left first sent rest place other
  pub back : (other : ℕ) → HasProof first sent rest other → HasProof first 0 items other
  pub shown : (place ≡ 0) ⊎ HasProof first 0 items place

step : (first : ℕ) (items : List Caught) (sent place shown more : ℕ) (item : Caught) (rest : List Caught)
    → Walk first items sent place (item ∷ rest) → IsGreatest (Proves first sent item) shown → more ≡ max shown place
    → Walk first items (sent_after first sent item) more rest
step first items sent place shown more item rest walk is e = record {
  left = λ other p. one_left first sent place shown more other item rest is e (walk.left other p);
  back = λ other p. walk.back other (inr p);
  shown = one_shown first sent place shown more items item rest is e walk.back walk.shown (cases_lt shown place);
}

pub walk_on : (first : ℕ) (items : List Caught) (sent place shown more after i : ℕ) (item : Caught) → i < length items
    → item ≡ get_or items i item → Walk first items sent place (drop i items)
    → IsGreatest (Proves first sent item) shown → more ≡ max shown place → after ≡ sent_after first sent item
    → Walk first items after more (drop (i + 1) items)
walk_on first items sent place shown more after i item within at walk is e sent' =
    let rest = drop (i + 1) items in
    let here : drop i items ≡ item ∷ rest =
    at_drop_more (λ (xs : List Caught). xs) items i item within ∙ ap (λ (x : Caught). x ∷ rest) (sym at) in
    subst (λ (s : ℕ). Walk first items s more rest) (sym sent')
    (step first items sent place shown more item rest (subst (Walk first items sent place) here walk) is e)

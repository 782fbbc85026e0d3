-- The events of entries in byte order of their names.
use Rattle.std.proofs.Common.{◌≡◌, ◌⊎◌, inl, inr, ℕ, zero, suc, ◌+◌, ◌^◌, ◌<◌, ◌≤◌, List, [], ◌∷◌, ◌++◌, length, get_or}
use Rattle.std.proofs.Common.{Bool, true, false, cond, not, ◌&&◌, ◌==◌, T, nat_eq, nat_lt, min, bit_and, Some}
use Rattle.std.proofs.Common.{slice_get, slice_index, Less, Option, None, refl, ap, sym, ◌∙◌, subst, arith}
use Rattle.std.specs.List.{All, Contains, starts_with}
use Rattle.std.specs.Int.{bit_at, trailing_zeros, w32}
use Rattle.std.specs.FinMap.{is_sorted}
use Rattle.std.specs.FinMap.Entries.{below_all}
use Rattle.std.proofs.lemmas.Bool.{false≢true, cases_lt, and_parts, and_from, lt-ltb, ltb-true}
use Rattle.std.proofs.lemmas.Bool.Decides.{nat_tests}
use Rattle.std.proofs.lemmas.Nat.{and_le_l}
use Rattle.std.proofs.lemmas.Nat.Bits.{bit_at_and, bit_at-lt, bit_at-zero, bit_at-trailing_zeros}
use Rattle.std.proofs.lemmas.List.Elements.{Contains-get_or, Contains-push, Contains-push_cases, Contains-append_left}
use Rattle.std.proofs.lemmas.Option.{slice_get_within}
use Rattle.node_tree.specs.declared.register.Register.{Register}
use Rattle.node_tree.specs.declared.overlapping.events.Event.{Event}
use Rattle.address_table.specs.declared.kinds.Mode.{Mode}
use Rattle.address_table.specs.declared.kinds.Mode.TheVariants.{Single, Block, Port, Hierarchical}
use Rattle.node_tree.specs.Maps.{IsRegister}
use Rattle.node_tree.specs.Named.{Name}
use Rattle.node_tree.specs.Walk.{words_of}
use Rattle.node_tree.specs.Overlaps.{overlap, overlap_at, passes, takes_words, is_dotted_prefix, share_an_address}
use Rattle.node_tree.specs.Overlaps.{share_a_bit}
use Rattle.node_tree.specs.OverlapSearch.{AreNamedRegisters, AreFirsts, IsSettled, IsNoted, IsEvent, event_at, Adds}
use Rattle.node_tree.specs.OverlapSearch.{AddsAt, BeginsWith, Before, Meet, HasBits, AreEvents, AreSettled, Settles}
use Rattle.node_tree.specs.OverlapSearch.{IsIdle, IsPut, Grows, IsPast, IsTimeline, AsksOf, AreNoted, AreAllEvents}
use Rattle.node_tree.proofs.CycleLemmas.{either}
use Rattle.node_tree.proofs.NamedLemmas.{by_bytes}
use Rattle.node_tree.proofs.EntryLemmas.{first, second, less_of}
use Rattle.node_tree.proofs.NotingLemmas.{Registers, at-both, settled-falls}
use Rattle.node_tree.proofs.RegisterLemmas.{some_words}
use Rattle.node_tree.proofs.EventLemmas.{none_there, before-one, before-other, before-push, before-last}
use Rattle.node_tree.proofs.EventLemmas.{before-push_cases}
use Rattle.node_tree.proofs.NameOrder.{not_so, between, dotted-begins, dotted-later, Begins}

-- entries in byte order
below-at : (x : Name) (es : Registers) (j : ℕ) (b : Name × Register) → T (below_all by_bytes x es)
    → slice_get es j ≡ Some b → by_bytes x b.0 ≡ Less
below-at x [] j b h is = let bad : ⊥ = cc in absurd bad
below-at x (e ∷ es) zero b h is =
    let same : e ≡ b = cc in subst (λ d. by_bytes x d.0 ≡ Less) same (less_of (by_bytes x e.0) (first _ _ h))
below-at x (e ∷ es) (suc j) b h is = below-at x es j b (second _ _ h) is

pub rises : (es : Registers) (i j : ℕ) (a b : Name × Register) → T (is_sorted by_bytes es) → i < j
    → slice_get es i ≡ Some a → slice_get es j ≡ Some b → by_bytes a.0 b.0 ≡ Less
rises [] i j a b h less p q = let bad : ⊥ = cc in absurd bad
rises (e ∷ es) i zero a b h less p q = absurd (omega arith)
rises (e ∷ es) zero (suc j) a b h less p q =
    let same : e ≡ a = cc in subst (λ d. by_bytes d.0 b.0 ≡ Less) same (below-at e.0 es j b (first _ _ h) q)
rises (e ∷ es) (suc i) (suc j) a b h less p q = rises es i j a b (second _ _ h) (omega arith) p q

some_value : (es : Registers) (i : ℕ) (a b : Name × Register) → slice_get es i ≡ Some a → slice_get es i ≡ Some b
    → a ≡ b
some_value es i a b p q = cc

-- an entry is past where a name comes that does not begin with its name
pub is_past : (es : Registers) (a k : ℕ) (ea ek : Name × Register) → T (is_sorted by_bytes es) → a < k
    → slice_get es a ≡ Some ea → slice_get es k ≡ Some ek
    → starts_with nat_eq ek.0 ea.0 ≡ false → (c : ℕ) → k ≤ c → c < length es → IsPast es a c
is_past es a k ea ek order less a_is k_is apart c after within = record {
  later = omega arith;
  apart = λ d e d_is e_is. (
    not_so (is_dotted_prefix d.0 e.0) (λ dotted.
        let begins : Begins e.0 ea.0 =
        subst (λ x. Begins e.0 x.0) (some_value es a d ea d_is a_is) (dotted-begins d.0 e.0 dotted) in
        either (cases_lt k c)
        (λ later. false≢true
        (sym apart ∙ between ea.0 ek.0 e.0 (rises es a k ea ek order less a_is k_is)
        (rises es k c ek e order later k_is e_is) begins))
        (λ here. let same : c ≡ k = omega arith in
        let is_k : e ≡ ek = some_value es k e ek (subst (λ i. slice_get es i ≡ Some e) same e_is) k_is in
        false≢true (sym apart ∙ subst (λ x. Begins x.0 ea.0) is_k begins))),
    not_so (is_dotted_prefix e.0 d.0)
        (λ dotted. dotted-later e.0 d.0 (rises es a c d e order (omega arith) d_is e_is) dotted),
  );
}

-- entries that take words, are apart by their names and share a bit of a word overlap
some_bit : (m n k : ℕ) → bit_at m k ≡ 1 → bit_at n k ≡ 1 → not (bit_and m n == 0) ≡ true
some_bit m n k one other =
    not_zero (bit_and m n) (λ none.
    let both : bit_at (bit_and m n) k ≡ min (bit_at m k) (bit_at n k) = bit_at_and m n k in
    let is_zero : bit_at (bit_and m n) k ≡ 0 = ap (λ x. bit_at x k) none ∙ bit_at-zero k in
    omega arith)
  where
    positive : (x : ℕ) → 0 < x → not (x == 0) ≡ true
    positive x h = grind (arith, nat_tests)

    not_zero : (x : ℕ) → (x ≡ 0 → ⊥) → not (x == 0) ≡ true
    not_zero x h = either (cases_lt 0 x) (positive x) (λ more. absurd (h (omega arith)))

pub overlap-from : (a b : Name × Register) (x k : ℕ) → takes_words a.1.mode ≡ true → takes_words b.1.mode ≡ true
    → a.1.address ≤ x → x < a.1.address + words_of a.1.mode a.1.size → b.1.address ≤ x
    → x < b.1.address + words_of b.1.mode b.1.size
    → bit_at a.1.mask k ≡ 1 → bit_at b.1.mask k ≡ 1 → is_dotted_prefix a.0 b.0 ≡ false
    → is_dotted_prefix b.0 a.0 ≡ false → overlap a b ≡ true
overlap-from a b x k a_takes b_takes a_from a_until b_from b_until a_bit b_bit ab ba =
    let a_end = a.1.address + words_of a.1.mode a.1.size in
    let b_end = b.1.address + words_of b.1.mode b.1.size in
    let a_below : a.1.address < b_end = omega arith in
    let b_below : b.1.address < a_end = omega arith in
    let addresses : share_an_address a.1 b.1 ≡ true =
    and_from (nat_lt a.1.address b_end) (nat_lt b.1.address a_end) (lt-ltb a.1.address b_end a_below)
    (lt-ltb b.1.address a_end b_below) in
    let takes = and_from (takes_words a.1.mode) (takes_words b.1.mode) a_takes b_takes in
    let shared =
    and_from (share_an_address a.1 b.1) (share_a_bit a.1 b.1) addresses
    (some_bit a.1.mask b.1.mask k a_bit b_bit) in
    and_from ((takes_words a.1.mode && takes_words b.1.mode) && (share_an_address a.1 b.1 && share_a_bit a.1 b.1))
    (not (is_dotted_prefix a.0 b.0) && not (is_dotted_prefix b.0 a.0))
    (and_from (takes_words a.1.mode && takes_words b.1.mode)
    (share_an_address a.1 b.1 && share_a_bit a.1 b.1) takes shared)
    (and_from (not (is_dotted_prefix a.0 b.0)) (not (is_dotted_prefix b.0 a.0)) (ap not ab) (ap not ba))

-- what overlapping entries share
record Shares (a b : Name × Register) : Type 0 where
  pub address : ℕ
  pub a_from : a.1.address ≤ address
  pub a_until : address < a.1.address + words_of a.1.mode a.1.size
  pub b_from : b.1.address ≤ address
  pub b_until : address < b.1.address + words_of b.1.mode b.1.size
  pub bit : ℕ
  pub small : bit < 32
  pub a_bit : bit_at a.1.mask bit ≡ 1
  pub b_bit : bit_at b.1.mask bit ≡ 1

a_bit_of : (m n : ℕ) → not (bit_and m n == 0) ≡ true → m < 2 ^ 32
    → (k : ℕ) × (k < 32) × (bit_at m k ≡ 1) × (bit_at n k ≡ 1)
a_bit_of m n some word =
    let positive : 0 < bit_and m n = positive_of (bit_and m n) some in
    let under : bit_and m n < 2 ^ 32 = (let less = and_le_l m n in omega arith) in
    let (small, one, lower) = bit_at-trailing_zeros w32 (bit_and m n) positive under in
    let k = trailing_zeros w32 (bit_and m n) in
    let both : bit_at (bit_and m n) k ≡ min (bit_at m k) (bit_at n k) = bit_at_and m n k in
    let m_small = bit_at-lt m k in
    let n_small = bit_at-lt n k in
    (k, small, omega arith, omega arith)
  where
    positive_of : (x : ℕ) → not (x == 0) ≡ true → 0 < x
    positive_of x h = grind (arith, nat_tests)

overlap-parts : (a b : Name × Register) → overlap a b ≡ true
    → ((takes_words a.1.mode && takes_words b.1.mode) ≡ true)
    × ((share_an_address a.1 b.1 && share_a_bit a.1 b.1) ≡ true)
overlap-parts a b h =
    let both =
    and_parts ((takes_words a.1.mode && takes_words b.1.mode) && (share_an_address a.1 b.1 && share_a_bit a.1 b.1))
    (not (is_dotted_prefix a.0 b.0) && not (is_dotted_prefix b.0 a.0)) h in
    and_parts (takes_words a.1.mode && takes_words b.1.mode) (share_an_address a.1 b.1 && share_a_bit a.1 b.1) both.0

overlap-shares : (a b : Name × Register) → a.1.address < a.1.address + words_of a.1.mode a.1.size
    → b.1.address < b.1.address + words_of b.1.mode b.1.size
    → a.1.mask < 2 ^ 32 → overlap a b ≡ true → Shares a b
overlap-shares a b a_some b_some word h =
    let shared = (overlap-parts a b h).1 in
    let (addresses, bits) = and_parts (share_an_address a.1 b.1) (share_a_bit a.1 b.1) shared in
    let (ab, ba) =
    and_parts (nat_lt a.1.address (b.1.address + words_of b.1.mode b.1.size))
    (nat_lt b.1.address (a.1.address + words_of a.1.mode a.1.size)) addresses in
    let a_below : a.1.address < b.1.address + words_of b.1.mode b.1.size = ltb-true _ _ ab in
    let b_below : b.1.address < a.1.address + words_of a.1.mode a.1.size = ltb-true _ _ ba in
    let (k, small, one, other) = a_bit_of a.1.mask b.1.mask bits word in
    either (cases_lt a.1.address b.1.address)
    (λ less. record {
      address = b.1.address;
      a_from = omega arith;
      a_until = b_below;
      b_from = omega arith;
      b_until = b_some;
      bit = k;
      small = small;
      a_bit = one;
      b_bit = other;
    })
    (λ more. record {
      address = a.1.address;
      a_from = omega arith;
      a_until = a_some;
      b_from = more;
      b_until = a_below;
      bit = k;
      small = small;
      a_bit = one;
      b_bit = other;
    })

overlap-takes : (a b : Name × Register) → overlap a b ≡ true
    → (takes_words a.1.mode ≡ true) × (takes_words b.1.mode ≡ true)
overlap-takes a b h = and_parts (takes_words a.1.mode) (takes_words b.1.mode) (overlap-parts a b h).0

-- entries at two places
module _ (es : Registers) where
  there-at : (a b : ℕ) (o p : Option (Name × Register)) → slice_get es a ≡ o → slice_get es b ≡ p
      → overlap_at es a b ≡ true
      → (d e : Name × Register) × (slice_get es a ≡ Some d) × (slice_get es b ≡ Some e) × (overlap d e ≡ true)
  there-at a b (Some d) (Some e) p q h = (d, e, p, q, sym (at-both es a b d e p q) ∙ h)
  there-at a b o None p q h =
      absurd (false≢true (sym (ap (passes (λ y. passes (λ x. overlap x y) (slice_get es a))) q) ∙ h))
  there-at a b None (Some e) p q h =
      absurd (false≢true (sym
      (ap (passes (λ y. passes (λ x. overlap x y) (slice_get es a))) q ∙ ap (passes (λ x. overlap x e)) p) ∙ h))

  two-there : (a b : ℕ) → overlap_at es a b ≡ true
      → (d e : Name × Register) × (slice_get es a ≡ Some d) × (slice_get es b ≡ Some e) × (overlap d e ≡ true)
  two-there a b h = there-at a b (slice_get es a) (slice_get es b) refl refl h

  -- one that takes no words is settled with each
  idle-settled : (f : List ℕ) (a b : ℕ) → IsIdle es a ⊎ IsIdle es b → IsSettled es f a b
  idle-settled f a b idle less =
      not_so (overlap_at es a b) (λ meets.
      let (d, e, d_is, e_is, over) = two-there a b meets in
      let takes = overlap-takes d e over in
      either idle
      (λ one. false≢true (sym (one d d_is) ∙ takes.0))
      (λ other. false≢true (sym (other e e_is) ∙ takes.1)))

  module _ (order : T (is_sorted by_bytes es)) where
    -- the event of an entry that takes words
    event-is : (a : ℕ) (ea : Name × Register) (asks : Bool) → slice_get es a ≡ Some ea → takes_words ea.1.mode ≡ true
        → ea.1.mask < 2 ^ 32 → IsEvent es (event_at ea.1 a asks)
    event-is a ea asks is takes word =
        record { entry = ea; there = is; takes = takes; from = refl; until = refl; bits = refl; word = word }

    idle-one : (a : ℕ) (ea : Name × Register) → slice_get es a ≡ Some ea → takes_words ea.1.mode ≡ false → IsIdle es a
    idle-one a ea is idle e e_is = subst (λ x. takes_words x.1.mode ≡ false) (some_value es a ea e is e_is) idle

    known-there : (open_places : List ℕ) (events more : List Event) (a : ℕ)
        → ((x : Event) → Contains events x → Contains more x)
        → Contains open_places a ⊎ (IsPut events a ⊎ IsIdle es a)
        → Contains open_places a ⊎ (IsPut more a ⊎ IsIdle es a)
    known-there open_places events more a grows (inl here) = inl here
    known-there open_places events more a grows (inr (inl put)) =
        inr (inl (record { event = put.event; there = grows put.event put.there; put = put.put; place = put.place }))
    known-there open_places events more a grows (inr (inr idle)) = inr (inr idle)

    -- an open entry is closed where a name comes that does not begin with its name
    closed-known : (open_places : List ℕ) (events : List Event) (a b : ℕ) → IsPut events a ⊎ IsIdle es a
        → Contains (open_places ++ a ∷ []) b ⊎ (IsPut events b ⊎ IsIdle es b)
        → Contains open_places b ⊎ (IsPut events b ⊎ IsIdle es b)
    closed-known open_places events a b own (inr other) = inr other
    closed-known open_places events a b own (inl there) =
        either (Contains-push_cases open_places a b there) inl
        (λ same. inr (subst (λ c. IsPut events c ⊎ IsIdle es c) same own))

    closed-idle : (k a : ℕ) (open_places : List ℕ) (events : List Event) → IsIdle es a
        → IsTimeline es k (open_places ++ a ∷ []) events → IsTimeline es k open_places events
    closed-idle k a open_places events idle line = record {
      each = line.each;
      sound = line.sound;
      past = line.past;
      opened = λ b there. line.opened b (Contains-append_left open_places (a ∷ []) b there);
      known = λ b below. closed-known open_places events a b (inr idle) (line.known b below);
    }

    closed-put : (k a : ℕ) (open_places : List ℕ) (events : List Event) (ea ek : Name × Register)
        → slice_get es a ≡ Some ea → slice_get es k ≡ Some ek
        → takes_words ea.1.mode ≡ true → ea.1.mask < 2 ^ 32 → starts_with nat_eq ek.0 ea.0 ≡ false
        → IsTimeline es k (open_places ++ a ∷ []) events
        → IsTimeline es k open_places (events ++ event_at ea.1 a false ∷ [])
    closed-put k a open_places events ea ek a_is k_is takes word apart line =
        let z = event_at ea.1 a false in
        let more = events ++ z ∷ [] in
        let below : a < k = line.opened a (Contains-push open_places a) in
        record {
          each =
              λ e there. either (Contains-push_cases events z e there) (line.each e)
              (λ same. subst (IsEvent es) same (event-is a ea false a_is takes word));
          sound = λ x y asks meet. either (before-push_cases events z x y asks.before)
              (λ before. line.sound x y (record { before = before; put = asks.put; asking = asks.asking }) meet)
              (λ (there, same). absurd (false≢true (ap (λ e. e.asks) same ∙ asks.asking)));
          past = λ x there put c after within. either (Contains-push_cases events z x there)
              (λ before. line.past x before put c after within)
              (λ same. subst (λ e. IsPast es e.place c) same
              (is_past es a k ea ek order below a_is k_is apart c after within));
          opened = λ b there. line.opened b (Contains-append_left open_places (a ∷ []) b there);
          known = λ b before. closed-known open_places more a b
              (inl (record { event = z; there = Contains-push events z; put = refl; place = refl }))
              (known-there (open_places ++ a ∷ []) events more b
              (λ x there. Contains-append_left events (z ∷ []) x there) (line.known b before));
        }

    pub grows-push : (events : List Event) (z : Event) → Grows events (events ++ z ∷ [])
    grows-push events z x y asks =
        record { before = before-push events z x y asks.before; put = asks.put; asking = asks.asking }

    pub grows-same : (events : List Event) → Grows events events
    grows-same events x y asks = asks

    pub grows-adds : (r : Register) (a : ℕ) (asks : Bool) (events more : List Event) → Adds r a asks events more
        → Grows events more
    grows-adds r a asks events more adds = by_mode (takes_words r.mode) adds
      where
        by_mode : (b : Bool) → more ≡ cond b (events ++ event_at r a asks ∷ []) events → Grows events more
        by_mode true is = subst (Grows events) (sym is) (grows-push events (event_at r a asks))
        by_mode false is = subst (Grows events) (sym is) (grows-same events)

    -- either way
    pub closed : (k a : ℕ) (open_places : List ℕ) (events more : List Event) (ea ek : Name × Register)
        → slice_get es a ≡ Some ea → slice_get es k ≡ Some ek
        → ea.1.mask < 2 ^ 32 → starts_with nat_eq ek.0 ea.0 ≡ false → Adds ea.1 a false events more
        → IsTimeline es k (open_places ++ a ∷ []) events → IsTimeline es k open_places more
    closed k a open_places events more ea ek a_is k_is word apart adds line = by_mode (takes_words ea.1.mode) refl adds
      where
        by_mode : (b : Bool) → takes_words ea.1.mode ≡ b → more ≡ cond b (events ++ event_at ea.1 a false ∷ []) events
            → IsTimeline es k open_places more
        by_mode true takes is =
            subst (IsTimeline es k open_places) (sym is)
            (closed-put k a open_places events ea ek a_is k_is takes word apart line)
        by_mode false idle is =
            subst (IsTimeline es k open_places) (sym is)
            (closed-idle k a open_places events (idle-one a ea a_is idle) line)

    pub closed_at : (k a : ℕ) (open_places : List ℕ) (events more : List Event) (answer : Bool)
        → BeginsWith es k a answer → answer ≡ false → AddsAt es a false events more
        → IsTimeline es k (open_places ++ a ∷ []) events → IsTimeline es k open_places more
    closed_at k a open_places events more answer begins no_more adds line =
        let same = some_value es a begins.other adds.entry begins.other_there adds.there in
        closed k a open_places events more adds.entry begins.one adds.there begins.one_there adds.word
        (subst (λ x. starts_with nat_eq begins.one.0 x.0 ≡ false) same (sym begins.is ∙ no_more)) adds.adds line

    -- where an entry asks after another was put and shares a bit of a word with it, they overlap
    asks-sound : (a b : Event) → IsEvent es a → IsEvent es b → IsPast es a.place b.place → Meet a b
        → (a.place < b.place) × (overlap_at es a.place b.place ≡ true)
    asks-sound a b is_a is_b past m =
        let (ab, ba) = past.apart is_a.entry is_b.entry is_a.there is_b.there in (
          past.later,
          at-both es a.place b.place is_a.entry is_b.entry is_a.there is_b.there
              ∙ overlap-from is_a.entry is_b.entry m.address m.bit is_a.takes is_b.takes
              (omega (arith, m.in_one.0, is_a.from)) (omega (arith, m.in_one.1, is_a.until))
              (omega (arith, m.in_other.0, is_b.from)) (omega (arith, m.in_other.1, is_b.until))
              (ap (λ n. bit_at n m.bit) (sym is_a.bits) ∙ m.of_one)
              (ap (λ n. bit_at n m.bit) (sym is_b.bits) ∙ m.of_other) ab ba,
        )

    -- an entry asks, and is open from then on
    opened-next : (k : ℕ) (open_places : List ℕ) (events more : List Event)
        → ((x : Event) → Contains events x → Contains more x) → IsTimeline es k open_places events
        → (a : ℕ) → a < k + 1 → Contains (open_places ++ k ∷ []) a ⊎ (IsPut more a ⊎ IsIdle es a)
    opened-next k open_places events more grows line a less =
        either (cases_lt a k)
        (λ below. either (known-there open_places events more a grows (line.known a below))
        (λ there. inl (Contains-append_left open_places (k ∷ []) a there)) inr)
        (λ last. let same : k
        ≡ a = omega arith in inl (subst (Contains (open_places ++ k ∷ [])) same (Contains-push open_places k)))

    opened-below : (k : ℕ) (open_places : List ℕ) (events : List Event) → IsTimeline es k open_places events → (a : ℕ)
        → Contains (open_places ++ k ∷ []) a → a < k + 1
    opened-below k open_places events line a there =
        either (Contains-push_cases open_places k a there)
        (λ before. let less = line.opened a before in omega (arith, less)) (λ same. omega (arith, same))

    next-idle : (k : ℕ) (open_places : List ℕ) (events : List Event) → IsTimeline es k open_places events
        → IsTimeline es (k + 1) (open_places ++ k ∷ []) events
    next-idle k open_places events line = record {
      each = line.each;
      sound = line.sound;
      past = λ x there put c after within. line.past x there put c (omega arith) within;
      opened = opened-below k open_places events line;
      known = opened-next k open_places events events (λ x there. there) line;
    }

    next-asks : (k : ℕ) (open_places : List ℕ) (events : List Event) (ek : Name × Register) → slice_get es k ≡ Some ek
        → takes_words ek.1.mode ≡ true → ek.1.mask < 2 ^ 32
        → IsTimeline es k open_places events
        → IsTimeline es (k + 1) (open_places ++ k ∷ []) (events ++ event_at ek.1 k true ∷ [])
    next-asks k open_places events ek k_is takes word line =
        let z = event_at ek.1 k true in
        let is_z = event-is k ek true k_is takes word in
        record {
          each =
              λ e there. either (Contains-push_cases events z e there) (line.each e)
              (λ same. subst (IsEvent es) same is_z);
          sound = λ x y asks meet. either (before-push_cases events z x y asks.before)
              (λ before. line.sound x y (record { before = before; put = asks.put; asking = asks.asking }) meet)
              (λ (there, same).
              let past = line.past x there asks.put k (omega arith) (slice_get_within es k ek k_is) in
              subst (λ e. (x.place < e.place) × (overlap_at es x.place e.place ≡ true)) same
              (asks-sound x z (line.each x there) is_z past (subst (Meet x) (sym same) meet)));
          past = λ x there put c after within. either (Contains-push_cases events z x there)
              (λ before. line.past x before put c (omega arith) within)
              (λ same. absurd (false≢true (sym put ∙ ap (λ e. e.asks) (sym same))));
          opened = opened-below k open_places events line;
          known =
              opened-next k open_places events (events ++ z ∷ [])
              (λ x there. Contains-append_left events (z ∷ []) x there) line;
        }

    pub next : (k : ℕ) (open_places : List ℕ) (events more : List Event) (ek : Name × Register)
        → slice_get es k ≡ Some ek → ek.1.mask < 2 ^ 32 → Adds ek.1 k true events more
        → IsTimeline es k open_places events → IsTimeline es (k + 1) (open_places ++ k ∷ []) more
    next k open_places events more ek k_is word adds line = by_mode (takes_words ek.1.mode) refl adds
      where
        by_mode : (b : Bool) → takes_words ek.1.mode ≡ b → more ≡ cond b (events ++ event_at ek.1 k true ∷ []) events
            → IsTimeline es (k + 1) (open_places ++ k ∷ []) more
        by_mode true takes is =
            subst (IsTimeline es (k + 1) (open_places ++ k ∷ [])) (sym is)
            (next-asks k open_places events ek k_is takes word line)
        by_mode false idle is =
            subst (IsTimeline es (k + 1) (open_places ++ k ∷ [])) (sym is) (next-idle k open_places events line)

    asks-grow : (events more : List Event) (a b : ℕ) → Grows events more → AsksOf events a b → AsksOf more a b
    asks-grow events more a b grows asks =
        record {
          one = asks.one;
          other = asks.other;
          asks = grows asks.one asks.other asks.asks;
          of_one = asks.of_one;
          of_other = asks.of_other;
        }

    -- the pairs with the entry that asks
    noted-now : (k : ℕ) (open_places : List ℕ) (events more : List Event) (f g : List ℕ) (ek : Name × Register)
        → slice_get es k ≡ Some ek → Adds ek.1 k true events more
        → IsNoted es f g open_places k → (a : ℕ) → Contains open_places a ⊎ (IsPut events a ⊎ IsIdle es a)
        → IsSettled es g a k ⊎ AsksOf more a k
    noted-now k open_places events more f g ek k_is adds noted a (inl here) = inl (noted.settled a here)
    noted-now k open_places events more f g ek k_is adds noted a (inr (inr idle)) = inl (idle-settled g a k (inl idle))
    noted-now k open_places events more f g ek k_is adds noted a (inr (inl put)) =
        by_mode (takes_words ek.1.mode) refl adds
      where
        by_mode : (b : Bool) → takes_words ek.1.mode ≡ b → more ≡ cond b (events ++ event_at ek.1 k true ∷ []) events
            → IsSettled es g a k ⊎ AsksOf more a k
        by_mode true takes is = inr (record {
          one = put.event;
          other = event_at ek.1 k true;
          asks = record {
            before =
                subst (λ es'. Before es' put.event (event_at ek.1 k true)) (sym is)
                (before-last events (event_at ek.1 k true) put.event put.there);
            put = put.put;
            asking = refl;
          };
          of_one = put.place;
          of_other = refl;
        })
        by_mode false idle is = inl (idle-settled g a k (inr (idle-one k ek k_is idle)))

    pub noted-next : (k : ℕ) (open_places : List ℕ) (events before more : List Event) (f g : List ℕ)
        (ek : Name × Register) → slice_get es k ≡ Some ek → Adds ek.1 k true events more
        → Grows before events → IsNoted es f g open_places k → IsTimeline es k open_places events
        → AreNoted es f before k → AreNoted es g more (k + 1)
    noted-next k open_places events before more f g ek k_is adds grows noted line all a b less within =
        either (cases_lt b k)
        (λ below. either (all a b less below)
        (λ settled. inl (settled-falls es f g a b (noted.lowers.falls b) settled))
        (λ asks. inr (asks-grow events more a b (grows-adds ek.1 k true events more adds)
        (asks-grow before events a b grows asks))))
        (λ last.
        let same : k ≡ b = omega arith in
        subst (λ c. IsSettled es g a c ⊎ AsksOf more a c) same
        (noted-now k open_places events more f g ek k_is adds noted a (line.known a (omega arith))))

pub timeline-none : (es : Registers) → IsTimeline es 0 [] []
timeline-none es = record {
  each = λ e there. absurd (none_there e there);
  sound = λ x y asks meet. absurd asks.before;
  past = λ x there put c after within. absurd (none_there x there);
  opened = λ a there. absurd (none_there a there);
  known = λ a less. absurd (omega arith);
}

-- the events are settled
words_some : (r : Register) → IsRegister r → r.address < r.address + words_of r.mode r.size
words_some r is = let some = some_words r.mode r.size is.fits.some_words in omega (arith, some)

has_bits : (r : Register) → IsRegister r → r.mask < 2 ^ 32 → r.address + 1 < r.address + words_of r.mode r.size
    → r.mask ≡ 0xffffffff
has_bits r is word more = is.fits.whole (inl (block_of r.mode r.size (omega arith)))
  where
    block_of : (mode : Mode) (size : ℕ) → 1 < words_of mode size → mode ≡ Block
    block_of Block size h = refl
    block_of Single size h = absurd (omega arith)
    block_of Port size h = absurd (omega arith)
    block_of Hierarchical size h = absurd (omega arith)

event-bits : (es : Registers) (e : Event) → AreNamedRegisters es → IsEvent es e → HasBits e
event-bits es e named is =
    let register = named e.place is.entry is.there in
    let some = words_some is.entry.1 register in
    record {
      some = omega (arith, some, is.from, is.until);
      masked = omega (arith, register.fits.masked, is.bits);
      word = is.word;
      whole =
          λ more. is.bits ∙ has_bits is.entry.1 register (omega (arith, is.word, is.bits))
          (omega (arith, more, is.from, is.until));
    }

event-near : (es : Registers) (e : Event) → AreNamedRegisters es → IsEvent es e → (e.first < 0 + 2 ^ 32) × (0 < e.«end»)
event-near es e named is =
    let register = named e.place is.entry is.there in
    let some = words_some is.entry.1 register in
    (omega (arith, some, is.from, register.within), omega (arith, some, is.until))

all-events : (es : Registers) (old new : List ℕ) (events : List Event) → AreNamedRegisters es
    → AreAllEvents es old new events → AreEvents es events 0 (0 + 2 ^ 32)
all-events es old new events named all = record {
  bits = λ e there. event-bits es e named (all.each e there);
  near = λ e there. event-near es e named (all.each e there);
  sound = all.sound;
}

-- two entries that overlap share a bit of a word by their events
events-meet : (es : Registers) (x y : Event) → AreNamedRegisters es → IsEvent es x → IsEvent es y
    → overlap_at es x.place y.place ≡ true → Meet x y
events-meet es x y named is_x is_y over =
    let shares = overlap-shares is_x.entry is_y.entry (words_some is_x.entry.1 (named x.place is_x.entry is_x.there))
    (words_some is_y.entry.1 (named y.place is_y.entry is_y.there))
    (omega (arith, is_x.word, is_x.bits))
    (sym (at-both es x.place y.place is_x.entry is_y.entry is_x.there is_y.there) ∙ over) in
    record {
      address = shares.address;
      in_one = (omega (arith, shares.a_from, is_x.from), omega (arith, shares.a_until, is_x.until));
      in_other = (omega (arith, shares.b_from, is_y.from), omega (arith, shares.b_until, is_y.until));
      bit = shares.bit;
      small = shares.small;
      of_one = ap (λ n. bit_at n shares.bit) is_x.bits ∙ shares.a_bit;
      of_other = ap (λ n. bit_at n shares.bit) is_y.bits ∙ shares.b_bit;
    }

settled-asks : (es : Registers) (events : List Event) (f : List ℕ) (a b : ℕ) → AreNamedRegisters es
    → ((e : Event) → Contains events e → IsEvent es e)
    → AreSettled events f 0 (0 + 2 ^ 32) → AsksOf events a b → IsSettled es f a b
settled-asks es events f a b named each settled asks less =
    not_so (overlap_at es a b) (λ over.
    let x = asks.one in
    let y = asks.other in
    let is_x = each x (before-one events x y asks.asks.before) in
    let is_y = each y (before-other events x y asks.asks.before) in
    let over_events =
    subst (λ i. overlap_at es i y.place ≡ true) (sym asks.of_one)
    (subst (λ j. overlap_at es a j ≡ true) (sym asks.of_other) over) in
    let meet = events-meet es x y named is_x is_y over_events in
    let inside : meet.address < 0 + 2 ^ 32 =
    (let register = named x.place is_x.entry is_x.there in omega
    (arith, meet.in_one.1, is_x.until, register.within)) in
    let low = settled x y asks.asks meet (omega arith) inside in
    let same : slice_index f y.place ≡ slice_index f b = ap (slice_index f) asks.of_other in
    omega (arith, low, same, asks.of_one, less))

pub firsts-found : (es : Registers) (events : List Event) (f0 f1 f2 : List ℕ) → AreNamedRegisters es
    → length f0 ≡ length es
    → ((b : ℕ) → b < length es → slice_index f0 b ≡ length es) → AreAllEvents es f0 f1 events
    → Settles events 0 (0 + 2 ^ 32) f1 f2 → AreFirsts es f2
firsts-found es events f0 f1 f2 named each start all settles =
    let (lowers, settled) = settles es (all-events es f0 f1 events named all) in
    record {
      each = lowers.each ∙ all.lowers.each ∙ each;
      found =
          lowers.found (all.lowers.found
          (λ b within less. absurd (let whole = start b within in omega (arith, whole, within, less))));
      first = λ a b less within before. either (all.noted a b less within)
          (λ done. settled-falls es f1 f2 a b (lowers.falls b) done before)
          (λ asks. settled-asks es events f2 a b named all.each settled asks before);
    }

pub event-places : (es : Registers) (events : List Event) (n : ℕ) → length es ≡ n
    → ((e : Event) → Contains events e → IsEvent es e) → All (λ e. e.place < n) events
event-places es events n same each k d less =
    let is = each (get_or events k d) (Contains-get_or events k d less) in
    let within = slice_get_within es (get_or events k d).place is.entry is.there in
    omega (arith, within, same)

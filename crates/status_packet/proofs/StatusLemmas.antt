-- The words with which bytes begin, and the status that they tell.
use Rattle.std.specs.Prelude.{IfSome, IfNone, IfOk, IsOkAnd, ◌↔◌}
use Rattle.std.specs.Option.{ok_or}
use Rattle.std.proofs.Common.{Option, Some, None, Result, Err, ◌≡◌, ℕ, zero, suc, ◌+◌, ◌*◌, ◌<◌, ◌≤◌, ◌^◌, List, []}
use Rattle.std.proofs.Common.{◌∷◌, ◌++◌, length, get_or, drop, refl, sym, ap, subst, ◌∙◌, inl, inr, arith, lit<, Fits}
use Rattle.std.proofs.Common.{w8}
use Rattle.std.proofs.lemmas.List.{drop-drop, length-drop}
use Rattle.std.proofs.lemmas.Nat.{be_bytes_4, from_be_bytes-to_be_bytes_4}
use Rattle.ipb_base.specs.Word.{IsWord, word_bytes, big_endian}
use Rattle.ipb_base.specs.Lists.{IsPrefix}
use Rattle.packet_ids.specs.Identifier.{IsIdentifier}
use Rattle.packet_codec.specs.declared.packet.Order.TheVariants.{Big}
use Rattle.packet_codec.specs.declared.packet.PacketKind.TheVariants.{Control}
use Rattle.packet_codec.specs.Header.{kind_code, packet_header}
use Rattle.packet_codec.proofs.WordLemmas.{IsBytes, IsBytes-drop, word_below}
use Rattle.status_packet.specs.declared.status.TheConstants.{STATUS_BYTES}
use Rattle.status_packet.specs.declared.status.Status.{Status as BoardStatus}
use Rattle.status_packet.specs.declared.status.BadStatus.{BadStatus}
use Rattle.status_packet.specs.declared.status.BadStatus.TheVariants as faults
use Rattle.status_packet.specs.Range.{IsMtu, IsBufferCount}
use Rattle.status_packet.specs.StatusBytes.{status_header, IsStatusRequest, IsStatusReply, IsNoStatus, IsOutOfRange}
use Rattle.status_packet.specs.Reading.{word_at}

-- ---- words in bytes

four_bytes : (a b c d : ℕ) → a < 256 → b < 256 → c < 256 → d < 256 → IsBytes (a ∷ b ∷ c ∷ d ∷ [])
four_bytes a b c d ha hb hc hd zero = ha
four_bytes a b c d ha hb hc hd (suc zero) = hb
four_bytes a b c d ha hb hc hd (suc (suc zero)) = hc
four_bytes a b c d ha hb hc hd (suc (suc (suc zero))) = hd
four_bytes a b c d ha hb hc hd (suc (suc (suc (suc i)))) = lit< tt

word_first : (bytes : List ℕ) → 4 ≤ length bytes → IsBytes bytes → bytes ≡ word_bytes (word_at bytes 0) ++ drop 4 bytes
word_first [] long fits = absurd (omega arith)
word_first (a ∷ []) long fits = absurd (omega arith)
word_first (a ∷ b ∷ []) long fits = absurd (omega arith)
word_first (a ∷ b ∷ c ∷ []) long fits = absurd (omega arith)
word_first (a ∷ b ∷ c ∷ d ∷ rest) long fits =
    let four : List ℕ = a ∷ b ∷ c ∷ d ∷ [] in
    let four_fit : IsBytes four = λ i. four_bytes a b c d (fits 0) (fits 1) (fits 2) (fits 3) i in
    ap (λ (front : List ℕ). front ++ rest) (sym (be_bytes_4 four _ refl four_fit refl))

word_next : (bytes : List ℕ) (place : ℕ) → 4 * place + 4 ≤ length bytes → IsBytes bytes
    → drop (4 * place) bytes ≡ word_bytes (word_at bytes place) ++ drop (4 * place + 4) bytes
word_next bytes place long fits =
    word_first (drop (4 * place) bytes) (omega (arith, length-drop (4 * place) bytes)) (IsBytes-drop (4 * place) bytes
    fits)
    ∙ ap (λ (rest : List ℕ). word_bytes (word_at bytes place) ++ rest) (drop-drop 4 (4 * place) bytes)

-- the first four words, and the bytes after them
pub four_words : (bytes : List ℕ) → 16 ≤ length bytes → IsBytes bytes
    → bytes ≡ big_endian (word_at bytes 0 ∷ word_at bytes 1 ∷ word_at bytes 2 ∷ word_at bytes 3 ∷ []) ++ drop 16 bytes
four_words bytes long fits =
    word_next bytes 0 (omega arith) fits
    ∙ ap (λ (rest : List ℕ). word_bytes (word_at bytes 0) ++ rest) (word_next bytes 1 (omega arith) fits
    ∙ ap (λ (rest : List ℕ). word_bytes (word_at bytes 1) ++ rest) (word_next bytes 2 (omega arith) fits
    ∙ ap (λ (rest : List ℕ). word_bytes (word_at bytes 2) ++ rest) (word_next bytes 3 (omega arith) fits)))

-- the words with which bytes begin
pub record Begins (bytes : List ℕ) (header mtu buffers next : ℕ) : Type 0 where
  pub header_is : word_at bytes 0 ≡ header
  pub mtu_is : word_at bytes 1 ≡ mtu
  pub buffers_is : word_at bytes 2 ≡ buffers
  pub next_is : word_at bytes 3 ≡ next

begins_with : (bytes : List ℕ) (header mtu buffers next : ℕ) → header < 2 ^ 32 → mtu < 2 ^ 32 → buffers < 2 ^ 32
    → next < 2 ^ 32
    → IsPrefix (big_endian (header ∷ mtu ∷ buffers ∷ next ∷ [])) bytes → Begins bytes header mtu buffers next
begins_with bytes header mtu buffers next header_fits mtu_fits buffers_fits next_fits begins = record {
  header_is = ap (λ (b : List ℕ). word_at b 0) begins.1 ∙ from_be_bytes-to_be_bytes_4 header header_fits;
  mtu_is = ap (λ (b : List ℕ). word_at b 1) begins.1 ∙ from_be_bytes-to_be_bytes_4 mtu mtu_fits;
  buffers_is = ap (λ (b : List ℕ). word_at b 2) begins.1 ∙ from_be_bytes-to_be_bytes_4 buffers buffers_fits;
  next_is = ap (λ (b : List ℕ). word_at b 3) begins.1 ∙ from_be_bytes-to_be_bytes_4 next next_fits;
}

-- bytes begin with a word where their first word is that
pub first_is : (bytes : List ℕ) (word : ℕ) → 4 ≤ length bytes → IsBytes bytes → word_at bytes 0 ≡ word
    → IsPrefix (big_endian (word ∷ [])) bytes
first_is bytes word long fits is =
    (drop 4 bytes, word_first bytes long fits ∙ ap (λ (w : ℕ). word_bytes w ++ drop 4 bytes) is)

pub first_was : (bytes : List ℕ) (word : ℕ) → word < 2 ^ 32 → IsPrefix (big_endian (word ∷ [])) bytes
    → word_at bytes 0 ≡ word
first_was bytes word word_fits begins = ap (λ (b : List ℕ). word_at b 0) begins.1 ∙ from_be_bytes-to_be_bytes_4 word
    word_fits

four_are : (bytes : List ℕ) (header mtu buffers next : ℕ) → 16 ≤ length bytes → IsBytes bytes → Begins bytes header
    mtu buffers next
    → IsPrefix (big_endian (header ∷ mtu ∷ buffers ∷ next ∷ [])) bytes
four_are bytes header mtu buffers next long fits are = (
  drop 16 bytes,
  four_words bytes long fits
      ∙ ap (λ (w : ℕ). big_endian (w ∷ word_at bytes 1 ∷ word_at bytes 2 ∷ word_at bytes 3 ∷ []) ++ drop 16 bytes)
      are.header_is
      ∙ ap (λ (w : ℕ). big_endian (header ∷ w ∷ word_at bytes 2 ∷ word_at bytes 3 ∷ []) ++ drop 16 bytes) are.mtu_is
      ∙ ap (λ (w : ℕ). big_endian (header ∷ mtu ∷ w ∷ word_at bytes 3 ∷ []) ++ drop 16 bytes) are.buffers_is
      ∙ ap (λ (w : ℕ). big_endian (header ∷ mtu ∷ buffers ∷ w ∷ []) ++ drop 16 bytes) are.next_is,
)

-- a longer front begins with the header too
header_begins : (bytes : List ℕ) (header mtu buffers next : ℕ)
    → IsPrefix (big_endian (header ∷ mtu ∷ buffers ∷ next ∷ [])) bytes → IsPrefix (big_endian (header ∷ [])) bytes
header_begins bytes header mtu buffers next begins = (big_endian (mtu ∷ buffers ∷ next ∷ []) ++ begins.0, begins.1)

-- ---- the words that a reply tells

status_header_fits : status_header < 2 ^ 32
status_header_fits = lit< tt

word_fits : (bytes : List ℕ) (place : ℕ) → IsBytes bytes → word_at bytes place < 2 ^ 32
word_fits bytes place fits = word_below Big (drop (4 * place) bytes) (IsBytes-drop (4 * place) bytes fits)

next_fits : (next : ℕ) → IsIdentifier next → packet_header next (kind_code Control) < 2 ^ 32
next_fits next is = let below = is.up_to_end in omega arith

reply_words : (bytes : List ℕ) (mtu buffers next : ℕ) → IsMtu mtu → IsBufferCount buffers → IsIdentifier next
    → IsStatusReply bytes mtu buffers next
    → Begins bytes status_header mtu buffers (packet_header next (kind_code Control))
reply_words bytes mtu buffers next mtu_is buffers_is next_is is =
    let mtu_most = mtu_is.1 in let buffers_most = buffers_is.1 in
    begins_with bytes status_header mtu buffers (packet_header next (kind_code Control)) status_header_fits
    (omega arith) (omega arith) (next_fits next next_is) is.begins

outer_words : (bytes : List ℕ) (is : IsOutOfRange bytes) → Begins bytes status_header is.mtu is.buffers is.next
outer_words bytes is = begins_with bytes status_header is.mtu is.buffers is.next status_header_fits is.words.0
    is.words.1.0 is.words.1.1.0 is.begins

pub same_status : (bytes : List ℕ) (mtu buffers next mtu' buffers' next' : ℕ)
    → IsMtu mtu → IsBufferCount buffers → IsIdentifier next → IsMtu mtu' → IsBufferCount buffers' → IsIdentifier next'
    → IsStatusReply bytes mtu buffers next → IsStatusReply bytes mtu' buffers' next' → (mtu ≡ mtu')
    × (buffers ≡ buffers') × (next ≡ next')
same_status bytes mtu buffers next mtu' buffers' next' mtu_is buffers_is next_is mtu_is' buffers_is' next_is' is is' =
    let words = reply_words bytes mtu buffers next mtu_is buffers_is next_is is in
    let words' = reply_words bytes mtu' buffers' next' mtu_is' buffers_is' next_is' is' in
    let header_same : packet_header next (kind_code Control) ≡ packet_header next' (kind_code Control) =
    sym words.next_is ∙ words'.next_is in
    (sym words.mtu_is ∙ words'.mtu_is, sym words.buffers_is ∙ words'.buffers_is, omega (arith, header_same))

-- ---- requests

-- the first word of bytes tells whether they are a request
pub request : (bytes : List ℕ) → ((i : ℕ) → Fits w8 (get_or bytes i 0)) → length bytes ≡ STATUS_BYTES
    → word_at bytes 0 ≡ status_header → IsStatusRequest bytes
request bytes each_fits whole e = record {
  whole = whole;
  begins = first_is bytes status_header (omega arith)
      (λ i. omega (arith, each_fits i)) e;
}

pub request_word : (bytes : List ℕ) → IsStatusRequest bytes → word_at bytes 0 ≡ status_header
request_word bytes is = first_was bytes status_header status_header_fits is.begins

-- ---- replies

-- what three words tell
record IsTold (status : BoardStatus) (mtu buffers next : ℕ) : Type 0 where
  pub mtu_told : IsMtu mtu × (status.mtu ≡ mtu)
  pub buffers_told : IsBufferCount buffers × (status.buffers ≡ buffers)
  pub next_told : IsIdentifier status.next × (next ≡ packet_header status.next (kind_code Control))

abbrev Told : Option BoardStatus → ℕ → ℕ → ℕ → Type 0
Told (Some status) mtu buffers next = IsTold status mtu buffers next
Told None mtu buffers next = IsNoStatus mtu buffers next

told_by : (read : Option BoardStatus) (mtu buffers next : ℕ) → IfSome read (λ status. IsMtu mtu × (status.mtu ≡ mtu))
    → IfSome read (λ status. IsBufferCount buffers × (status.buffers ≡ buffers))
    → IfSome read (λ status. IsIdentifier status.next × (next ≡ packet_header status.next (kind_code Control)))
    → IfNone read (IsNoStatus mtu buffers next) → Told read mtu buffers next
told_by (Some status) mtu buffers next mtu_told buffers_told next_told none =
    record { mtu_told = mtu_told; buffers_told = buffers_told; next_told = next_told }
told_by None mtu buffers next mtu_told buffers_told next_told none = none

abbrev answered : Option BoardStatus → Result BoardStatus BadStatus
answered read = ok_or read faults.Range

-- words that a reply tells, and those that are out of range, are not both told
no_fault : (mtu buffers next next' : ℕ) → IsMtu mtu → IsBufferCount buffers → IsIdentifier next' → next
    ≡ packet_header next' (kind_code Control) → ¬ IsNoStatus mtu buffers next
no_fault mtu buffers next next' mtu_is buffers_is next_is spelled broken =
    elim broken [
      | inl no_mtu ↦ no_mtu mtu_is
      | inr rest ↦ elim rest [
        | inl no_buffers ↦ no_buffers buffers_is
        | inr nothing ↦ nothing (next', next_is, spelled)
      ]
    ]

found_by : (bytes : List ℕ) (mtu buffers next : ℕ) (read : Option BoardStatus) → length bytes ≡ STATUS_BYTES
    → IsBytes bytes
    → Begins bytes status_header mtu buffers next → Told read mtu buffers next
    → IfOk (answered read) (λ status. IsStatusReply bytes status.mtu status.buffers status.next)
found_by bytes mtu buffers next (Some status) whole fits words told = record {
  whole = whole;
  begins = four_are bytes status_header status.mtu status.buffers (packet_header status.next (kind_code Control))
      (omega arith) fits (record {
        header_is = words.header_is;
        mtu_is = words.mtu_is ∙ sym told.mtu_told.1;
        buffers_is = words.buffers_is ∙ sym told.buffers_told.1;
        next_is = words.next_is ∙ told.next_told.1;
      });
}
found_by bytes mtu buffers next None whole fits words told = tt

only_by : (bytes : List ℕ) (mtu buffers next : ℕ) (read : Option BoardStatus) → Begins bytes status_header mtu buffers
    next → Told read mtu buffers next
    → (mtu' buffers' next' : ℕ) → IsMtu mtu' → IsBufferCount buffers' → IsIdentifier next' → IsStatusReply bytes mtu'
    buffers' next'
    → IsOkAnd (answered read) (λ status. (status.mtu ≡ mtu') × (status.buffers ≡ buffers') × (status.next ≡ next'))
only_by bytes mtu buffers next (Some status) words told mtu' buffers' next' mtu_is buffers_is next_is reply =
    let words' = reply_words bytes mtu' buffers' next' mtu_is buffers_is next_is reply in
    let header_same : packet_header status.next (kind_code Control) ≡ packet_header next' (kind_code Control) =
    sym told.next_told.1 ∙ sym words.next_is ∙ words'.next_is in (
      told.mtu_told.1 ∙ sym words.mtu_is ∙ words'.mtu_is,
      told.buffers_told.1 ∙ sym words.buffers_is ∙ words'.buffers_is,
      omega (arith, header_same),
    )
only_by bytes mtu buffers next None words told mtu' buffers' next' mtu_is buffers_is next_is reply =
    let words' = reply_words bytes mtu' buffers' next' mtu_is buffers_is next_is reply in
    let mtu_same : mtu' ≡ mtu = sym words'.mtu_is ∙ words.mtu_is in
    let buffers_same : buffers' ≡ buffers = sym words'.buffers_is ∙ words.buffers_is in
    absurd (no_fault mtu buffers next next' (subst IsMtu mtu_same mtu_is) (subst IsBufferCount buffers_same
    buffers_is) next_is (sym words.next_is ∙ words'.next_is) told)

range_by : (bytes : List ℕ) (mtu buffers next : ℕ) (read : Option BoardStatus) → length bytes ≡ STATUS_BYTES
    → IsBytes bytes
    → Begins bytes status_header mtu buffers next → Told read mtu buffers next → (answered read ≡ Err faults.Range) ↔
    IsOutOfRange bytes
range_by bytes mtu buffers next (Some status) whole fits words told = (
  λ e. absurd cc,
  λ outer.
      let words' = outer_words bytes outer in
      let mtu_same : mtu ≡ outer.mtu = sym words.mtu_is ∙ words'.mtu_is in
      let buffers_same : buffers ≡ outer.buffers = sym words.buffers_is ∙ words'.buffers_is in
      let next_same : outer.next ≡ next = sym words'.next_is ∙ words.next_is in
      absurd (no_fault outer.mtu outer.buffers outer.next status.next (subst IsMtu mtu_same told.mtu_told.0)
      (subst IsBufferCount buffers_same told.buffers_told.0)
      told.next_told.0 (next_same ∙ told.next_told.1) outer.broken),
)
range_by bytes mtu buffers next None whole fits words told = (
  λ e. record {
    whole = whole;
    mtu = mtu;
    buffers = buffers;
    next = next;
    words = (
      subst IsWord words.mtu_is (word_fits bytes 1 fits),
      (
        subst IsWord words.buffers_is (word_fits bytes 2 fits),
        (
          subst IsWord words.next_is (word_fits bytes 3 fits),
          tt,
        ),
      ),
    );
    begins = four_are bytes status_header mtu buffers next (omega arith) fits words;
    broken = told;
  },
  λ outer. refl,
)

-- The clauses of a reader that has found these three words behind the header, and answers this status by them.
module _ (bytes : List ℕ) (each_fits : (i : ℕ) → Fits w8 (get_or bytes i 0)) (is : IsStatusRequest bytes)
    (mtu buffers next : ℕ) (mtu_is : mtu ≡ word_at bytes 1) (buffers_is : buffers ≡ word_at bytes 2) (next_is : next
    ≡ word_at bytes 3)
    (read : Option BoardStatus) (mtu_told : IfSome read (λ status. IsMtu mtu × (status.mtu ≡ mtu)))
    (buffers_told : IfSome read (λ status. IsBufferCount buffers × (status.buffers ≡ buffers)))
    (next_told : IfSome read (λ status. IsIdentifier status.next
    × (next ≡ packet_header status.next (kind_code Control))))
    (none : IfNone read (IsNoStatus mtu buffers next)) where
  fits : IsBytes bytes
  fits i = omega (arith, each_fits i)

  words : Begins bytes status_header mtu buffers next
  words = record {
    header_is = request_word bytes is;
    mtu_is = sym mtu_is;
    buffers_is = sym buffers_is;
    next_is =
        sym next_is;
  }

  told : Told read mtu buffers next
  told = told_by read mtu buffers next mtu_told buffers_told next_told none

  pub found : IfOk (ok_or read faults.Range) (λ status. IsStatusReply bytes status.mtu status.buffers status.next)
  found = found_by bytes mtu buffers next read is.whole fits words told

  pub only : (mtu' buffers' next' : ℕ) → IsMtu mtu' → IsBufferCount buffers' → IsIdentifier next'
      → IsStatusReply bytes mtu' buffers' next'
      → IsOkAnd (ok_or read faults.Range) (λ status. (status.mtu ≡ mtu') × (status.buffers ≡ buffers')
      × (status.next ≡ next'))
  only = only_by bytes mtu buffers next read words told

  pub range : (ok_or read faults.Range ≡ Err faults.Range) ↔ IsOutOfRange bytes
  range = range_by bytes mtu buffers next read is.whole fits words told

-- Requests and their words. IPbus 2.0, transaction header; which headers are bad is the profile's.
use Rattle.std.specs.Prelude.{◌≡◌, ◌≢◌, ◌⊎◌, ℕ, ◌+◌, ◌^◌, ◌<◌, ◌==◌, ◌&&◌, not, nat_lt, if◌then◌else◌, List, [], ◌∷◌}
use Rattle.std.specs.Prelude.{◌++◌, length, take, drop, slice_index, Result, Ok, Err}
use Rattle.std.specs.List.{AllByRecursion, flat_map}
use Rattle.ipb_base.specs.Word.{AreWords}
use Rattle.ipb_base.specs.declared.version.TheConstants.{VERSION}
use Rattle.transaction_codec.specs.declared.request.Op.{Op}
use Rattle.transaction_codec.specs.declared.request.Op.TheVariants.{Read, ReadPort, Write, WritePort, RmwBits, RmwSum}
use Rattle.transaction_codec.specs.declared.request.Request.{Request}
use Rattle.transaction_codec.specs.declared.refusal.Why.{Why}
use Rattle.transaction_codec.specs.declared.refusal.Why.TheVariants.{Version, Kind, Code, Count, Short}
use Rattle.transaction_codec.specs.declared.transaction_type.TheConstants.{READ, WRITE, READ_PORT, WRITE_PORT, RMW_BITS}
use Rattle.transaction_codec.specs.declared.transaction_type.TheConstants.{RMW_SUM}
use Rattle.transaction_codec.specs.declared.info_code.TheConstants.{REQUEST}
use Rattle.transaction_codec.specs.Header.{header, version_of, tid_of, count_of, kind_of, code_of, is_write, is_rmw}

-- the type of a request
abbrev pub op_kind : Op → ℕ
op_kind (Read base count) = READ
op_kind (ReadPort base count) = READ_PORT
op_kind (Write base words) = WRITE
op_kind (WritePort base words) = WRITE_PORT
op_kind (RmwBits base and_term or_term) = RMW_BITS
op_kind (RmwSum base addend) = RMW_SUM

-- how many words it reads or writes
abbrev pub op_count : Op → ℕ
op_count (Read base count) = count
op_count (ReadPort base count) = count
op_count (Write base words) = length words
op_count (WritePort base words) = length words
op_count (RmwBits base and_term or_term) = 1
op_count (RmwSum base addend) = 1

-- the words after its header
abbrev pub op_words : Op → List ℕ
op_words (Read base count) = base ∷ []
op_words (ReadPort base count) = base ∷ []
op_words (Write base words) = base ∷ words
op_words (WritePort base words) = base ∷ words
op_words (RmwBits base and_term or_term) = base ∷ and_term ∷ or_term ∷ []
op_words (RmwSum base addend) = base ∷ addend ∷ []

-- a request: its header, which carries code 15, and those words
abbrev pub request_words : Request → List ℕ
request_words request = header request.tid (op_count request.op) (op_kind request.op) REQUEST ∷ op_words request.op

abbrev pub requests_words : List Request → List ℕ
requests_words requests = flat_map request_words requests

-- what has a spelling: the identifier has 12 bits, the words field 8, and every word after the header 32
pub record IsRequest (request : Request) : Type 0 where
  pub tid : request.tid < 2 ^ 12
  pub count : op_count request.op < 2 ^ 8
  pub words : AreWords (op_words request.op)

abbrev pub AreRequests : List Request → Type 0
AreRequests requests = AllByRecursion IsRequest requests

-- the words are those of requests alone, as a reader of requests accepts them
abbrev pub SpellsRequests : List ℕ → Type 0
SpellsRequests body = (requests : List Request) × AreRequests requests × (body ≡ requests_words requests)

-- a header has room for the identifier, 12 bits, and for the number of words, 8 bits
pub record FitsHeader (request : Request) : Type 0 where
  pub tid : request.tid < 2 ^ 12
  pub count : op_count request.op < 2 ^ 8

abbrev pub FitHeaders : List Request → Type 0
FitHeaders requests = AllByRecursion FitsHeader requests

-- the words do not begin with a request
abbrev pub NoRequestAtFront : List ℕ → Type 0
NoRequestAtFront words = (request : Request) (rest : List ℕ) → IsRequest request → words ≢ request_words request ++ rest

-- how many words a header of this type and count has after it
abbrev pub words_after : ℕ → ℕ → ℕ
words_after kind count =
    if is_write kind then 1 + count
    else if kind == RMW_BITS then 3
    else if kind == RMW_SUM then 2
    else 1

-- What breaks each rule on the header of a request, with the words after it.
abbrev pub BreaksRequest : Why → ℕ → List ℕ → Type 0
BreaksRequest Version word after = version_of word ≢ VERSION
BreaksRequest Kind word after = RMW_SUM < kind_of word
BreaksRequest Code word after = code_of word ≢ REQUEST
BreaksRequest Count word after = ((kind_of word ≡ RMW_BITS) ⊎ (kind_of word ≡ RMW_SUM)) × (count_of word ≢ 1)
BreaksRequest Short word after = length after < words_after (kind_of word) (count_of word)

-- what a header of this type and count asks with the words after it
abbrev pub op_at : ℕ → ℕ → List ℕ → Op
op_at kind count after =
    if kind == READ then Read (slice_index after 0) count
    else if kind == READ_PORT then ReadPort (slice_index after 0) count
    else if kind == WRITE then Write (slice_index after 0) (take count (drop 1 after))
    else if kind == WRITE_PORT then WritePort (slice_index after 0) (take count (drop 1 after))
    else if kind == RMW_BITS then RmwBits (slice_index after 0) (slice_index after 1) (slice_index after 2)
    else RmwSum (slice_index after 0) (slice_index after 1)

-- The request at the front of the words and the words after it, or the first rule that the header there breaks.
unfoldable pub request_at : List ℕ → Result (Request × List ℕ) Why
request_at [] = Err Short
request_at (word ∷ after) =
    if not (version_of word == VERSION) then Err Version
    else if nat_lt RMW_SUM (kind_of word) then Err Kind
    else if not (code_of word == REQUEST) then Err Code
    else if is_rmw (kind_of word) && not (count_of word == 1) then Err Count
    else if nat_lt (length after) (words_after (kind_of word) (count_of word)) then Err Short
    else Ok (
      record { tid = tid_of word; op = op_at (kind_of word) (count_of word) after },
      drop (words_after (kind_of word) (count_of word)) after,
    )

-- Replies and their words. IPbus 2.0, transaction header; what a failed transaction carries is the profile's.
use Rattle.std.specs.Prelude.{◌≡◌, ◌≢◌, ℕ, ◌^◌, ◌<◌, ◌≤◌, Bool, ◌==◌, ◌&&◌, ◌||◌, not, nat_lt, nat_le, ◌⊎◌}
use Rattle.std.specs.Prelude.{if◌then◌else◌, List, [], ◌∷◌, length, take, drop, Result, Ok, Err}
use Rattle.std.specs.List.{AllByRecursion, flat_map}
use Rattle.ipb_base.specs.Word.{AreWords}
use Rattle.ipb_base.specs.declared.version.TheConstants.{VERSION}
use Rattle.transaction_codec.specs.declared.reply.Reply.{Reply}
use Rattle.transaction_codec.specs.declared.refusal.Why.{Why}
use Rattle.transaction_codec.specs.declared.refusal.Why.TheVariants.{Version, Kind, Code, Count, Short}
use Rattle.transaction_codec.specs.declared.transaction_type.TheConstants.{READ, WRITE, READ_PORT, WRITE_PORT, RMW_BITS}
use Rattle.transaction_codec.specs.declared.transaction_type.TheConstants.{RMW_SUM}
use Rattle.transaction_codec.specs.declared.info_code.TheConstants.{SUCCESS, BAD_HEADER, READ_ERROR, WRITE_TIMEOUT}
use Rattle.transaction_codec.specs.Header.{header, version_of, tid_of, count_of, kind_of, code_of, is_write, is_rmw}

-- a reply: its header and the words that were read
abbrev pub reply_words : Reply → List ℕ
reply_words reply = header reply.tid reply.count reply.kind reply.code ∷ reply.values

abbrev pub replies_words : List Reply → List ℕ
replies_words replies = flat_map reply_words replies

-- bus errors and bus timeouts, codes 4 to 7
abbrev pub IsBusFault : ℕ → Type 0
IsBusFault code = (READ_ERROR ≤ code) × (code ≤ WRITE_TIMEOUT)

-- The words of a reply to a transaction that did `count` words: a read carries them, a write none. An RMW that did its
-- word has done = 1, one that failed has done = 0.
abbrev pub Carries : ℕ → ℕ → ℕ → ℕ → Type 0
Carries done kind count carried =
    (((kind ≡ READ) ⊎ (kind ≡ READ_PORT)) × (carried ≡ count))
    ⊎ ((((kind ≡ WRITE) ⊎ (kind ≡ WRITE_PORT)) × (carried ≡ 0))
    ⊎ (((kind ≡ RMW_BITS) ⊎ (kind ≡ RMW_SUM)) × (count ≡ done) × (carried ≡ done)))

-- The forms of replies, by type, info code, words field and the number of words carried: a success, a bus fault, or
-- the answer to a bad header.
abbrev pub HasForm : ℕ → ℕ → ℕ → ℕ → Type 0
HasForm kind code count carried =
    ((code ≡ SUCCESS) × Carries 1 kind count carried)
    ⊎ ((IsBusFault code × Carries 0 kind count carried)
    ⊎ ((code ≡ BAD_HEADER) × (kind ≡ READ) × (count ≡ 0) × (carried ≡ 0)))

-- what has a spelling
pub record IsReply (reply : Reply) : Type 0 where
  pub tid : reply.tid < 2 ^ 12
  pub count : reply.count < 2 ^ 8
  pub form : HasForm reply.kind reply.code reply.count (length reply.values)
  pub values : AreWords reply.values

abbrev pub AreReplies : List Reply → Type 0
AreReplies replies = AllByRecursion IsReply replies

-- the codes that a reply may have
abbrev pub is_reply_code : ℕ → Bool
is_reply_code code = code == SUCCESS || code == BAD_HEADER || (nat_le READ_ERROR code && nat_le code WRITE_TIMEOUT)

-- Which words fields are wrong: beside code 1 any but 0; of an RMW any but 1 beside code 0, and any but 0 beside every
-- other.
abbrev pub is_wrong_count : ℕ → ℕ → ℕ → Bool
is_wrong_count kind code count =
    (code == BAD_HEADER && not (count == 0)) || (is_rmw kind && not (count == (if code == SUCCESS then 1 else 0)))

-- How many words a header of this type and count has after it. An RMW carries the word before where it did one.
abbrev pub values_after : ℕ → ℕ → ℕ
values_after kind count = if is_write kind then 0 else count

-- What breaks each rule on the header of a reply, with the words after it.
abbrev pub BreaksReply : Why → ℕ → List ℕ → Type 0
BreaksReply Version word after = version_of word ≢ VERSION
BreaksReply Kind word after = (RMW_SUM < kind_of word) ⊎ ((code_of word ≡ BAD_HEADER) × (kind_of word ≢ READ))
BreaksReply Code word after = (code_of word ≢ SUCCESS) × (code_of word ≢ BAD_HEADER) × (IsBusFault (code_of word) → ⊥)
BreaksReply Count word after =
    ((code_of word ≡ BAD_HEADER) × (count_of word ≢ 0))
    ⊎ (((kind_of word ≡ RMW_BITS) ⊎ (kind_of word ≡ RMW_SUM))
    × (((code_of word ≡ SUCCESS) × (count_of word ≢ 1)) ⊎ ((code_of word ≢ SUCCESS) × (count_of word ≢ 0))))
BreaksReply Short word after = length after < values_after (kind_of word) (count_of word)

-- The reply at the front of the words and the words after it, or the first rule that the header there breaks.
unfoldable pub reply_at : List ℕ → Result (Reply × List ℕ) Why
reply_at [] = Err Short
reply_at (word ∷ after) =
    if not (version_of word == VERSION) then Err Version
    else if nat_lt RMW_SUM (kind_of word) || (code_of word == BAD_HEADER && not (kind_of word == READ)) then Err Kind
    else if not (is_reply_code (code_of word)) then Err Code
    else if is_wrong_count (kind_of word) (code_of word) (count_of word) then Err Count
    else if nat_lt (length after) (values_after (kind_of word) (count_of word)) then Err Short
    else Ok (
      record {
        tid = tid_of word;
        kind = kind_of word;
        count = count_of word;
        code = code_of word;
        values = take (values_after (kind_of word) (count_of word)) after;
      },
      drop (values_after (kind_of word) (count_of word)) after,
    )

-- What the laws of `transaction_codec` say of requests and of the longest answer to a body: no public clause speaks of
-- it. IPbus 2.0, transactions.
use Rattle.std.specs.Prelude.{◌≡◌, ℕ, List, ◌++◌, Ok}
use Rattle.ipb_base.specs.Word.{AreWords}
use Rattle.transaction_codec.specs.declared.request.Request.{Request}
use Rattle.transaction_codec.specs.Request.{IsRequest, AreRequests, request_at, request_words, requests_words}
use Rattle.transaction_codec.specs.Answer.{CanAnswer, IsReplyTo, IsLongestAnswer, reply_room}

-- A request that is written is read again and what is read is spelled so; each body of words has a longest answer; and
-- what a board can answer to requests alone is a reply to them.
pub record ReadsRequests : Type 0 where
  pub again : (request : Request) (rest : List ℕ) → IsRequest request
      → request_at (request_words request ++ rest) ≡ Ok (request, rest)
  pub found : (words rest : List ℕ) (request : Request) → AreWords words → request_at words ≡ Ok (request, rest)
      → IsRequest request × (words ≡ request_words request ++ rest)
  pub longest : (body : List ℕ) → AreWords body → IsLongestAnswer body (reply_room body)
  pub answers : (requests : List Request) (body answer : List ℕ) → AreRequests requests
      → body ≡ requests_words requests → CanAnswer body answer → IsReplyTo body answer

-- The replies to produces (Confluent REST Proxy API v2: produce responses).
use Rattle.std.specs.Prelude.{◌≡◌, ◌⊎◌, ℕ, ℤ, List, [], ◌++◌, map, codes, decimal, None, Result, Ok, Err}
use Rattle.std.specs.Fmt.{signed_decimal}
use Rattle.model.specs.state.Forms.{Forms}
use Rattle.model.specs.state.Entry.{Batch, Given, Placed}
use Rattle.model.specs.state.Entry.Call.{Produce}
use Rattle.model.specs.state.Entry.Reply.{Answers}
use Rattle.model.specs.texts.Texts.{response_of, answers_text}
use Rattle.rest_calls.specs.Responses.{response_in}
use Rattle.rest_codes.specs.declared.response.Reply.{Reply}
use Rattle.rest_codes.specs.declared.response.Reply.TheVariants.{Want}
use Rattle.rest_replies.specs.Answer.{placed_of, refusal_reply}
use Rattle.rest_replies.specs.declared.answer.Told.{Told}
use Rattle.rest_replies.specs.declared.answer.ProduceNo.{ProduceNo}
use Rattle.rest_replies.specs.Failure.{SaysOrWant}

-- a batch without schemas
abbrev pub plain_batch : List Given → Batch
plain_batch records = record { key_id = None; value_id = None; records = records }

-- the answer to a record that was stored, and to one of a partition that was refused
unfoldable pub stored_text : (partition offset : ℕ) → List ℕ
stored_text partition offset = codes "{\"partition\":" ++ (decimal partition ++ (codes ",\"offset\":" ++ (decimal offset ++ codes ",\"error_code\":null,\"error\":null}")))

unfoldable pub failed_text : (partition : ℕ) → (kind reason : List ℕ) → List ℕ
failed_text partition kind reason =
    codes "{\"partition\":" ++ (decimal partition ++ (codes ",\"offset\":null,\"error_code\":" ++ (kind ++ (codes ",\"error\":\"" ++ (reason ++ codes "\"}")))))

unfoldable pub code_text : ℤ → List ℕ
code_text code = codes "broker code " ++ signed_decimal code

-- the text of the answers to the records of a produce
unfoldable pub offsets_text : List Placed → List ℕ
offsets_text placed = answers_text (plain_batch []) placed

-- the reply says these answers to a produce without schemas, or want of memory
abbrev pub SaysProduced : List Placed → Reply → Type 0
SaysProduced placed r =
    ((advertise topic : List ℕ) (forms : Forms) (records : List Given) → response_in r ≡ response_of advertise forms (Produce topic (plain_batch records)) (Answers placed)) ⊎ (r ≡ Want)

-- the reply says what the produce answered, or want of memory
abbrev pub SaysAnswer : Result (List Told) ProduceNo → Reply → Type 0
SaysAnswer (Ok told) r = SaysProduced (map placed_of told) r
SaysAnswer (Err e) r = SaysOrWant (refusal_reply e) r

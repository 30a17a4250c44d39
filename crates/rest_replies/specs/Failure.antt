-- What a reply says, and the codes by which a call of a consumer is refused (Confluent REST Proxy API v2, consumers).
use Rattle.std.specs.Prelude.{ℕ, ℤ, ◌≡◌, ◌⊎◌, ◌==◌, ◌++◌, Bool, cond, codes, decimal, List, [], ◌∷◌}
use Rattle.std.specs.Fmt.{signed_decimal}
use Rattle.std.specs.List.{list_any}
use Rattle.model.specs.state.Forms.{Forms}
use Rattle.model.specs.state.Entry.{Call, Reply as Answer}
use Rattle.model.specs.texts.Bodies.{is_retriable}
use Rattle.model.specs.texts.Texts.{response_of}
use Rattle.rest_codes.specs.declared.response.Reply.{Reply}
use Rattle.rest_codes.specs.declared.response.Reply.TheVariants as reply
use Rattle.rest_calls.specs.Responses.{response_in}

-- the reply says this answer, to whichever call
abbrev pub Says : Answer → Reply → Type 0
Says answer r = (advertise : List ℕ) (forms : Forms) (call : Call) → response_in r ≡ response_of advertise forms call answer

-- the reply says this answer, or want of memory in its place
abbrev pub SaysOrWant : Answer → Reply → Type 0
SaysOrWant answer r = Says answer r ⊎ (r ≡ reply.Want)

-- the codes of the gateway that a consumer's calls are refused by
abbrev pub is_refusal_code : ℕ → Bool
is_refusal_code code = list_any (λ c. code == c) (40401 ∷ 40402 ∷ 40403 ∷ 40601 ∷ 40902 ∷ 40903 ∷ 40990 ∷ [])

-- the number of an error that a broker's code is answered by
abbrev pub broker_number : ℤ → ℕ
broker_number code = cond (is_retriable code) 50003 50002

-- and its message
unfoldable pub broker_message : ℤ → List ℕ
broker_message code =
    cond (is_retriable code) (codes "Kafka retriable error: broker code " ++ (signed_decimal code ++ codes ".")) (codes "Kafka error: broker code " ++ (signed_decimal code ++ codes "."))

-- the message of a record that doesn't read
unfoldable pub unread_message : (topic : List ℕ) → (partition offset reason : ℕ) → List ℕ
unread_message topic partition offset reason =
    codes "Record does not read: topic " ++ (topic ++ (codes ", partition " ++ (decimal partition ++ (codes ", offset " ++ (decimal offset ++ (codes ", reason " ++ (decimal reason ++ codes ".")))))))

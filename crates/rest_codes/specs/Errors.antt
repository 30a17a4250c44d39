-- The error codes and their messages (Confluent REST Proxy API v2, with messages of this project's own).
use Rattle.std.specs.Prelude.{ℕ, List, codes, if◌then◌else◌, ◌==◌}
use Rattle.rest_codes.specs.declared.response.Reply.{Reply}
use Rattle.rest_codes.specs.declared.response.Reply.TheVariants as reply

-- the message of an error code
unfoldable pub message_of : ℕ → List ℕ
message_of code =
    if code == 400 then codes "Bad request." else
    if code == 404 then codes "Not found." else
    if code == 405 then codes "Method not allowed." else
    if code == 406 then codes "Not acceptable." else
    if code == 413 then codes "Body too large." else
    if code == 415 then codes "Unsupported media type." else
    if code == 422 then codes "Body does not read." else
    if code == 431 then codes "Head too large." else
    if code == 40401 then codes "Topic not found." else
    if code == 40402 then codes "Partition not found." else
    if code == 40403 then codes "Consumer instance not found." else
    if code == 40601 then codes "Consumer format does not match the Accept header." else
    if code == 40902 then codes "Consumer instance with the specified name already exists." else
    if code == 40903 then codes "Subscription to topics, partitions and pattern are mutually exclusive." else
    if code == 40990 then codes "Partition is not assigned to this instance." else
    if code == 42201 then codes "Key schema missing." else
    if code == 42202 then codes "Value schema missing." else
    if code == 42204 then codes "Invalid consumer configuration." else
    if code == 42205 then codes "Invalid Avro schema." else
    if code == 50391 then codes "Schema store failed." else
    if code == 50392 then codes "Schema table is full." else
    codes "Out of memory."

-- a refusal: its code and the message of that code
abbrev pub refusal_of : ℕ → Reply
refusal_of code = reply.Error code (message_of code)

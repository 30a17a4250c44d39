-- The bytes of a response (RFC 9112, section 4): status line, fields, an empty line, the body.
use Rattle.std.specs.Prelude.{ℕ, ◌/◌, Bool, true, false, List, [], ◌++◌, length, codes, decimal, if◌then◌else◌, ◌==◌, nat_lt}
use Rattle.json.specs.Print.{quoted}
use Rattle.rest_codes.specs.Methods.{allowing, no_method_text}
use Rattle.rest_codes.specs.declared.response.Media.{Media}
use Rattle.rest_codes.specs.declared.response.Media.TheVariants as media
use Rattle.rest_codes.specs.declared.response.Reply.{Reply}
use Rattle.rest_codes.specs.declared.response.Reply.TheVariants as reply

-- the reason phrase of a status
unfoldable pub reason_of : ℕ → List ℕ
reason_of status =
    if status == 200 then codes "OK" else
    if status == 204 then codes "No Content" else
    if status == 400 then codes "Bad Request" else
    if status == 404 then codes "Not Found" else
    if status == 405 then codes "Method Not Allowed" else
    if status == 406 then codes "Not Acceptable" else
    if status == 409 then codes "Conflict" else
    if status == 413 then codes "Payload Too Large" else
    if status == 415 then codes "Unsupported Media Type" else
    if status == 422 then codes "Unprocessable Entity" else
    if status == 431 then codes "Request Header Fields Too Large" else
    if status == 503 then codes "Service Unavailable" else
    codes "Internal Server Error"

-- the name of a media type
abbrev pub media_name : Media → List ℕ
media_name media.Plain = codes "application/vnd.kafka.v2+json"
media_name media.Binary = codes "application/vnd.kafka.binary.v2+json"
media_name media.Json = codes "application/vnd.kafka.json.v2+json"
media_name media.Avro = codes "application/vnd.kafka.avro.v2+json"

-- the field that says that the connection closes
abbrev pub closing : Bool → List ℕ
closing true = codes "Connection: close\r\n"
closing false = []

-- the status line and the fields on a body
unfoldable pub head_of : ℕ → List ℕ → ℕ → List ℕ
head_of status media size =
    codes "HTTP/1.1 " ++ (decimal status ++ (codes " " ++ (reason_of status
    ++ (codes "\r\nContent-Type: " ++ (media
    ++ (codes "\r\nContent-Length: " ++ (decimal size ++ codes "\r\n")))))))

-- a response with a body
unfoldable pub with_body : ℕ → List ℕ → List ℕ → Bool → List ℕ
with_body status media body close =
    head_of status media (length body) ++ (closing close ++ (codes "\r\n" ++ body))

-- a response of 405 with a body, which lists the methods of the path that has this place
unfoldable pub with_methods : ℕ → List ℕ → List ℕ → Bool → List ℕ
with_methods place media body close =
    head_of 405 media (length body) ++ (allowing place ++ (closing close ++ (codes "\r\n" ++ body)))

-- the body of an error
unfoldable pub error_text : ℕ → List ℕ → List ℕ
error_text code message = codes "{\"error_code\":" ++ (decimal code ++ (codes ",\"message\":" ++ (quoted message ++ codes "}")))

-- the status of an error code: the code itself, or the first three of five digits
abbrev pub status_of : ℕ → ℕ
status_of code = if nat_lt code 1000 then code else code / 100

-- the response of want of memory
abbrev pub want_text : List ℕ
want_text = codes "{\"error_code\":50390,\"message\":\"Out of memory.\"}"

-- the bytes of a reply
abbrev pub response_of : Reply → Bool → List ℕ
response_of reply.Empty close = codes "HTTP/1.1 204 No Content\r\n" ++ (closing close ++ codes "\r\n")
response_of (reply.Body media text) close = with_body 200 (media_name media) text close
response_of (reply.Error code text) close = with_body (status_of code) (media_name media.Plain) (error_text code text) close
response_of (reply.NoMethod allow) close = with_methods allow (media_name media.Plain) no_method_text close
response_of reply.Want close = with_body 503 (media_name media.Plain) want_text close

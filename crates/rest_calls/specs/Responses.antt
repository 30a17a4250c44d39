-- A reply as the model writes it: the bodies and error codes of the Confluent REST Proxy API v2.
use Rattle.std.specs.Prelude.{Option, Some, None}
use Rattle.model.specs.state.World.{Format}
use Rattle.model.specs.state.World.Format.{Binary, Json, Avro}
use Rattle.model.specs.texts.Texts.{Response}
use Rattle.model.specs.texts.Texts.Response.{Empty, Body, Error, Wanting}
use Rattle.rest_codes.specs.Methods.{no_method_text}
use Rattle.rest_codes.specs.Response.{error_text}
use Rattle.rest_codes.specs.declared.response.Media.{Media}
use Rattle.rest_codes.specs.declared.response.Media.TheVariants as media
use Rattle.rest_codes.specs.declared.response.Reply.{Reply}
use Rattle.rest_codes.specs.declared.response.Reply.TheVariants as reply

-- the embedded form that a media type names
abbrev pub format_in : Media → Option Format
format_in media.Plain = None
format_in media.Binary = Some Binary
format_in media.Json = Some Json
format_in media.Avro = Some Avro

-- the reply in the model's terms
abbrev pub response_in : Reply → Response
response_in reply.Empty = Empty
response_in (reply.Body media text) = Body (format_in media) text
response_in (reply.Error code text) = Error code (error_text code text)
response_in (reply.NoMethod allow) = Error 405 no_method_text
response_in reply.Want = Wanting

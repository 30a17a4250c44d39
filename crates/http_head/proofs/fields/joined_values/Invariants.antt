use Rattle.std.proofs.Common.{take, map}
use Rattle.httparse.specs.Spans.{header_bytes}
use Rattle.http_head.specs.Fields.{values_of}
use Rattle.http_head.specs.Parts.{JoinedIs}
use Rattle.http_head.proofs.fields.joined_values.Given as goal

abbrev pub invariant-loop-header : goal.invariant-loop-header
invariant-loop-header l = JoinedIs (values_of l.name (map (header_bytes l.buf) (take l.header-index l.headers))) l.is_found l.text.items

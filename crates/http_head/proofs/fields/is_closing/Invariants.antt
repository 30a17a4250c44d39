use Rattle.std.proofs.Common.{◌≡◌, take, map, codes}
use Rattle.std.specs.List.{list_any}
use Rattle.httparse.specs.Spans.{header_bytes}
use Rattle.http_head.specs.Fields.{values_of}
use Rattle.http_head.specs.Member.{has_member}
use Rattle.http_head.proofs.fields.is_closing.Given as goal

abbrev pub invariant-loop-header : goal.invariant-loop-header
invariant-loop-header l = l.found ≡ list_any (has_member (codes "close")) (values_of (codes "connection") (map (header_bytes l.buf) (take l.header-index l.headers)))

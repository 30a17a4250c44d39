use Rattle.std.proofs.Common.{◌≡◌, take, map, codes}
use Rattle.std.specs.List.{list_any}
use Rattle.httparse.specs.Spans.{header_bytes}
use Rattle.http_head.specs.Fields.{values_of, is_interim}
use Rattle.http_head.proofs.fields.is_expected.Given as goal

abbrev pub invariant-loop-header : goal.invariant-loop-header
invariant-loop-header l = l.found ≡ list_any is_interim (values_of (codes "expect") (map (header_bytes l.buf) (take l.header-index l.headers)))

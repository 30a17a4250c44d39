use Rattle.std.proofs.Common.{◌∙◌, ap, sym, codes, Bool, ◌∷◌, [], get_or}
use Rattle.httparse.specs.declared.spans.HeaderSpan.{HeaderSpan}
use Rattle.std.specs.Prelude.{◌||◌}
use Rattle.std.specs.List.{list_any}
use Rattle.httparse.specs.Spans.{header_bytes}
use Rattle.http_head.specs.Fields.{values_of, is_encoding}
use Rattle.http_head.proofs.FieldLemmas.{codings_more}
use Rattle.http_head.proofs.fields.is_encoded.Goals as goal

pub loop-header-preserved : goal.loop-header-preserved
loop-header-preserved c =
    let none : HeaderSpan = record { name = record { start = 0; end = 0 }; value = record { start = 0; end = 0 } } in
    let more = codings_more is_encoding (codes "content-encoding") c.args.buf.now c.args.headers.now c.loop-header.header-index none c.loop-header-test.true in
    c.names_coding-found.ensures
    ∙ ap (λ (b : Bool). b || list_any is_encoding (values_of (codes "content-encoding") (header_bytes c.args.buf.now (get_or c.args.headers.now c.loop-header.header-index none) ∷ []))) c.loop-header.invariant
    ∙ sym more

use Rattle.std.proofs.Common.{◌≡◌, ◌++◌, ap, ◌∙◌}
use Rattle.std.specs.Prelude.{codes, decimal}
use Rattle.avro_schema.specs.Canonical.{quote}
use Rattle.avro_schema.proofs.Written.{on_ok, two, head_and}
use Rattle.avro_schema.proofs.canonical.write_fixed.Goals as goal

pub returns : goal.returns
returns c =
    let digits : c.as_str.result.now ≡ decimal c.args.size = c.as_str.ensures.value ∙ c.in-Ok.ensures.ok in
    on_ok c.push-2.result _ _ (λ e.
    head_and c.args.text.now c.push_head.new.text c.push-2.new.text (codes "{\"name\":") (quote c.args.name.now) (codes ",\"type\":\"fixed\",\"size\":") (decimal c.args.size ++ codes "}") c.in_ok-push_head.ensures
    (two c.push_head.new.text c.push.new.text c.push-2.new.text (decimal c.args.size) (codes "}") (c.in_ok-push.ensures ∙ ap (λ d. c.push_head.new.text ++ d) digits) e)) c.push-2.ensures

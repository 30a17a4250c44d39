use Rattle.std.proofs.Common.{pos, length, ◌++◌, ap, ◌∙◌, rules, FitsSigned}
use Rattle.std.specs.Int.{w32}
use Rattle.std.proofs.lemmas.Int.{to_z-of_z}
use Rattle.wire_prim.specs.Varint.{varint_bytes}
use Rattle.record_batch.specs.Written.{body_bytes}
use Rattle.record_batch.proofs.Appending.{on_ok, two}
use Rattle.record_batch.proofs.write.put_record.Goals as goal

pub returns : goal.returns
returns c =
    let delta_fits : FitsSigned w32 c.in_ok-delta.delta = search rules in
    let size_fits : FitsSigned w32 c.in_ok-body_len.field-0 = search rules in
    let delta = to_z-of_z w32 _ delta_fits ∙ c.in_ok-delta.ensures.0 in
    let size = to_z-of_z w32 _ size_fits ∙ c.in_ok-body_len.ensures c.args.delta delta in
    let front = c.in_ok-put_varint.ensures.ok ∙ ap (λ n. c.args.out.now.items ++ varint_bytes n) size in
    on_ok c.put_body.result _ _ (λ end. two _ (varint_bytes (pos (length (body_bytes c.args.delta c.args.row.now)))) (body_bytes c.args.delta c.args.row.now) _ _ front end) (c.put_body.ensures c.args.delta delta)

use Rattle.std.proofs.Common.{◌≡◌, FitsSigned, ap, sym, subst, ◌∙◌}
use Rattle.std.specs.Int.{w32}
use Rattle.std.proofs.lemmas.Int.{to_z-of_z}
use Rattle.wire_prim.specs.Varint.{varint_at, behind_varint}
use Rattle.avro_codec.specs.Reading.{Place}
use Rattle.avro_codec.proofs.VarintLemmas.{int_fits, int_read, int_unread, placed}
use Rattle.avro_codec.proofs.cursor.Cursor.int.Goals as goal

pub returns-in-Ok-clause-value : goal.returns-in-Ok-clause-value
returns-in-Ok-clause-value c =
    let a = c.in-Ok.ensures in
    let fits : FitsSigned w32 c.in-Ok.value = subst (FitsSigned w32) (sym a.at) (int_fits _ _ a.answer) in
    let left : c.new-items.result.left ≡ c.args.self.now.left = ap (λ r. r.left) c.new-items.ensures ∙ ap (λ (p : Place). p.left) c.self.view_is in
    let read = int_read c.args.node c.args.self.now c.in-Ok.value c.varint.new.self.left (a.at ∙ ap varint_at left) (ap behind_varint (sym left) ∙ a.answer) in
    rw (to_z-of_z w32 c.in-Ok.value fits) (read ∙ placed c.in-Ok.value c.self.inside.next c.args.self.now.next c.rest-self-inside.result.now c.varint.new.self.left (ap (λ (p : Place). p.next) c.self.view_is) c.rest-self-inside.ensures)

pub returns-in-Err-clause-value : goal.returns-in-Err-clause-value
returns-in-Err-clause-value c =
    let left : c.new-items.result.left ≡ c.args.self.now.left = ap (λ r. r.left) c.new-items.ensures ∙ ap (λ (p : Place). p.left) c.self.view_is in
    int_unread c.args.node c.args.self.now c.in-Err.cause c.stopped.result c.stopped.ensures (ap behind_varint (sym left) ∙ c.in-Err.ensures.answer)

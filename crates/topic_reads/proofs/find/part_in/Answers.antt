use Rattle.std.proofs.Common.{◌≡◌, ◌∙◌, ℤ, List, ap, sym, to_z, of_z, w32, arith}
use Rattle.std.proofs.lemmas.Int.{to_z-of_z}
use Rattle.std.specs.List.{position}
use Rattle.broker_link.specs.declared.link.PartInfo.{PartInfo}
use Rattle.topic_reads.specs.Finding.{is_numbered}
use Rattle.topic_reads.proofs.Finding.{part_at_none, part_at_place}
use Rattle.topic_reads.proofs.find.part_in.Goals as goal

pub returns-in_err-place : goal.returns-in_err-place
returns-in_err-place c =
    let same : to_z w32 (of_z w32 c.args.number) ≡ c.args.number = grind (arith, to_z-of_z) in
    c.from_residual.ensures ∙ sym (part_at_none c.args.info.parts c.args.number (ap (λ (ps : List PartInfo). position (is_numbered c.args.number) ps) (sym c.as_slice.ensures) ∙ (ap (λ (n : ℤ). position (is_numbered n) c.as_slice.result.now) (sym same) ∙ sym c.in_err-place.ensures)))

pub returns : goal.returns
returns c =
    let same : to_z w32 (of_z w32 c.args.number) ≡ c.args.number = grind (arith, to_z-of_z) in
    sym (part_at_place c.args.info.parts c.args.number c.in_ok-place.place (ap (λ (ps : List PartInfo). position (is_numbered c.args.number) ps) (sym c.as_slice.ensures) ∙ (ap (λ (n : ℤ). position (is_numbered n) c.as_slice.result.now) (sym same) ∙ sym c.in_ok-place.ensures)) ∙ c.remove.ensures.item)

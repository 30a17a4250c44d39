use Rattle.std.proofs.Common.{ap, ◌∙◌, sym, arith, rules, FitsSigned}
use Rattle.std.proofs.lemmas.Int.{to_z-of_z}
use Rattle.std.specs.Int.{w8, w16, w32, w64, cast_unsigned}
use Rattle.wire_prim.specs.Behind.{int8_at, int16_at, int32_at}
use Rattle.record_batch.proofs.ReadLemmas.{reading_is}
use Rattle.record_batch.proofs.Places.{at_21, at_after, fields_same, still_there}
use Rattle.record_batch.proofs.read.fields.Goals as goal

pub int16-requires : goal.int16-requires
int16-requires c =
    let at21 = at_21 c.args.cursor.now _ _ _ _ c.int64-base.ensures.moves c.skip.ensures.moves c.int8-magic.ensures.moves c.int32.ensures.moves in
    still_there _ _ 21 2 at21.2 (omega (arith, c.requires))

pub skip-requires-2 : goal.skip-requires-2
skip-requires-2 c =
    let at21 = at_21 c.args.cursor.now _ _ _ _ c.int64-base.ensures.moves c.skip.ensures.moves c.int8-magic.ensures.moves c.int32.ensures.moves in
    still_there _ _ 23 34 (at_after _ _ _ 21 2 at21.2 c.int16.ensures.moves) (omega (arith, c.requires))

pub int32-count-requires : goal.int32-count-requires
int32-count-requires c =
    let at21 = at_21 c.args.cursor.now _ _ _ _ c.int64-base.ensures.moves c.skip.ensures.moves c.int8-magic.ensures.moves c.int32.ensures.moves in
    let at57 = at_after _ _ _ 23 34 (at_after _ _ _ 21 2 at21.2 c.int16.ensures.moves) c.skip-2.ensures.moves in
    still_there _ _ 57 4 at57 (omega (arith, c.requires))

pub returns-clause-moves : goal.returns-clause-moves
returns-clause-moves c =
    let at21 = at_21 c.args.cursor.now _ _ _ _ c.int64-base.ensures.moves c.skip.ensures.moves c.int8-magic.ensures.moves c.int32.ensures.moves in
    let at57 = at_after _ _ _ 23 34 (at_after _ _ _ 21 2 at21.2 c.int16.ensures.moves) c.skip-2.ensures.moves in
    let at61 = at_after _ _ _ 57 4 at57 c.int32-count.ensures.moves in
    sym (reading_is _ _ _ (sym at61.place) (sym at61.left))

pub returns-clause-fields : goal.returns-clause-fields
returns-clause-fields c =
    let at21 = at_21 c.args.cursor.now _ _ _ _ c.int64-base.ensures.moves c.skip.ensures.moves c.int8-magic.ensures.moves c.int32.ensures.moves in
    let at57 = at_after _ _ _ 23 34 (at_after _ _ _ 21 2 at21.2 c.int16.ensures.moves) c.skip-2.ensures.moves in
    let base_fits : FitsSigned w64 c.int64-base.result = search rules in
    let magic_fits : FitsSigned w8 c.int8-magic.result = search rules in
    let count_fits : FitsSigned w32 c.int32-count.result = search rules in
    let crc_fits : FitsSigned w32 c.int32.result = search rules in
    let attributes_fit : FitsSigned w16 c.int16.result = search rules in
    fields_same _ _ _ _ _ _ _ _ _ _ _ _
    (to_z-of_z w64 _ base_fits ∙ c.int64-base.ensures.value)
    (to_z-of_z w8 _ magic_fits ∙ c.int8-magic.ensures.value ∙ ap int8_at at21.0.left)
    (c.cast_unsigned-crc.ensures ∙ ap (cast_unsigned w32) (to_z-of_z w32 _ crc_fits ∙ c.int32.ensures.value ∙ ap int32_at at21.1.left))
    (c.rest-summed.ensures ∙ at21.2.left)
    (c.cast_unsigned-attributes.ensures ∙ ap (cast_unsigned w16) (to_z-of_z w16 _ attributes_fit ∙ c.int16.ensures.value ∙ ap int16_at at21.2.left))
    (to_z-of_z w32 _ count_fits ∙ c.int32-count.ensures.value ∙ ap int32_at at57.left)

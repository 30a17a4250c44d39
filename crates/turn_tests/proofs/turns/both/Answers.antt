use Rattle.std.proofs.Common.{[], ◌∷◌}
use denote.RattleType.{RattleType}
use denote.Param.{param}
use denote.Param.Send.{sendable, IsSend, IsSync, param_sync, recorded_send, struct_send, shr_send}
use denote.Struct.Declared.{shape}
use denote.Struct.Tuple.{TupleAt, type_at, field_at}
use denote.Struct.Field.{shr_ref_field}
use denote.Ref.{NamedLft}
use mir.Syntax.{Sym}
use Rattle.turn_cell.specs.contracts.marks.Mark as mark
use Rattle.turn_cell.specs.contracts.marks.Marks as marks
use Rattle.turn_cell.specs.contracts.marks.MarksStands.TheImpl as impl
use Rattle.turn_cell.specs.contracts.pass.Pass as pass
use Rattle.turn_cell.specs.contracts.cell.TurnCell as cell
use Rattle.turn_cell.proofs.marks.Marks.TheSendSync as across
use Rattle.turn_cell.proofs.Sends.{pass_send, cell_sync}
use Rattle.turn_tests.proofs.turns.both.Goals as goal

one_pass : IsSend (pass.the_row marks.the_row mark.the_row)
one_pass = pass_send marks.the_row mark.the_row across.the_send

one_cell : IsSync (cell.the_row marks.the_row mark.the_row impl.ghosts)
one_cell = cell_sync marks.the_row mark.the_row impl.ghosts across.the_send

-- what a worker's closure captures: the runtime, the cell and a pass
worker : (R : RattleType) → IsSync R → (n : Sym) (k l : NamedLft) → IsSend (TupleAt n ((shr_ref_field k (param 0 R) tt).row ∷ (shr_ref_field l (cell.the_row marks.the_row mark.the_row impl.ghosts) tt).row ∷ pass.the_row marks.the_row mark.the_row ∷ []))
worker R s n k l =
    let Ts = (shr_ref_field k (param 0 R) tt).row ∷ (shr_ref_field l (cell.the_row marks.the_row mark.the_row impl.ghosts) tt).row ∷ pass.the_row marks.the_row mark.the_row ∷ [] in
    recorded_send (field_at n Ts).row _ _ (type_at n Ts).to_one (struct_send (shape (type_at n Ts)) (shr_send _ _ _ (param_sync 0 R s), (shr_send _ _ _ one_cell, (one_pass, tt))))

pub join-requires-send-F : goal.join-requires-send-F
join-requires-send-F g c κs within = search (sendable, worker, c.type_bounds.sync-R) depth 40

pub join-requires-send-A : goal.join-requires-send-A
join-requires-send-A g c κs within = search (sendable, one_pass) depth 40

-- Passes and cells may cross threads where their value may.
use denote.RattleType.{RattleType}
use denote.Param.Send.{IsSend, IsSync, sendable, recorded_send, recorded_sync, struct_send, struct_sync, plain_send, plain_sync}
use denote.Struct.Declared.{shape}
use Rattle.std.proofs.Crossing.{crosses, frees, send, sync}
use Rattle.atomic_table.proofs.owned.Table.TheSendSync as across
use Rattle.std.specs.contracts.option.Option as option
use Rattle.std.specs.contracts.alloc.Global as global
use Rattle.std.specs.contracts.impls.GlobalAllocator.TheImpl as heap
use Rattle.turn_cell.specs.contracts.rule.About as about
use Rattle.turn_cell.specs.contracts.rule.Law as law
use Rattle.turn_cell.specs.contracts.rule.View as view
use Rattle.turn_cell.specs.contracts.rule.LawTableRuleOptionKeptEntryViewEntryAbout.TheImpl as impl
use Rattle.atomic_table.proofs.Sent.{seat_keyless}
use Rattle.atomic_table.specs.contracts.shared.Seat as seat
use Rattle.turn_cell.specs.declared.rule.Stands.{Ghosts}
use Rattle.turn_cell.specs.contracts.pass.Pass as pass
use Rattle.turn_cell.specs.contracts.rule.Kept as kept
use Rattle.turn_cell.specs.contracts.cell.TurnCell as cell

pub seat_send : (S V : RattleType) → IsSend S → IsSend (seat.the_row S V)
seat_send S V s = record { owned = λ d vs. ((λ vss. (tt, ((λ uss. (tt, tt)), tt))), seat_keyless S s V.coded.code d.table_id d.id d.me); leaving = λ k f vs. tt }

pub kept_send : (S E : RattleType) → IsSend S → IsSend (kept.the_row S E)
kept_send S E s = search (sendable, crosses) depth 40

pub pass_send : (S E : RattleType) → IsSend S → IsSend (pass.the_row S E)
pass_send S E s = search (sendable, crosses, seat_send, kept_send) depth 40

-- the same of a pass that lies in a field
pub pass_field_send : (S E : RattleType) → IsSend S → IsSend (pass.the_field S E).row
pass_field_send S E s = search (sendable, crosses, seat_send, kept_send) depth 40

module _ (S E : RattleType) (g : Ghosts S.Denot E.Denot) (s : IsSend S) where
  slot_send : IsSend (option.the_row (kept.the_row S E))
  slot_send = search (sendable, crosses, kept_send) depth 40

  -- a cell that lies in a field
  pub cell_field_send : IsSend (cell.the_field S E g).row
  cell_field_send = struct_send (shape (cell.the_type S E g)) (across.the_field_send (option.the_row (kept.the_row S E)) (view.the_row S E) (about.the_row S) law.the_row global.the_row (impl.ghosts S E g impl.no_dict) heap.ghosts slot_send send frees, (plain_send _ _ _ _ _, tt))

  pub cell_field_sync : IsSync (cell.the_field S E g).row
  cell_field_sync = struct_sync (shape (cell.the_type S E g)) (across.the_field_sync (option.the_row (kept.the_row S E)) (view.the_row S E) (about.the_row S) law.the_row global.the_row (impl.ghosts S E g impl.no_dict) heap.ghosts slot_send send sync frees, (plain_sync _ _ _ _ _, tt))

  pub cell_send : IsSend (cell.the_row S E g)
  cell_send = recorded_send (cell.the_field S E g).row _ _ (cell.the_type S E g).to_one cell_field_send

  pub cell_sync : IsSync (cell.the_row S E g)
  cell_sync = recorded_sync (cell.the_field S E g).row _ _ (cell.the_type S E g).to_one cell_field_sync

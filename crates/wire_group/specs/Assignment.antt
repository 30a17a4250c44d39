-- Assignment: Kafka's ConsumerProtocolAssignment.json, versions 0 and higher.
use Rattle.std.specs.Prelude.{pos, refl}
use Rattle.wire_group.specs.declared.assignment.Assignment.{Assignment}
use Rattle.wire_group.specs.declared.assignment.AssignmentRow.{AssignmentRow}
use Rattle.wire_layout.specs.Layout.{Layout, field, fixed, ◌&◌, int32, string, nullable_bytes, array}
use Rattle.wire_layout.specs.Laid.{IsLaid}
use Rattle.wire_layout.specs.ItemLaws.{int32_laid, string_laid, nullable_bytes_laid}
use Rattle.wire_layout.specs.ArrayLaws.{array_laid}
use Rattle.wire_layout.specs.RowLaws.{told, fixed_told, ◌⊗◌, all_told}

abbrev pub assignment_row : Layout AssignmentRow
assignment_row =
    field (λ m. m.topic) string
    & field (λ m. m.partition) (array int32)

pub assignment_row_laid : IsLaid assignment_row
assignment_row_laid =
    all_told (told string_laid ⊗ told (array_laid _ int32_laid))
    (λ t. record { topic = t.0; partition = t.1 }) (λ m. refl)

abbrev pub assignment : Layout Assignment
assignment =
    fixed (λ m. m.version) (pos 0)
    & field (λ m. m.rows) (array assignment_row)
    & field (λ m. m.user) nullable_bytes

pub assignment_laid : IsLaid assignment
assignment_laid =
    all_told (fixed_told _ (pos 0) ⊗ told (array_laid _ assignment_row_laid) ⊗ told nullable_bytes_laid)
    (λ t. record { version = t.0; rows = t.1.0; user = t.1.1 }) (λ m. refl)

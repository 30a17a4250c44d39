-- SyncGroup, version 0: Kafka protocol guide, "SyncGroup API (Key: 14)".
use Rattle.std.specs.Prelude.{refl}
use Rattle.wire_group.specs.declared.sync_group.SyncGroupRequest.{SyncGroupRequest}
use Rattle.wire_group.specs.declared.sync_group.SyncGroupRequestRow.{SyncGroupRequestRow}
use Rattle.wire_group.specs.declared.sync_group.SyncGroupResponse.{SyncGroupResponse}
use Rattle.wire_layout.specs.Layout.{Layout, field, ◌&◌, int16, int32, string, bytes, array}
use Rattle.wire_layout.specs.Laid.{IsLaid}
use Rattle.wire_layout.specs.ItemLaws.{int16_laid, int32_laid, string_laid, bytes_laid}
use Rattle.wire_layout.specs.ArrayLaws.{array_laid}
use Rattle.wire_layout.specs.RowLaws.{told, ◌⊗◌, all_told}

abbrev pub sync_group_request_row : Layout SyncGroupRequestRow
sync_group_request_row =
    field (λ m. m.member) string
    & field (λ m. m.assignment) bytes

pub sync_group_request_row_laid : IsLaid sync_group_request_row
sync_group_request_row_laid =
    all_told (told string_laid ⊗ told bytes_laid)
    (λ t. record { member = t.0; assignment = t.1 }) (λ m. refl)

abbrev pub sync_group_request : Layout SyncGroupRequest
sync_group_request =
    field (λ m. m.group) string
    & field (λ m. m.generation) int32
    & field (λ m. m.member) string
    & field (λ m. m.rows) (array sync_group_request_row)

pub sync_group_request_laid : IsLaid sync_group_request
sync_group_request_laid =
    all_told (told string_laid ⊗ told int32_laid ⊗ told string_laid ⊗ told (array_laid _ sync_group_request_row_laid))
    (λ t. record { group = t.0; generation = t.1.0; member = t.1.1.0; rows = t.1.1.1 }) (λ m. refl)

abbrev pub sync_group_response : Layout SyncGroupResponse
sync_group_response =
    field (λ m. m.code) int16
    & field (λ m. m.assignment) bytes

pub sync_group_response_laid : IsLaid sync_group_response
sync_group_response_laid =
    all_told (told int16_laid ⊗ told bytes_laid)
    (λ t. record { code = t.0; assignment = t.1 }) (λ m. refl)

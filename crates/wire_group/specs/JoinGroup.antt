-- JoinGroup, version 2: Kafka protocol guide, "JoinGroup API (Key: 11)".
use Rattle.std.specs.Prelude.{refl}
use Rattle.wire_group.specs.declared.join_group.JoinGroupRequest.{JoinGroupRequest}
use Rattle.wire_group.specs.declared.join_group.JoinGroupRequestRow.{JoinGroupRequestRow}
use Rattle.wire_group.specs.declared.join_group.JoinGroupResponse.{JoinGroupResponse}
use Rattle.wire_group.specs.declared.join_group.JoinGroupResponseRow.{JoinGroupResponseRow}
use Rattle.wire_layout.specs.Layout.{Layout, field, ◌&◌, int16, int32, string, bytes, array}
use Rattle.wire_layout.specs.Laid.{IsLaid}
use Rattle.wire_layout.specs.ItemLaws.{int16_laid, int32_laid, string_laid, bytes_laid}
use Rattle.wire_layout.specs.ArrayLaws.{array_laid}
use Rattle.wire_layout.specs.RowLaws.{told, ◌⊗◌, all_told}

abbrev pub join_group_request_row : Layout JoinGroupRequestRow
join_group_request_row =
    field (λ m. m.name) string
    & field (λ m. m.metadata) bytes

pub join_group_request_row_laid : IsLaid join_group_request_row
join_group_request_row_laid =
    all_told (told string_laid ⊗ told bytes_laid)
    (λ t. record { name = t.0; metadata = t.1 }) (λ m. refl)

abbrev pub join_group_request : Layout JoinGroupRequest
join_group_request =
    field (λ m. m.group) string
    & field (λ m. m.session_ms) int32
    & field (λ m. m.rebalance_ms) int32
    & field (λ m. m.member) string
    & field (λ m. m.protocol_type) string
    & field (λ m. m.rows) (array join_group_request_row)

pub join_group_request_laid : IsLaid join_group_request
join_group_request_laid =
    all_told (told string_laid ⊗ told int32_laid ⊗ told int32_laid ⊗ told string_laid ⊗ told string_laid ⊗ told (array_laid _ join_group_request_row_laid))
    (λ t. record { group = t.0; session_ms = t.1.0; rebalance_ms = t.1.1.0; member = t.1.1.1.0; protocol_type = t.1.1.1.1.0; rows = t.1.1.1.1.1 }) (λ m. refl)

abbrev pub join_group_response_row : Layout JoinGroupResponseRow
join_group_response_row =
    field (λ m. m.member) string
    & field (λ m. m.metadata) bytes

pub join_group_response_row_laid : IsLaid join_group_response_row
join_group_response_row_laid =
    all_told (told string_laid ⊗ told bytes_laid)
    (λ t. record { member = t.0; metadata = t.1 }) (λ m. refl)

abbrev pub join_group_response : Layout JoinGroupResponse
join_group_response =
    field (λ m. m.throttle_ms) int32
    & field (λ m. m.code) int16
    & field (λ m. m.generation) int32
    & field (λ m. m.protocol) string
    & field (λ m. m.leader) string
    & field (λ m. m.member) string
    & field (λ m. m.rows) (array join_group_response_row)

pub join_group_response_laid : IsLaid join_group_response
join_group_response_laid =
    all_told (told int32_laid ⊗ told int16_laid ⊗ told int32_laid ⊗ told string_laid ⊗ told string_laid ⊗ told string_laid ⊗ told (array_laid _ join_group_response_row_laid))
    (λ t. record { throttle_ms = t.0; code = t.1.0; generation = t.1.1.0; protocol = t.1.1.1.0; leader = t.1.1.1.1.0; member = t.1.1.1.1.1.0; rows = t.1.1.1.1.1.1 }) (λ m. refl)

-- LeaveGroup, version 0: Kafka protocol guide, "LeaveGroup API (Key: 13)".
use Rattle.std.specs.Prelude.{refl}
use Rattle.wire_group.specs.declared.leave_group.LeaveGroupRequest.{LeaveGroupRequest}
use Rattle.wire_group.specs.declared.leave_group.LeaveGroupResponse.{LeaveGroupResponse}
use Rattle.wire_layout.specs.Layout.{Layout, field, ◌&◌, int16, string}
use Rattle.wire_layout.specs.Laid.{IsLaid}
use Rattle.wire_layout.specs.ItemLaws.{int16_laid, string_laid}
use Rattle.wire_layout.specs.RowLaws.{told, ◌⊗◌, all_told}

abbrev pub leave_group_request : Layout LeaveGroupRequest
leave_group_request =
    field (λ m. m.group) string
    & field (λ m. m.member) string

pub leave_group_request_laid : IsLaid leave_group_request
leave_group_request_laid =
    all_told (told string_laid ⊗ told string_laid)
    (λ t. record { group = t.0; member = t.1 }) (λ m. refl)

abbrev pub leave_group_response : Layout LeaveGroupResponse
leave_group_response = field (λ m. m.code) int16

pub leave_group_response_laid : IsLaid leave_group_response
leave_group_response_laid =
    all_told (told int16_laid)
    (λ t. record { code = t }) (λ m. refl)

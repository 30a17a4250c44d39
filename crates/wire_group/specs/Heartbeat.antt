-- Heartbeat, version 0: Kafka protocol guide, "Heartbeat API (Key: 12)".
use Rattle.std.specs.Prelude.{refl}
use Rattle.wire_group.specs.declared.heartbeat.HeartbeatRequest.{HeartbeatRequest}
use Rattle.wire_group.specs.declared.heartbeat.HeartbeatResponse.{HeartbeatResponse}
use Rattle.wire_layout.specs.Layout.{Layout, field, ◌&◌, int16, int32, string}
use Rattle.wire_layout.specs.Laid.{IsLaid}
use Rattle.wire_layout.specs.ItemLaws.{int16_laid, int32_laid, string_laid}
use Rattle.wire_layout.specs.RowLaws.{told, ◌⊗◌, all_told}

abbrev pub heartbeat_request : Layout HeartbeatRequest
heartbeat_request =
    field (λ m. m.group) string
    & field (λ m. m.generation) int32
    & field (λ m. m.member) string

pub heartbeat_request_laid : IsLaid heartbeat_request
heartbeat_request_laid =
    all_told (told string_laid ⊗ told int32_laid ⊗ told string_laid)
    (λ t. record { group = t.0; generation = t.1.0; member = t.1.1 }) (λ m. refl)

abbrev pub heartbeat_response : Layout HeartbeatResponse
heartbeat_response = field (λ m. m.code) int16

pub heartbeat_response_laid : IsLaid heartbeat_response
heartbeat_response_laid =
    all_told (told int16_laid)
    (λ t. record { code = t }) (λ m. refl)

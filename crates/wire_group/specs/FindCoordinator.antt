-- FindCoordinator, version 0: Kafka protocol guide, "FindCoordinator API (Key: 10)".
use Rattle.std.specs.Prelude.{refl}
use Rattle.wire_group.specs.declared.find_coordinator.FindCoordinatorRequest.{FindCoordinatorRequest}
use Rattle.wire_group.specs.declared.find_coordinator.FindCoordinatorResponse.{FindCoordinatorResponse}
use Rattle.wire_layout.specs.Layout.{Layout, field, ◌&◌, int16, int32, string}
use Rattle.wire_layout.specs.Laid.{IsLaid}
use Rattle.wire_layout.specs.ItemLaws.{int16_laid, int32_laid, string_laid}
use Rattle.wire_layout.specs.RowLaws.{told, ◌⊗◌, all_told}

abbrev pub find_coordinator_request : Layout FindCoordinatorRequest
find_coordinator_request = field (λ m. m.group) string

pub find_coordinator_request_laid : IsLaid find_coordinator_request
find_coordinator_request_laid =
    all_told (told string_laid)
    (λ t. record { group = t }) (λ m. refl)

abbrev pub find_coordinator_response : Layout FindCoordinatorResponse
find_coordinator_response =
    field (λ m. m.code) int16
    & field (λ m. m.node) int32
    & field (λ m. m.host) string
    & field (λ m. m.port) int32

pub find_coordinator_response_laid : IsLaid find_coordinator_response
find_coordinator_response_laid =
    all_told (told int16_laid ⊗ told int32_laid ⊗ told string_laid ⊗ told int32_laid)
    (λ t. record { code = t.0; node = t.1.0; host = t.1.1.0; port = t.1.1.1 }) (λ m. refl)

-- ApiVersions, version 0: Kafka protocol guide, "ApiVersions API (Key: 18)".
use Rattle.std.specs.Prelude.{refl}
use Rattle.wire_data.specs.declared.api_versions.ApiVersionsRequest.{ApiVersionsRequest}
use Rattle.wire_data.specs.declared.api_versions.ApiVersionsResponse.{ApiVersionsResponse}
use Rattle.wire_data.specs.declared.api_versions.ApiVersionsResponseRow.{ApiVersionsResponseRow}
use Rattle.wire_layout.specs.Layout.{Layout, field, nothing, ◌&◌, int16, array}
use Rattle.wire_layout.specs.Laid.{IsLaid}
use Rattle.wire_layout.specs.ItemLaws.{int16_laid}
use Rattle.wire_layout.specs.ArrayLaws.{array_laid}
use Rattle.wire_layout.specs.RowLaws.{told, nothing_told, ◌⊗◌, all_told}

abbrev pub api_versions_request : Layout ApiVersionsRequest
api_versions_request = nothing

pub api_versions_request_laid : IsLaid api_versions_request
api_versions_request_laid = all_told nothing_told (λ t. record {}) (λ m. refl)

abbrev pub api_versions_response_row : Layout ApiVersionsResponseRow
api_versions_response_row =
    field (λ m. m.key) int16
    & field (λ m. m.min) int16
    & field (λ m. m.max) int16

pub api_versions_response_row_laid : IsLaid api_versions_response_row
api_versions_response_row_laid =
    all_told (told int16_laid ⊗ told int16_laid ⊗ told int16_laid)
    (λ t. record { key = t.0; min = t.1.0; max = t.1.1 }) (λ m. refl)

abbrev pub api_versions_response : Layout ApiVersionsResponse
api_versions_response =
    field (λ m. m.code) int16
    & field (λ m. m.rows) (array api_versions_response_row)

pub api_versions_response_laid : IsLaid api_versions_response
api_versions_response_laid =
    all_told (told int16_laid ⊗ told (array_laid _ api_versions_response_row_laid))
    (λ t. record { code = t.0; rows = t.1 }) (λ m. refl)

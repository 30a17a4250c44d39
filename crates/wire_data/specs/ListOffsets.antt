-- ListOffsets, version 1: Kafka protocol guide, "ListOffsets API (Key: 2)".
use Rattle.std.specs.Prelude.{refl}
use Rattle.wire_data.specs.declared.list_offsets.ListOffsetsRequest.{ListOffsetsRequest}
use Rattle.wire_data.specs.declared.list_offsets.ListOffsetsRequestRow.{ListOffsetsRequestRow}
use Rattle.wire_data.specs.declared.list_offsets.ListOffsetsRequestRowRow.{ListOffsetsRequestRowRow}
use Rattle.wire_data.specs.declared.list_offsets.ListOffsetsResponse.{ListOffsetsResponse}
use Rattle.wire_data.specs.declared.list_offsets.ListOffsetsResponseRow.{ListOffsetsResponseRow}
use Rattle.wire_data.specs.declared.list_offsets.ListOffsetsResponseRowRow.{ListOffsetsResponseRowRow}
use Rattle.wire_layout.specs.Layout.{Layout, field, ◌&◌, int16, int32, int64, string, array}
use Rattle.wire_layout.specs.Laid.{IsLaid}
use Rattle.wire_layout.specs.ItemLaws.{int16_laid, int32_laid, int64_laid, string_laid}
use Rattle.wire_layout.specs.ArrayLaws.{array_laid}
use Rattle.wire_layout.specs.RowLaws.{told, ◌⊗◌, all_told}

abbrev pub list_offsets_request_row_row : Layout ListOffsetsRequestRowRow
list_offsets_request_row_row =
    field (λ m. m.partition) int32
    & field (λ m. m.timestamp) int64

pub list_offsets_request_row_row_laid : IsLaid list_offsets_request_row_row
list_offsets_request_row_row_laid =
    all_told (told int32_laid ⊗ told int64_laid)
    (λ t. record { partition = t.0; timestamp = t.1 }) (λ m. refl)

abbrev pub list_offsets_request_row : Layout ListOffsetsRequestRow
list_offsets_request_row =
    field (λ m. m.name) string
    & field (λ m. m.rows) (array list_offsets_request_row_row)

pub list_offsets_request_row_laid : IsLaid list_offsets_request_row
list_offsets_request_row_laid =
    all_told (told string_laid ⊗ told (array_laid _ list_offsets_request_row_row_laid))
    (λ t. record { name = t.0; rows = t.1 }) (λ m. refl)

abbrev pub list_offsets_request : Layout ListOffsetsRequest
list_offsets_request =
    field (λ m. m.replica) int32
    & field (λ m. m.rows) (array list_offsets_request_row)

pub list_offsets_request_laid : IsLaid list_offsets_request
list_offsets_request_laid =
    all_told (told int32_laid ⊗ told (array_laid _ list_offsets_request_row_laid))
    (λ t. record { replica = t.0; rows = t.1 }) (λ m. refl)

abbrev pub list_offsets_response_row_row : Layout ListOffsetsResponseRowRow
list_offsets_response_row_row =
    field (λ m. m.partition) int32
    & field (λ m. m.code) int16
    & field (λ m. m.timestamp) int64
    & field (λ m. m.offset) int64

pub list_offsets_response_row_row_laid : IsLaid list_offsets_response_row_row
list_offsets_response_row_row_laid =
    all_told (told int32_laid ⊗ told int16_laid ⊗ told int64_laid ⊗ told int64_laid)
    (λ t. record { partition = t.0; code = t.1.0; timestamp = t.1.1.0; offset = t.1.1.1 }) (λ m. refl)

abbrev pub list_offsets_response_row : Layout ListOffsetsResponseRow
list_offsets_response_row =
    field (λ m. m.name) string
    & field (λ m. m.rows) (array list_offsets_response_row_row)

pub list_offsets_response_row_laid : IsLaid list_offsets_response_row
list_offsets_response_row_laid =
    all_told (told string_laid ⊗ told (array_laid _ list_offsets_response_row_row_laid))
    (λ t. record { name = t.0; rows = t.1 }) (λ m. refl)

abbrev pub list_offsets_response : Layout ListOffsetsResponse
list_offsets_response = field (λ m. m.rows) (array list_offsets_response_row)

pub list_offsets_response_laid : IsLaid list_offsets_response
list_offsets_response_laid =
    all_told (told (array_laid _ list_offsets_response_row_laid))
    (λ t. record { rows = t }) (λ m. refl)

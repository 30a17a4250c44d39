-- OffsetFetch, version 1: Kafka protocol guide, "OffsetFetch API (Key: 9)".
use Rattle.std.specs.Prelude.{refl}
use Rattle.wire_group.specs.declared.offset_fetch.OffsetFetchRequest.{OffsetFetchRequest}
use Rattle.wire_group.specs.declared.offset_fetch.OffsetFetchRequestRow.{OffsetFetchRequestRow}
use Rattle.wire_group.specs.declared.offset_fetch.OffsetFetchResponse.{OffsetFetchResponse}
use Rattle.wire_group.specs.declared.offset_fetch.OffsetFetchResponseRow.{OffsetFetchResponseRow}
use Rattle.wire_group.specs.declared.offset_fetch.OffsetFetchResponseRowRow.{OffsetFetchResponseRowRow}
use Rattle.wire_layout.specs.Layout.{Layout, field, ◌&◌, int16, int32, int64, string, nullable_string, array}
use Rattle.wire_layout.specs.Laid.{IsLaid}
use Rattle.wire_layout.specs.ItemLaws.{int16_laid, int32_laid, int64_laid, string_laid, nullable_string_laid}
use Rattle.wire_layout.specs.ArrayLaws.{array_laid}
use Rattle.wire_layout.specs.RowLaws.{told, ◌⊗◌, all_told}

abbrev pub offset_fetch_request_row : Layout OffsetFetchRequestRow
offset_fetch_request_row =
    field (λ m. m.name) string
    & field (λ m. m.partition) (array int32)

pub offset_fetch_request_row_laid : IsLaid offset_fetch_request_row
offset_fetch_request_row_laid =
    all_told (told string_laid ⊗ told (array_laid _ int32_laid))
    (λ t. record { name = t.0; partition = t.1 }) (λ m. refl)

abbrev pub offset_fetch_request : Layout OffsetFetchRequest
offset_fetch_request =
    field (λ m. m.group) string
    & field (λ m. m.rows) (array offset_fetch_request_row)

pub offset_fetch_request_laid : IsLaid offset_fetch_request
offset_fetch_request_laid =
    all_told (told string_laid ⊗ told (array_laid _ offset_fetch_request_row_laid))
    (λ t. record { group = t.0; rows = t.1 }) (λ m. refl)

abbrev pub offset_fetch_response_row_row : Layout OffsetFetchResponseRowRow
offset_fetch_response_row_row =
    field (λ m. m.partition) int32
    & field (λ m. m.offset) int64
    & field (λ m. m.metadata) nullable_string
    & field (λ m. m.code) int16

pub offset_fetch_response_row_row_laid : IsLaid offset_fetch_response_row_row
offset_fetch_response_row_row_laid =
    all_told (told int32_laid ⊗ told int64_laid ⊗ told nullable_string_laid ⊗ told int16_laid)
    (λ t. record { partition = t.0; offset = t.1.0; metadata = t.1.1.0; code = t.1.1.1 }) (λ m. refl)

abbrev pub offset_fetch_response_row : Layout OffsetFetchResponseRow
offset_fetch_response_row =
    field (λ m. m.name) string
    & field (λ m. m.rows) (array offset_fetch_response_row_row)

pub offset_fetch_response_row_laid : IsLaid offset_fetch_response_row
offset_fetch_response_row_laid =
    all_told (told string_laid ⊗ told (array_laid _ offset_fetch_response_row_row_laid))
    (λ t. record { name = t.0; rows = t.1 }) (λ m. refl)

abbrev pub offset_fetch_response : Layout OffsetFetchResponse
offset_fetch_response = field (λ m. m.rows) (array offset_fetch_response_row)

pub offset_fetch_response_laid : IsLaid offset_fetch_response
offset_fetch_response_laid =
    all_told (told (array_laid _ offset_fetch_response_row_laid))
    (λ t. record { rows = t }) (λ m. refl)

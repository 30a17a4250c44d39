-- Fetch, version 4: Kafka protocol guide, "Fetch API (Key: 1)".
use Rattle.std.specs.Prelude.{refl}
use Rattle.wire_data.specs.declared.fetch.FetchRequest.{FetchRequest}
use Rattle.wire_data.specs.declared.fetch.FetchRequestRow.{FetchRequestRow}
use Rattle.wire_data.specs.declared.fetch.FetchRequestRowRow.{FetchRequestRowRow}
use Rattle.wire_data.specs.declared.fetch.FetchResponse.{FetchResponse}
use Rattle.wire_data.specs.declared.fetch.FetchResponseRow.{FetchResponseRow}
use Rattle.wire_data.specs.declared.fetch.FetchResponseRowRow.{FetchResponseRowRow}
use Rattle.wire_data.specs.declared.fetch.FetchResponseRowRowRow.{FetchResponseRowRowRow}
use Rattle.wire_layout.specs.Layout.{Layout, field, ◌&◌, int8, int16, int32, int64, string, nullable_bytes, array, nullable_array}
use Rattle.wire_layout.specs.Laid.{IsLaid}
use Rattle.wire_layout.specs.ItemLaws.{int8_laid, int16_laid, int32_laid, int64_laid, string_laid, nullable_bytes_laid}
use Rattle.wire_layout.specs.ArrayLaws.{array_laid, nullable_array_laid}
use Rattle.wire_layout.specs.RowLaws.{told, ◌⊗◌, all_told}

abbrev pub fetch_request_row_row : Layout FetchRequestRowRow
fetch_request_row_row =
    field (λ m. m.partition) int32
    & field (λ m. m.offset) int64
    & field (λ m. m.max_bytes) int32

pub fetch_request_row_row_laid : IsLaid fetch_request_row_row
fetch_request_row_row_laid =
    all_told (told int32_laid ⊗ told int64_laid ⊗ told int32_laid)
    (λ t. record { partition = t.0; offset = t.1.0; max_bytes = t.1.1 }) (λ m. refl)

abbrev pub fetch_request_row : Layout FetchRequestRow
fetch_request_row =
    field (λ m. m.name) string
    & field (λ m. m.rows) (array fetch_request_row_row)

pub fetch_request_row_laid : IsLaid fetch_request_row
fetch_request_row_laid =
    all_told (told string_laid ⊗ told (array_laid _ fetch_request_row_row_laid))
    (λ t. record { name = t.0; rows = t.1 }) (λ m. refl)

abbrev pub fetch_request : Layout FetchRequest
fetch_request =
    field (λ m. m.replica) int32
    & field (λ m. m.max_wait_ms) int32
    & field (λ m. m.min_bytes) int32
    & field (λ m. m.max_bytes) int32
    & field (λ m. m.isolation) int8
    & field (λ m. m.rows) (array fetch_request_row)

pub fetch_request_laid : IsLaid fetch_request
fetch_request_laid =
    all_told (told int32_laid ⊗ told int32_laid ⊗ told int32_laid ⊗ told int32_laid ⊗ told int8_laid ⊗ told (array_laid _ fetch_request_row_laid))
    (λ t. record { replica = t.0; max_wait_ms = t.1.0; min_bytes = t.1.1.0; max_bytes = t.1.1.1.0; isolation = t.1.1.1.1.0; rows = t.1.1.1.1.1 }) (λ m. refl)

abbrev pub fetch_response_row_row_row : Layout FetchResponseRowRowRow
fetch_response_row_row_row =
    field (λ m. m.producer) int64
    & field (λ m. m.first) int64

pub fetch_response_row_row_row_laid : IsLaid fetch_response_row_row_row
fetch_response_row_row_row_laid =
    all_told (told int64_laid ⊗ told int64_laid)
    (λ t. record { producer = t.0; first = t.1 }) (λ m. refl)

abbrev pub fetch_response_row_row : Layout FetchResponseRowRow
fetch_response_row_row =
    field (λ m. m.partition) int32
    & field (λ m. m.code) int16
    & field (λ m. m.high_watermark) int64
    & field (λ m. m.stable_offset) int64
    & field (λ m. m.rows) (nullable_array fetch_response_row_row_row)
    & field (λ m. m.batches) nullable_bytes

pub fetch_response_row_row_laid : IsLaid fetch_response_row_row
fetch_response_row_row_laid =
    all_told (told int32_laid ⊗ told int16_laid ⊗ told int64_laid ⊗ told int64_laid ⊗ told (nullable_array_laid _ fetch_response_row_row_row_laid) ⊗ told nullable_bytes_laid)
    (λ t. record { partition = t.0; code = t.1.0; high_watermark = t.1.1.0; stable_offset = t.1.1.1.0; rows = t.1.1.1.1.0; batches = t.1.1.1.1.1 }) (λ m. refl)

abbrev pub fetch_response_row : Layout FetchResponseRow
fetch_response_row =
    field (λ m. m.name) string
    & field (λ m. m.rows) (array fetch_response_row_row)

pub fetch_response_row_laid : IsLaid fetch_response_row
fetch_response_row_laid =
    all_told (told string_laid ⊗ told (array_laid _ fetch_response_row_row_laid))
    (λ t. record { name = t.0; rows = t.1 }) (λ m. refl)

abbrev pub fetch_response : Layout FetchResponse
fetch_response =
    field (λ m. m.throttle_ms) int32
    & field (λ m. m.rows) (array fetch_response_row)

pub fetch_response_laid : IsLaid fetch_response
fetch_response_laid =
    all_told (told int32_laid ⊗ told (array_laid _ fetch_response_row_laid))
    (λ t. record { throttle_ms = t.0; rows = t.1 }) (λ m. refl)

-- Produce, version 3: Kafka protocol guide, "Produce API (Key: 0)".
use Rattle.std.specs.Prelude.{refl}
use Rattle.wire_data.specs.declared.produce.ProduceRequest.{ProduceRequest}
use Rattle.wire_data.specs.declared.produce.ProduceRequestRow.{ProduceRequestRow}
use Rattle.wire_data.specs.declared.produce.ProduceRequestRowRow.{ProduceRequestRowRow}
use Rattle.wire_data.specs.declared.produce.ProduceResponse.{ProduceResponse}
use Rattle.wire_data.specs.declared.produce.ProduceResponseRow.{ProduceResponseRow}
use Rattle.wire_data.specs.declared.produce.ProduceResponseRowRow.{ProduceResponseRowRow}
use Rattle.wire_layout.specs.Layout.{Layout, field, ◌&◌, int16, int32, int64, string, nullable_string, nullable_bytes, array}
use Rattle.wire_layout.specs.Laid.{IsLaid}
use Rattle.wire_layout.specs.ItemLaws.{int16_laid, int32_laid, int64_laid, string_laid, nullable_string_laid, nullable_bytes_laid}
use Rattle.wire_layout.specs.ArrayLaws.{array_laid}
use Rattle.wire_layout.specs.RowLaws.{told, ◌⊗◌, all_told}

abbrev pub produce_request_row_row : Layout ProduceRequestRowRow
produce_request_row_row =
    field (λ m. m.partition) int32
    & field (λ m. m.batch) nullable_bytes

pub produce_request_row_row_laid : IsLaid produce_request_row_row
produce_request_row_row_laid =
    all_told (told int32_laid ⊗ told nullable_bytes_laid)
    (λ t. record { partition = t.0; batch = t.1 }) (λ m. refl)

abbrev pub produce_request_row : Layout ProduceRequestRow
produce_request_row =
    field (λ m. m.name) string
    & field (λ m. m.rows) (array produce_request_row_row)

pub produce_request_row_laid : IsLaid produce_request_row
produce_request_row_laid =
    all_told (told string_laid ⊗ told (array_laid _ produce_request_row_row_laid))
    (λ t. record { name = t.0; rows = t.1 }) (λ m. refl)

abbrev pub produce_request : Layout ProduceRequest
produce_request =
    field (λ m. m.transactional_id) nullable_string
    & field (λ m. m.acks) int16
    & field (λ m. m.timeout_ms) int32
    & field (λ m. m.rows) (array produce_request_row)

pub produce_request_laid : IsLaid produce_request
produce_request_laid =
    all_told (told nullable_string_laid ⊗ told int16_laid ⊗ told int32_laid ⊗ told (array_laid _ produce_request_row_laid))
    (λ t. record { transactional_id = t.0; acks = t.1.0; timeout_ms = t.1.1.0; rows = t.1.1.1 }) (λ m. refl)

abbrev pub produce_response_row_row : Layout ProduceResponseRowRow
produce_response_row_row =
    field (λ m. m.partition) int32
    & field (λ m. m.code) int16
    & field (λ m. m.base_offset) int64
    & field (λ m. m.append_time) int64

pub produce_response_row_row_laid : IsLaid produce_response_row_row
produce_response_row_row_laid =
    all_told (told int32_laid ⊗ told int16_laid ⊗ told int64_laid ⊗ told int64_laid)
    (λ t. record { partition = t.0; code = t.1.0; base_offset = t.1.1.0; append_time = t.1.1.1 }) (λ m. refl)

abbrev pub produce_response_row : Layout ProduceResponseRow
produce_response_row =
    field (λ m. m.name) string
    & field (λ m. m.rows) (array produce_response_row_row)

pub produce_response_row_laid : IsLaid produce_response_row
produce_response_row_laid =
    all_told (told string_laid ⊗ told (array_laid _ produce_response_row_row_laid))
    (λ t. record { name = t.0; rows = t.1 }) (λ m. refl)

abbrev pub produce_response : Layout ProduceResponse
produce_response =
    field (λ m. m.rows) (array produce_response_row)
    & field (λ m. m.throttle_ms) int32

pub produce_response_laid : IsLaid produce_response
produce_response_laid =
    all_told (told (array_laid _ produce_response_row_laid) ⊗ told int32_laid)
    (λ t. record { rows = t.0; throttle_ms = t.1 }) (λ m. refl)

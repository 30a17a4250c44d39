-- Metadata, version 1: Kafka protocol guide, "Metadata API (Key: 3)".
use Rattle.std.specs.Prelude.{refl}
use Rattle.wire_data.specs.declared.metadata.MetadataRequest.{MetadataRequest}
use Rattle.wire_data.specs.declared.metadata.MetadataResponseRow.{MetadataResponseRow}
use Rattle.wire_data.specs.declared.metadata.MetadataResponseRow2Row.{MetadataResponseRow2Row}
use Rattle.wire_layout.specs.Layout.{Layout, field, ◌&◌, int16, int32, string, nullable_string, array, nullable_array}
use Rattle.wire_layout.specs.Laid.{IsLaid}
use Rattle.wire_layout.specs.ItemLaws.{int16_laid, int32_laid, string_laid, nullable_string_laid}
use Rattle.wire_layout.specs.ArrayLaws.{array_laid, nullable_array_laid}
use Rattle.wire_layout.specs.RowLaws.{told, ◌⊗◌, all_told}

abbrev pub metadata_request : Layout MetadataRequest
metadata_request = field (λ m. m.name) (nullable_array string)

pub metadata_request_laid : IsLaid metadata_request
metadata_request_laid =
    all_told (told (nullable_array_laid _ string_laid))
    (λ t. record { name = t }) (λ m. refl)

abbrev pub metadata_response_row : Layout MetadataResponseRow
metadata_response_row =
    field (λ m. m.node) int32
    & field (λ m. m.host) string
    & field (λ m. m.port) int32
    & field (λ m. m.rack) nullable_string

pub metadata_response_row_laid : IsLaid metadata_response_row
metadata_response_row_laid =
    all_told (told int32_laid ⊗ told string_laid ⊗ told int32_laid ⊗ told nullable_string_laid)
    (λ t. record { node = t.0; host = t.1.0; port = t.1.1.0; rack = t.1.1.1 }) (λ m. refl)

abbrev pub metadata_response_row2_row : Layout MetadataResponseRow2Row
metadata_response_row2_row =
    field (λ m. m.code) int16
    & field (λ m. m.partition) int32
    & field (λ m. m.leader) int32
    & field (λ m. m.replica) (array int32)
    & field (λ m. m.in_sync) (array int32)

pub metadata_response_row2_row_laid : IsLaid metadata_response_row2_row
metadata_response_row2_row_laid =
    all_told (told int16_laid ⊗ told int32_laid ⊗ told int32_laid ⊗ told (array_laid _ int32_laid) ⊗ told (array_laid _ int32_laid))
    (λ t. record { code = t.0; partition = t.1.0; leader = t.1.1.0; replica = t.1.1.1.0; in_sync = t.1.1.1.1 }) (λ m. refl)

-- OffsetCommit, version 2: Kafka protocol guide, "OffsetCommit API (Key: 8)".
use Rattle.std.specs.Prelude.{refl}
use Rattle.wire_group.specs.declared.offset_commit.OffsetCommitRequest.{OffsetCommitRequest}
use Rattle.wire_group.specs.declared.offset_commit.OffsetCommitRequestRow.{OffsetCommitRequestRow}
use Rattle.wire_group.specs.declared.offset_commit.OffsetCommitRequestRowRow.{OffsetCommitRequestRowRow}
use Rattle.wire_group.specs.declared.offset_commit.OffsetCommitResponse.{OffsetCommitResponse}
use Rattle.wire_group.specs.declared.offset_commit.OffsetCommitResponseRow.{OffsetCommitResponseRow}
use Rattle.wire_group.specs.declared.offset_commit.OffsetCommitResponseRowRow.{OffsetCommitResponseRowRow}
use Rattle.wire_layout.specs.Layout.{Layout, field, ◌&◌, int16, int32, int64, string, nullable_string, array}
use Rattle.wire_layout.specs.Laid.{IsLaid}
use Rattle.wire_layout.specs.ItemLaws.{int16_laid, int32_laid, int64_laid, string_laid, nullable_string_laid}
use Rattle.wire_layout.specs.ArrayLaws.{array_laid}
use Rattle.wire_layout.specs.RowLaws.{told, ◌⊗◌, all_told}

abbrev pub offset_commit_request_row_row : Layout OffsetCommitRequestRowRow
offset_commit_request_row_row =
    field (λ m. m.partition) int32
    & field (λ m. m.offset) int64
    & field (λ m. m.metadata) nullable_string

pub offset_commit_request_row_row_laid : IsLaid offset_commit_request_row_row
offset_commit_request_row_row_laid =
    all_told (told int32_laid ⊗ told int64_laid ⊗ told nullable_string_laid)
    (λ t. record { partition = t.0; offset = t.1.0; metadata = t.1.1 }) (λ m. refl)

abbrev pub offset_commit_request_row : Layout OffsetCommitRequestRow
offset_commit_request_row =
    field (λ m. m.name) string
    & field (λ m. m.rows) (array offset_commit_request_row_row)

pub offset_commit_request_row_laid : IsLaid offset_commit_request_row
offset_commit_request_row_laid =
    all_told (told string_laid ⊗ told (array_laid _ offset_commit_request_row_row_laid))
    (λ t. record { name = t.0; rows = t.1 }) (λ m. refl)

abbrev pub offset_commit_request : Layout OffsetCommitRequest
offset_commit_request =
    field (λ m. m.group) string
    & field (λ m. m.generation) int32
    & field (λ m. m.member) string
    & field (λ m. m.retention_ms) int64
    & field (λ m. m.rows) (array offset_commit_request_row)

pub offset_commit_request_laid : IsLaid offset_commit_request
offset_commit_request_laid =
    all_told (told string_laid ⊗ told int32_laid ⊗ told string_laid ⊗ told int64_laid ⊗ told (array_laid _ offset_commit_request_row_laid))
    (λ t. record { group = t.0; generation = t.1.0; member = t.1.1.0; retention_ms = t.1.1.1.0; rows = t.1.1.1.1 }) (λ m. refl)

abbrev pub offset_commit_response_row_row : Layout OffsetCommitResponseRowRow
offset_commit_response_row_row =
    field (λ m. m.partition) int32
    & field (λ m. m.code) int16

pub offset_commit_response_row_row_laid : IsLaid offset_commit_response_row_row
offset_commit_response_row_row_laid =
    all_told (told int32_laid ⊗ told int16_laid)
    (λ t. record { partition = t.0; code = t.1 }) (λ m. refl)

abbrev pub offset_commit_response_row : Layout OffsetCommitResponseRow
offset_commit_response_row =
    field (λ m. m.name) string
    & field (λ m. m.rows) (array offset_commit_response_row_row)

pub offset_commit_response_row_laid : IsLaid offset_commit_response_row
offset_commit_response_row_laid =
    all_told (told string_laid ⊗ told (array_laid _ offset_commit_response_row_row_laid))
    (λ t. record { name = t.0; rows = t.1 }) (λ m. refl)

abbrev pub offset_commit_response : Layout OffsetCommitResponse
offset_commit_response = field (λ m. m.rows) (array offset_commit_response_row)

pub offset_commit_response_laid : IsLaid offset_commit_response
offset_commit_response_laid =
    all_told (told (array_laid _ offset_commit_response_row_laid))
    (λ t. record { rows = t }) (λ m. refl)

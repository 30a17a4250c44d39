-- The headers of requests and responses: Kafka protocol guide, "Request and Response Headers", request header version 1 and response header version 0.
use Rattle.std.specs.Prelude.{refl}
use Rattle.wire_data.specs.declared.header.RequestHeader.{RequestHeader}
use Rattle.wire_data.specs.declared.header.ResponseHeader.{ResponseHeader}
use Rattle.wire_layout.specs.Layout.{Layout, field, ◌&◌, int16, int32, nullable_string}
use Rattle.wire_layout.specs.Laid.{IsLaid}
use Rattle.wire_layout.specs.ItemLaws.{int16_laid, int32_laid, nullable_string_laid}
use Rattle.wire_layout.specs.RowLaws.{told, ◌⊗◌, all_told}

abbrev pub request_header : Layout RequestHeader
request_header =
    field (λ m. m.key) int16
    & field (λ m. m.version) int16
    & field (λ m. m.correlation) int32
    & field (λ m. m.client) nullable_string

pub request_header_laid : IsLaid request_header
request_header_laid =
    all_told (told int16_laid ⊗ told int16_laid ⊗ told int32_laid ⊗ told nullable_string_laid)
    (λ t. record { key = t.0; version = t.1.0; correlation = t.1.1.0; client = t.1.1.1 }) (λ m. refl)

abbrev pub response_header : Layout ResponseHeader
response_header = field (λ m. m.correlation) int32

pub response_header_laid : IsLaid response_header
response_header_laid =
    all_told (told int32_laid)
    (λ t. record { correlation = t }) (λ m. refl)

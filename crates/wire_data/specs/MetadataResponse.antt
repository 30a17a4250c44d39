-- Metadata, version 1, the response: Kafka protocol guide, "Metadata API (Key: 3)", and BOOLEAN of "Protocol Primitive Types".
use Rattle.std.specs.Prelude.{ℤ, pos, negsuc, ℕ, zero, suc, ◌≡◌, List, Bool, true, false, map, length, refl, Result, IfOk}
use Rattle.wire_data.specs.declared.metadata_response.MetadataResponse.{MetadataResponse}
use Rattle.wire_data.specs.declared.metadata_response.MetadataResponseRow2.{MetadataResponseRow2}
use Rattle.wire_data.specs.declared.metadata.MetadataResponseRow.{MetadataResponseRow}
use Rattle.wire_data.specs.declared.metadata.MetadataResponseRow2Row.{MetadataResponseRow2Row}
use Rattle.wire_data.specs.Metadata.{metadata_response_row, metadata_response_row_laid, metadata_response_row2_row, metadata_response_row2_row_laid}
use Rattle.wire_prim.specs.Reading.{Reading, Takes}
use Rattle.wire_layout.specs.declared.error.WireNo.{WireNo}
use Rattle.wire_layout.specs.Layout.{Layout, without_place, field, ◌&◌, int8, int16, int32, string, array, spelled, each}
use Rattle.wire_layout.specs.Laid.{IsLaid}
use Rattle.wire_layout.specs.ItemLaws.{int8_laid, int16_laid, int32_laid, string_laid}
use Rattle.wire_layout.specs.ArrayLaws.{array_laid}
use Rattle.wire_layout.specs.RowLaws.{told, ◌⊗◌, all_told}
use Rattle.wire_layout.specs.Whole.{Ends, IsOrWants}

-- a topic as it stands in the bytes, where its flag is a byte
pub record Topic : Type 0 where
  pub code : ℤ
  pub name : List ℕ
  pub internal : ℤ
  pub rows : List MetadataResponseRow2Row

-- a response as it stands in the bytes
pub record Stored : Type 0 where
  pub rows : List MetadataResponseRow
  pub controller : ℤ
  pub rows2 : List Topic

abbrev pub stored_topic : Layout Topic
stored_topic =
    field (λ m. m.code) int16
    & field (λ m. m.name) string
    & field (λ m. m.internal) int8
    & field (λ m. m.rows) (array metadata_response_row2_row)

pub stored_topic_laid : IsLaid stored_topic
stored_topic_laid =
    all_told (told int16_laid ⊗ told string_laid ⊗ told int8_laid ⊗ told (array_laid _ metadata_response_row2_row_laid))
    (λ t. record { code = t.0; name = t.1.0; internal = t.1.1.0; rows = t.1.1.1 }) (λ m. refl)

abbrev pub stored_response : Layout Stored
stored_response =
    field (λ m. m.rows) (array metadata_response_row)
    & field (λ m. m.controller) int32
    & field (λ m. m.rows2) (array stored_topic)

pub stored_response_laid : IsLaid stored_response
stored_response_laid =
    all_told (told (array_laid _ metadata_response_row_laid) ⊗ told int32_laid ⊗ told (array_laid _ stored_topic_laid))
    (λ t. record { rows = t.0; controller = t.1.0; rows2 = t.1.1 }) (λ m. refl)

-- any byte but 0 is true
abbrev pub is_set : ℤ → Bool
is_set (pos zero) = false
is_set (pos (suc n)) = true
is_set (negsuc n) = true

-- the byte that is written
abbrev pub flag_of : Bool → ℤ
flag_of true = pos 1
flag_of false = pos 0

-- what a topic's bytes tell, and how a topic is stored
abbrev pub topic_of : Topic → MetadataResponseRow2
topic_of topic = record { code = topic.code; name = topic.name; internal = is_set topic.internal; rows = topic.rows }

abbrev pub as_stored : MetadataResponseRow2 → Topic
as_stored topic = record { code = topic.code; name = topic.name; internal = flag_of topic.internal; rows = topic.rows }

-- what a response's bytes tell, and how a response is stored
abbrev pub response_of : Stored → MetadataResponse
response_of stored = record { rows = stored.rows; controller = stored.controller; rows2 = map topic_of stored.rows2 }

abbrev pub stored_of : MetadataResponse → Stored
stored_of m = record { rows = m.rows; controller = m.controller; rows2 = map as_stored m.rows2 }

-- the one spelling of a response
abbrev pub metadata_response : Layout MetadataResponse
metadata_response = field stored_of stored_response

-- a value that what is stored tells was read
pub record IsTold {S M : Type 0} (tell : S → M) (layout : Layout S) (m : M) (old new : Reading) : Type 0 where
  pub stored : S
  pub is : m ≡ tell stored
  pub takes : Takes (layout.spelling stored) old new
  pub fits : layout.fits stored

-- so many topics were read
pub record AreTold (count : ℕ) (rows : List MetadataResponseRow2) (old new : Reading) : Type 0 where
  pub stored : List Topic
  pub size : length stored ≡ count
  pub is : rows ≡ map topic_of stored
  pub takes : Takes (spelled stored_topic.spelling stored) old new
  pub fits : each stored_topic.fits stored

-- the bytes spell what is stored, which tells the value
pub record Spells (m : MetadataResponse) (whole : List ℕ) : Type 0 where
  pub stored : Stored
  pub is : m ≡ response_of stored
  pub bytes : whole ≡ stored_response.spelling stored
  pub fits : stored_response.fits stored

-- the bytes spell what is read, and what they spell is read
pub record IsResponseRead (whole : List ℕ) (result : Result MetadataResponse WireNo) : Type 0 where
  pub value : IfOk result (λ m. Spells m whole)
  pub answer : Ends result (without_place (stored_response.behind whole))
  pub exact : (m : MetadataResponse) → Spells m whole → IsOrWants result m

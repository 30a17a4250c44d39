use Rattle.wire_prim.proofs.Readback.{int16_once, int32_once, int64_once, string_once, nullable_string_once, bytes_once, nullable_bytes_once, count_once, nullable_count_once}
use Rattle.wire_prim.proofs.laws.items_have_one_reading.Goals as goal

pub returns : goal.returns
returns c = record {
  int16 = int16_once;
  int32 = int32_once;
  int64 = int64_once;
  string = string_once;
  nullable_string = nullable_string_once;
  bytes = bytes_once;
  nullable_bytes = nullable_bytes_once;
  count = count_once;
  nullable_count = nullable_count_once;
}

use Rattle.std.proofs.Common.{◌≡◌, List, ℕ, ◌-◌, sym, subst, take, drop, length}
use Rattle.std.specs.Str.{IsUtf8}
use Rattle.avro_names.proofs.NameLemmas.{rest_utf8}
use Rattle.avro_names.proofs.names.last_part.Goals as goal

pub from_utf8_unchecked-requires : goal.from_utf8_unchecked-requires
from_utf8_unchecked-requires c =
    let e : c.as_bytes-bytes.result.now ≡ c.args.name.now = c.as_bytes-bytes.ensures.value in
    let P : List ℕ → Type 0 = λ bs. IsUtf8 (take (length bs - c.last_begin-begin.result) (drop c.last_begin-begin.result bs)) in
    subst P (sym e) (rest_utf8 c.args.name.now (length c.args.name.now - c.last_begin-begin.result) c.last_begin-begin.result c.requires)

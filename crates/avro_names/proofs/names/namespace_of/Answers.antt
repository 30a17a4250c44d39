use Rattle.std.proofs.Common.{◌≡◌, List, ℕ, ◌-◌, sym, subst, take}
use Rattle.std.specs.Str.{IsUtf8}
use Rattle.avro_names.proofs.NameLemmas.{front_utf8}
use Rattle.avro_names.proofs.names.namespace_of.Goals as goal

pub from_utf8_unchecked-requires : goal.from_utf8_unchecked-requires
from_utf8_unchecked-requires c =
    let e : c.as_bytes-bytes.result.now ≡ c.args.name.now = c.as_bytes-bytes.ensures.value in
    let P : List ℕ → Type 0 = λ bs. IsUtf8 (take (c.last_begin-begin.result - 1) bs) in
    subst P (sym e) (front_utf8 c.args.name.now (c.last_begin-begin.result - 1) c.requires)

use Rattle.std.proofs.Common.{◌≡◌, ◌^◌, slice_get, nat_lt, true, lt-ltb, arith}
use Rattle.avro_schema.specs.Types.{union}
use Rattle.avro_value.proofs.PickLemmas.{resolves_is, branch_stands}
use Rattle.avro_value.proofs.pick.branch_in.Goals as goal

pub returns-in-Union : goal.returns-in-Union
returns-in-Union c t stands =
    let e = c.in-Union.ensures.is in
    let s = c.args.schema.now in
    let small : nat_lt c.args.place (2 ^ 32) ≡ true = lt-ltb _ _ (omega arith) in
    let found : c.copied.result ≡ slice_get c.branches.result.now c.args.place = cc (c.copied.ensures, c.at.ensures) in
    rw (resolves_is s c.args.node t (union e.0) stands e.1, found, small) (branch_stands s c.branches.result.now e.0 c.args.place (c.branches.ensures e.0 e.1))

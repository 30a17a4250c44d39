use Rattle.std.proofs.Common.{Some, inr, sym, ap, ◌∙◌}
use Rattle.std.proofs.lemmas.Option.{slice_get-get_or}
use Rattle.avro_value.proofs.PartLemmas.{branch_inside, branch_there, branch_chosen, branch_unlike, branch_site, alike, unlike}
use Rattle.avro_value.proofs.json_pick.branch_by.Goals as goal

pub node_at-branch-requires : goal.node_at-branch-requires
node_at-branch-requires c =
    branch_inside c.args.schema.now c.branches.result.now c.requires.0 c.args.name.now c.in_Some-index.index (c.branches.ensures c.requires.0 c.requires.1) (c.in_Some-index.ensures c.requires.0 c.requires.1)

pub is_null-requires : goal.is_null-requires
is_null-requires c =
    let n = c.in_Some-index.index in
    let ks = c.branches.result.now in
    let stand = c.branches.ensures c.requires.0 c.requires.1 in
    let inside = branch_inside c.args.schema.now ks c.requires.0 c.args.name.now n stand (c.in_Some-index.ensures c.requires.0 c.requires.1) in
    branch_site c.args.schema.now ks c.requires.0 n c.node_at-branch.result (slice_get-get_or ks n 0 inside ∙ ap (λ k. Some k) (sym c.node_at-branch.ensures)) stand

pub returns-then-is_null-is_bare : goal.returns-then-is_null-is_bare
returns-then-is_null-is_bare c ts resolves t j here =
    let n = c.in_Some-index.index in
    let ks = c.branches.result.now in
    let stand = c.branches.ensures ts resolves in
    let at = c.in_Some-index.ensures ts resolves in
    let inside = branch_inside c.args.schema.now ks ts c.args.name.now n stand at in
    let there = branch_there c.args.schema.now ks ts c.args.number n c.node_at-branch.result c.args.name.now c.args.is_bare c.is_null.result j stand at c.in-Ok.ensures.0 (slice_get-get_or ks n 0 inside ∙ ap (λ k. Some k) (sym c.node_at-branch.ensures)) c.is_null.ensures in
    inr (branch_unlike c.args.number n c.args.is_bare c.is_null.result j there.0 _ (unlike c.is_null.result c.args.is_bare c.if-is_null-is_bare.true) there.2 there.3)

pub returns : goal.returns
returns c ts resolves t j here =
    let n = c.in_Some-index.index in
    let ks = c.branches.result.now in
    let stand = c.branches.ensures ts resolves in
    let at = c.in_Some-index.ensures ts resolves in
    let inside = branch_inside c.args.schema.now ks ts c.args.name.now n stand at in
    let there = branch_there c.args.schema.now ks ts c.args.number n c.node_at-branch.result c.args.name.now c.args.is_bare c.is_null.result j stand at c.in-Ok.ensures.0 (slice_get-get_or ks n 0 inside ∙ ap (λ k. Some k) (sym c.node_at-branch.ensures)) c.is_null.ensures in (
      record { place = n; type = there.0; inner = j },
      branch_chosen c.args.number n c.args.is_bare c.is_null.result j there.0 _ (alike c.is_null.result c.args.is_bare c.if-is_null-is_bare.false) there.2 there.3,
      record { index = sym c.in-Ok.ensures.1; part = record { place = there.1; node = here } },
    )

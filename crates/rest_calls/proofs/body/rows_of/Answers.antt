use Rattle.std.proofs.Common.{◌≡◌, ◌∙◌, List, ◌∷◌, [], ◌++◌, ◌+◌, All, drop, map, slice_index_or, Some, option_map, refl, subst, sym, ap, arith}
use Rattle.std.specs.Prelude.{nat_abs}
use Rattle.std.proofs.lemmas.List.{length_push}
use Rattle.std.proofs.lemmas.List.Elements.{All-push}
use Rattle.std.proofs.lemmas.Grind.{common_steps}
use Rattle.json_token.proofs.TokenEndLemmas.{byte_first}
use Rattle.rest_calls.specs.declared.call.Row.{Row}
use Rattle.rest_calls.specs.Views.{given_of, PartitionFits}
use Rattle.rest_calls.proofs.Records.{drop_all, first_left, turn_bad, turn_end, turn_more, turn_start}
use Rattle.rest_calls.proofs.body.rows_of.Goals as goal

pub loop-node-init : goal.loop-node-init
loop-node-init c = record {
  reads = λ js stand. turn_start c.args.format (option_map nat_abs c.args.to) c.args.tree.now c.args.nodes.now c.in-Ok.rows.items js c.in-Ok.ensures.items stand;
  fit = grind (arith, common_steps);
  as_many = grind (arith, common_steps);
}

pub row_of-requires-clause-node : goal.row_of-requires-clause-node
row_of-requires-clause-node c =
    let given = c.requires.nodes in
    let at : drop c.loop-node.node-index c.args.nodes.now ≡ slice_index_or c.args.nodes.now c.loop-node.node-index 0 ∷ drop (c.loop-node.node-index + 1) c.args.nodes.now = byte_first c.args.nodes.now c.loop-node.node-index (slice_index_or c.args.nodes.now c.loop-node.node-index 0) c.loop-node-test.true refl in
    let first = first_left c.args.format (option_map nat_abs c.args.to) c.args.tree.now c.args.nodes.now c.loop-node.node-index (slice_index_or c.args.nodes.now c.loop-node.node-index 0) c.loop-node.rows.items given.0 at (c.loop-node.invariant.reads given.0 given.1) in
    (first.value, first.stands)

pub returns-in-Err-clause-reads : goal.returns-in-Err-clause-reads
returns-in-Err-clause-reads c = λ js stand.
    let at = byte_first c.args.nodes.now c.loop-node.node-index (slice_index_or c.args.nodes.now c.loop-node.node-index 0) c.loop-node-test.true refl in
    let first = first_left c.args.format (option_map nat_abs c.args.to) c.args.tree.now c.args.nodes.now c.loop-node.node-index (slice_index_or c.args.nodes.now c.loop-node.node-index 0) c.loop-node.rows.items js at (c.loop-node.invariant.reads js stand) in
    turn_bad c.args.format (option_map nat_abs c.args.to) c.args.tree.now c.args.nodes.now c.loop-node.node-index (slice_index_or c.args.nodes.now c.loop-node.node-index 0) c.loop-node.rows.items js c.in-Err.e first (c.in-Err.ensures.reads first.value first.stands)

pub loop-node-preserved : goal.loop-node-preserved
loop-node-preserved c =
    let rows : List Row = c.loop-node.rows.items in
    let row : Row = c.in-Ok-row_of.row in
    let pushed : c.push.new.self.items ≡ rows ++ row ∷ [] = grind (arith, common_steps) in
    let at = byte_first c.args.nodes.now c.loop-node.node-index (slice_index_or c.args.nodes.now c.loop-node.node-index 0) c.loop-node-test.true refl in
    record {
      reads = λ js stand.
          let first = first_left c.args.format (option_map nat_abs c.args.to) c.args.tree.now c.args.nodes.now c.loop-node.node-index (slice_index_or c.args.nodes.now c.loop-node.node-index 0) rows js at (c.loop-node.invariant.reads js stand) in
          turn_more c.args.format (option_map nat_abs c.args.to) c.args.tree.now c.args.nodes.now c.loop-node.node-index (slice_index_or c.args.nodes.now c.loop-node.node-index 0) rows c.push.new.self.items row js first (c.in-Ok-row_of.ensures.reads first.value first.stands) pushed;
      fit = subst (λ (l : List Row). All PartitionFits l) (sym pushed) (All-push PartitionFits rows row c.loop-node.invariant.fit c.in-Ok-row_of.ensures.fits);
      as_many = rw pushed (length_push rows row ∙ ap (λ n. n + 1) c.loop-node.invariant.as_many);
    }

pub returns-clause-reads : goal.returns-clause-reads
returns-clause-reads c = λ js stand.
    turn_end c.args.format (option_map nat_abs c.args.to) c.args.tree.now c.args.nodes.now c.loop-node.node-index c.loop-node.rows.items js (drop_all c.args.nodes.now c.loop-node.node-index (omega (arith, c.loop-node-test.false))) (c.loop-node.invariant.reads js stand)
    ∙ ap (λ (rs : List Row). Some (map given_of rs)) (sym c.from_vec.ensures)

use Rattle.std.proofs.Common.{◌+◌, drop, sym, ◌∙◌}
use Rattle.avro_datum.proofs.KeyLemmas.{keys_more, keys_twice}
use Rattle.avro_value.proofs.PartLemmas.{not_true, not_false}
use Rattle.avro_datum.proofs.DatumLemmas.{key_is}
use Rattle.avro_value.proofs.NodeLemmas.{rest_is}
use Rattle.avro_datum.proofs.writer.keys_differ.Goals as goal

pub returns-then-not-branch-clause-value : goal.returns-then-not-branch-clause-value
returns-then-not-branch-clause-value c =
    let xs = c.args.entries.now in
    let i = c.loop-entry.entry-index in
    let x = c.entry-item.result in
    sym (keys_twice c.loop-entry.keys xs (drop i xs) (drop (i + 1) xs) x c.as_str.result c.loop-entry.invariant (rest_is xs i x c.loop-entry-test.true c.entry-item.is) (c.as_str.ensures ∙ sym (key_is x))
    (not_false _ _ c.in_ok-insert.ensures.added c.if-not-branch.true))

pub loop-entry-preserved : goal.loop-entry-preserved
loop-entry-preserved c =
    let xs = c.args.entries.now in
    let i = c.loop-entry.entry-index in
    let x = c.entry-item.result in
    keys_more c.loop-entry.keys c.insert.new.self xs (drop i xs) (drop (i + 1) xs) x c.as_str.result c.loop-entry.invariant (rest_is xs i x c.loop-entry-test.true c.entry-item.is) (c.as_str.ensures ∙ sym (key_is x))
    c.in_ok-insert.ensures.updates (not_true _ _ c.in_ok-insert.ensures.added c.if-not-branch.false)

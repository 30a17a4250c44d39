use Rattle.std.proofs.Common.{sym, ap, ◌∙◌, take}
use Rattle.wire_prim.specs.Varint.{lead}
use Rattle.wire_prim.proofs.VarintLemmas.{lead_front, lead_found, lead_whole}
use Rattle.wire_prim.proofs.varint.lead.Goals as goal

pub returns-then-byte-lt128 : goal.returns-then-byte-lt128
returns-then-byte-lt128 c =
    sym (lead_found _ _ c.loop-index.invariant c.loop-index-test.true c.if-byte-lt128.true) ∙ ap (λ n. lead (take n c.args.bytes.now)) c.min.ensures ∙ lead_front c.args.limit c.args.bytes.now

pub returns : goal.returns
returns c =
    sym (lead_whole _ _ c.loop-index.invariant c.loop-index-test.false c.loop-index.auto.index-end) ∙ ap (λ n. lead (take n c.args.bytes.now)) c.min.ensures ∙ lead_front c.args.limit c.args.bytes.now

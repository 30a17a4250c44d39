use Rattle.std.proofs.Common.{arith, refl, sym, ◌≡◌, []}
use Rattle.json_span.proofs.Turns as turns
use Rattle.std.proofs.Common.{subst}
use Rattle.std.proofs.lemmas.List.{nil_from_length}
use Rattle.json_span.specs.Steps.{At}
use Rattle.json_span.specs.Refusals.{Refuses}
use Rattle.json_span.specs.declared.state.Next.{Next}
use Rattle.json_token.specs.declared.error.JsonNo.{JsonNo}
use Rattle.json_span.proofs.reader.read_text.Goals as goal

pub loop-next-init : goal.loop-next-init
loop-next-init c = turns.start_at _ _ _ _ c.in-Ok.ensures.items c.new-opens.ensures.items

pub behind-requires : goal.behind-requires
behind-requires c =
    let l = c.loop-next in
    let P : Next → Type 0 = λ n. At c.args.bytes.now n l.place l.tree.nodes l.tree.source.items l.opens.items in
    let n = rw c.in-Ok-None.field-0-is at c.in-Ok-None.ensures.ok in
    turns.end_pops c.args.bytes.now l.place c.in-After.node l.tree.nodes _ c.next_item.new.opens.items _ _ (turns.end_same _ _ _ _ l.tree.source.items _ l.opens.items _ n.0 n.1 (subst P c.in-After.is l.invariant)) c.in-Some.ensures.items

pub returns-in-Ok-end-clause-ok : goal.returns-in-Ok-end-clause-ok
returns-in-Ok-end-clause-ok c =
    let l = c.loop-next in
    let P : Next → Type 0 = λ n. At c.args.bytes.now n l.place l.tree.nodes l.tree.source.items l.opens.items in
    let n = rw c.in-Ok-None.field-0-is at c.in-Ok-None.ensures.ok in
    let empty : c.next_item.new.opens.items ≡ [] = nil_from_length _ (omega (arith, c.in-None.ensures.cases)) in
    turns.whole_end _ _ _ _ _ _ c.next_item.new.opens.items (turns.end_same _ _ _ _ l.tree.source.items _ l.opens.items _ n.0 n.1 (subst P c.in-After.is l.invariant)) empty c.in-Ok-end.ensures.ok refl

pub returns-in-Err-end-clause-refused : goal.returns-in-Err-end-clause-refused
returns-in-Err-end-clause-refused c =
    let l = c.loop-next in
    let P : Next → Type 0 = λ n. At c.args.bytes.now n l.place l.tree.nodes l.tree.source.items l.opens.items in
    let Q : JsonNo → Type 0 = λ e. Refuses c.args.bytes.now e in
    let n = rw c.in-Ok-None.field-0-is at c.in-Ok-None.ensures.ok in
    let empty : c.next_item.new.opens.items ≡ [] = nil_from_length _ (omega (arith, c.in-None.ensures.cases)) in
    let h = c.in-Err-end.ensures.err in
    subst Q (sym h.1) (turns.end_breaks _ _ _ _ _ _ c.next_item.new.opens.items (turns.end_same _ _ _ _ l.tree.source.items _ l.opens.items _ n.0 n.1 (subst P c.in-After.is l.invariant)) empty h.3 h.2)

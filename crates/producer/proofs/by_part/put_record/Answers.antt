use Rattle.std.proofs.Common.{◌≡◌, ◌∙◌, ◌++◌, ◌∷◌, [], ap, sym, List, Some, None}
use Rattle.std.specs.Prelude.{◌==◌, nat_abs, slice_set}
use Rattle.std.specs.List.{position}
use Rattle.model.specs.state.Entry.{Payload}
use Rattle.broker_link.specs.declared.link.NewRecord.{NewRecord}
use Rattle.broker_link.specs.declared.link.PartRecords.{PartRecords}
use Rattle.producer.proofs.Places.{is_first, part_some, part_none}
use Rattle.producer.proofs.by_part.put_record.Goals as goal

pub returns-in_ok-push-in-Some : goal.returns-in_ok-push-in-Some
returns-in_ok-push-in-Some c =
    let p : Payload = record { partition = c.args.number; key = c.args.new.key; value = c.args.new.value } in
    let part : PartRecords = c.index_mut.result.now in
    let at : position (λ (x : PartRecords). nat_abs x.partition == c.args.number) c.args.parts.now.items ≡ Some c.in-Some.place =
    ap (λ (ps : List PartRecords). position (λ (x : PartRecords). nat_abs x.partition == c.args.number) ps) (sym c.as_slice.ensures.value) ∙ (sym c.place_of.ensures ∙ c.in-Some.is) in
    ap (λ (rs : List NewRecord). slice_set c.args.parts.now.items c.in-Some.place (record { partition = part.partition; rows = rs })) c.in_ok-push-in-Some.ensures.ok
    ∙ part_some p c.args.parts.now.items c.in-Some.place part (is_first (λ (x : PartRecords). nat_abs x.partition == c.args.number) c.args.parts.now.items c.in-Some.place part at c.index_mut.ensures.value)

pub returns-in_ok-push-in-None : goal.returns-in_ok-push-in-None
returns-in_ok-push-in-None c =
    let p : Payload = record { partition = c.args.number; key = c.args.new.key; value = c.args.new.value } in
    let at : position (λ (x : PartRecords). nat_abs x.partition == c.args.number) c.args.parts.now.items ≡ None =
    ap (λ (ps : List PartRecords). position (λ (x : PartRecords). nat_abs x.partition == c.args.number) ps) (sym c.as_slice.ensures.value) ∙ (sym c.place_of.ensures ∙ c.in-None.is) in
    c.in_ok-push-in-None.ensures.items ∙ (ap (λ (x : PartRecords). c.args.parts.now.items ++ x ∷ []) c.in_ok-new_part-in-None.ensures ∙ part_none p c.args.parts.now.items at)

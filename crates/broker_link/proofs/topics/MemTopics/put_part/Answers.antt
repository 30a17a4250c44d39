use Rattle.std.proofs.Common.{rules, ◌≡◌, ◌<◌, ℕ, List, Some, pos, nat_abs, length, get_or, refl, ap, sym, ◌∙◌, arith, to_z, of_z, w32, w64}
use Rattle.std.specs.Prelude.{slice_get, slice_set}
use Rattle.std.proofs.lemmas.Int.{to_z-of_z, to_z_pos}
use Rattle.std.proofs.lemmas.Option.{slice_get-get_or}
use mir.Val.{SFits}
use Rattle.model.specs.state.Log.{Topic, Part, parts_in}
use Rattle.broker_link.proofs.Puts.{IsFirst, parts_in_first, no_part, get_or_any, with_records}
use Rattle.broker_link.proofs.Answered.{first_from_position, none_named, put_none, put_some}
use Rattle.broker_link.proofs.topics.MemTopics.put_part.Goals as goal

pub returns-in_default-clause-ok : goal.returns-in_default-clause-ok
returns-in_default-clause-ok c =
    let fits : SFits w32 c.args.part.now.partition = search rules in
    put_none c.args.self.now.list.items c.args.topic.now c.args.part.now c.lacking.result
    (c.lacking.ensures.partition ∙ to_z-of_z w32 c.args.part.now.partition fits) c.lacking.ensures.code
    (omega (arith, none_named c.args.self.now.list.items c.args.topic.now (sym c.in_default.ensures.place)))

pub returns-in_default-number_in-clause-ok : goal.returns-in_default-number_in-clause-ok
returns-in_default-number_in-clause-ok c =
    let fits : SFits w32 c.args.part.now.partition = search rules in
    let t : Topic = c.index.result.now in
    let first : IsFirst c.args.self.now.list.items c.args.topic.now c.in-Some.place t =
    first_from_position c.args.self.now.list.items c.args.topic.now c.in-Some.place t (sym c.in-Some.ensures.place) c.index.ensures in
    let parts : parts_in c.args.self.now.list.items c.args.topic.now ≡ t.parts = parts_in_first c.args.self.now.list.items c.args.topic.now c.in-Some.place t first in
    let same : to_z w32 (of_z w32 c.args.part.now.partition) ≡ c.args.part.now.partition = to_z-of_z w32 c.args.part.now.partition fits in
    put_none c.args.self.now.list.items c.args.topic.now c.args.part.now c.lacking-in_default-number_in.result
    (c.lacking-in_default-number_in.ensures.partition ∙ same) c.lacking-in_default-number_in.ensures.code
    (omega (arith, ap length parts, c.count.ensures, ap nat_abs same, c.in_default-number_in.ensures.lacks))

pub store-requires-clause-part : goal.store-requires-clause-part
store-requires-clause-part c =
    let a : List Topic = c.args.self.now.list.items in
    let t : Topic = c.index.result.now in
    let there : slice_get a c.in-Some.place ≡ Some t = slice_get-get_or a c.in-Some.place t c.in-Some.ensures.within ∙ ap (λ (u : Topic). Some u) (sym c.index.ensures) in
    rw there (omega (arith, c.count.ensures, c.in-Some-number_in.ensures.some.1))

pub returns-clause-ok : goal.returns-clause-ok
returns-clause-ok c =
    let a : List Topic = c.args.self.now.list.items in
    let t : Topic = c.index.result.now in
    let number : ℕ = c.in-Some-number_in.number in
    let there : slice_get a c.in-Some.place ≡ Some t = slice_get-get_or a c.in-Some.place t c.in-Some.ensures.within ∙ ap (λ (u : Topic). Some u) (sym c.index.ensures) in
    let below : number < length t.parts = omega (arith, c.count.ensures, c.in-Some-number_in.ensures.some.1) in
    let p : Part = get_or t.parts number no_part in
    let here : slice_get t.parts number ≡ Some p = slice_get-get_or t.parts number no_part below in
    let got = c.in_ok-base.ensures.ok t p there here in
    let fits : SFits w32 c.args.part.now.partition = search rules in
    let same : to_z w32 (of_z w32 c.args.part.now.partition) ≡ c.args.part.now.partition = to_z-of_z w32 c.args.part.now.partition fits in
    let rows = c.as_slice.ensures in
    let base : to_z w64 c.in_ok-base.base ≡ pos c.in_ok-base.base = to_z_pos w64 c.in_ok-base.base (omega (arith, c.in_ok-base.ensures.small)) in
    put_some a c.store.new.self.list.items c.args.topic.now c.args.part.now _ c.in-Some.place number c.in_ok-base.base t p
    (record {
      first = first_from_position a c.args.topic.now c.in-Some.place t (sym c.in-Some.ensures.place) c.index.ensures;
      within = below;
      here = λ d. get_or_any t.parts number d no_part below;
      is = got.1 ∙ ap (λ rs. slice_set a c.in-Some.place (with_records t number p rs)) rows;
    })
    (sym same ∙ c.in-Some-number_in.ensures.some.0) got.0 (omega (arith, ap length rows, c.in_ok-base.ensures.small))
    same refl base

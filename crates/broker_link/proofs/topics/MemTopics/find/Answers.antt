use mir.Val.{SFits}
use Rattle.std.proofs.Common.{rules, refl, to_z, of_z, w32, ◌≡◌, ◌∙◌, ℕ, List, nat_abs, length, ap, sym, arith}
use Rattle.std.specs.Prelude.{slice_index_or}
use Rattle.std.proofs.lemmas.Int.{to_z-of_z}
use Rattle.model.specs.state.Log.{Topic, Part, parts_in}
use Rattle.std.proofs.lemmas.Option.{get_or_from_slice_get}
use Rattle.broker_link.specs.Stored.{part_of}
use Rattle.broker_link.proofs.Puts.{IsFirst, parts_in_first, no_part}
use Rattle.broker_link.proofs.Answered.{first_from_position, none_named}
use Rattle.broker_link.proofs.topics.MemTopics.find.Goals as goal

pub returns-in_err-place-clause-lacks : goal.returns-in_err-place-clause-lacks
returns-in_err-place-clause-lacks c = λ n has. omega (arith, has, none_named c.args.self.now.list.items c.args.topic.now (sym c.in_err-place.ensures.place))

pub returns-in_err-number-clause-lacks : goal.returns-in_err-number-clause-lacks
returns-in_err-number-clause-lacks c = λ n has.
    let ts : List Topic = c.args.self.now.list.items in
    let name : List ℕ = c.args.topic.now in
    let t : Topic = c.index.result.now in
    let first : IsFirst ts name c.in_ok-place.place t = first_from_position ts name c.in_ok-place.place t (sym c.in_ok-place.ensures.place) c.index.ensures in
    let parts : parts_in ts name ≡ t.parts = parts_in_first ts name c.in_ok-place.place t first in
    let fits : SFits w32 c.args.partition = search rules in
    let same : to_z w32 (of_z w32 c.args.partition) ≡ c.args.partition = to_z-of_z w32 c.args.partition fits in
    omega (arith, has, ap length parts, c.count.ensures, ap nat_abs same, c.in_err-number.ensures.lacks refl)

pub returns-clause-have : goal.returns-clause-have
returns-clause-have c =
    let ts : List Topic = c.args.self.now.list.items in
    let name : List ℕ = c.args.topic.now in
    let t : Topic = c.index.result.now in
    let first : IsFirst ts name c.in_ok-place.place t = first_from_position ts name c.in_ok-place.place t (sym c.in_ok-place.ensures.place) c.index.ensures in
    let parts : parts_in ts name ≡ t.parts = parts_in_first ts name c.in_ok-place.place t first in
    let fits : SFits w32 c.args.partition = search rules in
    let same : to_z w32 (of_z w32 c.args.partition) ≡ c.args.partition = to_z-of_z w32 c.args.partition fits in
    omega (arith, ap length parts, c.count.ensures, ap nat_abs same, ap nat_abs c.in_ok-number.ensures.some.0, c.in_ok-number.ensures.some.1)

pub returns-clause-value : goal.returns-clause-value
returns-clause-value c =
    let ts : List Topic = c.args.self.now.list.items in
    let name : List ℕ = c.args.topic.now in
    let t : Topic = c.index-2.result.now in
    let first : IsFirst ts name c.in_ok-place.place t = first_from_position ts name c.in_ok-place.place t (sym c.in_ok-place.ensures.place) c.index-2.ensures in
    let parts : parts_in ts name ≡ t.parts = parts_in_first ts name c.in_ok-place.place t first in
    let fits : SFits w32 c.args.partition = search rules in
    let same : to_z w32 (of_z w32 c.args.partition) ≡ c.args.partition = to_z-of_z w32 c.args.partition fits in
    ap (λ (ps : List Part). slice_index_or ps (nat_abs c.args.partition) no_part) parts
    ∙ (ap (λ (n : ℕ). slice_index_or t.parts n no_part) (sym (ap nat_abs same) ∙ ap nat_abs c.in_ok-number.ensures.some.0) ∙ get_or_from_slice_get t.parts c.in_ok-number.number (part_of c.rows.result.now) no_part c.rows.ensures)

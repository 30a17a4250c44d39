use Rattle.std.proofs.Common.{◌≡◌, ◌+◌, List, ℕ, Some, None, drop, ap, refl, sym, subst, ◌∙◌, inr}
use Rattle.avro_value.specs.declared.json_pick.Part.{Part}
use Rattle.avro_value.specs.Parts.{last_in}
use Rattle.avro_value.specs.Reading.{present}
use Rattle.avro_value.proofs.NodeLemmas.{rest_is, none_left}
use Rattle.avro_value.proofs.PartLemmas.{PartsLeft, parts_begin, parts_go, parts_stop, parts_done, last_is, last_none}
use Rattle.avro_value.proofs.json_pick.mapped.Goals as goal

pub loop-field-init : goal.loop-field-init
loop-field-init c s ts stand t ms stands =
    subst (λ (ps : List Part). PartsLeft s t c.args.fields.now ps ms ts) (sym c.in_ok-parts.ensures.items) (parts_begin s t c.args.fields.now ms ts stand)

pub loop-field-preserved : goal.loop-field-preserved
loop-field-preserved c s ts stand t ms stands =
    let fs = c.args.fields.now in
    let i = c.loop-field.field-index in
    let f = c.field-item.result in
    let vs = c.args.members.now in
    let part : Part = (record { place = f.node; node = c.in-Some.node.now }) in
    let at : Some c.in-Some.node.now ≡ last_in f.name vs = c.in-Some.ensures.value ∙ c.in_ok-nodes.ensures.ok c.as_str.result.now ∙ ap (λ (n : List ℕ). last_in n vs) c.as_str.ensures in
    subst (λ (ps : List Part). PartsLeft s t (drop (i + 1) fs) ps ms ts) (sym c.in_ok-push.ensures.items)
    (parts_go s t (drop i fs) (drop (i + 1) fs) f c.loop-field.parts.items part ms ts (c.loop-field.invariant s ts stand t ms stands) (rest_is fs i f c.loop-field-test.true c.field-item.is) refl
    (last_is t f.name vs ms c.in-Some.node.now stands at))

pub returns-in_default : goal.returns-in_default
returns-in_default c s ts stand t ms stands =
    let fs = c.args.fields.now in
    let i = c.loop-field.field-index in
    let f = c.field-item.result in
    let vs = c.args.members.now in
    let at : None ≡ last_in f.name vs = c.in_default.ensures.value ∙ c.in_ok-nodes.ensures.ok c.as_str.result.now ∙ ap (λ (n : List ℕ). last_in n vs) c.as_str.ensures in
    inr (ap (present c.args.number) (parts_stop s t (drop i fs) (drop (i + 1) fs) f c.loop-field.parts.items ms ts (c.loop-field.invariant s ts stand t ms stands) (rest_is fs i f c.loop-field-test.true c.field-item.is)
    (last_none t f.name vs ms stands at)))

pub returns : goal.returns
returns c s ts stand t ms stands =
    let fs = c.args.fields.now in
    let i = c.loop-field.field-index in
    let all = parts_done s t (drop i fs) c.loop-field.parts.items ms ts (c.loop-field.invariant s ts stand t ms stands) (none_left fs i c.loop-field-test.false) in
    (all.0, ap (present c.args.number) all.1, all.2)

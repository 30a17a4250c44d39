use Rattle.std.proofs.Common.{◌≡◌, ◌<◌, suc, length, take, drop, Ok, sym, ap, ◌∙◌, arith, add-one}
use Rattle.wire_prim.specs.Reading.{Reading}
use Rattle.wire_prim.specs.Varint.{lead, run_of, behind_run}
use Rattle.wire_prim.proofs.VarintLemmas.{lead_le, run_ends, behind_ended}
use Rattle.wire_prim.proofs.cursor.Cursor.run.Goals as goal

pub split_at-requires : goal.split_at-requires
split_at-requires c = omega (arith, lead_le c.self.inside.rest.now)

pub returns-clause-value : goal.returns-clause-value
returns-clause-value c =
    let bytes = c.self.inside.rest.now in
    let is : c.lead-count.result ≡ lead bytes = omega arith in
    let left = ap (λ (r : Reading). r.left) c.self.view_is in
    let place = ap (λ (r : Reading). r.place) c.self.view_is in
    let front = c.split_at.ensures.front ∙ ap (λ n. take n bytes) (add-one c.lead-count.result ∙ ap suc is) ∙ ap run_of left in
    (record { left = sym left ∙ c.split_at.ensures.by_index.0; place = omega (arith, place, c.split_at.ensures.front_len) }, front)

pub returns-clause-ends : goal.returns-clause-ends
returns-clause-ends c =
    let bytes = c.self.inside.rest.now in
    let is : c.lead-count.result ≡ lead bytes = omega arith in
    let inside : lead bytes < length bytes = omega (arith, lead_le bytes) in
    let front = c.split_at.ensures.front ∙ ap (λ n. take n bytes) (add-one c.lead-count.result ∙ ap suc is) in
    ap length front ∙ run_ends bytes inside ∙ ap (λ run. suc (lead run)) (sym front)

pub returns-clause-answer : goal.returns-clause-answer
returns-clause-answer c =
    let bytes = c.self.inside.rest.now in
    let is : c.lead-count.result ≡ lead bytes = omega arith in
    let few : lead bytes < c.args.limit = omega arith in
    let inside : lead bytes < length bytes = omega (arith, lead_le bytes) in
    let left = ap (λ (r : Reading). r.left) c.self.view_is in
    let back = c.split_at.ensures.back ∙ ap (λ n. drop n bytes) (add-one c.lead-count.result ∙ ap suc is) in
    ap (behind_run c.args.limit) (sym left) ∙ behind_ended c.args.limit bytes few inside ∙ ap (λ rest. Ok rest) (sym back)

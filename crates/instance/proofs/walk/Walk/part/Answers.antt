use Rattle.std.proofs.Common.{◌≡◌, ◌<◌, ◌+◌, List, [], ◌∷◌, map, drop, length, arith, ap, sym, ◌∙◌}
use Rattle.std.proofs.lemmas.List.{drop_all, length-map}
use Rattle.json.specs.Print.{quoted}
use Rattle.forms.specs.Formats.{format_of}
use Rattle.model.specs.state.Log.{Row}
use Rattle.model.specs.step.Walk.{Lot, Rule, walk_part}
use Rattle.broker_link.specs.Fetching.{row_of}
use Rattle.broker_link.specs.declared.fetch.Fetched.{Fetched}
use Rattle.broker_link.specs.declared.place.Place.{Place as CodePlace}
use Rattle.instance.specs.declared.walk.Pick.{Pick}
use Rattle.instance.specs.Walk.{IsPick, item_in, lot_at, lots_of, rule_of, seen}
use Rattle.instance.proofs.Picking.{has_row, is_pick, topic_is}
use Rattle.instance.proofs.Walking.{goes_on, is_over, next_row, no_rows, rows_read}
use Rattle.instance.proofs.walk.Walk.part.Goals as goal

pub returns-then-count-eq0-clause-walked : goal.returns-then-count-eq0-clause-walked
returns-then-count-eq0-clause-walked c =
    let places = c.args.lots.now.places.now in
    let fetched = c.args.lots.now.fetched.now in
    let lots : List Lot = lots_of places fetched in
    let same : length fetched ≡ length places = omega arith in
    let rows : (lot_at lots c.args.lot).rows ≡ map row_of c.index-lots-lot.result.rows = rows_read places fetched c.args.lot c.index-lots-lot.result same c.requires.place c.index-lots-lot.is in
    let none : (lot_at lots c.args.lot).rows ≡ [] = rows ∙ ap (map row_of) (no_rows c.index-lots-lot.result.rows (ap (λ (f : Fetched). length f.rows) c.index-lots-lot.is ∙ (sym c.len-count.ensures ∙ c.if-count-eq0.true))) in
    sym (ap (walk_part (rule_of c.args.rule.bound (format_of c.args.rule.format)) (lot_at lots c.args.lot).place.at (seen lots c.args.self.now)) none)

pub row-requires : goal.row-requires
row-requires c =
    let places = c.args.lots.now.places.now in
    let fetched = c.args.lots.now.fetched.now in
    let p : Pick = record { lot = c.args.lot; row = c.loop-row.row } in
    let same : length fetched ≡ length places = omega arith in
    let came : c.len-count.result ≡ length c.index-lots-lot.result.rows = c.len-count.ensures ∙ ap (λ (f : Fetched). length f.rows) (sym c.index-lots-lot.is) in
    let within : c.loop-row.row < length c.index-lots-lot.result.rows = omega (arith, c.loop-row-test.true, came) in
    let pick : IsPick (lots_of places fetched) p = is_pick places fetched c.args.lot c.loop-row.row c.index-lots-lot.result same c.requires.place c.index-lots-lot.is within in
    record {
      so_far = c.loop-row.invariant.so_far;
      pick = pick;
      topic = c.as_str-in-loop-row.ensures.value ∙ (c.in_ok-topic.ensures ∙ ap quoted (c.as_str.ensures ∙ (ap (λ (x : CodePlace). x.topic) (sym c.index-lots-lot-2.is) ∙ topic_is places fetched p c.index-lots-lot-2.result same pick c.index-lots-lot-2.is)));
      lot = c.requires.place;
      row = has_row places fetched p same pick;
    }

pub loop-row-preserved : goal.loop-row-preserved
loop-row-preserved c =
    let places = c.args.lots.now.places.now in
    let fetched = c.args.lots.now.fetched.now in
    let lots : List Lot = lots_of places fetched in
    let rule : Rule = rule_of c.args.rule.bound (format_of c.args.rule.format) in
    let p : Pick = record { lot = c.args.lot; row = c.loop-row.row } in
    let same : length fetched ≡ length places = omega arith in
    let rows : List Row = (lot_at lots c.args.lot).rows in
    let came : c.len-count.result ≡ length c.index-lots-lot.result.rows = c.len-count.ensures ∙ ap (λ (f : Fetched). length f.rows) (sym c.index-lots-lot.is) in
    let within : c.loop-row.row < length c.index-lots-lot.result.rows = omega (arith, c.loop-row-test.true, came) in
    let left : drop c.loop-row.row rows ≡ (item_in lots p).row ∷ drop (c.loop-row.row + 1) rows = next_row places fetched c.args.lot c.loop-row.row c.index-lots-lot.result same c.requires.place c.index-lots-lot.is within in
    let on = goes_on rule (item_in lots p) (seen lots c.loop-row.self) (seen lots c.row.new.self) _ c.if-not-branch.false c.in_ok-row.ensures.walks (drop (c.loop-row.row + 1) rows) in
    record {
      rest = sym on ∙ (sym (ap (walk_part rule (lot_at lots c.args.lot).place.at (seen lots c.loop-row.self)) left) ∙ c.loop-row.invariant.rest);
      so_far = c.in_ok-row.ensures.so_far;
    }

pub returns-then-not-branch-clause-walked : goal.returns-then-not-branch-clause-walked
returns-then-not-branch-clause-walked c =
    let places = c.args.lots.now.places.now in
    let fetched = c.args.lots.now.fetched.now in
    let lots : List Lot = lots_of places fetched in
    let rule : Rule = rule_of c.args.rule.bound (format_of c.args.rule.format) in
    let p : Pick = record { lot = c.args.lot; row = c.loop-row.row } in
    let same : length fetched ≡ length places = omega arith in
    let rows : List Row = (lot_at lots c.args.lot).rows in
    let came : c.len-count.result ≡ length c.index-lots-lot.result.rows = c.len-count.ensures ∙ ap (λ (f : Fetched). length f.rows) (sym c.index-lots-lot.is) in
    let within : c.loop-row.row < length c.index-lots-lot.result.rows = omega (arith, c.loop-row-test.true, came) in
    let left : drop c.loop-row.row rows ≡ (item_in lots p).row ∷ drop (c.loop-row.row + 1) rows = next_row places fetched c.args.lot c.loop-row.row c.index-lots-lot.result same c.requires.place c.index-lots-lot.is within in
    let over = is_over rule (item_in lots p) (seen lots c.loop-row.self) (seen lots c.row.new.self) _ c.if-not-branch.true c.in_ok-row.ensures.walks (drop (c.loop-row.row + 1) rows) in
    sym over ∙ (sym (ap (walk_part rule (lot_at lots c.args.lot).place.at (seen lots c.loop-row.self)) left) ∙ c.loop-row.invariant.rest)

pub returns-clause-walked : goal.returns-clause-walked
returns-clause-walked c =
    let places = c.args.lots.now.places.now in
    let fetched = c.args.lots.now.fetched.now in
    let lots : List Lot = lots_of places fetched in
    let rule : Rule = rule_of c.args.rule.bound (format_of c.args.rule.format) in
    let same : length fetched ≡ length places = omega arith in
    let rows : (lot_at lots c.args.lot).rows ≡ map row_of c.index-lots-lot.result.rows = rows_read places fetched c.args.lot c.index-lots-lot.result same c.requires.place c.index-lots-lot.is in
    let came : c.len-count.result ≡ length c.index-lots-lot.result.rows = c.len-count.ensures ∙ ap (λ (f : Fetched). length f.rows) (sym c.index-lots-lot.is) in
    let none : drop c.loop-row.row (lot_at lots c.args.lot).rows ≡ [] = drop_all c.loop-row.row (lot_at lots c.args.lot).rows (omega (arith, c.loop-row-test.false, came, ap length rows, length-map c.index-lots-lot.result.rows row_of)) in
    sym (ap (walk_part rule (lot_at lots c.args.lot).place.at (seen lots c.loop-row.self)) none) ∙ c.loop-row.invariant.rest

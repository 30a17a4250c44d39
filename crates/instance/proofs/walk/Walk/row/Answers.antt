use Rattle.std.proofs.Common.{◌≡◌, ◌+◌, ◌++◌, List, [], ◌∷◌, map, length, arith, ap, sym, ◌∙◌, subst, refl, nat_le}
use Rattle.std.specs.List.{All}
use Rattle.std.specs.Prelude.{is_none, string_bytes}
use Rattle.std.proofs.lemmas.Grind.{common_steps}
use Rattle.std.proofs.lemmas.List.{length-map, map_push}
use Rattle.std.proofs.lemmas.List.Elements.{All-push}
use Rattle.forms.specs.Formats.{format_of}
use Rattle.model.specs.state.World.{Format as Shown}
use Rattle.model.specs.step.Walk.{Lot, Item, Rule, bytes_of, walk_part}
use Rattle.broker_link.specs.Fetching.{row_of}
use Rattle.instance.specs.declared.walk.Pick.{Pick}
use Rattle.instance.specs.declared.walk.Walk.{Walk}
use Rattle.instance.specs.Walk.{IsPick, item_in, lots_of, rule_of, seen}
use Rattle.instance.proofs.Picking.{row_is}
use Rattle.instance.proofs.Walking.{full_ends, is_full_read, lost_ends, is_put, not_put, takes, seen_more, text_more, bytes_more}
use Rattle.instance.proofs.walk.Walk.row.Goals as goal

pub returns-then-is_full-clause-walks : goal.returns-then-is_full-clause-walks
returns-then-is_full-clause-walks c = λ rest.
    let places = c.args.lots.now.places.now in
    let fetched = c.args.lots.now.fetched.now in
    let lots : List Lot = lots_of places fetched in
    let format : Shown = format_of c.args.rule.format in
    let item : Item = item_in lots c.args.pick in
    let same : length fetched ≡ length places = omega arith in
    let size = c.size_of-size.ensures ∙ ap Rattle.model.specs.step.Walk.size_of (ap row_of c.stored_at.ensures ∙ row_is places fetched c.args.pick same c.requires.pick) in
    full_ends (rule_of c.args.rule.bound format) item (seen lots c.args.self.now) rest
    (is_full_read c.args.rule.bound format lots c.args.self.now item.row c.size_of-size.result c.is_full.result size c.requires.so_far.bytes c.is_full.ensures ∙ c.if-is_full.true)

pub returns-then-is_full-clause-so_far : goal.returns-then-is_full-clause-so_far
returns-then-is_full-clause-so_far c = let s = c.requires.so_far in record { bytes = s.bytes; picks = s.picks; text = s.text; unread = s.unread }

pub returns-then-not-branch-clause-walks : goal.returns-then-not-branch-clause-walks
returns-then-not-branch-clause-walks c = λ rest.
    let places = c.args.lots.now.places.now in
    let fetched = c.args.lots.now.fetched.now in
    let lots : List Lot = lots_of places fetched in
    let format : Shown = format_of c.args.rule.format in
    let item : Item = item_in lots c.args.pick in
    let same : length fetched ≡ length places = omega arith in
    let size = c.size_of-size.ensures ∙ ap Rattle.model.specs.step.Walk.size_of (ap row_of c.stored_at.ensures ∙ row_is places fetched c.args.pick same c.requires.pick) in
    let full = is_full_read c.args.rule.bound format lots c.args.self.now item.row c.size_of-size.result c.is_full.result size c.requires.so_far.bytes c.is_full.ensures ∙ c.if-is_full.false in
    let lost = not_put c.is_empty-first.result format item (string_bytes c.args.self.now.text) (string_bytes c.put_item.new.text) _ c.if-not-branch.true c.in_ok-put_item.ensures in
    lost_ends (rule_of c.args.rule.bound format) item (seen lots c.args.self.now) rest full (ap is_none lost.0)
    ∙ ap (λ u. record { taken = (seen lots c.args.self.now).taken; stopped = c.args.self.now.stopped; unread = u }) (sym (c.first_lost.ensures.first lots))

pub returns-then-not-branch-clause-so_far : goal.returns-then-not-branch-clause-so_far
returns-then-not-branch-clause-so_far c =
    let lots : List Lot = lots_of c.args.lots.now.places.now c.args.lots.now.fetched.now in
    let format : Shown = format_of c.args.rule.format in
    let item : Item = item_in lots c.args.pick in
    let s = c.requires.so_far in
    let lost = not_put c.is_empty-first.result format item (string_bytes c.args.self.now.text) (string_bytes c.put_item.new.text) _ c.if-not-branch.true c.in_ok-put_item.ensures in
    record { bytes = s.bytes; picks = s.picks; text = lost.1 ∙ s.text; unread = c.first_lost.ensures.lost lots format s.unread (c.requires.pick, lost.0) }

pub returns-clause-walks : goal.returns-clause-walks
returns-clause-walks c = λ rest.
    let places = c.args.lots.now.places.now in
    let fetched = c.args.lots.now.fetched.now in
    let lots : List Lot = lots_of places fetched in
    let format : Shown = format_of c.args.rule.format in
    let item : Item = item_in lots c.args.pick in
    let same : length fetched ≡ length places = omega arith in
    let size = c.size_of-size.ensures ∙ ap Rattle.model.specs.step.Walk.size_of (ap row_of c.stored_at.ensures ∙ row_is places fetched c.args.pick same c.requires.pick) in
    let full = is_full_read c.args.rule.bound format lots c.args.self.now item.row c.size_of-size.result c.is_full.result size c.requires.so_far.bytes c.is_full.ensures ∙ c.if-is_full.false in
    let put = is_put c.is_empty-first.result format item (string_bytes c.args.self.now.text) (string_bytes c.put_item.new.text) _ c.if-not-branch.false c.in_ok-put_item.ensures in
    let now : Walk = record { picks = c.push.new.self; bytes = c.args.self.now.bytes + c.size_of-size.result; text = c.put_item.new.text; stopped = nat_le 10000 c.len.result; unread = c.args.self.now.unread } in
    let more = seen_more lots c.args.self.now now c.args.pick c.len.result c.in_ok-push.ensures.items refl (grind (arith, common_steps)) refl in
    takes (rule_of c.args.rule.bound format) item (seen lots c.args.self.now) rest full (ap is_none put.0)
    ∙ ap (λ v. walk_part (rule_of c.args.rule.bound format) item.at v rest) (sym more)

pub returns-clause-so_far : goal.returns-clause-so_far
returns-clause-so_far c =
    let places = c.args.lots.now.places.now in
    let fetched = c.args.lots.now.fetched.now in
    let lots : List Lot = lots_of places fetched in
    let format : Shown = format_of c.args.rule.format in
    let item : Item = item_in lots c.args.pick in
    let same : length fetched ≡ length places = omega arith in
    let s = c.requires.so_far in
    let old : List Pick = c.args.self.now.picks.items in
    let size = c.size_of-size.ensures ∙ ap Rattle.model.specs.step.Walk.size_of (ap row_of c.stored_at.ensures ∙ row_is places fetched c.args.pick same c.requires.pick) in
    let put = is_put c.is_empty-first.result format item (string_bytes c.args.self.now.text) (string_bytes c.put_item.new.text) _ c.if-not-branch.false c.in_ok-put_item.ensures in
    let picks : c.push.new.self.items ≡ old ++ c.args.pick ∷ [] = c.in_ok-push.ensures.items in
    let taken : map (item_in lots) c.push.new.self.items ≡ map (item_in lots) old ++ item ∷ [] = ap (map (item_in lots)) picks ∙ map_push (item_in lots) old c.args.pick in
    let long : Rattle.std.specs.Vec.vec_len c.args.self.now.picks ≡ length old = grind (arith, common_steps) in
    record {
      bytes = bytes_more (map (item_in lots) old) (map (item_in lots) c.push.new.self.items) item c.args.self.now.bytes c.size_of-size.result taken s.bytes size;
      picks = subst (All (IsPick lots)) (sym picks) (All-push (IsPick lots) old c.args.pick s.picks c.requires.pick);
      text = text_more format (map (item_in lots) old) (map (item_in lots) c.push.new.self.items) item (Rattle.std.specs.Vec.vec_len c.args.self.now.picks) c.is_empty-first.result (string_bytes c.args.self.now.text) (string_bytes c.put_item.new.text) taken c.is_empty-first.ensures
          (long ∙ sym (length-map old (item_in lots))) s.text put.1;
      unread = s.unread;
    }

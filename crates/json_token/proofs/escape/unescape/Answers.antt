use Rattle.std.proofs.Common.{◌≡◌, ◌+◌, ◌≤◌, arith, sym, ap, ◌∙◌, length, drop, get_or}
use Rattle.std.proofs.lemmas.List.{take_rest, length-drop, get_or-drop}
use Rattle.json_token.specs.Chars.{content}
use Rattle.json_token.proofs.Escapes as escapes
use Rattle.json_token.proofs.Utf8Lemmas.{utf8_along}
use Rattle.json_token.proofs.ContentLemmas.{content_utf8}
use Rattle.json_token.proofs.escape.unescape.Goals as goal

pub from_utf8_unchecked-text-requires : goal.from_utf8_unchecked-text-requires
from_utf8_unchecked-text-requires c =
    let l = c.loop-out in
    let whole : c.extend_from_slice.new.self.items ≡ content c.args.chars.now = escapes.run_ends l.out.items _ c.args.chars.now l.at c.own_count-run.result _ (omega arith) (rw take_rest at c.own_count-run.ensures.own) c.in_ok-extend_from_slice.ensures.items l.invariant.content c.if-at-chars.true in
    utf8_along _ _ (sym whole) (content_utf8 _ c.requires)

pub returns-then-at-chars-clause-ok : goal.returns-then-at-chars-clause-ok
returns-then-at-chars-clause-ok c =
    let l = c.loop-out in
    c.from_string.ensures ∙ (ap (λ v. v.items) c.from_utf8_unchecked-text.ensures.value ∙ escapes.run_ends l.out.items _ c.args.chars.now l.at c.own_count-run.result _ (omega arith) (rw take_rest at c.own_count-run.ensures.own) c.in_ok-extend_from_slice.ensures.items l.invariant.content c.if-at-chars.true)

pub loop-out-preserved : goal.loop-out-preserved
loop-out-preserved c =
    let l = c.loop-out in
    let s = c.args.chars.now in
    let run = c.own_count-run.result in
    let passed : c.in-Ok.n ≤ length (drop (l.at + run + 1) s) = rw take_rest at c.in-Ok.ensures.bound in
    let stops = rw take_rest at c.own_count-run.ensures.stops in
    let first : get_or s (l.at + run) 0 ≡ 92 = sym (get_or-drop l.at s run 0) ∙ stops (omega (arith, length-drop l.at s)) in
    record {
      inside = omega (arith, passed, length-drop (l.at + run + 1) s);
      content = escapes.turn_escape c.extend_from_slice.new.self.items _ s (l.at + run) c.in-Ok.n (omega arith) first
          (escapes.turn_run l.out.items _ s l.at run _ (omega arith) (rw take_rest at c.own_count-run.ensures.own) c.in_ok-extend_from_slice.ensures.items l.invariant.content)
          (rw take_rest at c.in-Ok.ensures.ok);
    }

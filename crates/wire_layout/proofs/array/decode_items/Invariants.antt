use Rattle.std.proofs.Common.{◌≡◌, ◌-◌, length}
use Rattle.wire_prim.specs.Reading.{Takes}
use Rattle.wire_layout.specs.Layout.{behind_many, each, spelled}
use Rattle.wire_layout.proofs.array.decode_items.Given as goal

abbrev pub invariant-loop : goal.invariant-loop
invariant-loop g l = record {
  taken : Takes (spelled g.T.Put.layout.spelling l.items) l.fn.cursor l.cursor;
  fits : each g.T.Put.layout.fits l.items;
  counted : length l.items ≡ l.counter;
  behind : behind_many l.count g.T.Put.layout.behind l.fn.cursor.left ≡ behind_many (l.count - l.counter) g.T.Put.layout.behind l.cursor.left;
}

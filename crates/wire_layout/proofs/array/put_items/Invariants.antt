use Rattle.std.proofs.Common.{◌≡◌, ◌++◌, take}
use Rattle.wire_layout.specs.Layout.{each, spelled}
use Rattle.wire_layout.proofs.array.put_items.Given as goal

abbrev pub invariant-loop-item : goal.invariant-loop-item
invariant-loop-item g l = record {
  written : l.out.items ≡ l.fn.out.items ++ spelled g.T.Put.layout.spelling (take l.item-index l.items);
  fits : each g.T.Put.layout.fits (take l.item-index l.items);
}

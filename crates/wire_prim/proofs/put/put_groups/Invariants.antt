use Rattle.std.proofs.Common.{◌≡◌, ◌+◌, ◌-◌, ◌<◌, ◌≤◌, ◌^◌, ◌++◌, length, take}
use Rattle.wire_prim.specs.Varint.{groups_of}
use Rattle.wire_prim.proofs.put.put_groups.Given as goal

abbrev pub invariant-loop-number : goal.invariant-loop-number
invariant-loop-number l = record {
  within : l.count ≤ l.fn.more;
  room : length l.groups ≡ 10;
  small : l.number < 128 ^ (l.fn.more - l.count + 1);
  written : take l.count l.groups ++ groups_of (l.fn.more - l.count) l.number ≡ groups_of l.fn.more l.fn.number;
}

abbrev pub decreases-loop-number : goal.decreases-loop-number
decreases-loop-number l = l.number

use Rattle.std.proofs.Common.{◌≡◌, ◌++◌, length, reverse}
use Rattle.instance.proofs.fetching.turned_back.Given as goal

-- what was taken away and what is left are the whole
abbrev pub invariant-loop : goal.invariant-loop
invariant-loop l = record {
  whole : l.fetched ++ reverse l.last.items ≡ l.fn.fetched;
  taken : length l.last.items ≡ l.counter;
}

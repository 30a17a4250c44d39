use Rattle.std.proofs.Common.{◌≡◌, ◌++◌, drop}
use Rattle.avro_schema.specs.Canonical.{symbol_list, symbols_behind}
use Rattle.avro_schema.proofs.canonical.write_symbols.Given as goal

abbrev pub invariant-loop-symbol : goal.invariant-loop-symbol
invariant-loop-symbol l = l.fn.text ++ symbol_list l.symbols ≡ l.text ++ symbols_behind l.first (drop l.symbol-index l.symbols)

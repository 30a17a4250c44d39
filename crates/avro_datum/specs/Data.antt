-- The value of a schema that a datum is.
use Rattle.avro_datum.specs.declared.datum.Datum.{Datum}
use Rattle.avro_datum.specs.declared.datum.MapItem.{MapItem}
use Rattle.avro_datum.specs.declared.datum.Datum.TheOpen.{Datum-F, MapItem-F}
use Rattle.avro_datum.specs.declared.datum.Datum.TheFolds.{fold-Datum, fold-MapItem}
use Rattle.avro_value.specs.Value.{Value, Entry, null, boolean, int, long, bytes, string, fixed, symbol, branch, fields, items, entries, values_of, entries_of}

-- one level of a datum, with the values of its parts in their places
abbrev pub level_of : Datum-F Value Entry → Value
level_of Datum-F.Null = null
level_of (Datum-F.Boolean b) = boolean b
level_of (Datum-F.Int n) = int n
level_of (Datum-F.Long n) = long n
level_of (Datum-F.Bytes bs) = bytes bs
level_of (Datum-F.Text bs) = string bs
level_of (Datum-F.Fixed bs) = fixed bs
level_of (Datum-F.Symbol n) = symbol n
level_of (Datum-F.Branch n v) = branch n v
level_of (Datum-F.Fields vs) = fields (values_of vs)
level_of (Datum-F.Items vs) = items (values_of vs)
level_of (Datum-F.Entries es) = entries (entries_of es)

abbrev pub entry_of : MapItem-F Value Entry → Entry
entry_of e = record { key = e.key; value = e.value }

-- the value that a datum is
abbrev pub value_of : Datum → Value
value_of = fold-Datum Value Entry level_of entry_of

-- the entry that an entry of a map is
abbrev pub item_of : MapItem → Entry
item_of = fold-MapItem Value Entry level_of entry_of

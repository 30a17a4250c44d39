use Rattle.std.proofs.Common.{ℕ, suc, Result, Ok, sym, ap, ◌∙◌, inl, inr}
use Rattle.avro_value.specs.declared.error.AvroNo.{AvroNo}
use Rattle.avro_value.specs.Value as shapes
use Rattle.avro_value.specs.Reading as reading
use Rattle.avro_datum.proofs.DatumLemmas.{symbol_value}
use Rattle.avro_datum.proofs.reader.read_symbol.Goals as goal

pub returns-in-Ok : goal.returns-in-Ok
returns-in-Ok c name symbols resolves j here =
    ap (λ (r : Result ℕ AvroNo). reading.leaf c.args.number shapes.symbol r) (c.in-Ok.ensures name symbols resolves j here) ∙ ap (λ v. Ok (v, suc c.args.number)) (sym (symbol_value c.in-Ok.found))

pub returns-in-Err : goal.returns-in-Err
returns-in-Err c name symbols resolves j here =
    elim (c.in-Err.ensures name symbols resolves j here) [ inl want ↦ inl want | inr refused ↦ inr (ap (λ (r : Result ℕ AvroNo). reading.leaf c.args.number shapes.symbol r) refused) ]

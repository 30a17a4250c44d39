use Rattle.std.proofs.Common.{◌≡◌, ℕ, List, Result, sym, ap, ◌∙◌, subst, inl, inr}
use Rattle.avro_value.specs.declared.error.AvroNo.{AvroNo}
use Rattle.avro_value.specs.Encoding.{place_of}
use Rattle.avro_value.specs.Parts.{Gives}
use Rattle.avro_value.specs.Reading.{placed, symbol_at}
use Rattle.avro_value.specs.Steps.{◌>>=◌}
use Rattle.avro_value.proofs.json_leaf.symbol_in.Goals as goal

pub returns-in-Ok : goal.returns-in-Ok
returns-in-Ok c name symbols resolves j here =
    let k = c.args.number in
    let rest : List ℕ → Result ℕ AvroNo = λ n. placed k (place_of n symbols) in
    let is : symbol_at k symbols j ≡ placed k c.symbol.result = ap (λ (r : Result (List ℕ) AvroNo). r >>= rest) (c.in-Ok.ensures j here) ∙ ap (placed k) (sym (c.symbol.ensures name symbols resolves)) in
    subst (λ (r : Result ℕ AvroNo). Gives (λ (n : ℕ). n) c.placed.result r) (sym is) c.placed.ensures

pub returns-in-Err : goal.returns-in-Err
returns-in-Err c name symbols resolves j here =
    let rest : List ℕ → Result ℕ AvroNo = λ n. placed c.args.number (place_of n symbols) in
    elim (c.in-Err.ensures j here) [ inl want ↦ inl want | inr refused ↦ inr (ap (λ (r : Result (List ℕ) AvroNo). r >>= rest) refused) ]

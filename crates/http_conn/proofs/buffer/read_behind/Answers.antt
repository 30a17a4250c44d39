use Rattle.std.proofs.Common.{◌≡◌, ◌∙◌, ◌+◌, List, ℕ, length, take, drop, rules, arith, ap, subst}
use Rattle.std.specs.Io.KnownBytes.{Consumes}
use Rattle.std.proofs.lemmas.Grind.{common_steps}
use Rattle.http_conn.proofs.BufferLemmas.{piece_behind, seam}
use Rattle.http_conn.proofs.buffer.read_behind.Goals as goal

pub returns-in-Ok-clause-behind : goal.returns-in-Ok-clause-behind
returns-in-Ok-clause-behind g c =
    let old : List ℕ = c.args.bytes.now.items in
    let after : List ℕ = c.read_from.new.bytes in
    let len : c.len-len.result ≡ length old = search rules in
    let front : take (length old) after ≡ old = grind (arith, common_steps) in
    let long : length after ≡ c.resize.new.self.len = grind (arith, common_steps) in
    let cut = c.truncate.ensures.items ∙ seam c.resize.new.self.len (c.len-len.result + c.in-Ok.count) after _ long in
    let told = c.in-Ok.ensures.bytes.0 in (
      take c.in-Ok.count (drop (length old) after),
      cut ∙ ap (λ (n : ℕ). take (n + c.in-Ok.count) after) len ∙ piece_behind old after c.in-Ok.count front,
      subst (λ (n : ℕ). Consumes (g.S.Source.left c.args.source.now) (g.S.Source.left c.read_from.new.source) (take c.in-Ok.count (drop n after))) len told,
    )

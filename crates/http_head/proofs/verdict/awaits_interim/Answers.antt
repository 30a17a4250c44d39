use Rattle.std.proofs.Common.{◌≡◌, ◌∙◌, ℕ, List, Bool, true, false, refl, ap, sym, drop, map, take}
use Rattle.std.specs.Prelude.{◌&&◌}
use Rattle.httparse.specs.Grammar.{RequestHead}
use Rattle.httparse.specs.Spans.{header_bytes}
use Rattle.httparse.proofs.GrammarLemmas.{request_unique}
use Rattle.http_head.specs.Fields.{asks_interim, has_body}
use Rattle.http_head.specs.Head.{awaits, fields_of}
use Rattle.http_head.proofs.HeadLemmas.{awaits_parts}
use Rattle.http_head.proofs.verdict.awaits_interim.Goals as goal

pub returns-then-asks_interim : goal.returns-then-asks_interim
returns-then-asks_interim c = λ tree after at.
    let is = c.requires in
    let held : List ℕ = c.args.buf.now in
    let one = request_unique held is.head tree (drop c.args.head.spans.len held) after is.at.reads at.reads in
    let asks : true ≡ asks_interim is.head.minor (fields_of is.head) =
    sym c.if-asks_interim.true ∙ c.asks_interim.ensures
    ∙ ap (λ (n : ℕ). asks_interim n (map (header_bytes held) (take c.args.head.spans.headers c.args.headers.now))) is.at.version ∙ ap (asks_interim is.head.minor) is.at.fields in
    awaits_parts is.head c.args.head.framing true c.has_body.result is.framed asks c.has_body.ensures ∙ ap awaits one.0

pub returns-else-asks_interim : goal.returns-else-asks_interim
returns-else-asks_interim c = λ tree after at.
    let is = c.requires in
    let held : List ℕ = c.args.buf.now in
    let one = request_unique held is.head tree (drop c.args.head.spans.len held) after is.at.reads at.reads in
    let asks : false ≡ asks_interim is.head.minor (fields_of is.head) =
    sym c.if-asks_interim.false ∙ c.asks_interim.ensures
    ∙ ap (λ (n : ℕ). asks_interim n (map (header_bytes held) (take c.args.head.spans.headers c.args.headers.now))) is.at.version ∙ ap (asks_interim is.head.minor) is.at.fields in
    c.if-asks_interim.false ∙ awaits_parts is.head c.args.head.framing false (has_body c.args.head.framing) is.framed asks refl ∙ ap awaits one.0

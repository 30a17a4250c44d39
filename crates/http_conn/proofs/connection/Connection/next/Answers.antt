use Rattle.std.proofs.Common.{◌≡◌, subst, sym, Bool, List, ℕ, Result, Err, rules}
use Rattle.http_conn.specs.Next.{GivesSo, IsAtHand}
use Rattle.http_conn.specs.declared.request.ConnNo.{ConnNo}
use Rattle.http_conn.specs.declared.request.Next.{Next}
use Rattle.http_conn.proofs.connection.Connection.next.Goals as goal

pub returns-in_err-next-clause-prompt : goal.returns-in_err-next-clause-prompt
returns-in_err-next-clause-prompt g c = λ was ready.
    let held : c.args.self.now.held ≡ c.self.inside.held = search rules in
    let continued : c.args.self.now.continued ≡ c.self.inside.continued = search rules in
    c.read_request.ensures.prompt (subst (λ (b : Bool). IsAtHand b c.self.inside.held) continued (subst (λ (l : List ℕ). IsAtHand c.args.self.now.continued l) held ready))

pub returns-clause-prompt : goal.returns-clause-prompt
returns-clause-prompt g c = λ was ready.
    let held : c.args.self.now.held ≡ c.self.inside.held = search rules in
    let continued : c.args.self.now.continued ≡ c.self.inside.continued = search rules in
    c.read_request.ensures.prompt (subst (λ (b : Bool). IsAtHand b c.self.inside.held) continued (subst (λ (l : List ℕ). IsAtHand c.args.self.now.continued l) held ready))

pub returns-in_err-next-clause-given : goal.returns-in_err-next-clause-given
returns-in_err-next-clause-given g c = λ was.
    let held : c.args.self.now.held ≡ c.self.inside.held = search rules in
    let continued : c.args.self.now.continued ≡ c.self.inside.continued = search rules in
    let same : c.from_residual.result ≡ Err c.in_err-next.field-0.0 = search rules in
    let left = g.S.Source.left c.args.source.now in
    let left2 = g.S.Source.left c.read_request.new.source in
    subst (λ (r : Result Next ConnNo). GivesSo c.args.self.now.continued c.args.self.now.held c.read_request.new.held left left2 r) (sym same)
    (subst (λ (b : Bool). GivesSo b c.args.self.now.held c.read_request.new.held left left2 (Err c.in_err-next.field-0.0)) (sym continued)
    (subst (λ (l : List ℕ). GivesSo c.self.inside.continued l c.read_request.new.held left left2 (Err c.in_err-next.field-0.0)) (sym held) c.in_err-next.ensures.given))

use Rattle.std.proofs.Common.{◌≡◌, ◌∙◌, Bool, true, false, refl, sym, drop}
use Rattle.std.specs.Prelude.{not}
use Rattle.http_head.proofs.HeadLemmas.{head_of}
use Rattle.http_conn.proofs.connection.is_owed.Goals as goal

not_given : (b : Bool) → not b ≡ true → b ≡ false
not_given true is = absurd (cc is)
not_given false is = refl

was_given : (b : Bool) → not b ≡ false → b ≡ true
was_given true is = refl
was_given false is = absurd (cc is)

pub returns-then-awaits_interim-clause-owed : goal.returns-then-awaits_interim-clause-owed
returns-then-awaits_interim-clause-owed c = λ is.
    let h = c.requires in
    let at = head_of _ _ _ h in
    (record { head = h.head; after = drop c.args.head.spans.len c.args.held.now; at = at; waits = sym (c.awaits_interim.ensures h.head _ at) ∙ c.if-awaits_interim.true }, not_given c.args.continued is)

pub returns-then-awaits_interim-clause-settled : goal.returns-then-awaits_interim-clause-settled
returns-then-awaits_interim-clause-settled c = λ is due. was_given c.args.continued is

pub returns-else-awaits_interim-clause-owed : goal.returns-else-awaits_interim-clause-owed
returns-else-awaits_interim-clause-owed c = λ is. absurd (cc (c.if-awaits_interim.false, is))

pub returns-else-awaits_interim-clause-settled : goal.returns-else-awaits_interim-clause-settled
returns-else-awaits_interim-clause-settled c = λ is due. absurd (cc (c.awaits_interim.ensures due.head due.after due.at, due.waits, c.if-awaits_interim.false))

use Rattle.std.proofs.Common.{◌∙◌, ℕ, List, Ok, Err, false, refl, subst, ap}
use Rattle.std.specs.Io.KnownBytes.{Appends}
use Rattle.http_conn.specs.Next.{GivesSo, NeedsMore}
use Rattle.http_conn.specs.Told.{Conn, LastRead}
use Rattle.http_conn.specs.declared.request.ConnNo.{ConnNo}
use Rattle.http_conn.specs.declared.request.Next.{Next}
use Rattle.http_conn.specs.declared.request.Next.TheVariants as next
use Rattle.proxy_cli.specs.Exchange.{CutAt}
use Rattle.proxy_cli.proofs.Finding.{finds_behind, finds_cut, finds_failed, finds_given, reads_behind, reads_early, reads_on}
use Rattle.proxy_cli.proofs.session.read_next.Goals as goal

pub returns-in-Ok-Ready-clause-found : goal.returns-in-Ok-Ready-clause-found
returns-in-Ok-Ready-clause-found g c =
    finds_given (LastRead g.S.Source.left g.S.Source.asked c.args.connection.now.held c.args.source.now c.next.new.source (NeedsMore false)) c.args.connection.now c.next.new.self (g.S.Source.left c.args.source.now) (g.S.Source.left c.next.new.source) (g.K.Sink.held c.args.sink.now)
    (next.Ready c.in-Ok-Ready.request) c.requires.fresh refl (rw c.in-Ok-Ready.field-0-is at (c.in-Ok-Ready.ensures.given c.requires.over))

pub returns-in-Ok-Ready-clause-patient : goal.returns-in-Ok-Ready-clause-patient
returns-in-Ok-Ready-clause-patient g c = reads_on g.S.Source.left g.S.Source.asked c.args.connection.now c.args.source.now c.next.new.source (c.in-Ok-Ready.ensures.patient c.requires.over)

pub returns-in-Ok-End-clause-found : goal.returns-in-Ok-End-clause-found
returns-in-Ok-End-clause-found g c =
    finds_given (LastRead g.S.Source.left g.S.Source.asked c.args.connection.now.held c.args.source.now c.next.new.source (NeedsMore false)) c.args.connection.now c.next.new.self (g.S.Source.left c.args.source.now) (g.S.Source.left c.next.new.source) (g.K.Sink.held c.args.sink.now)
    next.End c.requires.fresh refl (rw c.in-Ok-End.field-0-is at (c.in-Ok-End.ensures.given c.requires.over))

pub returns-in-Ok-End-clause-patient : goal.returns-in-Ok-End-clause-patient
returns-in-Ok-End-clause-patient g c = reads_on g.S.Source.left g.S.Source.asked c.args.connection.now c.args.source.now c.next.new.source (c.in-Ok-End.ensures.patient c.requires.over)

pub returns-in-Ok-CutShort-clause-found : goal.returns-in-Ok-CutShort-clause-found
returns-in-Ok-CutShort-clause-found g c =
    finds_given (LastRead g.S.Source.left g.S.Source.asked c.args.connection.now.held c.args.source.now c.next.new.source (NeedsMore false)) c.args.connection.now c.next.new.self (g.S.Source.left c.args.source.now) (g.S.Source.left c.next.new.source) (g.K.Sink.held c.args.sink.now)
    next.CutShort c.requires.fresh refl (rw c.in-Ok-CutShort.field-0-is at (c.in-Ok-CutShort.ensures.given c.requires.over))

pub returns-in-Ok-CutShort-clause-patient : goal.returns-in-Ok-CutShort-clause-patient
returns-in-Ok-CutShort-clause-patient g c = reads_on g.S.Source.left g.S.Source.asked c.args.connection.now c.args.source.now c.next.new.source (c.in-Ok-CutShort.ensures.patient c.requires.over)

pub returns-in-Ok-Bad-clause-found : goal.returns-in-Ok-Bad-clause-found
returns-in-Ok-Bad-clause-found g c =
    finds_given (LastRead g.S.Source.left g.S.Source.asked c.args.connection.now.held c.args.source.now c.next.new.source (NeedsMore false)) c.args.connection.now c.next.new.self (g.S.Source.left c.args.source.now) (g.S.Source.left c.next.new.source) (g.K.Sink.held c.args.sink.now)
    (next.Bad c.in-Ok-Bad.reply) c.requires.fresh refl (rw c.in-Ok-Bad.field-0-is at (c.in-Ok-Bad.ensures.given c.requires.over))

pub returns-in-Ok-Bad-clause-patient : goal.returns-in-Ok-Bad-clause-patient
returns-in-Ok-Bad-clause-patient g c = reads_on g.S.Source.left g.S.Source.asked c.args.connection.now c.args.source.now c.next.new.source (c.in-Ok-Bad.ensures.patient c.requires.over)

pub returns-in-Err-clause-found : goal.returns-in-Err-clause-found
returns-in-Err-clause-found g c =
    finds_failed (LastRead g.S.Source.left g.S.Source.asked c.args.connection.now.held c.args.source.now c.next.new.source (NeedsMore false)) c.args.connection.now c.next.new.self (g.S.Source.left c.args.source.now) (g.S.Source.left c.next.new.source) (g.K.Sink.held c.args.sink.now)
    c.in-Err.e c.requires.fresh (c.in-Err.ensures.given c.requires.over)

pub returns-in-Err-clause-patient : goal.returns-in-Err-clause-patient
returns-in-Err-clause-patient g c = reads_on g.S.Source.left g.S.Source.asked c.args.connection.now c.args.source.now c.next.new.source (c.in-Err.ensures.patient c.requires.over)

pub returns-in-Err-send-clause-found : goal.returns-in-Err-send-clause-found
returns-in-Err-send-clause-found g c =
    let said = c.in-Err-send.ensures in
    finds_cut (LastRead g.S.Source.left g.S.Source.asked c.args.connection.now.held c.args.source.now c.next.new.source (NeedsMore false)) c.args.connection.now c.send.new.self (g.S.Source.left c.args.source.now) (g.S.Source.left c.next.new.source) (g.K.Sink.held c.args.sink.now)
    (g.S.Source.left c.next.new.source) (g.K.Sink.held c.send.new.sink) c.next.new.self c.in-Err-send.e (reads_early g.S.Source.left g.S.Source.asked c.args.connection.now c.args.source.now c.next.new.source c.requires.fresh (c.in-Ok-Continue.ensures.patient c.requires.over))
    (rw c.in-Ok-Continue.field-0-is at (c.in-Ok-Continue.ensures.given c.requires.over))
    (λ n is. subst (λ (bytes : List ℕ). CutAt n bytes (g.K.Sink.held c.args.sink.now) (g.K.Sink.held c.send.new.sink)) c.interim_response.ensures (said.cut n (ap (λ (e : ConnNo). Err e) is)))
    (said.only.0, let failed = said.only.1 in cc)

pub returns-in-Err-send-clause-patient : goal.returns-in-Err-send-clause-patient
returns-in-Err-send-clause-patient g c = reads_on g.S.Source.left g.S.Source.asked c.args.connection.now c.args.source.now c.next.new.source (c.in-Ok-Continue.ensures.patient c.requires.over)

pub returns-in-Ok-clause-found : goal.returns-in-Ok-clause-found
returns-in-Ok-clause-found g c =
    let same = c.in-Ok.ensures.same in
    let stands = rw c.in-Ok-Continue.field-0-is at (c.in-Ok-Continue.ensures.stands c.requires.over) in
    let interim = c.in-Ok-Continue.ensures.interim (ap (λ (n : Next). Ok n) c.in-Ok-Continue.field-0-is) in
    finds_behind (LastRead g.S.Source.left g.S.Source.asked c.args.connection.now.held c.args.source.now c.next-in-Ok.new.source (NeedsMore false)) c.args.connection.now c.next.new.self c.next-in-Ok.new.self
    (g.S.Source.left c.args.source.now) (g.S.Source.left c.next.new.source) (g.S.Source.left c.next-in-Ok.new.source) (g.K.Sink.held c.args.sink.now) (g.K.Sink.held c.send.new.sink) c.next-in-Ok.result
    stands.1 interim.0 (rw c.in-Ok-Continue.field-0-is at (c.in-Ok-Continue.ensures.given c.requires.over))
    (subst (λ (bytes : List ℕ). Appends (g.K.Sink.held c.args.sink.now) (g.K.Sink.held c.send.new.sink) bytes) c.interim_response.ensures c.in-Ok.ensures.ok)
    (subst (λ (k : Conn). GivesSo k.continued k.held c.next-in-Ok.new.self.held (g.S.Source.left c.next.new.source) (g.S.Source.left c.next-in-Ok.new.source) c.next-in-Ok.result) same
    (c.next-in-Ok.ensures.given (ap (λ (k : Conn). k.over) same ∙ stands.0)))

pub returns-in-Ok-clause-patient : goal.returns-in-Ok-clause-patient
returns-in-Ok-clause-patient g c =
    let same = c.in-Ok.ensures.same in
    let stands = rw c.in-Ok-Continue.field-0-is at (c.in-Ok-Continue.ensures.stands c.requires.over) in
    reads_behind g.S.Source.left g.S.Source.asked c.args.connection.now c.next.new.self c.args.source.now c.next.new.source c.next-in-Ok.new.source
    (rw c.in-Ok-Continue.field-0-is at (c.in-Ok-Continue.ensures.given c.requires.over)) stands.1 (c.in-Ok-Continue.ensures.patient c.requires.over)
    (subst (λ (k : Conn). LastRead g.S.Source.left g.S.Source.asked k.held c.next.new.source c.next-in-Ok.new.source (NeedsMore k.continued)) same
    (c.next-in-Ok.ensures.patient (ap (λ (k : Conn). k.over) same ∙ stands.0)))

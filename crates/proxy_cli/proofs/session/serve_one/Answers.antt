use Rattle.std.proofs.Common.{◌≡◌, ◌∙◌, ◌++◌, refl, ap, sym, subst, Bool, true, List, ℕ, []}
use Rattle.std.specs.Io.KnownBytes.{Appends}
use Rattle.gate_io.proofs.Known.{Appends-trans}
use Rattle.http_conn.specs.Told.{Comes, Conn}
use Rattle.http_conn.specs.Stream.Ending.{End, CutShort, BadPlace}
use Rattle.http_conn.proofs.LawLemmas.{no_due_of_nothing}
use Rattle.rest_codes.specs.Response.{response_of}
use Rattle.proxy_cli.specs.Served.{interim_if}
use Rattle.proxy_cli.proofs.Turning.{behind_interim, cut_reply, cut_refusal, failed_next, nothing_due}
use Rattle.proxy_cli.proofs.session.serve_one.Goals as goal

pub returns-in-Ok-clause-turn : goal.returns-in-Ok-clause-turn
returns-in-Ok-clause-turn g c = λ known all comes.
    let found = rw c.in-Ok-Ready.field-0-is at c.in-Ok-Ready.ensures.found in
    let front = found all comes in
    let stands = rw c.in-Ok-Ready.field-0-is at c.in-Ok-Ready.ensures.stands in
    let said = c.in-Ok.ensures.sent known in
    let sent = subst (λ (b : Bool). Appends (g.K.Sink.held c.read_next.new.sink) (g.K.Sink.held c.exchange.new.sink) (response_of said.0 b)) c.closes-close.ensures said.2 in
    record {
      request = c.in-Ok-Ready.request;
      reply = said.0;
      rest = front.1.0;
      comes = subst (λ (k : Conn). Comes k.held (g.S.Source.left c.read_next.new.source) front.1.0) (sym c.in-Ok.ensures.same) front.1.1;
      over = ap (λ (k : Conn). k.over) c.in-Ok.ensures.same ∙ stands.0;
      fresh = ap (λ (k : Conn). k.continued) c.in-Ok.ensures.same ∙ stands.1;
      is = front.1.2.0;
      answered = said.1;
      wrote = behind_interim all c.in-Ok-Ready.request front.1.0 _ _ _ _ front.1.2.0 front.0 sent;
    }

pub returns-in-Ok-clause-fresh : goal.returns-in-Ok-clause-fresh
returns-in-Ok-clause-fresh g c =
    let stands = rw c.in-Ok-Ready.field-0-is at c.in-Ok-Ready.ensures.stands in
    ap (λ (k : Conn). k.continued) c.in-Ok.ensures.same ∙ stands.1

pub returns-in-Ok-Ready-clause-turn : goal.returns-in-Ok-Ready-clause-turn
returns-in-Ok-Ready-clause-turn g c = λ known.
    let found = rw c.in-Ok-Ready.field-0-is at c.in-Ok-Ready.ensures.found in
    cut_reply _ _ _ c.args.connection.now c.exchange.new.connection _ _ _ _ _ _ c.in-Ok-Ready.request c.in-Err-exchange.e (λ all comes. let front = found all comes in (front.0, (front.1.0, front.1.2.0))) _
    c.closes-close.ensures (c.in-Err-exchange.ensures.sent known)

pub returns-in-Ok-End-clause-turn : goal.returns-in-Ok-End-clause-turn
returns-in-Ok-End-clause-turn g c = λ known. (
  (refl, refl),
  λ all comes.
      let found = rw c.in-Ok-End.field-0-is at c.in-Ok-End.ensures.found in
      let front = found all comes in
      let same : front.1.0 ≡ all = front.1.2.1 ∙ sym front.1.2.0 in
      record {
        held = c.read_next.new.connection.held;
        comes = subst (λ (l : List ℕ). Comes c.read_next.new.connection.held (g.S.Source.left c.read_next.new.source) l) same front.1.1;
        ending = End;
        is_why = tt;
        ends = front.1.2.0;
        last = [];
        is_last = refl;
        wrote = nothing_due all _ _ front.0 (no_due_of_nothing all front.1.2.0);
      },
)

pub returns-in-Ok-CutShort-clause-turn : goal.returns-in-Ok-CutShort-clause-turn
returns-in-Ok-CutShort-clause-turn g c = λ known. (
  (refl, refl),
  λ all comes.
      let found = rw c.in-Ok-CutShort.field-0-is at c.in-Ok-CutShort.ensures.found in
      let front = found all comes in
      record {
        held = c.read_next.new.connection.held;
        comes = subst (λ (l : List ℕ). Comes c.read_next.new.connection.held (g.S.Source.left c.read_next.new.source) l) front.1.2.2 front.1.1;
        ending = CutShort front.0.0;
        is_why = tt;
        ends = (front.0.1, front.1.2.0);
        last = interim_if front.0.0;
        is_last = refl;
        wrote = front.0.2;
      },
)

pub returns-in-Ok-send-clause-turn : goal.returns-in-Ok-send-clause-turn
returns-in-Ok-send-clause-turn g c = λ known. (
  (refl, refl),
  λ all comes.
      let found = rw c.in-Ok-Bad.field-0-is at c.in-Ok-Bad.ensures.found in
      let front = found all comes in
      let said = c.in-Ok-send.ensures.sent in
      record {
        held = c.read_next.new.connection.held;
        comes = subst (λ (l : List ℕ). Comes c.read_next.new.connection.held (g.S.Source.left c.read_next.new.source) l) front.1.2.2 front.1.1;
        ending = BadPlace front.0.0 c.in-Ok-Bad.reply;
        is_why = tt;
        ends = (front.0.1, front.1.2.0);
        last = interim_if front.0.0 ++ response_of said.0 true;
        is_last = (said.0, said.1, refl);
        wrote = Appends-trans _ _ _ (interim_if front.0.0) (response_of said.0 true) front.0.2 said.2;
      },
)

pub returns-in-Ok-Bad-clause-turn : goal.returns-in-Ok-Bad-clause-turn
returns-in-Ok-Bad-clause-turn g c = λ known.
    let found = rw c.in-Ok-Bad.field-0-is at c.in-Ok-Bad.ensures.found in
    cut_refusal _ _ _ c.args.connection.now c.send.new.connection _ _ _ _ _ _ c.in-Ok-Bad.reply c.in-Err-send.e (refl, refl) (λ all comes. let front = found all comes in (front.0, front.1.2.0)) c.in-Err-send.ensures.sent

pub returns-clause-turn : goal.returns-clause-turn
returns-clause-turn g c = λ known.
    failed_next _ _ _ c.args.connection.now c.read_next.new.connection _ _ _ (g.K.Sink.held c.read_next.new.sink) _ _ c.in-Err.e (refl, refl) c.in-Err.ensures.found

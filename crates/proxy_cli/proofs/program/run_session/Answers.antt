use Rattle.std.proofs.Common.{map, sym, subst, ℕ}
use Rattle.std.specs.Prelude.{string_bytes}
use Rattle.proxy_cli.specs.Program.{SessionRan}
use Rattle.proxy_cli.proofs.Ran.{command_ran, unread_ran, wanting_ran}
use Rattle.proxy_cli.proofs.program.run_session.Goals as goal

pub returns-in-Ok : goal.returns-in-Ok
returns-in-Ok g c = record {
  session =
      subst (λ (status : ℕ). SessionRan g.S.Source.left g.S.Source.asked g.S.Source.faults g.K.Sink.held g.K.Sink.faults g.K.Sink.stalls g.C.Clock.tells g.C.Clock.hand (map string_bytes c.args.words.now) c.args.src.now c.serve_command-served.new.src c.args.sink.now c.serve_command-served.new.sink c.args.clock.now c.serve_command-served.new.clock status) (sym c.status_of.ensures)
      (command_ran g.S.Source.left g.S.Source.asked g.S.Source.faults g.K.Sink.held g.K.Sink.faults g.K.Sink.stalls g.C.Clock.tells g.C.Clock.hand (map string_bytes c.args.words.now) c.args.src.now c.serve_command-served.new.src c.args.sink.now c.serve_command-served.new.sink c.args.clock.now c.serve_command-served.new.clock
      c.in-Ok.command c.in-Ok.ensures.words c.serve_command-served.result c.serve_command-served.ensures.serves c.serve_command-served.ensures.read c.serve_command-served.ensures.write);
}

pub returns-in-Err-Bad : goal.returns-in-Err-Bad
returns-in-Err-Bad g c = record { session = unread_ran g.S.Source.left g.S.Source.asked g.S.Source.faults g.K.Sink.held g.K.Sink.faults g.K.Sink.stalls g.C.Clock.tells g.C.Clock.hand (map string_bytes c.args.words.now) c.args.src.now c.args.sink.now c.args.clock.now (rw c.in-Err-Bad.field-0-is at c.in-Err-Bad.ensures.words) }

pub returns-in-Err-Want : goal.returns-in-Err-Want
returns-in-Err-Want g c = record { session = wanting_ran g.S.Source.left g.S.Source.asked g.S.Source.faults g.K.Sink.held g.K.Sink.faults g.K.Sink.stalls g.C.Clock.tells g.C.Clock.hand (map string_bytes c.args.words.now) c.args.src.now c.args.sink.now c.args.clock.now }

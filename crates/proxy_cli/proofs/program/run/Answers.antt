use Rattle.proxy_cli.proofs.program.run.Goals as goal

pub returns : goal.returns
returns g c = record { session = c.run_session.ensures.session }

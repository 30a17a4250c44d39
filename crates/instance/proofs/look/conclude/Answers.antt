use Rattle.instance.proofs.Looking.{ends_in_look}
use Rattle.instance.proofs.look.conclude.Goals as goal

pub returns-in-Ok-clause-looks : goal.returns-in-Ok-clause-looks
returns-in-Ok-clause-looks c = λ none. ends_in_look c.args.events c.settle.new.events c.args.round (c.in-Ok.ensures.looks none)

use Rattle.model.proofs.Stretches.{histories_cut, stretch_law}
use Rattle.model.specs.state.World.{nobody}
use Rattle.model.proofs.stretch.stretches_are_whole.Goals as goal

pub returns : goal.returns
returns c idle counts before e entries after w l legal =
    let cut = histories_cut idle nobody legal.first before e entries after l w legal.tally legal.run in
    (cut, stretch_law idle nobody legal.first before e entries after l w cut)

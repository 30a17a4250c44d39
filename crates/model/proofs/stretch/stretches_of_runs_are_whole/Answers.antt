use Rattle.model.proofs.Stretches.{histories_cut, stretch_law}
use Rattle.model.proofs.stretch.stretches_of_runs_are_whole.Goals as goal

pub returns : goal.returns
returns c idle begin first before e entries after l w n run =
    let cut = histories_cut idle begin first before e entries after l w n run in
    (cut, stretch_law idle begin first before e entries after l w cut)

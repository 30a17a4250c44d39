use Rattle.model.proofs.Pins.{nodes_rise, names_are_taken, formats_are_uses, refused_commits, inside_stay, commits_tell, others_are_answered, parts_heard}
use Rattle.std.proofs.Common.{refl}
use Rattle.model.proofs.pinned.calls_are_pinned.Goals as goal

pub returns-clause-nodes : goal.returns-clause-nodes
returns-clause-nodes c = nodes_rise

pub returns-clause-names : goal.returns-clause-names
returns-clause-names c = names_are_taken

pub returns-clause-formats : goal.returns-clause-formats
returns-clause-formats c = formats_are_uses

pub returns-clause-unsaved : goal.returns-clause-unsaved
returns-clause-unsaved c = refused_commits

pub returns-clause-inside : goal.returns-clause-inside
returns-clause-inside c = inside_stay

pub returns-clause-codes : goal.returns-clause-codes
returns-clause-codes c = commits_tell

pub returns-clause-passed : goal.returns-clause-passed
returns-clause-passed c = others_are_answered

pub returns-clause-heard : goal.returns-clause-heard
returns-clause-heard c = parts_heard

pub returns-clause-breaks : goal.returns-clause-breaks
returns-clause-breaks c = λ found settings names ats news edge place. (refl, refl, refl, refl, refl, refl, refl, refl, refl)

pub returns-clause-stays : goal.returns-clause-stays
returns-clause-stays c = λ found rows ats formats timeout bound news round. (refl, refl, refl, refl, refl, refl, refl)

use Rattle.std.proofs.lemmas.List.{take_rest}
use Rattle.json_token.proofs.TokenEndLemmas.{number_ends, number_breaks, number_cut}
use Rattle.json_token.proofs.token.numeral_end.Goals as goal

pub returns-in-End-clause-ok : goal.returns-in-End-clause-ok
returns-in-End-clause-ok c = number_ends _ _ _ c.requires.inside c.requires.begins (rw take_rest at c.in-End.ensures)

pub returns-in-Bad-clause-err : goal.returns-in-Bad-clause-err
returns-in-Bad-clause-err c = number_breaks _ _ _ c.requires.inside c.requires.begins (rw take_rest at c.in-Bad.ensures)

pub returns-in-Short-clause-err : goal.returns-in-Short-clause-err
returns-in-Short-clause-err c = number_cut _ _ c.requires.inside c.requires.begins (rw take_rest at c.in-Short.ensures)

use Rattle.json_token.proofs.NumberGrammar.{number_numeral, numeral_number}
use Rattle.json_token.proofs.law.numbers_are_those_of_the_grammar.Goals as goal

pub returns : goal.returns
returns c = λ s. (number_numeral s, numeral_number s)

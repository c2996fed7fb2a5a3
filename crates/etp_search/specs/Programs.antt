-- Which space a value of the program stands for.
use Rattle.etp_term.specs.Laws.{equation_of}
use Rattle.etp_search.specs.Spaces as Theory
use Rattle.etp_search.specs.declared.space.Space.{Space}

abbrev pub space_of : Space → Theory.Space
space_of space = record {
  law = equation_of space.law.now;
  variables = space.variables;
  leaves = space.leaves;
}

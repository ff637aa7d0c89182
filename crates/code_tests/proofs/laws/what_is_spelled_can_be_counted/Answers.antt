use Rattle.code_tests.proofs.laws.what_is_spelled_can_be_counted.Goals as goal

pub returns-clause-imports : goal.returns-clause-imports
returns-clause-imports c m spelled = (c.spelled_are_bounded.ensures m spelled).imports.few

pub returns-clause-codes : goal.returns-clause-codes
returns-clause-codes c m spelled = (c.spelled_are_bounded.ensures m spelled).codes.each

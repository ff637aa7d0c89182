use Rattle.code_tests.proofs.laws.what_breaks_spells_nothing.Goals as goal

pub returns : goal.returns
returns c bytes fault are there =
    let some = (c.faults_are_of_the_first_part.ensures.first bytes fault).1 there in (
      c.faults_are_of_the_first_part.ensures.within bytes fault some,
      λ m spelled.
          let none = (c.bytes_spell_or_break.ensures.broken bytes are).1 (m, spelled) in
          absurd cc,
    )

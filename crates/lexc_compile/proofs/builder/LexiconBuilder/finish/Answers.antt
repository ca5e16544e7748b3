use Rattle.std.proofs.Common.{subst, sym}
use Rattle.lexc_compile.specs.Growing.{IsGiven}
use Rattle.lexc_compile.proofs.Language.{built_language, built_letters}
use Rattle.lexc_compile.proofs.builder.LexiconBuilder.finish.Goals as goal

pub returns-clause-letters : goal.returns-clause-letters
returns-clause-letters c root entries given =
    let is : IsGiven root entries (record { count = c.self.inside.count; automaton = c.self.inside.automaton; steps = c.self.inside.steps }) = subst (IsGiven root entries) (sym c.self.view_is) given in
    built_letters entries c.self.inside.count root is.inside c.self.inside.automaton c.self.inside.steps is.built

pub returns-clause-language : goal.returns-clause-language
returns-clause-language c root entries given =
    let is : IsGiven root entries (record { count = c.self.inside.count; automaton = c.self.inside.automaton; steps = c.self.inside.steps }) = subst (IsGiven root entries) (sym c.self.view_is) given in
    built_language entries c.self.inside.count root is.inside c.self.inside.automaton c.self.inside.steps is.built is.has

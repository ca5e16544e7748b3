use Rattle.std.proofs.Common.{sym, subst}
use Rattle.lexc_forms.specs.Fronts.{HasNoFront}
use Rattle.lexc_forms.proofs.table.DeclaredSymbols.may_begin.Goals as goal

pub returns-in-Some : goal.returns-in-Some
returns-in-Some c = λ none. subst (HasNoFront c.args.self.now) (sym c.in-Some.ensures.cases.0) (c.may_begin_with.ensures none _)

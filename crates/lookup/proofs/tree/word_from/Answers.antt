use Rattle.std.proofs.Common.{◌≡◌, Some, sym, subst}
use Rattle.std.specs.List.{Contains, slice_get}
use Rattle.lookup.specs.Tree.{AreSteps}
use Rattle.lookup.proofs.Growing.{tree_leads}
use Rattle.lookup.proofs.tree.word_from.Goals as goal

pub word_back-requires-clause-downward : goal.word_back-requires-clause-downward
word_back-requires-clause-downward g c = rw c.deref.ensures.value c.requires.1.1.steps.downward

pub returns-in_ok-word_back-in-Some-clause-some : goal.returns-in_ok-word_back-in-Some-clause-some
returns-in_ok-word_back-in-Some-clause-some g c = λ edges rows root are t.
    let found = c.args.tree.now.reached.found in
    let there : slice_get found c.in-Some.number ≡ Some c.args.node = subst (λ fs. slice_get fs c.in-Some.number ≡ Some c.args.node) c.found.ensures.found c.in-Some.ensures.some in
    c.in_ok-word_back-in-Some.ensures edges rows root c.args.node found are (subst (λ ss. AreSteps rows root found ss) (sym c.deref.ensures.value) t.steps) there

pub returns-in-None-clause-none : goal.returns-in-None-clause-none
returns-in-None-clause-none g c = λ edges rows root are t leads.
    c.in-None.ensures.none (subst (λ fs. Contains fs c.args.node) (sym c.found.ensures.found) (tree_leads edges rows are root c.args.tree.now t c.args.node leads))

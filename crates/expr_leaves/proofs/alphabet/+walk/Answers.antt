use Rattle.std.proofs.Common.{◌≡◌, ◌||◌, false, ap, sym, ◌∙◌}
use Rattle.regex_ast.specs.Terms.{term, links_of, steps_by}
use Rattle.regex_ast.proofs.Rows.{term-Concat, term-Chain, term-Ignore, term-Steps}
use Rattle.expr_leaves.specs.Alphabet.{uses_alphabet, link_uses_alphabet, step_uses_alphabet}
use Rattle.expr_leaves.proofs.alphabet.+walk.Goals as goal

pub uses_alphabet-returns-in-Ignore : goal.uses_alphabet-returns-in-Ignore
uses_alphabet-returns-in-Ignore g t c =
    let is = ap term c.in-Ignore.is ∙ term-Ignore c.in-Ignore.operands in
    let each = rw c.deref-in-Ignore.ensures.value at c.one_uses.ensures in
    each ∙ ap uses_alphabet (sym is)

pub uses_alphabet-returns-in-Concat : goal.uses_alphabet-returns-in-Concat
uses_alphabet-returns-in-Concat g t c =
    let is = ap term c.in-Concat.is ∙ term-Concat c.in-Concat.operands in
    let each = rw c.deref-in-Concat.ensures.value at c.one_uses-in-Concat.ensures in
    each ∙ ap uses_alphabet (sym is)

pub uses_alphabet-returns-else-uses_alphabet-2 : goal.uses_alphabet-returns-else-uses_alphabet-2
uses_alphabet-returns-else-uses_alphabet-2 g t c =
    let is = ap term c.in-Chain.is ∙ term-Chain c.in-Chain.first c.in-Chain.links in
    let called = rw c.deref-in-Chain.ensures at c.uses_alphabet-in-Chain.ensures in
    let first : false ≡ uses_alphabet (term c.in-Chain.first.value) = sym c.if-uses_alphabet-2.false ∙ called in
    let more = rw c.deref-else-uses_alphabet-2.ensures.value at c.link_uses.ensures in
    more ∙ ap (λ b. b || link_uses_alphabet (links_of c.in-Chain.links.items)) first ∙ ap uses_alphabet (sym is)

pub uses_alphabet-returns-else-uses_alphabet-3 : goal.uses_alphabet-returns-else-uses_alphabet-3
uses_alphabet-returns-else-uses_alphabet-3 g t c =
    let is = ap term c.in-Steps.is ∙ term-Steps c.in-Steps.first c.in-Steps.steps in
    let called = rw c.deref-in-Steps.ensures at c.uses_alphabet-in-Steps.ensures in
    let first : false ≡ uses_alphabet (term c.in-Steps.first.value) = sym c.if-uses_alphabet-3.false ∙ called in
    let more = rw c.deref-else-uses_alphabet-3.ensures.value at c.step_uses.ensures in
    more ∙ ap (λ b. b || step_uses_alphabet (steps_by c.in-Steps.steps.items)) first ∙ ap uses_alphabet (sym is)

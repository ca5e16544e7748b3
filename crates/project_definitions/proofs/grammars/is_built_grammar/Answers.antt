use Rattle.std.proofs.Common.{◌↔◌, Bool, IsTrue, subst, sym}
use Rattle.expr_kinds.specs.Atoms.{is_symbol}
use Rattle.grammar_pairs.specs.Laws.{HasLeaves}
use Rattle.grammar_pairs.specs.Plain.{grammar_of}
use Rattle.project_definitions.proofs.Passing.{has_leaves}
use Rattle.project_definitions.proofs.grammars.is_built_grammar.Goals as goal

pub returns : goal.returns
returns c =
    subst (λ (b : Bool). IsTrue b ↔ HasLeaves is_symbol (grammar_of c.args.grammar.now)) (sym c.all_parts.ensures)
    (has_leaves c.args.grammar.now c.pairs_pass-pairs.result c.sets_pass-sets.result c.in_ok-definitions.definitions c.in_ok-rules.rules (rw c.deref.ensures.value at c.pairs_pass-pairs.ensures)
    (rw c.deref-2.ensures.value at c.sets_pass-sets.ensures) (rw c.deref-3.ensures.value at c.in_ok-definitions.ensures) (rw c.deref-4.ensures.value at c.in_ok-rules.ensures))

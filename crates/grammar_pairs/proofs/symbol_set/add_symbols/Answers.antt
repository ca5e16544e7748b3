use Rattle.std.proofs.Common.{◌+◌, ◌++◌, ◌∷◌, [], List, arith, ap, ◌∙◌, map, take, subst}
use Rattle.std.proofs.lemmas.List.{take_all}
use Rattle.regex_ast.specs.declared.expr.Atom.{Atom}
use Rattle.fsm_base.specs.declared.letters.Sym.{Sym}
use Rattle.grammar_pairs.specs.Plain.{symbol_in}
use Rattle.grammar_pairs.proofs.Growing.{HasMore, image_at, more_alike, more_twice, one_more}
use Rattle.grammar_pairs.proofs.symbol_set.add_symbols.Goals as goal

pub leaves-preserved : goal.leaves-preserved
leaves-preserved c =
    let leaves = c.args.leaves.now in
    let i = c.leaves.leaf-index in
    let old = c.args.set.now in
    let now = c.leaves.set in
    let new = c.add.new.self in
    let front = map symbol_in (take i leaves) in
    more_alike old new (front ++ c.symbol_of.result ∷ []) (map symbol_in (take (i + 1) leaves))
    (ap (λ (s : Sym). front ++ s ∷ []) c.symbol_of.ensures ∙ image_at symbol_in leaves i _ (omega arith))
    (more_twice old now new front (c.symbol_of.result ∷ []) c.leaves.invariant (one_more now new c.symbol_of.result c.in_ok-add.ensures))

pub returns : goal.returns
returns c = subst (λ (z : List Atom). HasMore c.args.set.now c.leaves.set (map symbol_in z)) (take_all c.leaves.leaf-index c.args.leaves.now (omega arith)) c.leaves.invariant

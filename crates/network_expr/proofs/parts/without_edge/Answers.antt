use Rattle.std.proofs.Common.{◌≡◌, List, sym, subst, inl, inr}
use Rattle.std.proofs.lemmas.Result.{IfOk-weaker}
use Rattle.fsa.specs.Automaton.{Automaton}
use Rattle.fsm_base.specs.declared.letters.Bound.{Bound}
use Rattle.fsm_base.specs.declared.letters.Sym.{Sym}
use Rattle.expr_meaning.specs.Operators.{WithEdge}
use Rattle.network_algebra.specs.Networks.{IsFor, IsNetwork, PairsOf, kind_of_network}
use Rattle.network_algebra.specs.declared.network.Network.{Network}
use Rattle.network_algebra.specs.declared.network.Network.TheVariants.{Words}
use Rattle.network_expr.proofs.Named.{relation_for, relation_unless, without_edge_for, without_edge_only}
use Rattle.network_expr.proofs.parts.without_edge.Goals as goal

pub returns-in_ok-with_edge-in-Words-clause-letters : goal.returns-in_ok-with_edge-in-Words-clause-letters
returns-in_ok-with_edge-in-Words-clause-letters c =
    let r = c.in_ok-with_edge-in-Words.field-0 in
    subst (λ (n : Network). (symbols : List Sym) → IsNetwork symbols n → IsNetwork symbols (Words r)) (sym c.in-Words.is)
    (without_edge_only c.in-Words.words r c.in_ok-inside-in-Words.field-0 c.in_ok-inside-in-Words.ensures.letters c.in_ok-with_edge-in-Words.ensures.letters)

pub returns-in_ok-with_edge-in-Words-clause-meaning : goal.returns-in_ok-with_edge-in-Words-clause-meaning
returns-in_ok-with_edge-in-Words-clause-meaning c =
    let r = c.in_ok-with_edge-in-Words.field-0 in
    subst (λ (n : Network). IsFor (kind_of_network n) (WithEdge (λ u. PairsOf n u u)) (PairsOf n) (Words r)) (sym c.in-Words.is)
    (without_edge_for c.in-Words.words r c.in_ok-inside-in-Words.field-0 c.in_ok-inside-in-Words.ensures.words c.in_ok-with_edge-in-Words.ensures.words)

pub returns-in-Pairs-clause-meaning : goal.returns-in-Pairs-clause-meaning
returns-in-Pairs-clause-meaning c =
    let relation = relation_unless c.args.network.now (λ (m : Automaton (Bound Sym)) (e : c.args.network.now ≡ Words m). elim c.in-Pairs.is as (λ _. ⊥) [ inl pairs ↦ cc | inr flagged ↦ cc ]) in
    IfOk-weaker _ _ _ (λ r. relation_for c.args.network.now r relation) c.reduced.ensures.meaning

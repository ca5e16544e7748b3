use Rattle.std.proofs.Common.{◌↔◌, ◌∷◌, [], List, IfOk, sym, subst}
use Rattle.std.proofs.lemmas.Result.{IfOk-weaker}
use Rattle.fsm_base.specs.declared.letters.Bound.{Bound}
use Rattle.fsm_base.specs.declared.letters.Sym.{Sym}
use Rattle.fsa.specs.Language.{Accepts}
use Rattle.regex_ast.specs.declared.expr.Atom.{Atom}
use Rattle.regex_ast.specs.Terms.{atom}
use Rattle.expr_meaning.specs.Meaning.{InLeaves}
use Rattle.network_algebra.specs.declared.network.Network.TheVariants.{Words}
use Rattle.network_expr.specs.Built.{IsMeant}
use Rattle.network_expr.specs.Parts.{stands}
use Rattle.network_expr.proofs.Meant.{symbol_meant}
use Rattle.network_expr.proofs.Named.{name_meant, name_over}
use Rattle.network_expr.proofs.leaves.leaf.Goals as goal

pub returns-in_ok-symbols-in-Sym-clause-meaning : goal.returns-in_ok-symbols-in-Sym-clause-meaning
returns-in_ok-symbols-in-Sym-clause-meaning c =
    let A = c.args.alphabet.now in
    let parts = c.args.parts.now in
    let m = c.in_ok-symbols-in-Sym.field-0 in
    subst (λ (a : Atom). IsMeant parts A (atom a) (Words m)) (sym c.in-Sym.is)
    (symbol_meant parts A m c.in-Sym.field-0 (subst (λ (a : Atom). (w : List (Bound Sym)) → Accepts m w ↔ InLeaves (stands parts) A (a ∷ []) w) c.in-Sym.is (c.in_ok-symbols-in-Sym.ensures.words parts)))

pub returns-in-Name-clause-letters : goal.returns-in-Name-clause-letters
returns-in-Name-clause-letters c =
    IfOk-weaker _ _ _ (λ r. name_over c.args.alphabet.now c.args.parts.now c.in-Name.name c.part_at.result r c.requires.ground.over c.part_at.ensures) c.without_edge.ensures.letters

pub returns-in-Name-clause-meaning : goal.returns-in-Name-clause-meaning
returns-in-Name-clause-meaning c =
    let A = c.args.alphabet.now in
    let parts = c.args.parts.now in
    subst (λ (a : Atom). IfOk c.without_edge.result (IsMeant parts A (atom a))) (sym c.in-Name.is)
    (IfOk-weaker _ _ _ (λ r. name_meant parts A c.in-Name.name c.part_at.result r c.part_at.ensures) c.without_edge.ensures.meaning)

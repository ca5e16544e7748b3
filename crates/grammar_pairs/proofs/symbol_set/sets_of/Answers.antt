use Rattle.std.proofs.Common.{◌↔◌, List, ℕ, arith, map, sym, subst, take}
use Rattle.std.proofs.lemmas.List.{take_all}
use Rattle.fsm_base.specs.declared.letters.Sym.{Sym}
use Rattle.regex_ast.specs.declared.expr.Atom.{Atom}
use Rattle.regex_ast.specs.declared.twolc.SetOf.{SetOf}
use Rattle.project_meaning.specs.Trees.{Set}
use Rattle.grammar_pairs.specs.Plain.{set_of}
use Rattle.grammar_pairs.specs.Tables.{HasSymbol, IsMember}
use Rattle.grammar_pairs.proofs.Sets.{set_more, sets_front}
use Rattle.grammar_pairs.proofs.symbol_set.sets_of.Goals as goal

pub sets-preserved : goal.sets-preserved
sets-preserved c =
    let sets = c.args.sets.now in
    let i = c.sets.set-index in
    let set = c.set-item.result in
    let table = c.put.new.self in
    let front = sets_front sets i set (omega arith) c.set-item.is in
    let taken = rw c.as_str.ensures at c.taken_out-symbols.ensures.symbols in
    let others = rw c.as_str.ensures at c.taken_out-symbols.ensures.others in
    let added = rw c.deref.ensures.value at c.in_ok-add_symbols.ensures in
    let put = rw c.as_str-in-sets.ensures at c.in_ok-put.ensures in
    subst (λ (z : List (Set Atom)). (name : List ℕ) (s : Sym) → HasSymbol table name s ↔ IsMember z name s) (sym front)
    (set_more c.sets.table c.taken_out-symbols.new.table table (map set_of (take i sets)) (set_of set) c.taken_out-symbols.result c.add_symbols.new.set c.sets.invariant taken others added put)

pub returns : goal.returns
returns c =
    subst (λ (z : List (SetOf Atom)). (name : List ℕ) (s : Sym) → HasSymbol c.sets.table name s ↔ IsMember (map set_of z) name s) (take_all c.sets.set-index c.args.sets.now (omega arith)) c.sets.invariant

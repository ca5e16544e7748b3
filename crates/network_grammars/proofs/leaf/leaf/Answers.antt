use Rattle.std.proofs.Common.{IfOk, sym, subst}
use Rattle.std.proofs.lemmas.Result.{IfOk-weaker}
use Rattle.regex_ast.specs.Terms.{atom}
use Rattle.regex_ast.specs.declared.expr.Atom.{Atom}
use Rattle.regex_ast.specs.declared.twolc.PairPart.{PairPart}
use Rattle.grammar_pairs.specs.Fitting.{Fits, IsTwice}
use Rattle.grammar_pairs.specs.Plain.{pair_of, part_of}
use Rattle.network_grammars.specs.PairMeaning.{HasWordsOf}
use Rattle.network_grammars.proofs.LeafWords.{named_over, numbers_over, pair_words, set_words}
use Rattle.network_grammars.proofs.leaf.leaf.Goals as goal

pub returns-in_ok-numbers-in-Atom-clause-letters : goal.returns-in_ok-numbers-in-Atom-clause-letters
returns-in_ok-numbers-in-Atom-clause-letters c =
    let scope = c.args.scope.now in
    IfOk-weaker _ _ _ (λ m. numbers_over scope c.requires (Fits scope.sets (pair_of c.in-Atom.pair)) c.in_ok-numbers-in-Atom.numbers.items c.in_ok-numbers-in-Atom.ensures m) (rw c.deref.ensures.value at c.one_of.ensures.letters)

pub returns-in_ok-numbers-in-Atom-clause-words : goal.returns-in_ok-numbers-in-Atom-clause-words
returns-in_ok-numbers-in-Atom-clause-words c =
    let scope = c.args.scope.now in
    subst (λ (p : PairPart Atom). IfOk c.one_of.result (HasWordsOf scope (atom (part_of p)))) (sym c.in-Atom.is)
    (IfOk-weaker _ _ _ (λ m. pair_words scope (pair_of c.in-Atom.pair) c.in_ok-numbers-in-Atom.numbers.items m c.in_ok-numbers-in-Atom.ensures) (rw c.deref.ensures.value at c.one_of.ensures.words))

pub returns-in-Some-clause-letters : goal.returns-in-Some-clause-letters
returns-in-Some-clause-letters c =
    let scope = c.args.scope.now in
    let found = sym (rw c.as_str.ensures at c.in-Some.ensures) in
    IfOk-weaker _ _ _ (λ m. named_over scope c.requires c.in-Named.name c.in-Some.words.now m found) c.without_edge.ensures.letters

pub returns-in_ok-numbers-in-None-clause-letters : goal.returns-in_ok-numbers-in-None-clause-letters
returns-in_ok-numbers-in-None-clause-letters c =
    let scope = c.args.scope.now in
    let has = rw c.as_str-in-None.ensures at c.in_ok-numbers-in-None.ensures in
    IfOk-weaker _ _ _ (λ m. numbers_over scope c.requires (IsTwice scope.sets c.in-Named.name) c.in_ok-numbers-in-None.numbers.items has m) (rw c.deref-in-None.ensures.value at c.one_of-in-None.ensures.letters)

pub returns-in_ok-numbers-in-None-clause-words : goal.returns-in_ok-numbers-in-None-clause-words
returns-in_ok-numbers-in-None-clause-words c =
    let scope = c.args.scope.now in
    let none = rw c.as_str.ensures at c.in-None.ensures in
    let has = rw c.as_str-in-None.ensures at c.in_ok-numbers-in-None.ensures in
    subst (λ (p : PairPart Atom). IfOk c.one_of-in-None.result (HasWordsOf scope (atom (part_of p)))) (sym c.in-Named.is)
    (IfOk-weaker _ _ _ (λ m. set_words scope c.in-Named.name none c.in_ok-numbers-in-None.numbers.items m has) (rw c.deref-in-None.ensures.value at c.one_of-in-None.ensures.words))

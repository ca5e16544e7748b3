use Rattle.std.proofs.Common.{◌↔◌, List, sym, subst}
use Rattle.std.specs.List.{Contains}
use Rattle.std.specs.Option.{IfSome}
use Rattle.std.proofs.lemmas.Result.{IfOk-weaker}
use Rattle.fsm_base.specs.declared.letters.Sym.{Sym}
use Rattle.fsa.specs.Automaton.{UsesLetter}
use Rattle.fsa.specs.Language.{Accepts}
use Rattle.word_relations.specs.Operations.{IsOneLetter}
use Rattle.network_algebra.proofs.CrossedLetters.{crossed_languages, crossed_lower_used, crossed_upper_used}
use Rattle.network_algebra.proofs.relations.cross.Goals as goal

pub returns-then-has_few_pairs-clause-upper : goal.returns-then-has_few_pairs-clause-upper
returns-then-has_few_pairs-clause-upper c =
    let a = c.args.a.now in
    let xs = c.in-Some.xs in
    let used : (x : Sym) → Contains xs.items x → UsesLetter a x = subst (λ o. IfSome o (λ letters. (x : Sym) → Contains letters.items x → UsesLetter a x)) c.in-Some.is c.in_ok-xs.ensures.letters in
    let xs_now = c.deref-then-has_few_pairs.result.now in
    let used_now : (x : Sym) → Contains xs_now x → UsesLetter a x = subst (λ (l : List Sym). (x : Sym) → Contains l x → UsesLetter a x) (sym c.deref-then-has_few_pairs.ensures.value) used in
    IfOk-weaker _ _ _ (λ m upper. crossed_upper_used m xs_now a upper used_now) c.crossed_letters.ensures.upper

pub returns-then-has_few_pairs-clause-lower : goal.returns-then-has_few_pairs-clause-lower
returns-then-has_few_pairs-clause-lower c =
    let b = c.args.b.now in
    let ys = c.in-Some-2.ys in
    let used : (x : Sym) → Contains ys.items x → UsesLetter b x = subst (λ o. IfSome o (λ letters. (x : Sym) → Contains letters.items x → UsesLetter b x)) c.in-Some-2.is c.in_ok-ys.ensures.letters in
    let ys_now = c.deref-then-has_few_pairs-2.result.now in
    let used_now : (y : Sym) → Contains ys_now y → UsesLetter b y = subst (λ (l : List Sym). (y : Sym) → Contains l y → UsesLetter b y) (sym c.deref-then-has_few_pairs-2.ensures.value) used in
    IfOk-weaker _ _ _ (λ m lower. crossed_lower_used m ys_now b lower used_now) c.crossed_letters.ensures.lower

pub returns-then-has_few_pairs-clause-relation : goal.returns-then-has_few_pairs-clause-relation
returns-then-has_few_pairs-clause-relation c =
    let a = c.args.a.now in
    let b = c.args.b.now in
    let xs = c.deref-then-has_few_pairs.result.now in
    let ys = c.deref-then-has_few_pairs-2.result.now in
    let first : (w : List Sym) → Accepts a w ↔ IsOneLetter c.in-Some.xs.items w = subst (λ o. IfSome o (λ letters. (w : List Sym) → Accepts a w ↔ IsOneLetter letters.items w)) c.in-Some.is c.in_ok-xs.ensures.language in
    let second : (w : List Sym) → Accepts b w ↔ IsOneLetter c.in-Some-2.ys.items w = subst (λ o. IfSome o (λ letters. (w : List Sym) → Accepts b w ↔ IsOneLetter letters.items w)) c.in-Some-2.is c.in_ok-ys.ensures.language in
    let first_slice = subst (λ (l : List Sym). (w : List Sym) → Accepts a w ↔ IsOneLetter l w) (sym c.deref-then-has_few_pairs.ensures.value) first in
    let second_slice = subst (λ (l : List Sym). (w : List Sym) → Accepts b w ↔ IsOneLetter l w) (sym c.deref-then-has_few_pairs-2.ensures.value) second in
    IfOk-weaker _ _ _ (λ m same. crossed_languages a b m xs ys first_slice second_slice same) c.crossed_letters.ensures.relation

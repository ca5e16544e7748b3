use Rattle.std.proofs.Common.{◌↔◌, IfSome, List, subst}
use Rattle.std.proofs.lemmas.Result.{IfOk-weaker}
use Rattle.fsa.specs.Automaton.{Automaton, UsesLetter}
use Rattle.fsa.specs.Language.{Accepts}
use Rattle.fsa_reduce.proofs.reduction.merged_often.Goals as goal

pub returns-in-Some-clause-letters : goal.returns-in-Some-clause-letters
returns-in-Some-clause-letters g c =
    subst (λ o. IfSome o (λ (m : Automaton g.row.L.Denot). (y : g.row.L.Denot) → UsesLetter m y → UsesLetter c.args.a.now y)) c.in-Some.is c.in_ok-few.ensures.letters

pub returns-in-Some-clause-language : goal.returns-in-Some-clause-language
returns-in-Some-clause-language g c =
    subst (λ o. IfSome o (λ (m : Automaton g.row.L.Denot). (v : List g.row.L.Denot) → Accepts m v ↔ Accepts c.args.a.now v)) c.in-Some.is c.in_ok-few.ensures.language

pub returns-in-Some-2-clause-letters : goal.returns-in-Some-2-clause-letters
returns-in-Some-2-clause-letters g c = λ x used.
    let few = subst (λ o. IfSome o (λ (m : Automaton g.row.L.Denot). (y : g.row.L.Denot) → UsesLetter m y → UsesLetter c.in_ok-m.m y)) c.in-Some-2.is c.in_ok-few-2.ensures.letters in
    c.in_ok-m.ensures.letters x (few x used)

pub returns-in-Some-2-clause-language : goal.returns-in-Some-2-clause-language
returns-in-Some-2-clause-language g c = λ w.
    let few = subst (λ o. IfSome o (λ (m : Automaton g.row.L.Denot). (v : List g.row.L.Denot) → Accepts m v ↔ Accepts c.in_ok-m.m v)) c.in-Some-2.is c.in_ok-few-2.ensures.language in (
      λ p. (c.in_ok-m.ensures.language w).0 ((few w).0 p),
      λ p. (few w).1 ((c.in_ok-m.ensures.language w).1 p),
    )

pub returns-in-None-clause-letters : goal.returns-in-None-clause-letters
returns-in-None-clause-letters g c = IfOk-weaker c.merged_in_turns.result _ _ (λ m h x u. c.in_ok-m.ensures.letters x (h x u)) c.merged_in_turns.ensures.letters

pub returns-in-None-clause-language : goal.returns-in-None-clause-language
returns-in-None-clause-language g c = IfOk-weaker c.merged_in_turns.result _ _ (λ m h w. (
  λ p. (c.in_ok-m.ensures.language w).0 ((h w).0 p),
  λ p. (h w).1 ((c.in_ok-m.ensures.language w).1 p),
)) c.merged_in_turns.ensures.language

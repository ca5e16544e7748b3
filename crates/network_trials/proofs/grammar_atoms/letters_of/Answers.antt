use Rattle.std.proofs.Common.{List, sym, ap, subst, ◌∙◌}
use Rattle.std.specs.List.{Contains}
use Rattle.std.proofs.lemmas.List.Elements.{Contains-get_or}
use Rattle.fsm_base.specs.declared.letters.Pair.{Pair}
use Rattle.fsm_base.specs.declared.letters.Bound.{Bound}
use Rattle.network_trials.proofs.Lists.{all_more}
use Rattle.network_trials.proofs.grammar_atoms.letters_of.Goals as goal
use Rattle.network_trials.proofs.grammar_atoms.letters_of.Goals.{then-may_be+in_ok-push, else-may_be}

pub letters-preserved : goal.letters-preserved
letters-preserved c =
    let letters = c.args.letters.now in
    elim c.if-may_be.branch [
      | then-may_be+in_ok-push w ↦
          subst (λ (l : List (Bound Pair)). (x : Bound Pair) → Contains l x → Contains letters x) (sym (ap (λ v. v.items) w.found-is ∙ w.in_ok-push.ensures.items))
          (all_more (Contains letters) c.letters.found.items _ c.letters.invariant (Contains-get_or letters c.letters.letter-index _ c.letters-test.true))
      | else-may_be w ↦ subst (λ (l : List (Bound Pair)). (x : Bound Pair) → Contains l x → Contains letters x) (sym (ap (λ v. v.items) w.found-is)) c.letters.invariant
    ]

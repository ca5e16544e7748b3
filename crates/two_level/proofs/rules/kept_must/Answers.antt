use Rattle.std.proofs.Common.{◌↔◌, List, Option, Some, subst, sym}
use Rattle.std.specs.List.{Contains}
use Rattle.std.proofs.lemmas.Result.{IfOk-weaker}
use Rattle.fsm_base.specs.declared.letters.Pair.{Pair}
use Rattle.two_level.specs.Rules.{IsOther}
use Rattle.two_level.proofs.KeptStrings.{must_kept}
use Rattle.two_level.proofs.rules.kept_must.Goals as goal

pub returns : goal.returns
returns c =
    let pairs = c.args.pairs.now in
    let pair = c.args.rule.now.pair in
    let others_are = subst (λ (l : List (Option Pair)). (o : Option Pair) → Contains l o ↔ IsOther pairs pair o) (sym c.deref.ensures.value) c.in_ok-others.ensures in
    IfOk-weaker _ _ _ (λ made. must_kept pairs pair c.args.rule.now.contexts.items c.args.holding.now c.requires.holding c.deref.result.now made others_are) c.standing_nowhere.ensures

pub standing_nowhere-requires-clause-fillings : goal.standing_nowhere-requires-clause-fillings
standing_nowhere-requires-clause-fillings c x among = ((c.in_ok-others.ensures (Some x)).0 (subst (λ (l : List (Option Pair)). Contains l (Some x)) c.deref.ensures.value among)).0

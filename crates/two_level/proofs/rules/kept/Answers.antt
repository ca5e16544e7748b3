use Rattle.std.proofs.lemmas.Result.{IfOk-weaker}
use Rattle.regex_ast.specs.declared.twolc.RuleKind.TheVariants.{Both}
use Rattle.two_level.proofs.KeptStrings.{both_kept, kept_by_kind}
use Rattle.two_level.proofs.rules.kept.Goals as goal

pub places_in-requires-clause-contexts : goal.places_in-requires-clause-contexts
places_in-requires-clause-contexts c = rw c.deref.ensures.value c.requires.rule.1

pub returns-in-Both : goal.returns-in-Both
returns-in-Both c =
    let rule = c.args.rule.now in
    IfOk-weaker _ _ _ (λ made is. kept_by_kind c.args.pairs.now rule Both made c.in-Both.is (both_kept c.args.pairs.now rule.pair rule.contexts.items c.in_ok-only-in-Both.only c.in_ok-must-in-Both.must made c.in_ok-only-in-Both.ensures c.in_ok-must-in-Both.ensures is)) c.both.ensures

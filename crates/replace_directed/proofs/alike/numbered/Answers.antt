use Rattle.std.proofs.Common.{◌∙◌}
use Rattle.replace_rules.specs.Alike.{MapIsLike, ContextIsLike, IsDivided}
use Rattle.replace_rules.proofs.Told.{EachOf, IfOk-both}
use Rattle.replace_directed.specs.Alike.{RuleIsLike}
use Rattle.replace_directed.proofs.ByFirsts.{rule_divided}
use Rattle.replace_directed.proofs.alike.numbered.Goals as goal

pub told_by_group-requires-clause-bounds : goal.told_by_group-requires-clause-bounds
told_by_group-requires-clause-bounds c = c.deref.ensures.value ∙ c.in_ok-bounds.ensures

pub returns : goal.returns
returns c =
    let syms = c.args.syms.now in
    let bounds = c.deref.result.now in
    let maps = c.args.maps.now in
    let contexts = c.args.contexts.now in
    IfOk-both c.told_by_group.result (λ new. IsDivided syms new.items (EachOf MapIsLike maps)) (λ new. IsDivided bounds new.items (EachOf ContextIsLike contexts)) (λ new. IsDivided syms new.items (RuleIsLike maps contexts))
    (λ new by_maps by_contexts. rule_divided syms bounds new.items maps contexts (c.deref.ensures.value ∙ c.in_ok-bounds.ensures) by_maps by_contexts) c.told_by_group.ensures.maps c.told_by_group.ensures.contexts

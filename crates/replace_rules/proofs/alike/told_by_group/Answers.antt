use Rattle.std.proofs.Common.{◌≡◌, List, ℕ, length, map, ap, sym, ◌∙◌}
use Rattle.std.proofs.lemmas.Result.{IfOk-weaker}
use Rattle.std.proofs.lemmas.List.{length-map}
use Rattle.fsm_base.specs.declared.letters.Bound.TheVariants.{Inner}
use Rattle.replace_rules.specs.Alike.{MapIsLike, ContextIsLike, IsDivided, IsFiner}
use Rattle.replace_rules.proofs.Told.{EachOf, IfOk-both, finer_more, group_maps}
use Rattle.replace_rules.proofs.alike.told_by_group.Goals as goal

pub told_by_contexts-requires : goal.told_by_contexts-requires
told_by_contexts-requires c = c.in_ok-by_maps.ensures.divided.count ∙ sym (ap length c.requires.bounds ∙ length-map c.args.syms.now Inner)

pub returns-clause-finer : goal.returns-clause-finer
returns-clause-finer c =
    IfOk-weaker c.told_by_contexts.result (λ new. IsFiner c.in_ok-by_maps.by_maps.items new.items) (λ new. IsFiner c.args.numbers.items new.items) (λ new second. finer_more c.args.numbers.items c.in_ok-by_maps.by_maps.items new.items c.in_ok-by_maps.ensures.finer second) c.told_by_contexts.ensures.finer

pub returns-clause-maps : goal.returns-clause-maps
returns-clause-maps c =
    let syms = c.args.syms.now in
    let bounds = c.args.bounds.now in
    let maps = c.args.maps.now in
    let contexts = c.args.contexts.now in
    let first = c.in_ok-by_maps.by_maps.items in
    IfOk-both c.told_by_contexts.result (λ new. IsFiner first new.items) (λ new. IsDivided bounds new.items (EachOf ContextIsLike contexts)) (λ new. IsDivided syms new.items (EachOf MapIsLike maps))
    (λ new finer divided. group_maps syms bounds maps contexts first new.items c.requires.bounds finer c.in_ok-by_maps.ensures.divided divided) c.told_by_contexts.ensures.finer c.told_by_contexts.ensures.divided

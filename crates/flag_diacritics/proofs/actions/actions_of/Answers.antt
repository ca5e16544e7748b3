use Rattle.std.proofs.Common.{◌≡◌, ◌+◌, Some, length, sym, ap, ◌∙◌}
use Rattle.std.specs.List.{slice_get}
use Rattle.std.proofs.lemmas.List.{length_push}
use Rattle.std.proofs.lemmas.Option.{slice_get-get_or}
use Rattle.flag_diacritics.proofs.Passing.{stand_more, stand_all}
use Rattle.flag_diacritics.proofs.actions.actions_of.Goals as goal

pub loop-flag-preserved : goal.loop-flag-preserved
loop-flag-preserved c =
    let flags = c.args.flags.now in
    let i = c.loop-flag.flag-index in
    let flag = c.flag-item.result in
    let at : slice_get flags i ≡ Some flag = slice_get-get_or flags i flag c.loop-flag-test.true ∙ ap Some (sym c.flag-item.is) in
    let given = c.in_ok-action.ensures in
    record {
      features_once = given.features_once;
      values_once = given.values_once;
      count = ap length c.in_ok-push.ensures.items ∙ length_push c.loop-flag.list.items c.in_ok-action.action ∙ ap (λ n. n + 1) c.loop-flag.invariant.count;
      stand = stand_more flags i flag c.in_ok-action.action c.loop-flag.features c.loop-flag.values c.action_of.new.features c.action_of.new.values c.loop-flag.list.items c.push.new.self.items
          at c.loop-flag.invariant.count c.in_ok-push.ensures.items given.features given.values given.action c.loop-flag.invariant.stand;
    }

pub returns : goal.returns
returns c = (
  c.loop-flag.features,
  c.loop-flag.values,
  stand_all c.args.flags.now c.loop-flag.flag-index c.loop-flag.features c.loop-flag.values c.loop-flag.list.items c.loop-flag-test.false c.loop-flag.auto.flag-index-end c.loop-flag.invariant.count c.loop-flag.invariant.features_once c.loop-flag.invariant.values_once c.loop-flag.invariant.stand,
  c.len.ensures.count,
)

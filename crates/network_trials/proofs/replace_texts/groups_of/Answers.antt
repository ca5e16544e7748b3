use Rattle.std.proofs.Common.{List, sym, subst}
use Rattle.std.specs.List.{Contains}
use Rattle.fsm_base.specs.Alphabet.{symbols_of}
use Rattle.replace_rules.specs.Rules.{AreMapsOver, IsMapOver}
use Rattle.replace_rules.specs.declared.rules.LangMap.{LangMap}
use Rattle.replace_rules.specs.declared.rules.LangGroup.{LangGroup}
use Rattle.network_trials.proofs.Lists.{all_more, all_none}
use Rattle.network_trials.proofs.replace_texts.groups_of.Goals as goal

pub groups-init : goal.groups-init
groups-init c =
    let symbols = symbols_of c.args.symbols.now.alphabet in
    subst (λ (l : List LangGroup). AreMapsOver symbols l) (sym c.new-groups.ensures.items)
    (all_none (λ (g : LangGroup). (m : LangMap) → Contains g.maps.items m → IsMapOver symbols m))

pub groups-preserved : goal.groups-preserved
groups-preserved c =
    let symbols = symbols_of c.args.symbols.now.alphabet in
    subst (λ (l : List LangGroup). AreMapsOver symbols l) (sym c.in_ok-push.ensures.items)
    (all_more (λ (g : LangGroup). (m : LangMap) → Contains g.maps.items m → IsMapOver symbols m) c.groups.groups.items c.in_ok-group_of.field-0 c.groups.invariant c.in_ok-group_of.ensures)

use Rattle.std.proofs.Common.{List, Option, sym, subst}
use Rattle.std.specs.List.{Contains}
use Rattle.std.specs.Option.{IfSome}
use Rattle.fsm_base.specs.Alphabet.{symbols_of}
use Rattle.replace_rules.specs.Rules.{IsMapOver}
use Rattle.replace_rules.specs.declared.rules.LangMap.{LangMap}
use Rattle.network_trials.proofs.Lists.{all_more}
use Rattle.network_trials.proofs.replace_texts.maps_of.Goals as goal

pub maps-preserved-in-Continue-branch-3 : goal.maps-preserved-in-Continue-branch-3
maps-preserved-in-Continue-branch-3 c =
    let symbols = symbols_of c.args.symbols.now.alphabet in
    let over = subst (λ (o : Option LangMap). IfSome o (IsMapOver symbols)) c.in-Some-2.is c.in_ok-map.ensures in
    subst (λ (l : List LangMap). (m : LangMap) → Contains l m → IsMapOver symbols m) (sym {A = List LangMap} c.in_ok-push.ensures.items) (all_more (IsMapOver symbols) c.maps.maps.items c.in-Some-2.map c.maps.invariant over)

use Rattle.std.proofs.Common.{reverse, subst, sym}
use Rattle.std.proofs.lemmas.Result.{IfOk-weaker}
use Rattle.fsm_base.specs.declared.letters.Pair.{Pair}
use Rattle.word_relations.specs.Relations.{AreSame}
use Rattle.fsa.specs.Automaton.{UsesLetter}
use Rattle.fst_algebra.specs.Relation.{IsRelated}
use Rattle.network_algebra.specs.Networks.{UsesSymbols}
use Rattle.expr_meaning.specs.Directed.{IsDirectedBy}
use Rattle.directed_words.specs.Laws.{from_right}
use Rattle.directed_words.proofs.Turned.{right_is_left_turned}
use Rattle.replace_directed.specs.Directed.{IsMatch, ReplacesIn, AreOver}
use Rattle.replace_directed.specs.Turned.{AreMatched, IsTurnedContext, IsTurnedMap}
use Rattle.replace_directed.proofs.TurnedRules.{matches_turned, replaces_turned, turned_over, symbols_turned}
use Rattle.replace_directed.proofs.directing.directed_from_right.Goals as goal

pub directed_from_left-requires-clause-over : goal.directed_from_left-requires-clause-over
directed_from_left-requires-clause-over c = subst (AreOver c.args.syms.now) (sym c.deref.ensures.value) (turned_over c.args.syms.now c.args.maps.now c.in_ok-around.around.items c.in_ok-around.ensures c.requires.over)

pub returns-clause-symbols : goal.returns-clause-symbols
returns-clause-symbols c =
    let syms = c.args.syms.now in
    let turned = c.in_ok-turned.turned in
    IfOk-weaker c.turned_network.result (λ m. (x : Pair) → UsesLetter m x → UsesLetter turned x) (UsesSymbols syms) (λ m used. symbols_turned syms turned m c.in_ok-turned.ensures.symbols used) c.turned_network.ensures.letters

pub returns-clause-relation : goal.returns-clause-relation
returns-clause-relation c =
    let syms = c.args.syms.now in
    let ms = c.args.maps.now in
    let cs = c.args.contexts.now in
    let ns = c.deref.result.now in
    let ds = c.deref-2.result.now in
    let turned = c.in_ok-turned.turned in
    let maps = subst (AreMatched IsTurnedMap ms) (sym c.deref.ensures.value) c.in_ok-around.ensures in
    let contexts = subst (AreMatched IsTurnedContext cs) (sym c.deref-2.ensures.value) c.in_ok-beside.ensures in
    IfOk-weaker c.turned_network.result (λ m. AreSame (IsRelated m) (λ u w. IsRelated turned (reverse u) (reverse w))) (λ m. AreSame (IsRelated m) (IsDirectedBy (IsMatch ms cs) syms (ReplacesIn ms cs) (from_right c.args.size)))
    (λ m same u w.
    let r = right_is_left_turned (IsMatch ms cs) (IsMatch ns ds) (ReplacesIn ms cs) (ReplacesIn ns ds) syms c.args.size u w (matches_turned ms ns cs ds maps contexts) (replaces_turned ms ns cs ds maps contexts) in
    let t = c.in_ok-turned.ensures.relation (reverse u) (reverse w) in
    (λ h. r.1 (t.0 ((same u w).0 h)), λ h. (same u w).1 (t.1 (r.0 h)))) c.turned_network.ensures.relation

use Rattle.std.proofs.Common.{◌≤◌, length, sym, arith, ◌∙◌}
use Rattle.std.proofs.lemmas.Bool.{false≢true}
use Rattle.lang_equal.specs.Pairs.{starts, IsPair, LeadsPair, IsFinalPair, SoughtFrom}
use Rattle.lang_equal.proofs.Searching.{search_start, search_more, search_none, search_hit}
use Rattle.lang_equal.proofs.Pairs.{pair_words}
use Rattle.lang_equal.proofs.search.Pairs.first_sought.Goals as goal

pub loop-number-init : goal.loop-number-init
loop-number-init g c =
    let which = c.args.self.now.sought in
    let a = c.args.self.now.first.now in
    let b = c.args.self.now.second.now in
    search_start a.letters starts (IsPair a b) (LeadsPair a b) (IsFinalPair which a b) (SoughtFrom which a b) (record { first = c.states.ensures.complete.start; second = c.states-2.ensures.complete.start })
    c.args.search.now.reached.keys c.args.search.now.steps.items c.requires.reached c.requires.steps

pub returns-then-is_final-clause-some : goal.returns-then-is_final-clause-some
returns-then-is_final-clause-some g c =
    let which = c.args.self.now.sought in
    let a = c.args.self.now.first.now in
    let b = c.args.self.now.second.now in
    let now = c.loop-number.search in
    search_hit a.letters starts (IsPair a b) (LeadsPair a b) (IsFinalPair which a b) (SoughtFrom which a b)
    (pair_words which a b c.states.ensures.complete c.states-2.ensures.complete c.requires.letters)
    c.loop-number.number now.reached.keys now.steps.items c.loop-number.invariant c.index-pair.result.now c.index-pair.ensures (c.is_final.ensures.0 c.if-is_final.true)

pub loop-number-preserved : goal.loop-number-preserved
loop-number-preserved g c =
    let which = c.args.self.now.sought in
    let a = c.args.self.now.first.now in
    let b = c.args.self.now.second.now in
    let new = c.reach_next.new.search in
    search_more a.letters starts (IsPair a b) (LeadsPair a b) (IsFinalPair which a b) (SoughtFrom which a b) c.loop-number.number new.reached.keys new.steps.items
    c.index-pair.result.now c.in_ok-reach_next.ensures.search c.in_ok-reach_next.ensures.pair c.in_ok-reach_next.ensures.next (λ final. false≢true (sym c.if-is_final.false ∙ c.is_final.ensures.1 final))

pub returns-clause-none : goal.returns-clause-none
returns-clause-none g c =
    let which = c.args.self.now.sought in
    let a = c.args.self.now.first.now in
    let b = c.args.self.now.second.now in
    let now = c.loop-number.search in
    let past : length now.reached.keys ≤ c.loop-number.number = omega (arith, c.loop-number-test.false, c.len.ensures.len) in
    λ none. search_none a.letters starts (IsPair a b) (LeadsPair a b) (IsFinalPair which a b) (SoughtFrom which a b)
    (pair_words which a b c.states.ensures.complete c.states-2.ensures.complete c.requires.letters) c.loop-number.number now.reached.keys now.steps.items c.loop-number.invariant past

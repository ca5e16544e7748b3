use Rattle.std.proofs.Common.{◌<◌, length, get_or, sym, subst, ◌∙◌}
use Rattle.std.proofs.lemmas.Bool.{false≢true}
use Rattle.std.proofs.lemmas.List.{get_or_default}
use Rattle.fsa_rational.proofs.Bypassing.{FollowsFinal, follows_final, follows_other, takes_more}
use Rattle.fsa_rational.proofs.lettered.take_over.Goals as goal
use Rattle.fsa_rational.proofs.lettered.take_over.Goals.{then-is_final, else-is_final}

pub add_lettered-requires-clause-within : goal.add_lettered-requires-clause-within
add_lettered-requires-clause-within g c =
    let state = c.args.state in
    let now = c.loop-source.m in
    let finals = c.args.a.now.finals in
    let source = get_or c.args.reached.now c.loop-source.source-index 0 in
    let there : state < length now.finals = rw c.loop-source.invariant.states c.requires.state in
    let follows : FollowsFinal finals state source now c.if-is_final.m =
    elim c.if-is_final.branch [
      | then-is_final w ↦ follows_final finals state source now c.if-is_final.m there (c.is_final.ensures.0 w.if-is_final.true) (w.m-is ∙ w.set_final.ensures)
      | else-is_final w ↦ subst (FollowsFinal finals state source now) (sym w.m-is) (follows_other finals state source now (λ f. false≢true (sym w.if-is_final.false ∙ c.is_final.ensures.1 f)))
    ] in
    λ e h. rw (follows.states ∙ c.loop-source.invariant.states) (c.requires.within e ((c.out.ensures e).0 h).0)

pub loop-source-preserved : goal.loop-source-preserved
loop-source-preserved g c =
    let state = c.args.state in
    let now = c.loop-source.m in
    let finals = c.args.a.now.finals in
    let i = c.loop-source.source-index in
    let source = get_or c.args.reached.now i 0 in
    let there : state < length now.finals = rw c.loop-source.invariant.states c.requires.state in
    let follows : FollowsFinal finals state source now c.if-is_final.m =
    elim c.if-is_final.branch [
      | then-is_final w ↦ follows_final finals state source now c.if-is_final.m there (c.is_final.ensures.0 w.if-is_final.true) (w.m-is ∙ w.set_final.ensures)
      | else-is_final w ↦ subst (FollowsFinal finals state source now) (sym w.m-is) (follows_other finals state source now (λ f. false≢true (sym w.if-is_final.false ∙ c.is_final.ensures.1 f)))
    ] in
    takes_more c.args.rows.now finals state c.args.reached.now i source c.loop-source-test.true (get_or_default c.args.reached.now i 0 source c.loop-source-test.true)
    c.args.m.now now c.if-is_final.m c.add_lettered.new.m c.out.result.now c.loop-source.invariant follows c.out.ensures c.in_ok-add_lettered.ensures

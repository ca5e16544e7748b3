use Rattle.std.proofs.Common.{◌≡◌, List, ℕ, [], true, refl, sym, subst, ◌∙◌}
use Rattle.std.proofs.lemmas.Option.{get_or_from_slice_get}
use Rattle.lookup.specs.Walks.{AreMoves, IsKnown, front_at}
use Rattle.lookup.specs.declared.walk.Leaving.{Leaving}
use Rattle.lookup.proofs.Moves.{kept_more, learnt_more, more_none}
use Rattle.lookup.proofs.walk.learn.Goals as goal

pub returns-then-is_known-clause-more : goal.returns-then-is_known-clause-more
returns-then-is_known-clause-more c = more_none c.args.sets.now

pub returns-then-is_known-clause-known : goal.returns-then-is_known-clause-known
returns-then-is_known-clause-known c = subst (λ (ls : List Leaving). IsKnown ls c.args.number) c.deref.ensures.value (c.is_known.ensures c.if-is_known.true)

pub returns-clause-learnt : goal.returns-clause-learnt
returns-clause-learnt c =
    let rows = c.args.rows.now in
    let old = c.args.sets.now in
    let new = c.moves_from.new.sets in
    let number = c.args.number in
    let own : Leaving = record { is_known = true; moves = c.in_ok-moves.moves } in
    let front : c.as_slice.result.now ≡ front_at old number = c.as_slice.ensures.value ∙ c.in_ok-front.ensures.items ∙ sym (get_or_from_slice_get old number c.get.result.now [] c.get.ensures) in
    let are = subst (λ (f : List ℕ). AreMoves rows new f c.in_ok-moves.moves.items) front c.in_ok-moves.ensures.moves in
    learnt_more rows old new c.args.leaving.now.items c.keep.new.leaving.items number own c.in_ok-moves.ensures.more c.requires.number c.requires.learnt are c.in_ok-keep.ensures.own c.in_ok-keep.ensures.others

pub returns-clause-known : goal.returns-clause-known
returns-clause-known c = (_, c.in_ok-keep.ensures.own, refl)

pub returns-clause-kept : goal.returns-clause-kept
returns-clause-kept c = kept_more c.args.leaving.now.items c.keep.new.leaving.items c.args.number _ refl c.in_ok-keep.ensures.own c.in_ok-keep.ensures.others

use Rattle.std.proofs.Common.{◌↔◌, ◌+◌, [], List, take, arith, sym, subst}
use Rattle.std.specs.List.{Contains}
use Rattle.std.proofs.lemmas.List.{take_all}
use Rattle.fsm_base.specs.declared.letters.Sym.{Sym}
use Rattle.word_relations.specs.Words.{IsDistinct}
use Rattle.word_relations.proofs.Places.{take_more-slice_get}
use Rattle.replace_rules.proofs.Listing.{none_distinct}
use Rattle.replace_rules.proofs.Told.{once_more}
use Rattle.replace_rules.proofs.alike.each_once.Goals as goal

pub loop-place-init : goal.loop-place-init
loop-place-init c = subst (λ (xs : List Sym). IsDistinct xs × ((s : Sym) → Contains xs s ↔ Contains [] s)) (sym c.new-once.ensures.items) (none_distinct, λ s. (λ h. h, λ h. h))

pub loop-place-preserved : goal.loop-place-preserved
loop-place-preserved c =
    let syms = c.args.syms.now in
    let k = c.loop-place.place in
    let x = c.symbol_at-sym.result in
    (c.in_ok-add_once.ensures.distinct, once_more (take (k + 1) syms) (take k syms) x c.loop-place.once.items _ (take_more-slice_get syms k x c.symbol_at-sym.ensures) c.loop-place.invariant.1 c.in_ok-add_once.ensures.same)

pub returns-clause-distinct : goal.returns-clause-distinct
returns-clause-distinct c = c.loop-place.invariant.0

pub returns-clause-same : goal.returns-clause-same
returns-clause-same c s = subst (λ ss. Contains c.loop-place.once.items s ↔ Contains ss s) (take_all c.loop-place.place c.args.syms.now (omega arith)) (c.loop-place.invariant.1 s)

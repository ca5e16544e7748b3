use Rattle.std.proofs.Common.{◌≡◌, ◌∙◌, ap, sym, length, subst, ◌++◌, ◌∷◌, [], ◌+◌, arith, length-append}
use Rattle.publish_board.specs.declared.law.Entry.TheVariants.{Value}
use Rattle.publish_board.specs.Histories.{IsLegal, values_of}
use Rattle.publish_board.proofs.Adding.{adds_moves}
use Rattle.publish_board.proofs.Beginnings.{may_add, added, grown_values, grown_entries, published_same}
use Rattle.publish_board.proofs.history.History.add.Goals as goal

pub compare_exchange-found-requires : goal.compare_exchange-found-requires
compare_exchange-found-requires g c =
    let word = c.self.invariant in
    let old = c.seen.inside.seen in
    let log = c.again-log.ensures in
    let offer = c.plain-offer.ensures in
    let pen = c.no_pen-pen.ensures in
    let number : g.V.Release.number_of c.args.next.now ≡ length (values_of old.log) + 1 = c.requires.number ∙ ap (λ p. length p.values + 1) (sym c.seen.view_is) in
    let may = may_add g.V.Release.number_of old.log c.args.next.now c.seen.invariant.1 c.seen.invariant.2 number in
    let here = ap (λ s. s.book) log ∙ (ap (λ p. p.board) c.seen.view_is ∙ (c.requires.board ∙ sym c.self.view_is)) in (
      ap (λ w. w.tracked) word,
      here,
      pen.0 ∙ here,
      offer.0,
      rw (ap (λ w. w.key) word, pen.1, offer.1, offer.3, ap (λ s. s.log) log) (adds_moves g.V.Release.number_of old.log (Value c.args.next.now) c.seen.inside.count (sym c.seen.invariant.0) may),
    )

pub invariant_of-result : goal.invariant_of-result
invariant_of-result g c =
    let old = c.seen.inside.seen in
    let new = c.compare_exchange-found.new.seen.log in
    let number : g.V.Release.number_of c.args.next.now ≡ length (values_of old.log) + 1 = c.requires.number ∙ ap (λ p. length p.values + 1) (sym c.seen.view_is) in
    let told = rw (c.plain-offer.ensures.1, ap (λ s. s.log) c.again-log.ensures) at c.compare_exchange-found.ensures.7 in
    let is : new ≡ old.log ++ Value c.args.next.now ∷ [] = added old.log new (Value c.args.next.now) _ _ c.if-found-old.true told in (
      omega (arith, c.seen.invariant.0, ap length is, length-append old.log (Value c.args.next.now ∷ [])),
      grown_entries old.log new c.args.next.now c.seen.invariant.1 is,
      subst (IsLegal g.V.Release.number_of) (sym is) (may_add g.V.Release.number_of old.log c.args.next.now c.seen.invariant.1 c.seen.invariant.2 number),
    )

pub returns-then-found-old : goal.returns-then-found-old
returns-then-found-old g c =
    let old = c.seen.inside.seen in
    let new = c.compare_exchange-found.new.seen.log in
    let told = rw (c.plain-offer.ensures.1, ap (λ s. s.log) c.again-log.ensures) at c.compare_exchange-found.ensures.7 in
    let is : new ≡ old.log ++ Value c.args.next.now ∷ [] = added old.log new (Value c.args.next.now) _ _ c.if-found-old.true told in
    published_same _ _ _ _ (c.compare_exchange-found.ensures.0 ∙ (ap (λ s. s.book) c.again-log.ensures ∙ ap (λ p. p.board) c.seen.view_is)) (grown_values old.log new c.args.next.now c.seen.invariant.1 is ∙ ap (λ p. p.values ++ c.args.next.now ∷ []) c.seen.view_is)

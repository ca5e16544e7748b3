use Rattle.std.proofs.Common.{◌≡◌, ◌∙◌, ap, sym, ◌++◌, ◌∷◌, []}
use Rattle.publish_board.specs.declared.law.Entry.TheVariants.{Closed}
use Rattle.publish_board.proofs.Adding.{adds_moves}
use Rattle.publish_board.proofs.Beginnings.{may_close, added, closed_values, closed_entries, published_same}
use Rattle.publish_board.proofs.history.History.close.Goals as goal

pub compare_exchange-found-requires : goal.compare_exchange-found-requires
compare_exchange-found-requires g c =
    let word = c.self.invariant in
    let old = c.seen.inside.seen in
    let log = c.again-log.ensures in
    let offer = c.plain-offer.ensures in
    let pen = c.no_pen-pen.ensures in
    let may = may_close g.V.Release.number_of old.log c.seen.invariant.1 c.seen.invariant.2 in
    let here = ap (λ s. s.book) log ∙ (ap (λ p. p.board) c.seen.view_is ∙ (c.requires.board ∙ sym c.self.view_is)) in (
      ap (λ w. w.tracked) word,
      here,
      pen.0 ∙ here,
      offer.0,
      rw (ap (λ w. w.key) word, pen.1, offer.1, offer.3, ap (λ s. s.log) log) (adds_moves g.V.Release.number_of old.log Closed c.seen.inside.count (sym c.seen.invariant.0) may),
    )

pub invariant_of-result : goal.invariant_of-result
invariant_of-result g c =
    let old = c.seen.inside.seen in
    let new = c.compare_exchange-found.new.seen.log in
    let told = rw (c.plain-offer.ensures.1, ap (λ s. s.log) c.again-log.ensures) at c.compare_exchange-found.ensures.7 in
    closed_entries old.log new c.seen.invariant.1 (added old.log new Closed _ _ c.if-found-old.true told)

pub returns-then-found-old : goal.returns-then-found-old
returns-then-found-old g c =
    let old = c.seen.inside.seen in
    let new = c.compare_exchange-found.new.seen.log in
    let told = rw (c.plain-offer.ensures.1, ap (λ s. s.log) c.again-log.ensures) at c.compare_exchange-found.ensures.7 in
    let is : new ≡ old.log ++ Closed ∷ [] = added old.log new Closed _ _ c.if-found-old.true told in
    published_same _ _ _ _ (c.compare_exchange-found.ensures.0 ∙ ap (λ s. s.book) c.again-log.ensures) (closed_values old.log new c.seen.invariant.1 is) ∙ c.seen.view_is

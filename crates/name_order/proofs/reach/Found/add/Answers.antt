use Rattle.std.proofs.Common.{Some, refl, ap, ◌∙◌}
use Rattle.std.proofs.lemmas.Option.{slice_get_read}
use Rattle.name_order.proofs.Adding.{adds_new, adds_old}
use Rattle.name_order.proofs.reach.Found.add.Goals as goal

pub returns-then-index : goal.returns-then-index
returns-then-index c =
    adds_old c.args.self.now c.args.place c.requires.found (slice_get_read _ _ c.args.place c.index.result.now refl c.requires.within c.index.ensures ∙ ap Some c.if-index.true)

pub returns : goal.returns
returns c =
    adds_new c.args.self.now _ c.args.place c.requires.found (slice_get_read _ _ c.args.place c.index.result.now refl c.requires.within c.index.ensures ∙ ap Some c.if-index.false) refl c.in_ok-push.ensures.items

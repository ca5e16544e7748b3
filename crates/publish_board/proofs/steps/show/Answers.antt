use Rattle.std.proofs.Common.{◌≡◌, ◌∙◌, ap, sym, fold, drop, ◌∷◌, []}
use Rattle.std.proofs.lemmas.List.Sums.{fold-append}
use Rattle.publish_board.proofs.Knowing.{keeps_show}
use Rattle.publish_board.proofs.steps.show.Goals as goal

pub publish_as-next-requires : goal.publish_as-next-requires
publish_as-next-requires g c next is views h at =
    let w = c.loop.writer in
    let last : next ≡ c.args.page = is ∙ (ap (fold (λ _ n. n) w.desk.shown.value) (c.loop.invariant.3 ∙ c.queue-writer.ensures.pending) ∙ fold-append _ _ (drop c.args.writer.behind c.args.writer.log.items) (c.args.page ∷ [])) in
    keeps_show _ _ _ views (ap (λ p. p.board) last ∙ (c.requires.board ∙ (ap (λ d. d.shown.value.board) (sym c.queue-writer.ensures.desk) ∙ sym c.loop.invariant.2))) h

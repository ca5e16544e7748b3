use Rattle.std.proofs.Common.{refl, sym, ◌∙◌}
use Rattle.fsm_base.proofs.TextLemmas.{read_at}
use Rattle.fsm_base.proofs.texts.TextTable.hinted_place.Goals as goal

pub returns-then-are_same : goal.returns-then-are_same
returns-then-are_same c =
    rw (← c.self.view_is) (read_at c.args.text.now c.self.inside.texts.keys c.in_ok-place.place _ (sym c.in_ok-found.ensures.key)
    (sym c.as_str.ensures.value ∙ c.if-are_same.ensures.0 refl))

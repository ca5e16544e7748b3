use Rattle.std.proofs.Common.{length, refl, ap, ◌∙◌}
use Rattle.std.proofs.lemmas.Option.{slice_get_read}
use Rattle.fsm_base.specs.Symbols.{with_text}
use Rattle.touched_names.proofs.Numbers.{with_next}
use Rattle.touched_names.proofs.texts.Texts.of.Goals as goal

pub texts-preserved : goal.texts-preserved
texts-preserved c = λ distinct.
    let at = slice_get_read c.args.texts.now (length c.args.texts.now) c.texts.text-index c.text-item.result refl c.texts-test.true c.text-item.is in
    c.in_ok-add.ensures ∙ ap (λ s. with_text s c.texts.all) c.as_str.ensures ∙ ap (with_text c.text-item.result) (c.texts.invariant distinct)
    ∙ with_next c.args.texts.now distinct c.texts.text-index c.text-item.result at

use Rattle.std.proofs.Common.{length, refl, ap, ◌∙◌}
use Rattle.std.proofs.lemmas.Option.{slice_get_read}
use Rattle.lookup.specs.declared.walk.Leaving.{Leaving}
use Rattle.lookup.proofs.walk.is_known.Goals as goal

pub returns : goal.returns
returns c = λ is. (
  c.index-leaving-number.result,
  slice_get_read c.args.leaving.now (length c.args.leaving.now) c.args.number c.index-leaving-number.result refl c.if-count-number.false c.index-leaving-number.is,
  ap (λ (l : Leaving). l.is_known) c.index-leaving-number.is ∙ is,
)

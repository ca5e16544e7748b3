use Rattle.fsa_minimal.proofs.Moving.{by_class}
use Rattle.fsa_minimal.proofs.folding.images_of.Goals as goal

pub returns : goal.returns
returns c = by_class c.args.classes.now c.args.numbers.now c.loop-class.images.items c.loop-class.class-index c.loop-class-test.false c.loop-class.invariant.same

use Rattle.std.proofs.Common.{subst, sym}
use Rattle.fsa_minimal.specs.Folding.{AreByClass}
use Rattle.fsa_minimal.proofs.Apart.{fewest_images}
use Rattle.fsa_minimal.proofs.Images.{images_language}
use Rattle.fsa_minimal.proofs.minimization.minimal.Goals as goal

pub returns-then-are_reached-clause-language : goal.returns-then-are_reached-clause-language
returns-then-are_reached-clause-language g c = λ w.
    images_language c.args.a.now c.in_ok-small.small.automaton c.states-2.ensures.complete c.in_ok-small.ensures.letters c.deref.result.now (c.are_images.ensures c.if-are_images.true) w

pub returns-then-are_reached-clause-fewest : goal.returns-then-are_reached-clause-fewest
returns-then-are_reached-clause-fewest g c =
    let class_of = c.in_ok-partition.partition.class_of.items in
    fewest_images c.args.a.now c.in_ok-small.small.automaton c.states-2.ensures.complete c.states.ensures.complete c.in_ok-small.ensures.letters c.deref.result.now (c.are_images.ensures c.if-are_images.true)
    class_of c.in_ok-partition.ensures.count c.in_ok-partition.ensures.apart (subst (λ xs. AreByClass class_of xs) (sym c.deref.ensures.value) c.in_ok-small.ensures.images) (c.are_reached.ensures c.if-are_reached.true)

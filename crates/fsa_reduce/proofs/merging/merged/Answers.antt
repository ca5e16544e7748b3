use Rattle.std.proofs.Common.{length, subst}
use Rattle.std.specs.List.{Contains}
use Rattle.fsa_reduce.proofs.MergedLanguage.{numbered_within}
use Rattle.fsa_reduce.proofs.merging.merged.Goals as goal

pub classes_of-requires-clause-within : goal.classes_of-requires-clause-within
classes_of-requires-clause-within g c = λ e h.
    let a = c.args.a.now in
    let numbered = c.in_ok-with_numbers.with_numbers.edges.items in
    let given = rw c.edges.ensures.edges at c.in_ok-with_numbers.ensures in
    let within = numbered_within a.edges c.in_ok-with_numbers.with_numbers.letters.items numbered (length a.finals) c.edges.ensures.formed.within given in
    rw c.finals.ensures.finals (within e (subst (λ es. Contains es e) c.deref.ensures.value h))

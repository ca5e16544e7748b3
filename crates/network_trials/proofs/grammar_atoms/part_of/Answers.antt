use Rattle.word_relations.proofs.Members.{Contains-nil_cases}
use Rattle.network_trials.proofs.Lists.{joined_only, found_only}
use Rattle.network_trials.proofs.grammar_atoms.part_of.Goals as goal

pub atoms-init : goal.atoms-init
atoms-init c x used = absurd (Contains-nil_cases x (c.in_ok-part.ensures.letters x used))

pub atoms-preserved : goal.atoms-preserved
atoms-preserved c =
    let letters = c.args.letters.now in
    let next = c.in_ok-next.next in
    let used = rw c.deref.ensures.value at c.in_ok-next.ensures.letters in
    joined_only letters c.atoms.part next c.in_ok-part-2.part c.in_ok-part-2.ensures.letters c.atoms.invariant (found_only letters c.in_ok-letters_of.field-0.items next c.in_ok-letters_of.ensures used)

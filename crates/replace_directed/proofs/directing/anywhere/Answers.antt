use Rattle.word_relations.proofs.Members.{Contains-nil_cases}
use Rattle.replace_directed.proofs.directing.anywhere.Goals as goal

pub of-requires-clause-all : goal.of-requires-clause-all
of-requires-clause-all c x used = absurd (Contains-nil_cases x (c.in_ok-empty.ensures.letters x used))

pub of-requires-2-clause-all : goal.of-requires-2-clause-all
of-requires-2-clause-all c x used = absurd (Contains-nil_cases x (c.in_ok-empty.ensures.letters x used))

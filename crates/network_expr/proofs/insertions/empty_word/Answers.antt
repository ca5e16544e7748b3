use Rattle.word_relations.proofs.Members.{Contains-nil_cases}
use Rattle.network_expr.proofs.insertions.empty_word.Goals as goal

pub of-requires-clause-all : goal.of-requires-clause-all
of-requires-clause-all c x used = absurd (Contains-nil_cases x (c.in_ok-word.ensures.letters x used))

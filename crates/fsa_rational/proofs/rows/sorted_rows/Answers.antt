use Rattle.std.proofs.Common.{◌≡◌, rules}
use Rattle.std.proofs.lemmas.List.Sorted.{answers_always}
use Rattle.fsa_rational.proofs.rows.sorted_rows.Goals as goal

pub returns-clause-sorted : goal.returns-clause-sorted
returns-clause-sorted g c =
    c.sort_unstable_by_key.ensures.sorted (λ row. row.0) (answers_always _ (λ a r. r ≡ a.0.now.0) _ (λ f a r q k. search rules))

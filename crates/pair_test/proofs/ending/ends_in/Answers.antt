use Rattle.std.proofs.Common.{inl, inr}
use Rattle.std.proofs.lemmas.Result.{IfOk-weaker}
use Rattle.pair_test.proofs.Endings.{ends}
use Rattle.pair_test.proofs.ending.ends_in.Goals as goal

pub determine-requires-clause-all : goal.determine-requires-clause-all
determine-requires-clause-all c x used =
    elim (c.in_ok-ending.ensures.letters x used) [
      | inl before ↦ c.in_ok-one_letter.ensures.letters x (c.in_ok-any.ensures.letters x before)
      | inr part ↦ c.requires.only x part
    ]

pub returns-clause-words : goal.returns-clause-words
returns-clause-words c =
    IfOk-weaker _ _ _ (λ d made. ends c.args.letters.now c.in_ok-one_letter.field-0 c.in_ok-any.any c.args.end.now c.in_ok-ending.ending d c.in_ok-one_letter.ensures.language c.in_ok-any.ensures.language c.in_ok-ending.ensures.language made)
    c.determine.ensures.language

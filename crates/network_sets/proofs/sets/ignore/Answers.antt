use Rattle.std.proofs.Common.{inl, inr}
use Rattle.std.proofs.lemmas.Result.{IfOk-weaker}
use Rattle.fsa.specs.Language.{Accepts}
use Rattle.network_algebra.specs.Networks.{all_letters}
use Rattle.network_sets.proofs.Inside.{only_through, ignoring_words}
use Rattle.network_sets.proofs.sets.ignore.Goals as goal

pub language-requires-clause-only : goal.language-requires-clause-only
language-requires-clause-only c x used = elim (c.in_ok-mixed.ensures.letters x used) [ inl first ↦ c.requires.first x first | inr second ↦ c.requires.second x second ]

pub returns-clause-letters : goal.returns-clause-letters
returns-clause-letters c =
    let symbols = c.args.symbols.now in
    IfOk-weaker _ _ _ (λ m. only_through symbols c.in_ok-language.field-0 (all_letters symbols) m c.in_ok-language.ensures.over (λ x h. h)) c.to_fsa-2.ensures.letters

pub returns-clause-words : goal.returns-clause-words
returns-clause-words c =
    IfOk-weaker _ _ _ (λ m. ignoring_words (all_letters c.args.symbols.now) (Accepts c.args.a.now) (Accepts c.args.b.now) c.in_ok-mixed.mixed c.in_ok-language.field-0 m c.in_ok-language.ensures c.in_ok-mixed.ensures.language)
    c.to_fsa-2.ensures.language

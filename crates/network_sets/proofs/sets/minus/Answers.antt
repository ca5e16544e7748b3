use Rattle.std.proofs.Common.{sym, ◌∙◌}
use Rattle.std.proofs.lemmas.Result.{IfOk-weaker}
use Rattle.fsa.specs.Language.{Accepts}
use Rattle.network_algebra.specs.Networks.{all_letters}
use Rattle.network_sets.proofs.Inside.{only_through, minus_words}
use Rattle.network_sets.proofs.sets.minus.Goals as goal

pub minus-requires : goal.minus-requires
minus-requires c = c.in_ok-second.ensures.over ∙ sym c.in_ok-first.ensures.over

pub returns-clause-letters : goal.returns-clause-letters
returns-clause-letters c =
    let symbols = c.args.symbols.now in
    IfOk-weaker _ _ _ (λ m. only_through symbols c.in_ok-minus.field-0 (all_letters symbols) m (c.in_ok-minus.ensures.over ∙ c.in_ok-first.ensures.over) (λ x h. h)) c.to_fsa-2.ensures.letters

pub returns-clause-words : goal.returns-clause-words
returns-clause-words c =
    IfOk-weaker _ _ _ (λ m. minus_words (all_letters c.args.symbols.now) (Accepts c.args.a.now) (Accepts c.args.b.now) c.in_ok-first.first c.in_ok-second.second c.in_ok-minus.field-0 c.in_ok-first.ensures c.in_ok-second.ensures m c.in_ok-minus.ensures)
    c.to_fsa-2.ensures.language

use Rattle.std.proofs.Common.{◌∙◌}
use Rattle.std.proofs.lemmas.Result.{IfOk-weaker}
use Rattle.network_algebra.specs.Networks.{all_letters}
use Rattle.network_sets.proofs.Splits.{both_only, context_words}
use Rattle.network_sets.proofs.Restrictions.{parts_only}
use Rattle.network_sets.proofs.restricting.in_context.Goals as goal

pub returns-clause-letters : goal.returns-clause-letters
returns-clause-letters c =
    let symbols = c.args.symbols.now in
    let any = c.in_ok-any.any in
    let before = c.in_ok-before.before in
    let behind = c.in_ok-behind.behind in
    let any_is = rw (c.deref.ensures.value ∙ c.in_ok-every_letter.ensures) at c.in_ok-any.ensures.letters in
    IfOk-weaker _ _ _ (λ m. parts_only symbols before any behind m (both_only (all_letters symbols) any c.args.left.now before c.in_ok-before.ensures.letters any_is c.requires.left) any_is
    (both_only (all_letters symbols) c.args.right.now any behind c.in_ok-behind.ensures.letters c.requires.right any_is)) c.split_words.ensures.letters

pub returns-clause-words : goal.returns-clause-words
returns-clause-words c =
    let any_is = rw (c.deref.ensures.value ∙ c.in_ok-every_letter.ensures) at c.in_ok-any.ensures.words in
    IfOk-weaker _ _ _ (λ m. context_words c.args.symbols.now c.args.left.now c.args.right.now c.in_ok-any.any c.in_ok-before.before c.in_ok-behind.behind m any_is c.in_ok-before.ensures.language c.in_ok-behind.ensures.language) c.split_words.ensures.words

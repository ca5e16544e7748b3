use Rattle.std.proofs.Common.{◌∙◌}
use Rattle.std.proofs.lemmas.Result.{IfOk-weaker}
use Rattle.fsa.specs.Complete.{Accepts}
use Rattle.network_algebra.specs.Networks.{all_letters}
use Rattle.two_level.proofs.MarkedStrings.{both_only, parts_only}
use Rattle.two_level.proofs.ContextPlaces.{context_words, lang_only}
use Rattle.two_level.proofs.places.in_context.Goals as goal

pub returns-clause-letters : goal.returns-clause-letters
returns-clause-letters c =
    let pairs = c.args.pairs.now in
    let any = c.in_ok-any.any in
    let left = c.in_ok-to_fsa.field-0 in
    let right = c.in_ok-to_fsa-2.field-0 in
    let before = c.in_ok-before.before in
    let behind = c.in_ok-behind.behind in
    let any_is = rw (c.deref.ensures.value ∙ c.in_ok-every_letter.ensures) at c.in_ok-any.ensures.letters in
    let left_is = lang_only pairs c.args.context.now.left left c.requires.0 c.in_ok-to_fsa.ensures.letters in
    let right_is = lang_only pairs c.args.context.now.right right c.requires.1 c.in_ok-to_fsa-2.ensures.letters in
    IfOk-weaker _ _ _ (λ m. parts_only pairs before behind m (both_only (all_letters pairs) any left before c.in_ok-before.ensures.letters any_is left_is) (both_only (all_letters pairs) right any behind c.in_ok-behind.ensures.letters right_is any_is)) c.marked_strings.ensures.letters

pub returns-clause-words : goal.returns-clause-words
returns-clause-words c =
    let any_is = rw (c.deref.ensures.value ∙ c.in_ok-every_letter.ensures) at c.in_ok-any.ensures.words in
    IfOk-weaker _ _ _
    (λ m. context_words c.args.pairs.now (Accepts c.args.context.now.left) (Accepts c.args.context.now.right) c.in_ok-to_fsa.field-0 c.in_ok-to_fsa-2.field-0 c.in_ok-any.any c.in_ok-before.before c.in_ok-behind.behind m
    c.in_ok-to_fsa.ensures.language c.in_ok-to_fsa-2.ensures.language any_is c.in_ok-before.ensures.language c.in_ok-behind.ensures.language) c.marked_strings.ensures.words

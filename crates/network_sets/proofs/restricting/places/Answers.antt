use Rattle.std.proofs.Common.{◌∙◌}
use Rattle.std.proofs.lemmas.Result.{IfOk-weaker}
use Rattle.network_algebra.specs.Networks.{all_letters}
use Rattle.network_sets.proofs.Splits.{both_only, place_words}
use Rattle.network_sets.proofs.Restrictions.{parts_only, inner_only, edge_only, edged_only, edged_part}
use Rattle.network_sets.proofs.restricting.places.Goals as goal

pub returns-clause-letters : goal.returns-clause-letters
returns-clause-letters c =
    let symbols = c.args.symbols.now in
    let any = c.in_ok-any.any in
    let edge = c.in_ok-edge.edge in
    let before = c.in_ok-concat.field-0 in
    let behind = c.in_ok-concat-2.field-0 in
    let part = c.in_ok-part.part in
    let any_only = inner_only symbols any (rw (c.deref.ensures.value ∙ c.in_ok-inner_letters.ensures) at c.in_ok-any.ensures.letters) in
    let edges = edge_only symbols edge c.in_ok-edge.ensures.letters in
    IfOk-weaker _ _ _ (λ m. parts_only symbols before part behind m (both_only (all_letters symbols) edge any before c.in_ok-concat.ensures.letters edges any_only)
    (edged_only symbols c.args.centre.now c.in_ok-inside.field-0 part c.in_ok-inside.ensures.letters c.in_ok-part.ensures.letters c.requires)
    (both_only (all_letters symbols) any edge behind c.in_ok-concat-2.ensures.letters any_only edges)) c.split_words-3.ensures.letters

pub returns-clause-words : goal.returns-clause-words
returns-clause-words c =
    let any_is = rw (c.deref.ensures.value ∙ c.in_ok-inner_letters.ensures) at c.in_ok-any.ensures.words in
    IfOk-weaker _ _ _ (λ m. place_words c.args.symbols.now c.args.centre.now c.in_ok-any.any c.in_ok-edge.edge c.in_ok-part.part c.in_ok-concat.field-0 c.in_ok-concat-2.field-0 m any_is c.in_ok-edge.ensures.language
    (edged_part c.args.centre.now c.in_ok-inside.field-0 c.in_ok-part.part c.in_ok-inside.ensures.words c.in_ok-part.ensures.words) c.in_ok-concat.ensures.language c.in_ok-concat-2.ensures.language) c.split_words-3.ensures.words

use Rattle.std.proofs.Common.{◌∙◌}
use Rattle.std.proofs.lemmas.Result.{IfOk-weaker}
use Rattle.network_algebra.specs.Networks.{all_letters}
use Rattle.two_level.proofs.MarkedStrings.{both_only, parts_only}
use Rattle.two_level.proofs.ContextPlaces.{place_words, edge_only, inner_only}
use Rattle.two_level.proofs.places.places.Goals as goal

pub returns-clause-letters : goal.returns-clause-letters
returns-clause-letters c =
    let pairs = c.args.pairs.now in
    let any = c.in_ok-any.any in
    let edge = c.in_ok-edge.edge in
    let before = c.in_ok-before.before in
    let behind = c.in_ok-behind.behind in
    let inside = inner_only pairs any (rw (c.deref.ensures.value ∙ c.in_ok-inner_letters.ensures) at c.in_ok-any.ensures.letters) in
    let edges = edge_only pairs edge c.in_ok-edge.ensures.letters in
    IfOk-weaker _ _ _ (λ m. parts_only pairs before behind m (both_only (all_letters pairs) edge any before c.in_ok-before.ensures.letters edges inside) (both_only (all_letters pairs) any edge behind c.in_ok-behind.ensures.letters inside edges)) c.marked_strings.ensures.letters

pub returns-clause-words : goal.returns-clause-words
returns-clause-words c =
    let any_is = rw (c.deref.ensures.value ∙ c.in_ok-inner_letters.ensures) at c.in_ok-any.ensures.words in
    IfOk-weaker _ _ _ (λ m. place_words c.args.pairs.now c.in_ok-any.any c.in_ok-edge.edge c.in_ok-before.before c.in_ok-behind.behind m any_is c.in_ok-edge.ensures.language c.in_ok-before.ensures.language c.in_ok-behind.ensures.language) c.marked_strings.ensures.words

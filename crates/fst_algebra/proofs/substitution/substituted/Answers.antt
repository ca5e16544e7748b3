use Rattle.std.proofs.Common.{◌≡◌, ap, sym, ◌∙◌}
use Rattle.std.specs.List.{Contains}
use Rattle.fsa_rational.proofs.Extended.{each_more, each_past, each_all}
use Rattle.fst_algebra.specs.Substituted.{CarriesImage, letter_or_epsilon}
use Rattle.fst_algebra.proofs.SubstitutedWords.{substituted_language, substituted_letters, one_edge, no_edge}
use Rattle.fst_algebra.proofs.substitution.substituted.Goals as goal
use Rattle.fst_algebra.proofs.substitution.substituted.Goals.{in-Letter, in-Epsilon}

pub add_edge-requires-clause-from : goal.add_edge-requires-clause-from
add_edge-requires-clause-from g c =
    let held : Contains c.edges-edge-items.result.now c.edge-item.result = (c.loop-edge.edge-index, c.loop-edge-test.true, sym c.edge-item.is) in
    let there = rw c.edges-edge-items.ensures.edges at held in
    rw (c.loop-edge.invariant.finals ∙ ap (λ m. m.finals) c.in_ok-m.ensures) (c.edges-edge-items.ensures.formed.within c.edge-item.result there).0

pub add_edge-requires-clause-to : goal.add_edge-requires-clause-to
add_edge-requires-clause-to g c =
    let held : Contains c.edges-edge-items.result.now c.edge-item.result = (c.loop-edge.edge-index, c.loop-edge-test.true, sym c.edge-item.is) in
    let there = rw c.edges-edge-items.ensures.edges at held in
    rw (c.loop-edge.invariant.finals ∙ ap (λ m. m.finals) c.in_ok-m.ensures) (c.edges-edge-items.ensures.formed.within c.edge-item.result there).1

pub loop-edge-preserved-in-Nothing : goal.loop-edge-preserved-in-Nothing
loop-edge-preserved-in-Nothing g c =
    let image = g.S.Substitution.image c.args.substitution.now in
    each_past (CarriesImage image) c.edges-edge-items.result.now c.loop-edge.edge-index c.edge-item.result c.loop-edge-test.true c.edge-item.is
    c.in_ok-m.m c.loop-edge.m (no_edge image c.edge-item.result c.image_on_edge.result c.image_on_edge.ensures c.in-Nothing.is) c.loop-edge.invariant

pub loop-edge-preserved : goal.loop-edge-preserved
loop-edge-preserved g c =
    let image = g.S.Substitution.image c.args.substitution.now in
    let old = c.edge-item.result in
    let found = c.image_on_edge.result in
    let letter = c.match-image_on_edge.letter in
    let is : found ≡ letter_or_epsilon letter =
    elim c.match-image_on_edge.branch as (λ _. found ≡ letter_or_epsilon letter) [
      | in-Letter w ↦ rw w.letter-is w.in-Letter.is
      | in-Epsilon w ↦ rw w.letter-is w.in-Epsilon.is
    ] in
    each_more (CarriesImage image) c.edges-edge-items.result.now c.loop-edge.edge-index old c.loop-edge-test.true c.edge-item.is
    c.in_ok-m.m c.loop-edge.m c.add_edge.new.self c.loop-edge.invariant (one_edge image old c.loop-edge.m c.add_edge.new.self letter found c.image_on_edge.ensures is c.in_ok-add_edge.ensures.ok)

pub returns-clause-letters : goal.returns-clause-letters
returns-clause-letters g c =
    let image = g.S.Substitution.image c.args.substitution.now in
    let whole = each_all (CarriesImage image) c.edges-edge-items.result.now c.loop-edge.edge-index c.in_ok-m.m c.loop-edge.m c.loop-edge-test.false c.loop-edge.invariant in
    let made = rw c.edges-edge-items.ensures.edges at whole in
    substituted_letters image c.args.a.now c.in_ok-m.m c.loop-edge.m (ap (λ m. m.edges) c.in_ok-m.ensures) (ap (λ m. m.finals) c.in_ok-m.ensures) made

pub returns-clause-language : goal.returns-clause-language
returns-clause-language g c =
    let image = g.S.Substitution.image c.args.substitution.now in
    let whole = each_all (CarriesImage image) c.edges-edge-items.result.now c.loop-edge.edge-index c.in_ok-m.m c.loop-edge.m c.loop-edge-test.false c.loop-edge.invariant in
    let made = rw c.edges-edge-items.ensures.edges at whole in
    substituted_language image c.args.a.now c.in_ok-m.m c.loop-edge.m (ap (λ m. m.edges) c.in_ok-m.ensures) (ap (λ m. m.finals) c.in_ok-m.ensures) made

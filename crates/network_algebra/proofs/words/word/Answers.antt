use Rattle.std.proofs.Common.{◌≡◌, Some, sym, ap, subst, ◌∙◌}
use Rattle.std.specs.List.{Contains}
use Rattle.word_relations.proofs.Places.{Contains-from_slice_get}
use Rattle.network_algebra.proofs.WordAlone.{alone_accepts}
use Rattle.network_algebra.proofs.words.word.Goals as goal

pub returns-clause-letters : goal.returns-clause-letters
returns-clause-letters g c x (e, has, carries) =
    let step = (c.in_ok-add_steps.ensures.edges e).0 has in
    let same : step.0 ≡ x = let z : Some step.0 ≡ Some x = sym step.2 ∙ carries in cc in
    subst (Contains c.args.letters.now) same (Contains-from_slice_get c.args.letters.now e.from step.0 step.1)

pub returns-clause-language : goal.returns-clause-language
returns-clause-language g c =
    alone_accepts c.add_steps.new.m c.args.letters.now (c.in_ok-add_steps.ensures.finals ∙ ap (λ m. m.finals) c.in_ok-m.ensures) c.in_ok-add_steps.ensures.edges

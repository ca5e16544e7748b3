use Rattle.std.proofs.Common.{◌<◌, length, sym, subst}
use Rattle.std.specs.List.{Contains}
use Rattle.word_relations.specs.Words.{IsDistinct}
use Rattle.fsa_subset.specs.Placed.{IsPlaced}
use Rattle.fsa_subset.proofs.Placing.{placed_within}
use Rattle.fsa_subset.proofs.Language.{determined}
use Rattle.fsa_subset.proofs.subsets.determine.Goals as goal

pub built_sets-requires-clause-edges : goal.built_sets-requires-clause-edges
built_sets-requires-clause-edges g c =
    placed_within c.args.letters.now c.edges.result.now c.deref.result.now (length c.finals.result.now) (subst (IsPlaced c.args.letters.now c.edges.result.now) (sym c.deref.ensures.value) c.in_ok-edges.ensures)
    (λ e h. subst (λ fs. e.to < length fs) (sym c.finals.ensures.finals) (c.edges.ensures.formed.within e (subst (λ es. Contains es e) c.edges.ensures.edges h)).1)

pub of-requires-clause-distinct : goal.of-requires-clause-distinct
of-requires-clause-distinct g c = subst IsDistinct (sym c.in_ok-letters.ensures.items) c.requires.distinct

pub returns-clause-language : goal.returns-clause-language
returns-clause-language g c =
    determined c.args.a.now c.args.letters.now c.edges.result.now c.deref.result.now c.finals.result.now c.in_ok-built.built.finals.items c.in_ok-built.built.next.items
    (subst (IsPlaced c.args.letters.now c.edges.result.now) (sym c.deref.ensures.value) c.in_ok-edges.ensures) c.edges.ensures.edges c.finals.ensures.finals c.requires.all c.in_ok-built.ensures c.of.result c.in_ok-letters.letters.items c.in_ok-letters.ensures.items c.of.ensures

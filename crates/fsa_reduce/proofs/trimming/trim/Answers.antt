use Rattle.std.proofs.Common.{get_or, false, ◌∙◌}
use Rattle.fsa_reduce.proofs.Trims.{trimmed_within, built_letters, built_language}
use Rattle.fsa_reduce.proofs.trimming.trim.Goals as goal

pub kept_edges-requires : goal.kept_edges-requires
kept_edges-requires g c = rw (c.deref.ensures.value, c.in_ok-numbers.ensures.count ∙ c.states.ensures.number) (λ e h. c.edges.ensures.formed.within e (rw c.edges.ensures.edges at h))

pub of-requires-clause-within : goal.of-requires-clause-within
of-requires-clause-within g c =
    let are = rw c.deref.ensures.value at c.in_ok-edges.ensures in
    λ e h. trimmed_within c.in_ok-kept.kept.found c.in_ok-numbers.numbers.items c.in_ok-numbers.ensures.numbering (λ k. get_or c.finals.result.now k false) c.in_ok-finals.finals.items (rw c.found.ensures.found at c.in_ok-finals.ensures) c.edges.result.now e ((are e).0 h)

pub returns-clause-letters : goal.returns-clause-letters
returns-clause-letters g c =
    let a = c.args.a.now in
    let kept = c.in_ok-kept.kept in
    let numbers = c.in_ok-numbers.numbers.items in
    rw c.of.ensures
    (built_letters a kept c.in_ok-kept.ensures.bound c.in_ok-kept.ensures.start c.in_ok-kept.ensures.live c.found.ensures.bounded numbers c.in_ok-numbers.ensures.numbering c.in_ok-numbers.ensures.start
    c.in_ok-finals.finals.items (rw (c.finals.ensures.finals, c.found.ensures.found) at c.in_ok-finals.ensures) c.in_ok-edges.edges.items (rw (c.edges.ensures.edges, c.deref.ensures.value) at c.in_ok-edges.ensures))

pub returns-clause-language : goal.returns-clause-language
returns-clause-language g c =
    let a = c.args.a.now in
    let kept = c.in_ok-kept.kept in
    let numbers = c.in_ok-numbers.numbers.items in
    rw c.of.ensures
    (built_language a kept c.in_ok-kept.ensures.bound c.in_ok-kept.ensures.start c.in_ok-kept.ensures.live c.found.ensures.bounded numbers c.in_ok-numbers.ensures.numbering c.in_ok-numbers.ensures.start
    c.in_ok-finals.finals.items (rw (c.finals.ensures.finals, c.found.ensures.found) at c.in_ok-finals.ensures) c.in_ok-edges.edges.items (rw (c.edges.ensures.edges, c.deref.ensures.value) at c.in_ok-edges.ensures))

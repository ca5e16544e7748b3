use Rattle.std.proofs.Common.{ap}
use Rattle.std.proofs.lemmas.Result.{on_ok_weaker}
use Rattle.std.specs.List.{flat_map}
use Rattle.grammar_pairs.specs.Feasible.{of_atom, of_context}
use Rattle.grammar_pairs.proofs.Growing.{more_alike, more_twice}
use Rattle.grammar_pairs.proofs.feasible.add_rule.Goals as goal

pub returns : goal.returns
returns c =
    let r = c.args.rule.now in
    let now = c.add_atom.new.pairs.keys in
    let new = c.add_contexts.new.pairs.keys in
    on_ok_weaker c.add_contexts.result
    (λ h. more_twice c.args.pairs.now.keys now new (of_atom r.pair) (flat_map of_context r.contexts.items) c.in_ok-add_atom.ensures
    (more_alike now new (flat_map of_context c.deref.result.now) (flat_map of_context r.contexts.items) (ap (flat_map of_context) c.deref.ensures.value) h))
    c.add_contexts.ensures

use Rattle.std.proofs.Common.{◌++◌, ap}
use Rattle.std.specs.List.{flat_map}
use Rattle.grammar_pairs.specs.Feasible.{feasible, of_atom, of_definition, of_rule}
use Rattle.grammar_pairs.proofs.Growing.{from_nothing, more_alike, more_twice}
use Rattle.grammar_pairs.proofs.feasible.feasible_pairs.Goals as goal

pub returns : goal.returns
returns c =
    let g = c.args.grammar.now in
    let none = c.new-pairs.result.keys in
    let one = c.add_atoms.new.pairs.keys in
    let two = c.add_definitions.new.pairs.keys in
    let three = c.add_rules.new.pairs.keys in
    let A = flat_map of_atom g.pairs.items in
    let B = flat_map of_definition g.definitions.items in
    let C = flat_map of_rule g.rules.items in
    let a = more_alike none one (flat_map of_atom c.deref.result.now) A (ap (flat_map of_atom) c.deref.ensures.value) c.in_ok-add_atoms.ensures in
    let b = more_alike one two (flat_map of_definition c.deref-2.result.now) B (ap (flat_map of_definition) c.deref-2.ensures.value) c.in_ok-add_definitions.ensures in
    let d = more_alike two three (flat_map of_rule c.deref-3.result.now) C (ap (flat_map of_rule) c.deref-3.ensures.value) c.in_ok-add_rules.ensures in
    from_nothing none three (feasible g) c.new-pairs.ensures.len (more_twice none two three (A ++ B) C (more_twice none one two A B a b) d)

use Rattle.std.proofs.Common.{ap, sym}
use Rattle.std.proofs.lemmas.Result.{on_ok_weaker}
use Rattle.grammar_pairs.specs.Feasible.{of_atom, of_part}
use Rattle.grammar_pairs.proofs.Growing.{more_alike}
use Rattle.grammar_pairs.proofs.feasible.add_part.Goals as goal

pub returns-in-Atom : goal.returns-in-Atom
returns-in-Atom c =
    on_ok_weaker c.add_atom.result
    (more_alike c.args.pairs.now.keys c.add_atom.new.pairs.keys (of_atom c.in-Atom.atom) (of_part c.args.part.now) (ap of_part (sym c.in-Atom.is)))
    c.add_atom.ensures

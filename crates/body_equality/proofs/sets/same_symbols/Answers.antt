use Rattle.std.proofs.Common.{refl, sym, ◌∙◌, arith}
use Rattle.regex_ast.specs.declared.expr.Atom.{Atom}
use Rattle.body_equality.specs.Renumbered.{renumbered}
use Rattle.body_equality.proofs.Same.{goes_to_end, map_itself}
use Rattle.body_equality.proofs.sets.same_symbols.Goals as goal

pub returns : goal.returns
returns c =
    let same = goes_to_end (λ (a : Atom). a) (renumbered c.args.numbers.now) c.args.others.now c.args.symbols.now c.places.place (omega arith) (omega arith) c.places.invariant in
    (λ yes. sym (map_itself c.args.others.now) ∙ same, λ is. refl)

use Rattle.std.proofs.Common.{◌≡◌, sym, subst, ◌∙◌}
use Rattle.project_meaning.specs.Leaves.{leaf_of}
use Rattle.name_resolution.specs.Names.{is_named}
use Rattle.name_resolution.proofs.GrammarLeaves.{run_test}
use Rattle.name_resolution.proofs.names.Names.is_name.Goals as goal

pub returns-in-Run : goal.returns-in-Run
returns-in-Run c = let has = rw c.as_str.ensures at c.contains.ensures in subst (λ leaf. c.contains.result ≡ is_named (leaf_of c.args.self.now leaf)) (sym c.in-Run.is) (has ∙ run_test c.args.self.now c.in-Run.text)

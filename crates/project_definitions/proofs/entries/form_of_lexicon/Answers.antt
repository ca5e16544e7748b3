use Rattle.std.proofs.Common.{List, ℕ, ◌==◌, length, ap, sym, ◌∙◌}
use Rattle.expr_kinds.specs.Atoms.{weights_at}
use Rattle.name_resolution.specs.Plain.{lexicon_of}
use Rattle.project_definitions.proofs.Telling.{nameless}
use Rattle.project_definitions.proofs.entries.form_of_lexicon.Goals as goal

pub returns-then-is_empty-clause-weight : goal.returns-then-is_empty-clause-weight
returns-then-is_empty-clause-weight c =
    nameless (weights_at c.args.names.now) (lexicon_of c.args.lexicon.now) (ap (λ (t : List ℕ). length t == 0) (sym c.as_str.ensures) ∙ sym c.is_empty.ensures ∙ c.if-is_empty.true)

use Rattle.std.proofs.Common.{◌≡◌, subst, sym}
use Rattle.name_resolution.specs.Plain.{piece_of}
use Rattle.project_model.specs.Gathered.{gathered}
use Rattle.name_resolution.specs.Symbols.{symbols_in_piece}
use Rattle.project_model.proofs.Gathering.{gathered_none}
use Rattle.project_model.proofs.symbols.add_piece.Goals as goal

pub returns-in-Flag : goal.returns-in-Flag
returns-in-Flag c =
    let table = c.args.table.now in
    sym (subst (λ p. gathered table (symbols_in_piece (piece_of p)) ≡ table) (sym c.in-Flag.is) (gathered_none table c.requires))

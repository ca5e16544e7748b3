use Rattle.std.proofs.Common.{◌≡◌, drop}
use Rattle.project_meaning.specs.Projects.{with_texts}
use Rattle.lexc_reader.proofs.Features.{features_of}
use Rattle.lexc_reader.proofs.state.add_features.Given as goal

-- the features so far, and those of the other pieces
abbrev pub invariant-pieces : goal.invariant-pieces
invariant-pieces l = with_texts l.features (features_of (drop l.piece-index l.side)) ≡ with_texts l.fn.features (features_of l.side)

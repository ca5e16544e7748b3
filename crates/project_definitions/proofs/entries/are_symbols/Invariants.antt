use Rattle.std.proofs.Common.{All, map, take}
use Rattle.expr_kinds.specs.Atoms.{is_symbol}
use Rattle.name_resolution.specs.Plain.{piece_of}
use Rattle.project_sources.specs.Built.{PieceIsBuiltBy}
use Rattle.project_definitions.proofs.entries.are_symbols.Given as goal

-- the pieces so far are symbols and flags
abbrev pub invariant-pieces : goal.invariant-pieces
invariant-pieces l = All (PieceIsBuiltBy is_symbol) (map piece_of (take l.piece-index l.side))

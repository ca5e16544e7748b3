use Rattle.std.proofs.Common.{◌≡◌, ◌+◌, ◌≤◌, length, drop, map}
use Rattle.std.specs.List.{flat_map}
use Rattle.name_resolution.specs.Plain.{piece_of}
use Rattle.project_model.specs.Gathered.{gathered}
use Rattle.name_resolution.specs.Symbols.{symbols_in_piece}
use Rattle.project_sources.specs.Limits.{most_symbols}
use Rattle.project_model.proofs.symbols.add_side.Given as goal

-- the symbols of the other pieces are left
abbrev pub invariant-pieces : goal.invariant-pieces
invariant-pieces l = record {
  same : gathered l.table (flat_map symbols_in_piece (map piece_of (drop l.piece-index l.side))) ≡ gathered l.fn.table (flat_map symbols_in_piece (map piece_of l.side));
  short : length l.table ≤ most_symbols + 1;
}

use Rattle.std.proofs.Common.{◌≡◌, ◌+◌, ◌≤◌, ◌++◌, [], All, map, length, drop}
use Rattle.fsm_base.specs.Symbols.{IsSymbol}
use Rattle.project_manifest.specs.Lines.{symbols_of}
use Rattle.project_manifest.specs.Sayings.{placed_of}
use Rattle.project_sources.specs.Limits.{most_symbols}
use Rattle.project_model.specs.Answers.{written_of}
use Rattle.project_model.specs.Gathered.{gathered, symbols_of_all}
use Rattle.project_model.proofs.plan.alphabet_of.Given as goal

-- the symbols of the other lines are left
abbrev pub invariant-lines : goal.invariant-lines
invariant-lines l = record {
  same : gathered l.alphabet (symbols_of (map placed_of (drop l.line-index l.lines))) ≡ gathered [] (symbols_of_all l.names (map written_of l.written) ++ symbols_of (map placed_of l.lines));
  short : length l.alphabet ≤ most_symbols + 1;
  symbols : All IsSymbol (symbols_of (map placed_of (drop l.line-index l.lines)));
}

use Rattle.std.proofs.Common.{◌≡◌, ◌+◌, ◌≤◌, length, drop}
use Rattle.project_model.specs.Gathered.{gathered}
use Rattle.project_sources.specs.Limits.{most_symbols}
use Rattle.project_model.proofs.plan.add_texts.Given as goal

-- the other texts are left
abbrev pub invariant-texts : goal.invariant-texts
invariant-texts l = record {
  same : gathered l.table (drop l.text-index l.texts) ≡ gathered l.fn.table l.texts;
  short : length l.table ≤ most_symbols + 1;
}

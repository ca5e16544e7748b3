use Rattle.std.proofs.Common.{◌≡◌, ◌≤◌, length, take}
use Rattle.project_model.specs.Numbered.{numbers_in}
use Rattle.project_model.proofs.plan.numbers_of.Given as goal

-- the numbers so far
abbrev pub invariant-numbers : goal.invariant-numbers
invariant-numbers l = record {
  so_far : l.symbols.items ≡ numbers_in l.table (take l.number l.alphabet);
  few : l.number-end ≤ 16777216;
  all : l.number-end ≡ length l.alphabet;
}

use Rattle.std.proofs.Common.{◌≡◌, ◌+◌, ◌≤◌, length, take}
use Rattle.project_meaning.specs.Projects.{with_texts}
use Rattle.project_model.proofs.plan.intern_all.Given as goal

-- the symbols so far are in the table
abbrev pub invariant-numbers : goal.invariant-numbers
invariant-numbers l = record {
  texts : l.table ≡ with_texts l.fn.table (take l.number l.alphabet);
  grown : length l.table ≤ length l.fn.table + l.number;
  few : l.number-end ≤ 16777216;
  all : l.number-end ≡ length l.alphabet;
}

use Rattle.std.proofs.Common.{refl}
use Rattle.project_store.proofs.shared.copied.Goals as goal

pub returns-in_ok-reduced-in-Flagged : goal.returns-in_ok-reduced-in-Flagged
returns-in_ok-reduced-in-Flagged c = rw c.in-Flagged.is (record {
  kind = refl;
  over = λ symbols uses. c.in_ok-reduced-in-Flagged.ensures.letters symbols uses;
  relation = c.in_ok-reduced-in-Flagged.ensures.relation;
})

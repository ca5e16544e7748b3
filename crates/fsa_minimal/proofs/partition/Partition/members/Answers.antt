use Rattle.std.proofs.Common.{◌≡◌, ◌↔◌, ℕ, Some}
use Rattle.std.specs.List.{slice_get, Contains}
use Rattle.std.proofs.lemmas.Result.{IfOk-weaker}
use Rattle.fsa_minimal.specs.Splitting.{Holds}
use Rattle.fsa_minimal.proofs.partition.Partition.members.Goals as goal

pub returns : goal.returns
returns c =
    let a = c.args.self.now in
    let class = c.args.class in
    IfOk-weaker c.members_of.result
    (λ members. (s : ℕ) → Contains members.items s ↔ (Holds a.members.items class s × (slice_get a.class_of.items s ≡ Some class)))
    (λ members. (s : ℕ) → Contains members.items s ↔ (slice_get a.class_of.items s ≡ Some class))
    (λ members is s. (λ h. ((is s).0 h).1, λ h. (is s).1 (c.requires.classes.held s class h, h)))
    (rw (c.deref.ensures.value, c.deref-2.ensures.value) at c.members_of.ensures)

use Rattle.std.proofs.Common.{◌≡◌, ◌↔◌, ℕ, Some}
use Rattle.std.specs.List.{slice_get, Contains}
use Rattle.std.proofs.lemmas.Result.{IfOk-weaker}
use Rattle.fsa_minimal.specs.Splitting.{Holds}
use Rattle.fsa_minimal.proofs.Moving.{holds_in}
use Rattle.fsa_minimal.proofs.partition.members_of.Goals as goal

pub returns : goal.returns
returns c =
    let lists = c.args.lists.now in
    let class = c.args.class in
    let list = c.deref.result.now in
    IfOk-weaker c.those_in.result
    (λ members. (s : ℕ) → Contains members.items s ↔ (Contains list s × (slice_get c.args.class_of.now s ≡ Some class)))
    (λ members. (s : ℕ) → Contains members.items s ↔ (Holds lists class s × (slice_get c.args.class_of.now s ≡ Some class)))
    (λ members is. holds_in lists class c.index-lists-class.result list members.items (λ s. slice_get c.args.class_of.now s ≡ Some class) c.requires c.index-lists-class.is c.deref.ensures.value is)
    c.those_in.ensures

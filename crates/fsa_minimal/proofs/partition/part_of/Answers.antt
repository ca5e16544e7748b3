use Rattle.std.proofs.Common.{◌≡◌, ◌<◌, ◌↔◌, ℕ, IsTrue, Some, arith}
use Rattle.std.specs.List.{slice_get, Contains}
use Rattle.std.proofs.lemmas.Result.{IfOk-weaker}
use Rattle.std.proofs.lemmas.List.Elements.{All-same}
use Rattle.fsa_minimal.specs.Splitting.{Holds}
use Rattle.fsa_minimal.proofs.Kept.{Keeps, Keeps-then}
use Rattle.fsa_minimal.proofs.Moving.{kept_there}
use Rattle.fsa_minimal.proofs.partition.part_of.Goals as goal

pub those_with-requires : goal.those_with-requires
those_with-requires c =
    let members = c.in_ok-members.members.items in
    All-same (λ s. s < c.args.marked.now.bound) c.deref.result.now members c.deref.ensures.value
    (λ k d l. let w = kept_there c.args.class_of.now c.args.class members (Holds c.args.lists.now c.args.class) c.in_ok-members.ensures k d l in let b = c.requires.bound in omega arith)

pub returns : goal.returns
returns c =
    let A : ℕ → Type 0 = Holds c.args.lists.now c.args.class in
    let P : ℕ → Type 0 = λ s. slice_get c.args.class_of.now s ≡ Some c.args.class in
    let Q : ℕ → Type 0 = λ s. IsTrue c.args.are_marked ↔ Contains c.args.marked.now.found s in
    IfOk-weaker c.those_with.result (λ part. Keeps Q c.in_ok-members.members.items part.items) (λ part. (s : ℕ) → Contains part.items s ↔ (A s × (P s × Q s)))
    (λ part is. Keeps-then A P Q c.in_ok-members.members.items part.items c.in_ok-members.ensures is) (rw c.deref.ensures.value at c.those_with.ensures)

use Rattle.std.proofs.Common.{sym, subst}
use Rattle.std.specs.List.{Contains}
use Rattle.std.proofs.lemmas.List.Filters.{dedup_is}
use Rattle.std.proofs.lemmas.List.Kept.{Contains-dedup, Contains-from_dedup}
use Rattle.std.proofs.lemmas.List.Sorted.{Contains-permutation, IsPermutation-sym}
use Rattle.fsa_explore.proofs.SameMarks.{mark_eq, marks_same, mark_eq_equiv}
use Rattle.fsa_explore.proofs.signatures.order_marks.Goals as goal

pub returns : goal.returns
returns c =
    let found = c.args.marks.now.items in
    let sorted = c.sort_unstable.new.self.items in
    let kept = c.dedup.new.self.items in
    let is = dedup_is mark_eq sorted kept c.dedup.ensures.filtered in
    let moved = c.sort_unstable.ensures.permutation in
    λ m. (
      λ h. Contains-permutation sorted found m (IsPermutation-sym found sorted moved) (Contains-from_dedup mark_eq sorted m (subst (λ ms. Contains ms m) is h)),
      λ h. subst (λ ms. Contains ms m) (sym is) (Contains-dedup mark_eq_equiv marks_same sorted m (Contains-permutation found sorted m moved h)),
    )

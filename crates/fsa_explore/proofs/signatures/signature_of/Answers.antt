use Rattle.std.proofs.Common.{refl, sym, subst}
use Rattle.std.specs.List.{Contains}
use Rattle.fsa_explore.proofs.signatures.signature_of.Goals as goal

pub returns : goal.returns
returns c =
    let kept = c.order_marks.new.marks.items in (
      kept,
      rw (c.in_ok-add_marks.ensures, c.in_ok-push.ensures.items, c.in_ok-signature.ensures.items, c.deref.ensures.value, c.end_number.ensures) refl,
      λ m. (
        λ h. subst (λ ms. Contains ms m) c.in_ok-marks.ensures ((c.order_marks.ensures m).0 h),
        λ h. (c.order_marks.ensures m).1 (subst (λ ms. Contains ms m) (sym c.in_ok-marks.ensures) h),
      ),
    )

use Rattle.std.proofs.Common.{◌≡◌, ◌↔◌, ◌⊎◌, Bool, true, false, refl, sym, subst, ◌∙◌, inl, inr, IfOk, IsTrue}
use Rattle.std.proofs.lemmas.Result.{IfOk-weaker}
use Rattle.twolc_tokens.specs.Cuts.{HasFlag, IsFlagRun}
use Rattle.twolc_tokens.proofs.lexer.has_flag.Goals as goal

true_false : true ≡ false → ⊥
true_false e = cc

pub returns-in_default : goal.returns-in_default
returns-in_default c = subst (λ o. IfOk c.is_flag_run.result (λ has. IsTrue has ↔ HasFlag c.args.atom.now o)) (sym c.in_default.ensures) c.is_flag_run.ensures

pub returns-then-branch : goal.returns-then-branch
returns-then-branch c =
    subst (λ o. (IsTrue true → HasFlag c.args.atom.now o) × (HasFlag c.args.atom.now o → IsTrue true)) (sym c.in-Some.ensures) ((λ t. inl (c.in_ok-is_flag_run.ensures.0 c.if-branch.true)), (λ f. refl))

pub returns : goal.returns
returns c =
    let weaker : (has : Bool) → (IsTrue has ↔ IsFlagRun c.in-Some.low.now) → IsTrue has ↔ (IsFlagRun c.in-Some.up.now ⊎ IsFlagRun c.in-Some.low.now) =
    λ has h. ((λ t. inr (h.0 t)), (λ f. elim f [ inl u ↦ absurd (true_false (sym (c.in_ok-is_flag_run.ensures.1 u) ∙ c.if-branch.false)) | inr l ↦ h.1 l ])) in
    subst (λ o. IfOk c.is_flag_run-3.result (λ has. IsTrue has ↔ HasFlag c.args.atom.now o)) (sym c.in-Some.ensures) (IfOk-weaker _ _ _ weaker c.is_flag_run-3.ensures)

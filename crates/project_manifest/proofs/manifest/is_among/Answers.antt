use Rattle.std.proofs.Common.{List, ℕ, true≢false, sym, subst, ◌∙◌, arith}
use Rattle.std.proofs.lemmas.List.{take_all}
use Rattle.std.proofs.lemmas.Slice.Eq.{bytes_eq-Decides}
use Rattle.std.specs.List.{Contains}
use Rattle.project_manifest.proofs.Looking.{not_so_far}
use Rattle.project_manifest.proofs.manifest.is_among.Goals as goal

pub files-preserved : goal.files-preserved
files-preserved c =
    not_so_far c.args.files.now c.files.named-index c.named-item.result (omega arith) c.named-item.is c.args.file.now c.files.invariant
    (λ same. true≢false (sym ((bytes_eq-Decides c.as_str.result.now c.as_str-in-files.result.now).1 (c.as_str.ensures ∙ same ∙ sym c.as_str-in-files.ensures)) ∙ sym c.eq.ensures ∙ c.if-eq.false))

pub returns : goal.returns
returns c = (
  λ never. absurd cc,
  λ h. absurd (c.files.invariant (subst (λ (z : List (List ℕ)). Contains z c.args.file.now) (sym (take_all c.files.named-index c.args.files.now (omega arith))) h)),
)

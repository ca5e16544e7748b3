use Rattle.std.proofs.Common.{List, map, refl, sym, subst, ◌∙◌, arith}
use Rattle.std.proofs.lemmas.List.{take_all}
use Rattle.project_manifest.specs.Reading.{HaveGlosses}
use Rattle.project_manifest.specs.Sayings.{placed_of}
use Rattle.project_manifest.specs.declared.manifest.ManifestLine.{ManifestLine}
use Rattle.project_manifest.proofs.Looking.{glosses_here, no_glosses, no_glosses_yet}
use Rattle.project_manifest.proofs.manifest.have_glosses.Goals as goal

pub lines-init : goal.lines-init
lines-init c = no_glosses

pub returns-then-is_glosses : goal.returns-then-is_glosses
returns-then-is_glosses c = (λ _. glosses_here c.args.lines.now c.lines.line-index c.line-item.result (omega arith) c.line-item.is (sym c.is_glosses.ensures ∙ c.if-is_glosses.true), λ _. refl)

pub lines-preserved : goal.lines-preserved
lines-preserved c = no_glosses_yet c.args.lines.now c.lines.line-index c.line-item.result (omega arith) c.line-item.is c.lines.invariant (sym c.is_glosses.ensures ∙ c.if-is_glosses.false)

pub returns : goal.returns
returns c = (λ never. absurd cc, λ have. absurd (c.lines.invariant (subst (λ (z : List ManifestLine). HaveGlosses (map placed_of z)) (sym (take_all c.lines.line-index c.args.lines.now (omega arith))) have)))

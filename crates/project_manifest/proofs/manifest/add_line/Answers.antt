use Rattle.std.proofs.Common.{List, map, sym, ap, subst, ◌∙◌}
use Rattle.std.proofs.lemmas.List.{map-append}
use Rattle.project_manifest.specs.Lines.{NamesAgain}
use Rattle.project_manifest.specs.Reading.{IsFaultless, IsManifest}
use Rattle.project_manifest.specs.Sayings.{as_written, line_of, placed_of, saying_of}
use Rattle.project_manifest.specs.declared.manifest.ManifestLine.{ManifestLine}
use Rattle.project_manifest.proofs.Growing.{grown}
use Rattle.project_manifest.proofs.manifest.add_line.Goals as goal

pub returns-clause-formed : goal.returns-clause-formed
returns-clause-formed c formed =
    let new = subst (λ (z : List ManifestLine). NamesAgain (map placed_of z) (line_of c.in-Ok.declares) → ⊥) c.deref.ensures.value c.in-Ok.ensures.new in
    subst IsManifest (sym (ap (map placed_of) c.in_ok-push-2.ensures.items ∙ map-append placed_of c.args.lines.now.items _))
    (grown (map placed_of c.args.lines.now.items) (as_written c.args.said.now.words.items) c.args.said.now.line (line_of c.in-Ok.declares) formed c.in-Ok.ensures.says new)

pub returns-clause-faultless : goal.returns-clause-faultless
returns-clause-faultless c = subst (λ (z : List ManifestLine). IsFaultless (map placed_of z) (saying_of c.args.said.now)) c.deref.ensures.value c.in-Ok.ensures.faultless

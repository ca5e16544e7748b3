use Rattle.std.proofs.Common.{List, ◌++◌, map, sym, ap, subst, ◌∙◌, arith}
use Rattle.std.proofs.lemmas.List.{take_all}
use Rattle.project_manifest.specs.Lines.{SayingsFault, files_in, line_in, line_rows, lines_in, placed_in}
use Rattle.project_manifest.specs.Manifests.{Saying, statements_in}
use Rattle.project_manifest.specs.Reading.{IsManifest}
use Rattle.project_manifest.specs.Sayings.{HaveTexts, placed_of, saying_of}
use Rattle.project_manifest.specs.declared.manifest.ManifestLine.{ManifestLine}
use Rattle.project_manifest.proofs.Growing.{no_lines}
use Rattle.project_manifest.proofs.Refusing.{lines_more, manifest_error, none_here}
use Rattle.project_manifest.proofs.Utf8.{statements_texts, texts_at}
use Rattle.project_manifest.proofs.manifest.read_manifest.Goals as goal

pub all-init : goal.all-init
all-init c = record {
  lines = ap (map placed_of) c.new-lines.ensures.items;
  files = c.new-files.ensures.items ∙ sym (ap (λ z. files_in (map placed_of z)) c.new-lines.ensures.items);
  formed = subst (λ (z : List ManifestLine). IsManifest (map placed_of z)) (sym c.new-lines.ensures.items) no_lines;
  free = λ found h. h;
}

pub add_line-requires-clause-texts : goal.add_line-requires-clause-texts
add_line-requires-clause-texts c =
    texts_at c.deref-one-items.result.now c.all.one-index c.one-item.result (omega arith) c.one-item.is (subst HaveTexts (sym (ap (map saying_of) c.deref-one-items.ensures.value ∙ c.in_ok-said.ensures ∙ ap statements_in c.as_bytes.ensures.value)) (statements_texts c.args.text.now c.utf8.text))

pub add_line-requires-clause-files : goal.add_line-requires-clause-files
add_line-requires-clause-files c = c.all.invariant.files

pub returns-in-Err-clause-error : goal.returns-in-Err-clause-error
returns-in-Err-clause-error c =
    manifest_error c.deref-one-items.result.now c.all.one-index c.one-item.result (omega arith) c.one-item.is (map placed_of c.all.lines.items) c.all.invariant.lines c.all.invariant.free c.args.text.now
    (ap (map saying_of) c.deref-one-items.ensures.value ∙ c.in_ok-said.ensures ∙ ap statements_in c.as_bytes.ensures.value) c.in-Err.error c.in-Err.ensures.error

pub all-preserved : goal.all-preserved
all-preserved c =
    let one = c.one-item.result in
    record {
      lines = c.in-Ok.ensures.lines ∙ ap (λ z. z ++ placed_in one.line (line_in (saying_of one).words)) c.all.invariant.lines ∙ sym (lines_more c.deref-one-items.result.now c.all.one-index one (omega arith) c.one-item.is);
      files = c.in-Ok.ensures.files;
      formed = c.in-Ok.ensures.formed c.all.invariant.formed;
      free = none_here c.deref-one-items.result.now c.all.one-index one (omega arith) c.one-item.is (map placed_of c.all.lines.items) c.all.invariant.lines c.all.invariant.free c.in-Ok.ensures.faultless;
    }

pub invariant_of-result : goal.invariant_of-result
invariant_of-result c = (c.all.invariant.files, c.all.invariant.formed)

pub returns-clause-lines : goal.returns-clause-lines
returns-clause-lines c =
    c.all.invariant.lines ∙ ap (λ z. lines_in (map saying_of z)) (take_all c.all.one-index c.deref-one-items.result.now (omega arith)) ∙ ap lines_in (ap (map saying_of) c.deref-one-items.ensures.value ∙ c.in_ok-said.ensures ∙ ap statements_in c.as_bytes.ensures.value)

pub returns-clause-faultless : goal.returns-clause-faultless
returns-clause-faultless c found h =
    let all = ap (map saying_of) (take_all c.all.one-index c.deref-one-items.result.now (omega arith)) ∙ ap (map saying_of) c.deref-one-items.ensures.value ∙ c.in_ok-said.ensures ∙ ap statements_in c.as_bytes.ensures.value in
    c.all.invariant.free found (subst (λ (z : List Saying). SayingsFault line_rows z found) (sym all) h)

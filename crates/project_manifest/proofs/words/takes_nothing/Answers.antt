use Rattle.std.proofs.Common.{false, ap, sym, ◌∙◌, arith}
use Rattle.std.proofs.lemmas.List.{drop_all}
use Rattle.project_manifest.specs.Manifests.{takes_nothing}
use Rattle.project_manifest.proofs.Worded.{wasted_here, wasted_later}
use Rattle.project_manifest.proofs.words.takes_nothing.Goals as goal

pub returns-then-is_wasted : goal.returns-then-is_wasted
returns-then-is_wasted c = wasted_here c.bytes.taking c.args.word.now c.bytes.byte-index (takes_nothing false c.args.word.now) (omega arith) (sym c.is_wasted.ensures ∙ c.if-is_wasted.true) c.bytes.invariant

pub bytes-preserved : goal.bytes-preserved
bytes-preserved c = wasted_later c.bytes.taking c.takes-taking.result c.args.word.now c.bytes.byte-index (takes_nothing false c.args.word.now) (omega arith) (sym c.is_wasted.ensures ∙ c.if-is_wasted.false) c.takes-taking.ensures c.bytes.invariant

pub returns : goal.returns
returns c = sym (ap (takes_nothing c.bytes.taking) (drop_all c.bytes.byte-index c.args.word.now (omega arith))) ∙ c.bytes.invariant

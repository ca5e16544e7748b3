use Rattle.std.proofs.Common.{◌+◌, ◌++◌, ◌∷◌, length, map, append-nil, ap, sym, ◌∙◌, arith}
use Rattle.std.proofs.lemmas.List.{drop_all, length-map}
use Rattle.project_manifest.specs.Manifests.{sayings, statements_in}
use Rattle.project_manifest.specs.Sayings.{as_written, saying_of}
use Rattle.project_manifest.proofs.Worded.{said_more}
use Rattle.project_manifest.proofs.said.all_said.Goals as goal

pub lines-init : goal.lines-init
lines-init c =
    ap (λ f. map saying_of f ++ sayings 1 (as_written c.deref-line-items.result.now)) c.new-found.ensures.items
    ∙ ap (λ z. sayings 1 (as_written z)) c.deref-line-items.ensures.value ∙ ap (sayings 1) c.in_ok-lines.ensures

pub lines-preserved : goal.lines-preserved
lines-preserved c =
    said_more c.deref-line-items.result.now c.lines.index c.line-item.result (map saying_of c.lines.found.items) (map saying_of c.add_said.new.found.items) (statements_in c.args.text.now) (omega arith) c.line-item.is
    (λ rest. c.in_ok-add_said.ensures rest ∙ ap (λ z. map saying_of c.lines.found.items ++ sayings (c.lines.index + 1) (z ∷ rest)) c.deref.ensures.value) c.lines.invariant

pub returns : goal.returns
returns c =
    sym (ap (λ z. map saying_of c.lines.found.items ++ sayings (c.lines.index + 1) (as_written z)) (drop_all c.lines.index c.deref-line-items.result.now (omega arith)) ∙ append-nil (map saying_of c.lines.found.items)) ∙ c.lines.invariant

pub add_said-requires : goal.add_said-requires
add_said-requires c = omega (arith, c.requires, ap length c.in_ok-lines.ensures, length-map c.in_ok-lines.lines.items (λ w. w.items), ap length c.deref-line-items.ensures.value, c.lines-test.true)

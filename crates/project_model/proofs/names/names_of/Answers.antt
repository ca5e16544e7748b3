use Rattle.std.proofs.Common.{◌++◌, ◌∷◌, [], List, ℕ, length, map, sym, ap, subst, ◌∙◌, arith}
use Rattle.std.proofs.lemmas.List.{take_all}
use Rattle.std.specs.List.{list_any}
use Rattle.std.specs.Str.{bytes_eq}
use Rattle.project_manifest.specs.Rows.{HaveNone, places}
use Rattle.project_model.specs.Answers.{written_of}
use Rattle.project_model.proofs.NameSteps.{Has, names_more, still_none, why_again, why_too_many, not_false, not_true}
use Rattle.name_resolution.proofs.Texts.{with_text-new}
use Rattle.project_model.proofs.names.names_of.Goals as goal

pub returns-then-not-branch-clause-error : goal.returns-then-not-branch-clause-error
returns-then-not-branch-clause-error c =
    let new = rw c.as_str.ensures at c.in_ok-add.ensures.new in
    let any = not_false (list_any (bytes_eq c.one-item.result.name) c.written.names) (sym c.if-not-branch.true ∙ new) in
    why_again c.args.written.now c.written.one-index c.one-item.result (omega arith) c.one-item.is c.written.names c.written.invariant.names c.written.invariant.none c.refused_at.result any c.refused_at.ensures

pub returns-then-len-gt-MOST_NAMES-clause-error : goal.returns-then-len-gt-MOST_NAMES-clause-error
returns-then-len-gt-MOST_NAMES-clause-error c =
    let new = rw c.as_str.ensures at c.in_ok-add.ensures.new in
    let none = not_true (list_any (bytes_eq c.one-item.result.name) c.written.names) (sym c.if-not-branch.false ∙ new) in
    let now = rw c.as_str.ensures at c.in_ok-add.ensures.names in
    let now_is = now ∙ with_text-new c.one-item.result.name c.written.names none in
    why_too_many c.args.written.now c.written.one-index c.one-item.result (omega arith) c.one-item.is c.written.names c.written.invariant.names c.written.invariant.none c.refused_at-then-len-gt-MOST_NAMES.result none
    (omega (arith, ap length now_is)) c.refused_at-then-len-gt-MOST_NAMES.ensures

pub written-preserved : goal.written-preserved
written-preserved c =
    let new = rw c.as_str.ensures at c.in_ok-add.ensures.new in
    let none = not_true (list_any (bytes_eq c.one-item.result.name) c.written.names) (sym c.if-not-branch.false ∙ new) in
    let now = rw c.as_str.ensures at c.in_ok-add.ensures.names in
    let now_is = now ∙ with_text-new c.one-item.result.name c.written.names none in
    record {
      names = now_is ∙ ap (λ (z : List (List ℕ)). z ++ c.one-item.result.name ∷ []) c.written.invariant.names ∙ sym (names_more c.args.written.now c.written.one-index c.one-item.result (omega arith) c.one-item.is);
      distinct = c.in_ok-add.ensures.distinct;
      few = omega arith;
      none = still_none c.args.written.now c.written.one-index c.one-item.result (omega arith) c.one-item.is c.written.names c.written.invariant.names c.written.invariant.none none
          (omega (arith, ap length now_is));
    }

pub returns-clause-faultless : goal.returns-clause-faultless
returns-clause-faultless c =
    subst (λ z. HaveNone Has (places (map written_of z))) (take_all c.written.one-index c.args.written.now (omega arith)) c.written.invariant.none

pub add-requires : goal.add-requires
add-requires c = omega (arith, c.written.invariant.few)

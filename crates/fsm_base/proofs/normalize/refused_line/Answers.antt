use Rattle.std.proofs.Common.{◌≡◌, ℕ, List, rules, tests, refl, ap, take, ◌∙◌}
use Rattle.std.proofs.lemmas.Fn.{always_returns_same}
use Rattle.std.proofs.lemmas.Str.{IsUtf8-drop}
use Rattle.fsm_base.specs.Normal.{is_refused, line_behind}
use Rattle.fsm_base.proofs.NormalLemmas.{none_refused, refused_found}
use Rattle.fsm_base.proofs.normalize.refused_line.Goals as goal

pub returns-in_err-at : goal.returns-in_err-at
returns-in_err-at c =
    let by_test = always_returns_same _ (λ a r. r ≡ is_refused a.0) _ (λ a r f called. (search (rules, tests), refl)) in
    let none = none_refused c.args.text.now c.utf8.text (c.in_err-at.ensures.cases is_refused by_test) in
    rw c.from_residual.ensures none

pub returns : goal.returns
returns c =
    let by_test = always_returns_same _ (λ a r. r ≡ is_refused a.0) _ (λ a r f called. (search (rules, tests), refl)) in
    let h = c.in_ok-at.ensures.cases in
    let found = h.1 is_refused by_test in
    let text = c.args.text.now in
    let is = refused_found text c.in_ok-at.at h.0 found.1.0 c.utf8.text (IsUtf8-drop text h.0 c.utf8.text h.4) found.0 found.1.1 found.1.2.split in
    (is.0, c.line_behind.ensures ∙ ap (λ (bytes : List ℕ). line_behind (take c.in_ok-at.at bytes)) c.as_bytes.ensures.value ∙ is.1)

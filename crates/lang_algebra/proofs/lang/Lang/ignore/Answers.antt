use Rattle.std.proofs.Common.{inl, inr}
use Rattle.std.proofs.lemmas.Result.{IfOk-weaker}
use Rattle.fsa.specs.Language as language
use Rattle.fsa.specs.Complete.{Accepts}
use Rattle.lang_algebra.specs.Languages.{IsLang}
use Rattle.word_relations.specs.Operations.{IsIgnoring}
use Rattle.lang_algebra.proofs.Made.{ignore_made}
use Rattle.lang_algebra.proofs.lang.Lang.ignore.Goals as goal

pub of-requires-clause-all : goal.of-requires-clause-all
of-requires-clause-all g c x used =
    rw c.letters.ensures.letters (elim (c.in_ok-mixed.ensures.letters x used) [
      | inl first ↦ c.in_ok-to_fsa.ensures.letters x first
      | inr second ↦ rw c.requires at (c.in_ok-to_fsa-2.ensures.letters x second)
    ])

pub returns : goal.returns
returns g c =
    let self = c.args.self.now in
    let other = c.args.other.now in
    let mixed = c.in_ok-mixed.mixed in
    IfOk-weaker c.of.result (IsLang c.letters.result.now (language.Accepts mixed)) (IsLang self.letters (IsIgnoring (Accepts self) (Accepts other)))
    (λ lang is. ignore_made self other c.in_ok-to_fsa.field-0 c.in_ok-to_fsa-2.field-0 mixed c.in_ok-to_fsa.ensures.language c.in_ok-to_fsa-2.ensures.language c.in_ok-mixed.ensures.language lang (rw c.letters.ensures.letters at is))
    c.of.ensures

use Rattle.std.proofs.Common.{inl, inr}
use Rattle.std.proofs.lemmas.Result.{IfOk-weaker}
use Rattle.word_relations.specs.Words.{IsOver}
use Rattle.fsa.specs.Language as language
use Rattle.fsa.specs.Complete.{Accepts}
use Rattle.lang_algebra.specs.Languages.{IsLang}
use Rattle.word_relations.specs.Operations.{HasPart}
use Rattle.lang_algebra.proofs.Made.{contains_made}
use Rattle.lang_algebra.proofs.lang.Lang.contains.Goals as goal

pub of-requires-clause-distinct : goal.of-requires-clause-distinct
of-requires-clause-distinct g c = rw c.letters-letters.ensures.letters c.letters-letters.ensures.complete.distinct

pub of-requires-clause-all : goal.of-requires-clause-all
of-requires-clause-all g c x used =
    elim (c.in_ok-concat.ensures.letters x used) [
      | inl before ↦ c.in_ok-one_letter.ensures.letters x (c.in_ok-any.ensures.letters x before)
      | inr rest ↦ elim (c.in_ok-behind.ensures.letters x rest) [
        | inl part ↦ rw c.letters-letters.ensures.letters (c.in_ok-to_fsa.ensures.letters x part)
        | inr after ↦ c.in_ok-one_letter.ensures.letters x (c.in_ok-any.ensures.letters x after)
      ]
    ]

pub returns : goal.returns
returns g c =
    IfOk-weaker c.of-2.result (IsLang c.letters-letters.result.now (language.Accepts c.in_ok-concat.field-0)) (IsLang c.args.self.now.letters (λ w. IsOver c.args.self.now.letters w × HasPart (Accepts c.args.self.now) w))
    (contains_made c.args.self.now c.letters-letters.ensures.complete c.letters-letters.result.now c.letters-letters.ensures.letters c.in_ok-one_letter.field-0 c.in_ok-any.any c.in_ok-to_fsa.field-0 c.in_ok-behind.behind c.in_ok-concat.field-0
    c.in_ok-one_letter.ensures.language c.in_ok-any.ensures.language c.in_ok-to_fsa.ensures.language c.in_ok-behind.ensures.language c.in_ok-concat.ensures.language)
    c.of-2.ensures

use Rattle.std.proofs.Common.{◌≡◌, sym, ◌∙◌, subst}
use Rattle.std.proofs.lemmas.Result.{IfOk-weaker}
use Rattle.fsm_base.specs.Alphabet.{symbols_of}
use Rattle.fsm_base.specs.declared.letters.Sym.{Sym}
use Rattle.fsa.specs.Complete.{Complete}
use Rattle.fsa.specs.Language as language
use Rattle.lang_algebra.specs.Languages.{IsLang}
use Rattle.network_algebra.specs.Networks.{UsesOnly}
use Rattle.network_trials.proofs.Lists.{inner_only}
use Rattle.network_trials.proofs.replace_texts.language_of.Goals as goal

pub of-requires-clause-distinct : goal.of-requires-clause-distinct
of-requires-clause-distinct c = rw c.symbols-2.ensures.symbols c.symbols-2.ensures.formed.distinct

pub of-requires-clause-all : goal.of-requires-clause-all
of-requires-clause-all c =
    let letters = c.deref.ensures.value ∙ c.in_ok-letters.ensures in
    let only = subst (λ ls. UsesOnly ls c.in_ok-part.part) letters c.in_ok-part.ensures in
    rw (c.symbols-2.ensures.symbols ∙ sym c.symbols.ensures.symbols) (inner_only c.symbols.result.now c.in_ok-part.part c.in_ok-inside.field-0 only c.in_ok-inside.ensures.letters)

pub returns : goal.returns
returns c =
    IfOk-weaker c.of-2.result (IsLang c.symbols-2.result.now (language.Accepts c.in_ok-inside.field-0)) (λ (lang : Complete Sym). lang.letters ≡ symbols_of c.args.symbols.now.alphabet)
    (λ (lang : Complete Sym) is. is.over ∙ c.symbols-2.ensures.symbols)
    c.of-2.ensures

use Rattle.std.proofs.Common.{sym, subst, ◌∙◌}
use Rattle.std.specs.List.{Contains}
use Rattle.std.proofs.lemmas.Result.{IfOk-weaker}
use Rattle.fsm_base.specs.declared.letters.Bound.TheVariants.{Inner}
use Rattle.word_relations.proofs.Members.{Contains-map}
use Rattle.fsa.specs.Language.{Accepts}
use Rattle.lang_algebra.specs.Languages.{IsLang}
use Rattle.lang_algebra.proofs.Made.{IsLang-same}
use Rattle.expr_meaning.specs.Operators.{inner}
use Rattle.network_algebra.proofs.Meanings.{inner_among}
use Rattle.network_sets.proofs.Inside.{inner_distinct, Insides}
use Rattle.network_sets.proofs.sets.inner_language.Goals as goal

pub of-requires-clause-distinct : goal.of-requires-clause-distinct
of-requires-clause-distinct c = rw (c.deref.ensures.value ∙ c.in_ok-letters.ensures) (inner_distinct c.args.symbols.now c.requires.distinct)

pub of-requires-clause-all : goal.of-requires-clause-all
of-requires-clause-all c x used =
    let symbols = c.args.symbols.now in
    let r = c.in_ok-words.ensures.letters x used in
    let among = inner_among symbols r.0 (c.requires.only (Inner r.0) (c.in_ok-inside.ensures.letters r.0 r.1)) in
    rw (c.deref.ensures.value ∙ c.in_ok-letters.ensures) (subst (Contains (inner symbols)) (sym r.2) (Contains-map Inner symbols r.0 among))

pub returns : goal.returns
returns c =
    let symbols = c.args.symbols.now in
    let words = c.in_ok-words.words in
    let P = Accepts c.args.a.now in
    IfOk-weaker c.of.result _ (IsLang (inner symbols) (Insides symbols P))
    (λ lang is. IsLang-same (inner symbols) (Accepts words) (Insides symbols P) lang
    (λ w. (
      λ h. let r = (c.in_ok-words.ensures.words w).0 h in (r.0, r.1, (c.in_ok-inside.ensures.words r.0).0 r.2),
      λ (u, e, p). (c.in_ok-words.ensures.words w).1 (u, e, (c.in_ok-inside.ensures.words u).1 p),
    ))
    (rw (c.deref.ensures.value ∙ c.in_ok-letters.ensures) at is))
    c.of.ensures

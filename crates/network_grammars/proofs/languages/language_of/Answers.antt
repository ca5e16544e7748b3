use Rattle.std.proofs.Common.{List, ap, sym, subst, ◌∙◌}
use Rattle.std.proofs.lemmas.Result.{IfOk-weaker}
use Rattle.std.specs.List.{Contains}
use Rattle.fsm_base.specs.declared.letters.Bound.{Bound}
use Rattle.fsm_base.specs.declared.letters.Pair.{Pair}
use Rattle.word_relations.specs.Words.{IsDistinct}
use Rattle.expr_meaning.specs.Meaning.{In}
use Rattle.network_algebra.specs.Networks.{all_letters}
use Rattle.grammar_pairs.specs.Plain.{term_of}
use Rattle.network_grammars.specs.PairMeaning.{stands}
use Rattle.network_grammars.proofs.Renamed.{letters_distinct, pair_known, renamed_language}
use Rattle.network_grammars.proofs.languages.language_of.Goals as goal

pub of-requires-clause-distinct : goal.of-requires-clause-distinct
of-requires-clause-distinct c =
    let same = c.deref.ensures.value ∙ c.in_ok-every_letter.ensures ∙ ap (λ (z : List Pair). all_letters z) c.as_slice-pairs.ensures.pairs in
    subst (λ (z : List (Bound Pair)). IsDistinct z) (sym same) (letters_distinct c.args.scope.now.pairs c.requires.scope.distinct)

pub of-requires-clause-all : goal.of-requires-clause-all
of-requires-clause-all c x used =
    let same = c.deref.ensures.value ∙ c.in_ok-every_letter.ensures ∙ ap (λ (z : List Pair). all_letters z) c.as_slice-pairs.ensures.pairs in
    let named = rw c.as_slice-pairs.ensures.pairs at (c.in_ok-over_pairs.ensures.letters x used) in
    subst (λ (z : List (Bound Pair)). Contains z x) (sym same) (pair_known c.args.scope.now.pairs named.0 x named.2)

pub returns : goal.returns
returns c =
    let scope = c.args.scope.now in
    let renamed = rw c.as_slice-pairs.ensures.pairs at c.in_ok-over_pairs.ensures.language in
    IfOk-weaker _ _ _ (λ lang. renamed_language scope.pairs (all_letters scope.pairs) (In (stands scope) scope.numbers.items (term_of c.args.expr.now)) c.in_ok-words.words c.in_ok-over_pairs.over_pairs lang c.in_ok-words.ensures.words renamed)
    (rw (c.deref.ensures.value, c.in_ok-every_letter.ensures, c.as_slice-pairs.ensures.pairs) at c.of.ensures)

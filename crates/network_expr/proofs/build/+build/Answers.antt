use Rattle.std.proofs.Common.{◌+◌, ◌∷◌, [], ◌/◌, List, take, IfOk, All, length, map, refl, sym, ap, subst, ◌∙◌, arith}
use Rattle.std.proofs.lemmas.Result.{IfOk-weaker}
use Rattle.fsa.specs.Language.{Accepts}
use Rattle.regex_ast.specs.declared.expr.Atom.{Atom}
use Rattle.regex_ast.specs.declared.expr.Expr.{Expr}
use Rattle.regex_ast.specs.declared.expr.Link.{Link}
use Rattle.regex_ast.specs.declared.expr.Step.{Step}
use Rattle.regex_ast.specs.declared.expr.Context.{Context}
use Rattle.regex_ast.specs.declared.expr.Expr.TheViews.{out-Group}
use Rattle.regex_ast.specs.declared.expr.Group.{Group}
use Rattle.regex_ast.specs.declared.expr.Mapping.{Mapping}
use Rattle.regex_ast.specs.Terms.{term, terms_of, links_of, contexts_of, steps_by, mappings_of, groups_of, concat, ignore, maybe, no_term}
use Rattle.regex_ast.proofs.Rows.{term-Concat, term-Ignore, term-Chain, term-Only, term-Steps}
use Rattle.expr_kinds.specs.Built.{has_no_insertion, is_insertion}
use Rattle.expr_kinds.specs.Kinds.{ChainFits, ContextsFit, EachFits, EachFitsAsLanguage, Fits, MappingsFit, StepsFit, kind_of, kind_of_chain, kind_of_steps}
use Rattle.expr_kinds.specs.declared.form.Kind.TheVariants.{Language}
use Rattle.expr_meaning.specs.Meaning.{In, InChain, InIgnoring, InSteps, Relates, RelatesChain, RelatesSteps}
use Rattle.network_algebra.specs.Networks.{all_letters, kind_of_network, WordsOf, PairsOf}
use Rattle.network_algebra.specs.declared.network.Network.TheVariants.{Words}
use Rattle.network_sets.specs.Split.{split_letters}
use Rattle.network_sets.proofs.Inside.{over_left, over_right, inside_all}
use Rattle.network_sets.proofs.Splits.{both_only}
use Rattle.network_sets.proofs.Restrictions.{edge_only}
use Rattle.network_expr.specs.Cascades.{PairsOfCascade, WordsOfCascade, kind_of_cascade}
use Rattle.network_expr.specs.Parts.{kinds, stands}
use Rattle.network_expr.specs.Built.{AreBuiltOver, ContextsAreBuiltOver, IsBuiltOver, IsChoice, IsMeant, IsNarrowing, LinksAreBuiltOver, MappingsAreBuiltOver}
use Rattle.network_expr.proofs.Weights.{weight, weight_contexts, weight_mappings, weight_groups, each_halves, links_halves, contexts_halves, weight_each, weight_steps}
use Rattle.network_expr.proofs.Rows.{each_built, each_fits, chain_built, chain_fits, choice_fits, contexts_built, contexts_fit, no_item, one_item, halves_joined, terms_joined, one_more}
use Rattle.network_expr.proofs.Meant.{IsChosen, AreIn, reduced_for, alone_chosen, chain_for, chain_halves, chain_choice, choice_halves, none_chosen, none_accepted, steps_for, context_one, context_halves, no_contexts, only_meant, words_meant, meant_words, letters_meant, colon_language, maybe_meant, same_meant, turn_alone, turns_meant, prefixed_meant, not_one_meant, ignore_row, ignore_one, ignore_halves, each_kind_language, language_meant, empty_only, given_one, given_two}
use Rattle.network_sets.proofs.Suffixed.{suffixed_for, for_itself}
use Rattle.network_expr.proofs.Narrowed.{fails, two_links, before_narrowing, halves_fit, narrowed_halves, narrowed_meant, narrowed_only}
use Rattle.expr_kinds.proofs.Sets.{term_rules, term_directed, maps_of_is, contexts_in_is}
use Rattle.network_expr.proofs.Ruled.{MapsReady, ContextsReady, GroupsReady, map_ready, context_ready, group_ready, side_of_is, take_whole, rules_meant, directed_meant, insertion_meant, else_second}
use Rattle.network_expr.specs.Rules.{AreMaps, AreContexts, AreGroups}
use Rattle.network_expr.proofs.RuleRows.{maps_more, contexts_more, groups_more}
use Rattle.network_expr.proofs.RuleMeaning.{maps_over, groups_over, insertion_rows}
use Rattle.replace_rules.specs.declared.rules.LangMap.{LangMap}
use Rattle.replace_rules.specs.declared.rules.LangContext.{LangContext}
use Rattle.replace_rules.specs.declared.rules.LangGroup.{LangGroup}
use Rattle.network_expr.proofs.Cascades.{IsCascaded, cascade_more, joined_for, network_alone, then_cascaded}
use Rattle.network_expr.proofs.Ready.{OperandReady, StepReady, operand_ready, step_ready}
use Rattle.network_sets.proofs.Alike.{SameWords}
use Rattle.network_expr.proofs.build.+build.Goals as goal

pub union_operands-union_operands-requires : goal.union_operands-union_operands-requires
union_operands-union_operands-requires t c =
    let A = c.args.alphabet.now in
    let front = c.split_at.result.0.now in
    let back = c.split_at.result.1.now in
    let whole = c.args.links.now in
    let is = halves_joined front back whole (length whole / 2) c.split_at.ensures.front c.split_at.ensures.back in
    let light = links_halves front back whole is (omega arith) (omega arith) in
    let built = chain_built c.args.parts.now A front back (subst (λ (z : List (Link Atom)). LinksAreBuiltOver c.args.parts.now A (links_of z)) (sym is) c.requires.built) in
    let fits = chain_fits c.args.parts.now front back Language (subst (λ (z : List (Link Atom)). ChainFits (kinds c.args.parts.now) Language (links_of z)) (sym is) c.requires.fits) in
    (omega (arith, c.decreases, light.0), (c.requires.ground, (over_left IsChoice front back (subst (All IsChoice) (sym is) c.requires.choices), (built.0, fits.0))))

pub union_operands-union_operands-requires-in_default : goal.union_operands-union_operands-requires-in_default
union_operands-union_operands-requires-in_default t c =
    let A = c.args.alphabet.now in
    let front = c.split_at.result.0.now in
    let back = c.split_at.result.1.now in
    let whole = c.args.links.now in
    let is = halves_joined front back whole (length whole / 2) c.split_at.ensures.front c.split_at.ensures.back in
    let light = links_halves front back whole is (omega arith) (omega arith) in
    let built = chain_built c.args.parts.now A front back (subst (λ (z : List (Link Atom)). LinksAreBuiltOver c.args.parts.now A (links_of z)) (sym is) c.requires.built) in
    let fits = chain_fits c.args.parts.now front back Language (subst (λ (z : List (Link Atom)). ChainFits (kinds c.args.parts.now) Language (links_of z)) (sym is) c.requires.fits) in
    let all = over_right IsChoice front back (subst (All IsChoice) (sym is) c.requires.choices) in
    (omega (arith, c.decreases, light.1), (c.requires.ground, (all, (built.1, choice_fits c.args.parts.now back all (kind_of_chain (kinds c.args.parts.now) Language (links_of front)) Language fits.1))))

pub union_operands-returns-in_ok-new-in-empty-clause-meaning : goal.union_operands-returns-in_ok-new-in-empty-clause-meaning
union_operands-returns-in_ok-new-in-empty-clause-meaning t c =
    let A = c.args.alphabet.now in
    let empty = c.in_ok-new-in-empty.field-0 in
    subst (λ (z : List (Link Atom)). IsChosen c.args.parts.now A z (Words empty)) (sym (no_item c.args.links.now (omega arith))) (none_chosen c.args.parts.now A empty (none_accepted empty c.in_ok-new-in-empty.ensures))

pub union_operands-returns-in-len1-clause-meaning : goal.union_operands-returns-in-len1-clause-meaning
union_operands-returns-in-len1-clause-meaning t c =
    let A = c.args.alphabet.now in
    let item = c.link-item.result in
    subst (λ (z : List (Link Atom)). IfOk c.chosen.result (IsChosen c.args.parts.now A z)) (sym (one_item c.args.links.now item (omega arith) (omega arith) c.link-item.is)) c.chosen.ensures.meaning

pub union_operands-returns-in_ok-second-in_default-clause-meaning : goal.union_operands-returns-in_ok-second-in_default-clause-meaning
union_operands-returns-in_ok-second-in_default-clause-meaning t c =
    let A = c.args.alphabet.now in
    let front = c.split_at.result.0.now in
    let back = c.split_at.result.1.now in
    let whole = c.args.links.now in
    let is = halves_joined front back whole (length whole / 2) c.split_at.ensures.front c.split_at.ensures.back in
    let all = over_right IsChoice front back (subst (All IsChoice) (sym is) c.requires.choices) in
    IfOk-weaker _ _ _ (λ r. choice_halves c.args.parts.now A c.in_ok-first-in_default.first c.in_ok-second-in_default.second r front back whole is all c.in_ok-first-in_default.ensures.meaning c.in_ok-second-in_default.ensures.meaning) c.union.ensures.meaning

pub chosen-returns-clause-meaning : goal.chosen-returns-clause-meaning
chosen-returns-clause-meaning t c =
    let A = c.args.alphabet.now in
    subst (λ (z : Link Atom). IfOk c.network_of.result (IsChosen c.args.parts.now A (z ∷ []))) (sym c.in-Or.is)
    (IfOk-weaker _ _ _ (alone_chosen c.args.parts.now A (term c.in-Or.operand)) c.network_of.ensures.meaning)

pub crossed-returns-then-are_alike-clause-meaning : goal.crossed-returns-then-are_alike-clause-meaning
crossed-returns-then-are_alike-clause-meaning t c =
    let e = term c.args.upper.now in
    let f = term c.args.lower.now in
    same_meant c.args.parts.now c.args.alphabet.now e f c.in_ok-above.above c.in_ok-below.below c.in_ok-both.field-0 (colon_language c.args.parts.now c.args.alphabet.now e f c.are_alike.result c.are_alike.ensures c.if-are_alike.true) c.in_ok-above.ensures.words c.in_ok-below.ensures.words c.in_ok-both.ensures.words

pub ignored-words_of-requires : goal.ignored-words_of-requires
ignored-words_of-requires t c =
    let P = c.args.parts.now in
    let A = c.args.alphabet.now in
    let is = c.in-Some.ensures.cases.0 in
    let built = subst (λ (z : List (Expr Atom)). AreBuiltOver P A (terms_of (map term z))) is c.requires.built in
    let fits = subst (λ (z : List (Expr Atom)). EachFitsAsLanguage (kinds P) (terms_of (map term z))) is c.requires.fits in
    (omega (arith, c.decreases, ap (λ (z : List (Expr Atom)). weight_each (terms_of (map term z))) is), (c.requires.ground, (built.0, (fits.1, fits.0))))

pub ignored-in_ignoring-requires : goal.ignored-in_ignoring-requires
ignored-in_ignoring-requires t c =
    let P = c.args.parts.now in
    let A = c.args.alphabet.now in
    let is = c.in-Some.ensures.cases.0 in
    let built = subst (λ (z : List (Expr Atom)). AreBuiltOver P A (terms_of (map term z))) is c.requires.built in
    let fits = subst (λ (z : List (Expr Atom)). EachFitsAsLanguage (kinds P) (terms_of (map term z))) is c.requires.fits in
    (omega (arith, c.decreases, ap (λ (z : List (Expr Atom)). weight_each (terms_of (map term z))) is), (c.requires.ground, (c.in_ok-words-in-Some.ensures.letters, (built.1, fits.2))))

pub ignored-returns-in_ok-words-in-Some-clause-words : goal.ignored-returns-in_ok-words-in-Some-clause-words
ignored-returns-in_ok-words-in-Some-clause-words t c =
    let P = c.args.parts.now in
    let A = c.args.alphabet.now in
    let row = terms_of (map term c.in-Some.others.now) in
    subst (λ (z : List (Expr Atom)). IfOk c.in_ignoring.result (λ m. SameWords (Accepts m) (In (stands P) A (ignore (terms_of (map term z)))))) (sym c.in-Some.ensures.cases.0)
    (IfOk-weaker _ _ _ (λ m. ignore_row P A (term c.in-Some.first.now) row c.in_ok-words-in-Some.words m c.in_ok-words-in-Some.ensures.words) c.in_ignoring.ensures.words)

pub ignored-returns-in-None-clause-letters : goal.ignored-returns-in-None-clause-letters
ignored-returns-in-None-clause-letters t c = IfOk-weaker _ _ _ (λ m. empty_only (all_letters c.args.alphabet.now) m) c.word.ensures.letters

pub in_ignoring-words_of-requires : goal.in_ignoring-words_of-requires
in_ignoring-words_of-requires t c =
    let P = c.args.parts.now in
    let A = c.args.alphabet.now in
    let whole = c.args.operands.now in
    let item = c.operand-item.result in
    let most = weight_each (terms_of (map term whole)) in
    let ready = subst (λ (z : Expr Atom). OperandReady P A (term z) most) (sym c.operand-item.is) (operand_ready P A whole most c.operands.operand-index item c.operands-test.true c.requires.built c.requires.fits (omega arith)) in
    let light = ready.light in
    (omega (arith, c.decreases, light), (c.requires.ground, (ready.built, (ready.fits, ready.language))))

pub in_ignoring-operands-preserved : goal.in_ignoring-operands-preserved
in_ignoring-operands-preserved t c =
    let P = c.args.parts.now in
    let A = c.args.alphabet.now in
    let whole = c.args.operands.now in
    let item = c.operand-item.result in
    let i = c.operands.operand-index in
    let terms = terms_joined (take i whole) (item ∷ []) (take (i + 1) whole) (one_more whole i item c.operands-test.true c.operand-item.is) in
    let words = c.in_ok-words.words in
    let made = c.in_ok-around.around in
    record {
      letters = c.in_ok-around.ensures.letters;
      words = ignore_halves P A (map term (take i whole)) (term item ∷ []) (map term (take (i + 1) whole)) c.args.before c.operands.around made terms c.operands.invariant.words
          (ignore_one P A (term item) c.operands.around words made c.in_ok-words.ensures.words c.in_ok-around.ensures.words);
    }

pub in_ignoring-returns-clause-words : goal.in_ignoring-returns-clause-words
in_ignoring-returns-clause-words t c =
    let whole = c.args.operands.now in
    subst (λ (z : List (Expr Atom)). SameWords (Accepts c.operands.around) (InIgnoring (stands c.args.parts.now) c.args.alphabet.now (Accepts c.args.before) (terms_of (map term z)))) (take_whole whole c.operands.operand-index c.operands-test.false) c.operands.invariant.words

pub in_chain-union_operands-requires : goal.in_chain-union_operands-requires
in_chain-union_operands-requires t c =
    let all = c.are_choices.ensures.0 c.if-are_choices.true in
    (omega (arith, c.decreases), (c.requires.ground, (all, (c.requires.built, choice_fits c.args.parts.now c.args.links.now all (kind_of_network c.args.before) Language c.requires.fits))))

pub in_chain-in_chain-requires : goal.in_chain-in_chain-requires
in_chain-in_chain-requires t c =
    let A = c.args.alphabet.now in
    let K = kind_of_network c.args.before in
    let front = c.split_at.result.0.now in
    let back = c.split_at.result.1.now in
    let whole = c.args.links.now in
    let is = halves_joined front back whole (length whole / 2) c.split_at.ensures.front c.split_at.ensures.back in
    let two = two_links whole (omega arith) (fails (All IsChoice whole) c.are_choices.result c.are_choices.ensures c.if-are_choices.false) (fails (All IsNarrowing whole) c.are_narrowing.result c.are_narrowing.ensures c.if-are_narrowing.false) in
    let light = links_halves front back whole is (omega (arith, two)) (omega (arith, two)) in
    let built = chain_built c.args.parts.now A front back (subst (λ (z : List (Link Atom)). LinksAreBuiltOver c.args.parts.now A (links_of z)) (sym is) c.requires.built) in
    let fits = chain_fits c.args.parts.now front back K (subst (λ (z : List (Link Atom)). ChainFits (kinds c.args.parts.now) K (links_of z)) (sym is) c.requires.fits) in
    (omega (arith, c.decreases, light.0), (c.requires.ground, (c.requires.before, (built.0, fits.0))))

pub in_chain-in_chain-requires-in_default-3 : goal.in_chain-in_chain-requires-in_default-3
in_chain-in_chain-requires-in_default-3 t c =
    let A = c.args.alphabet.now in
    let K = kind_of_network c.args.before in
    let front = c.split_at.result.0.now in
    let back = c.split_at.result.1.now in
    let whole = c.args.links.now in
    let is = halves_joined front back whole (length whole / 2) c.split_at.ensures.front c.split_at.ensures.back in
    let two = two_links whole (omega arith) (fails (All IsChoice whole) c.are_choices.result c.are_choices.ensures c.if-are_choices.false) (fails (All IsNarrowing whole) c.are_narrowing.result c.are_narrowing.ensures c.if-are_narrowing.false) in
    let light = links_halves front back whole is (omega (arith, two)) (omega (arith, two)) in
    let built = chain_built c.args.parts.now A front back (subst (λ (z : List (Link Atom)). LinksAreBuiltOver c.args.parts.now A (links_of z)) (sym is) c.requires.built) in
    let fits = chain_fits c.args.parts.now front back K (subst (λ (z : List (Link Atom)). ChainFits (kinds c.args.parts.now) K (links_of z)) (sym is) c.requires.fits) in
    let kind = c.in_ok-first-in_default-3.ensures.meaning.kind_is in
    (omega (arith, c.decreases, light.1), (c.requires.ground, (c.in_ok-first-in_default-3.ensures.letters, (built.1, subst (λ k. ChainFits (kinds c.args.parts.now) k (links_of back)) (sym kind) fits.1))))

pub in_chain-returns-in_ok-either-in_default-clause-letters : goal.in_chain-returns-in_ok-either-in_default-clause-letters
in_chain-returns-in_ok-either-in_default-clause-letters t c =
    let A = c.args.alphabet.now in
    let either = c.in_ok-either-in_default.either in
    let letters = given_two A c.args.before c.in_ok-union_operands-in_default.field-0 either c.requires.before c.in_ok-union_operands-in_default.ensures.letters c.in_ok-either-in_default.ensures.letters in
    IfOk-weaker _ _ _ (λ r. given_one A either r letters) c.reduced.ensures.letters

pub in_chain-returns-in_ok-either-in_default-clause-meaning : goal.in_chain-returns-in_ok-either-in_default-clause-meaning
in_chain-returns-in_ok-either-in_default-clause-meaning t c =
    let A = c.args.alphabet.now in
    let before = c.args.before in
    let links = c.args.links.now in
    let either = c.in_ok-either-in_default.either in
    let all = c.are_choices.ensures.0 c.if-are_choices.true in
    let chained = chain_choice c.args.parts.now A before c.in_ok-union_operands-in_default.field-0 either links all c.in_ok-union_operands-in_default.ensures.meaning c.in_ok-either-in_default.ensures.meaning in
    IfOk-weaker _ _ _ (λ r. reduced_for (kind_of_chain (kinds c.args.parts.now) (kind_of_network before) (links_of links)) (InChain (stands c.args.parts.now) A (WordsOf before) (links_of links)) (RelatesChain (stands c.args.parts.now) A (WordsOf before) (PairsOf before) (links_of links)) either r chained) c.reduced.ensures.meaning

pub in_chain-returns-in_ok-first-in_default-3-clause-meaning : goal.in_chain-returns-in_ok-first-in_default-3-clause-meaning
in_chain-returns-in_ok-first-in_default-3-clause-meaning t c =
    let K = kind_of_network c.args.before in
    let front = c.split_at.result.0.now in
    let back = c.split_at.result.1.now in
    let whole = c.args.links.now in
    let is = halves_joined front back whole (length whole / 2) c.split_at.ensures.front c.split_at.ensures.back in
    let fits = chain_fits c.args.parts.now front back K (subst (λ (z : List (Link Atom)). ChainFits (kinds c.args.parts.now) K (links_of z)) (sym is) c.requires.fits) in
    IfOk-weaker _ _ _ (λ r. chain_halves c.args.parts.now c.args.alphabet.now c.args.before c.in_ok-first-in_default-3.first r front back whole is fits.1 c.in_ok-first-in_default-3.ensures.meaning) c.in_chain-in_default-3.ensures.meaning

pub in_chain-into_words-requires : goal.in_chain-into_words-requires
in_chain-into_words-requires t c =
    before_narrowing c.args.parts.now c.args.links.now (omega arith) (c.are_narrowing.ensures.0 c.if-are_narrowing.true) (kind_of_network c.args.before) c.requires.fits

pub in_chain-returns-in_ok-to_fsa-in_default-2-clause-letters : goal.in_chain-returns-in_ok-to_fsa-in_default-2-clause-letters
in_chain-returns-in_ok-to_fsa-in_default-2-clause-letters t c =
    narrowed_only (all_letters c.args.alphabet.now) c.in_ok-kept-in_default-2.kept c.in_ok-to_fsa-in_default-2.field-0 c.in_ok-kept-in_default-2.ensures.over c.in_ok-to_fsa-in_default-2.ensures.letters

pub in_chain-returns-in_ok-to_fsa-in_default-2-clause-meaning : goal.in_chain-returns-in_ok-to_fsa-in_default-2-clause-meaning
in_chain-returns-in_ok-to_fsa-in_default-2-clause-meaning t c =
    narrowed_meant c.args.parts.now c.args.alphabet.now c.args.before c.into_words.result c.in_ok-to_fsa-in_default-2.field-0 c.in_ok-words-in_default-2.words c.in_ok-kept-in_default-2.kept c.args.links.now
    (c.are_narrowing.ensures.0 c.if-are_narrowing.true) c.into_words.ensures c.requires.fits c.in_ok-words-in_default-2.ensures.words c.in_ok-kept-in_default-2.ensures.words c.in_ok-to_fsa-in_default-2.ensures.language

pub in_contexts-in_contexts-requires : goal.in_contexts-in_contexts-requires
in_contexts-in_contexts-requires t c =
    let A = c.args.alphabet.now in
    let front = c.split_at.result.0.now in
    let back = c.split_at.result.1.now in
    let whole = c.args.contexts.now in
    let is = halves_joined front back whole (length whole / 2) c.split_at.ensures.front c.split_at.ensures.back in
    let light = contexts_halves front back whole is (omega arith) (omega arith) in
    let built = contexts_built c.args.parts.now A front back (subst (λ (z : List (Context Atom)). ContextsAreBuiltOver c.args.parts.now A (contexts_of z)) (sym is) c.requires.built) in
    let fits = contexts_fit c.args.parts.now front back (subst (λ (z : List (Context Atom)). ContextsFit (kinds c.args.parts.now) (contexts_of z)) (sym is) c.requires.fits) in
    (omega (arith, c.decreases, light.0), (c.requires.ground, (built.0, fits.0)))

pub in_contexts-in_contexts-requires-in_default : goal.in_contexts-in_contexts-requires-in_default
in_contexts-in_contexts-requires-in_default t c =
    let A = c.args.alphabet.now in
    let front = c.split_at.result.0.now in
    let back = c.split_at.result.1.now in
    let whole = c.args.contexts.now in
    let is = halves_joined front back whole (length whole / 2) c.split_at.ensures.front c.split_at.ensures.back in
    let light = contexts_halves front back whole is (omega arith) (omega arith) in
    let built = contexts_built c.args.parts.now A front back (subst (λ (z : List (Context Atom)). ContextsAreBuiltOver c.args.parts.now A (contexts_of z)) (sym is) c.requires.built) in
    let fits = contexts_fit c.args.parts.now front back (subst (λ (z : List (Context Atom)). ContextsFit (kinds c.args.parts.now) (contexts_of z)) (sym is) c.requires.fits) in
    (omega (arith, c.decreases, light.1), (c.requires.ground, (built.1, fits.1)))

pub in_contexts-returns-in-empty-clause-words : goal.in_contexts-returns-in-empty-clause-words
in_contexts-returns-in-empty-clause-words t c =
    let A = c.args.alphabet.now in
    subst (λ (z : List (Context Atom)). IfOk c.new.result (AreIn c.args.parts.now A (contexts_of z))) (sym (no_item c.args.contexts.now (omega arith)))
    (IfOk-weaker _ _ _ (λ m is. no_contexts c.args.parts.now A m (none_accepted m is)) c.new.ensures)

pub in_contexts-returns-in_ok-right-in-len1-clause-words : goal.in_contexts-returns-in_ok-right-in-len1-clause-words
in_contexts-returns-in_ok-right-in-len1-clause-words t c =
    let A = c.args.alphabet.now in
    let item = c.context-item.result in
    subst (λ (z : List (Context Atom)). IfOk c.in_context.result (AreIn c.args.parts.now A (contexts_of z))) (sym (one_item c.args.contexts.now item (omega arith) (omega arith) c.context-item.is))
    (IfOk-weaker _ _ _ (λ m. context_one c.args.parts.now A (term item.left) (term item.right) c.in_ok-left-in-len1.left c.in_ok-right-in-len1.right m c.in_ok-left-in-len1.ensures.words c.in_ok-right-in-len1.ensures.words) c.in_context.ensures.words)

pub in_contexts-returns-in_ok-second-in_default-clause-letters : goal.in_contexts-returns-in_ok-second-in_default-clause-letters
in_contexts-returns-in_ok-second-in_default-clause-letters t c =
    IfOk-weaker _ _ _ (λ m used. both_only (split_letters c.args.alphabet.now) c.in_ok-first-in_default.first c.in_ok-second-in_default.second m used c.in_ok-first-in_default.ensures.letters c.in_ok-second-in_default.ensures.letters) c.union.ensures.letters

pub in_contexts-returns-in_ok-second-in_default-clause-words : goal.in_contexts-returns-in_ok-second-in_default-clause-words
in_contexts-returns-in_ok-second-in_default-clause-words t c =
    let front = c.split_at.result.0.now in
    let back = c.split_at.result.1.now in
    let whole = c.args.contexts.now in
    let is = halves_joined front back whole (length whole / 2) c.split_at.ensures.front c.split_at.ensures.back in
    IfOk-weaker _ _ _ (λ m. context_halves c.args.parts.now c.args.alphabet.now front back whole c.in_ok-first-in_default.first c.in_ok-second-in_default.second m is c.in_ok-first-in_default.ensures.words c.in_ok-second-in_default.ensures.words) c.union.ensures.language

pub in_step-returns-in_ok-network-in-Then-clause-meaning : goal.in_step-returns-in_ok-network-in-Then-clause-meaning
in_step-returns-in_ok-network-in-Then-clause-meaning t c =
    let P = c.args.parts.now in
    let A = c.args.alphabet.now in
    let before = c.args.before in
    subst (λ (z : Step Atom). IfOk c.then.result (IsCascaded P A (kind_of_cascade before) (WordsOfCascade before) (PairsOfCascade before) (z ∷ []))) (sym c.in-Then.is)
    (IfOk-weaker _ _ _ (λ r. then_cascaded P A before r c.in_ok-network-in-Then.network (term c.in-Then.operand) c.in_ok-network-in-Then.ensures.meaning) c.then.ensures.meaning)

pub in_steps-steps-init : goal.in_steps-steps-init
in_steps-steps-init t c = record { letters = c.requires.before; meaning = network_alone (kind_of_network c.args.before) (WordsOf c.args.before) (PairsOf c.args.before) c.args.before (for_itself c.args.before) }

pub in_steps-in_step-requires : goal.in_steps-in_step-requires
in_steps-in_step-requires t c =
    let P = c.args.parts.now in
    let A = c.args.alphabet.now in
    let K = kind_of_network c.args.before in
    let whole = c.args.steps.now in
    let item = c.step-item.result in
    let i = c.steps.step-index in
    let most = weight_steps (steps_by whole) in
    let kind = kind_of_steps (kinds P) K (steps_by (take i whole)) in
    let ready = subst (λ (z : Step Atom). StepReady P A kind z most) (sym c.step-item.is) (step_ready P A whole K most i item c.steps-test.true c.requires.built c.requires.fits (omega arith)) in
    let light = ready.light in
    (omega (arith, c.decreases, light), (c.requires.ground, (c.steps.invariant.letters, (ready.built, subst (λ k. StepsFit (kinds P) k (steps_by (item ∷ []))) (sym c.steps.invariant.meaning.kind_is) ready.fits))))

pub in_steps-steps-preserved : goal.in_steps-steps-preserved
in_steps-steps-preserved t c =
    let P = c.args.parts.now in
    let A = c.args.alphabet.now in
    let before = c.args.before in
    let K = kind_of_network before in
    let whole = c.args.steps.now in
    let item = c.step-item.result in
    let i = c.steps.step-index in
    let most = weight_steps (steps_by whole) in
    let kind = kind_of_steps (kinds P) K (steps_by (take i whole)) in
    let ready = subst (λ (z : Step Atom). StepReady P A kind z most) (sym c.step-item.is) (step_ready P A whole K most i item c.steps-test.true c.requires.built c.requires.fits (omega arith)) in
    record {
      letters = c.in_ok-cascade.ensures.letters;
      meaning = cascade_more P A K (WordsOf before) (PairsOf before) c.steps.cascade c.in_ok-cascade.cascade (take i whole) (item ∷ []) (take (i + 1) whole) (one_more whole i item c.steps-test.true c.step-item.is) ready.fits c.steps.invariant.meaning c.in_ok-cascade.ensures.meaning;
    }

pub in_steps-returns-clause-meaning : goal.in_steps-returns-clause-meaning
in_steps-returns-clause-meaning t c =
    let P = c.args.parts.now in
    let A = c.args.alphabet.now in
    let before = c.args.before in
    let whole = c.args.steps.now in
    let K = kind_of_network before in
    let so_far = subst (λ (z : List (Step Atom)). IsCascaded P A K (WordsOf before) (PairsOf before) z c.steps.cascade) (take_whole whole c.steps.step-index c.steps-test.false) c.steps.invariant.meaning in
    IfOk-weaker _ _ _ (λ n. joined_for (kind_of_steps (kinds P) K (steps_by whole)) (InSteps (stands P) A (WordsOf before) (steps_by whole)) (RelatesSteps (stands P) A (WordsOf before) (PairsOf before) (steps_by whole)) c.steps.cascade n so_far) c.join.ensures.meaning

pub concat_operands-concat_operands-requires : goal.concat_operands-concat_operands-requires
concat_operands-concat_operands-requires t c =
    let A = c.args.alphabet.now in
    let front = c.split_at.result.0.now in
    let back = c.split_at.result.1.now in
    let whole = c.args.operands.now in
    let is = halves_joined front back whole (length whole / 2) c.split_at.ensures.front c.split_at.ensures.back in
    let light = each_halves front back whole is (omega arith) (omega arith) in
    let terms = terms_joined front back whole is in
    let built = each_built c.args.parts.now A (map term front) (map term back) (subst (λ z. AreBuiltOver c.args.parts.now A (terms_of z)) (sym terms) c.requires.built) in
    let fits = each_fits c.args.parts.now (map term front) (map term back) (subst (λ z. EachFits (kinds c.args.parts.now) (terms_of z)) (sym terms) c.requires.fits) in
    (omega (arith, c.decreases, light.0), (c.requires.ground, (built.0, fits.0)))

pub concat_operands-concat_operands-requires-in_default : goal.concat_operands-concat_operands-requires-in_default
concat_operands-concat_operands-requires-in_default t c =
    let A = c.args.alphabet.now in
    let front = c.split_at.result.0.now in
    let back = c.split_at.result.1.now in
    let whole = c.args.operands.now in
    let is = halves_joined front back whole (length whole / 2) c.split_at.ensures.front c.split_at.ensures.back in
    let light = each_halves front back whole is (omega arith) (omega arith) in
    let terms = terms_joined front back whole is in
    let built = each_built c.args.parts.now A (map term front) (map term back) (subst (λ z. AreBuiltOver c.args.parts.now A (terms_of z)) (sym terms) c.requires.built) in
    let fits = each_fits c.args.parts.now (map term front) (map term back) (subst (λ z. EachFits (kinds c.args.parts.now) (terms_of z)) (sym terms) c.requires.fits) in
    (omega (arith, c.decreases, light.1), (c.requires.ground, (built.1, fits.1)))

pub concat_operands-returns-in_ok-word-in-empty-clause-letters : goal.concat_operands-returns-in_ok-word-in-empty-clause-letters
concat_operands-returns-in_ok-word-in-empty-clause-letters t c = empty_only (all_letters c.args.alphabet.now) c.in_ok-word-in-empty.field-0 c.in_ok-word-in-empty.ensures.letters

pub concat_operands-returns-in_ok-word-in-empty-clause-meaning : goal.concat_operands-returns-in_ok-word-in-empty-clause-meaning
concat_operands-returns-in_ok-word-in-empty-clause-meaning t c =
    let A = c.args.alphabet.now in
    let m = c.in_ok-word-in-empty.field-0 in
    subst (λ (z : List (Expr Atom)). IsMeant c.args.parts.now A (concat (terms_of (map term z))) (Words m)) (sym (no_item c.args.operands.now (omega arith))) (words_meant c.args.parts.now A (concat no_term) m refl c.in_ok-word-in-empty.ensures.language)

pub concat_operands-returns-in-len1-clause-meaning : goal.concat_operands-returns-in-len1-clause-meaning
concat_operands-returns-in-len1-clause-meaning t c =
    let A = c.args.alphabet.now in
    let item = c.operand-item.result in
    subst (λ (z : List (Expr Atom)). IfOk c.network_of.result (IsMeant c.args.parts.now A (concat (terms_of (map term z))))) (sym (one_item c.args.operands.now item (omega arith) (omega arith) c.operand-item.is))
    (IfOk-weaker _ _ _ (turn_alone c.args.parts.now A (term item)) c.network_of.ensures.meaning)

pub concat_operands-returns-in_ok-second-in_default-clause-meaning : goal.concat_operands-returns-in_ok-second-in_default-clause-meaning
concat_operands-returns-in_ok-second-in_default-clause-meaning t c =
    let front = c.split_at.result.0.now in
    let back = c.split_at.result.1.now in
    let whole = c.args.operands.now in
    let is = halves_joined front back whole (length whole / 2) c.split_at.ensures.front c.split_at.ensures.back in
    IfOk-weaker _ _ _ (λ r. turns_meant c.args.parts.now c.args.alphabet.now (map term front) (map term back) (map term whole) c.in_ok-first-in_default.first c.in_ok-second-in_default.second r (terms_joined front back whole is) c.in_ok-first-in_default.ensures.meaning c.in_ok-second-in_default.ensures.meaning) c.concat.ensures.meaning

pub network_of-no_such_letter-requires : goal.network_of-no_such_letter-requires
network_of-no_such_letter-requires t c =
    let P = c.args.parts.now in
    let A = c.args.alphabet.now in
    let is = ap term c.in-NotOne.is in
    let inner = c.deref-in-NotOne.ensures in
    (rw inner (omega (arith, c.decreases, ap weight is)), (c.requires.ground, (rw inner (subst (λ e. IsBuiltOver P A e) is c.requires.built), rw inner (subst (λ e. Fits (kinds P) e) is c.requires.fits))))

pub network_of-crossed-requires : goal.network_of-crossed-requires
network_of-crossed-requires t c =
    let P = c.args.parts.now in
    let A = c.args.alphabet.now in
    let is = ap term c.in-Cross.is in
    let upper = c.deref-in-Cross.ensures in
    let lower = c.deref-in-Cross-2.ensures in
    (rw (upper, lower) (omega (arith, c.decreases, ap weight is)), (c.requires.ground, (rw (upper, lower) (subst (λ e. IsBuiltOver P A e) is c.requires.built), rw (upper, lower) (subst (λ e. Fits (kinds P) e) is c.requires.fits))))

pub network_of-words_of-requires : goal.network_of-words_of-requires
network_of-words_of-requires t c =
    let P = c.args.parts.now in
    let A = c.args.alphabet.now in
    let is = ap term c.in-Prefixed.is in
    let inner = c.deref-in-Prefixed.ensures in
    let fits = subst (λ e. Fits (kinds P) e) is c.requires.fits in
    (rw inner (omega (arith, c.decreases, ap weight is)), (c.requires.ground, (rw inner (subst (λ e. IsBuiltOver P A e) is c.requires.built), (rw inner fits.1, rw inner fits.0))))

pub network_of-ignored-requires : goal.network_of-ignored-requires
network_of-ignored-requires t c =
    let is = ap term c.in-Ignore.is ∙ term-Ignore c.in-Ignore.operands in
    let slice = c.deref-in-Ignore.ensures.value in
    (rw slice (omega (arith, c.decreases, ap weight is)), (c.requires.ground, (rw slice (subst (λ e. IsBuiltOver c.args.parts.now c.args.alphabet.now e) is c.requires.built), rw slice (subst (λ e. Fits (kinds c.args.parts.now) e) is c.requires.fits))))

pub network_of-concat_operands-requires : goal.network_of-concat_operands-requires
network_of-concat_operands-requires t c =
    let is = ap term c.in-Concat.is ∙ term-Concat c.in-Concat.operands in
    let slice = c.deref-in-Concat.ensures.value in
    (rw slice (omega (arith, c.decreases, ap weight is)), (c.requires.ground, (rw slice (subst (λ e. IsBuiltOver c.args.parts.now c.args.alphabet.now e) is c.requires.built), rw slice (subst (λ e. Fits (kinds c.args.parts.now) e) is c.requires.fits))))

pub network_of-in_chain-requires : goal.network_of-in_chain-requires
network_of-in_chain-requires t c =
    let is = ap term c.in-Chain.is ∙ term-Chain c.in-Chain.first c.in-Chain.links in
    let slice = c.deref-in-Chain-2.ensures.value in
    let built = subst (λ e. IsBuiltOver c.args.parts.now c.args.alphabet.now e) is c.requires.built in
    let fits = subst (λ e. Fits (kinds c.args.parts.now) e) is c.requires.fits in
    let kind = rw c.deref-in-Chain.ensures at c.in_ok-network_of-in-Chain.ensures.meaning.kind_is in
    (rw slice (omega (arith, c.decreases, ap weight is)), (c.requires.ground, (c.in_ok-network_of-in-Chain.ensures.letters, (rw slice built.1, rw slice (subst (λ k. ChainFits (kinds c.args.parts.now) k (links_of c.in-Chain.links.items)) (sym kind) fits.1)))))

pub network_of-only_in-requires : goal.network_of-only_in-requires
network_of-only_in-requires t c =
    let is = ap term c.in-Only.is ∙ term-Only c.in-Only.centre c.in-Only.contexts in
    let centre = c.deref-in-Only.ensures in
    let slice = c.deref-in-Only-2.ensures.value in
    (rw (centre, slice) (omega (arith, c.decreases, ap weight is)), (c.requires.ground, (rw (centre, slice) (subst (λ e. IsBuiltOver c.args.parts.now c.args.alphabet.now e) is c.requires.built), rw (centre, slice) (subst (λ e. Fits (kinds c.args.parts.now) e) is c.requires.fits))))

pub network_of-in_steps-requires : goal.network_of-in_steps-requires
network_of-in_steps-requires t c =
    let is = ap term c.in-Steps.is ∙ term-Steps c.in-Steps.first c.in-Steps.steps in
    let slice = c.deref-in-Steps-2.ensures.value in
    let built = subst (λ e. IsBuiltOver c.args.parts.now c.args.alphabet.now e) is c.requires.built in
    let fits = subst (λ e. Fits (kinds c.args.parts.now) e) is c.requires.fits in
    let kind = rw c.deref-in-Steps.ensures at c.in_ok-network_of-in-Steps.ensures.meaning.kind_is in
    (rw slice (omega (arith, c.decreases, ap weight is)), (c.requires.ground, (c.in_ok-network_of-in-Steps.ensures.letters, (rw slice built.1, rw slice (subst (λ k. StepsFit (kinds c.args.parts.now) k (steps_by c.in-Steps.steps.items)) (sym kind) fits.1)))))

pub network_of-replaced-requires : goal.network_of-replaced-requires
network_of-replaced-requires t c =
    let is = ap term c.in-Rules.is ∙ term_rules c.in-Rules.rules in
    let slice = c.deref-in-Rules.ensures.value in
    let built = subst (λ e. IsBuiltOver c.args.parts.now c.args.alphabet.now e) is c.requires.built in
    (rw slice (omega (arith, c.decreases, ap weight is)), (c.requires.ground, (rw slice built.0, (rw slice built.1, rw slice (subst (λ e. Fits (kinds c.args.parts.now) e) is c.requires.fits)))))

pub network_of-returns-in-Rules-clause-meaning : goal.network_of-returns-in-Rules-clause-meaning
network_of-returns-in-Rules-clause-meaning t c =
    let is = ap term c.in-Rules.is ∙ term_rules c.in-Rules.rules in
    subst (λ e. IfOk c.replaced.result (IsMeant c.args.parts.now c.args.alphabet.now e)) (sym is) (rw c.deref-in-Rules.ensures.value at c.replaced.ensures.meaning)

pub network_of-directed_rule-requires : goal.network_of-directed_rule-requires
network_of-directed_rule-requires t c =
    let is = ap term c.in-Directed.is ∙ term_directed c.in-Directed.rule in
    let maps = c.deref-in-Directed.ensures.value in
    let contexts = c.deref-in-Directed-2.ensures.value in
    (rw (maps, contexts) (omega (arith, c.decreases, ap weight is)), (c.requires.ground, (rw (maps, contexts) (subst (λ e. IsBuiltOver c.args.parts.now c.args.alphabet.now e) is c.requires.built), rw (maps, contexts) (subst (λ e. Fits (kinds c.args.parts.now) e) is c.requires.fits))))

pub network_of-returns-in-Directed-clause-meaning : goal.network_of-returns-in-Directed-clause-meaning
network_of-returns-in-Directed-clause-meaning t c =
    let is = ap term c.in-Directed.is ∙ term_directed c.in-Directed.rule in
    subst (λ e. IfOk c.directed_rule.result (IsMeant c.args.parts.now c.args.alphabet.now e)) (sym is) (rw (c.deref-in-Directed.ensures.value, c.deref-in-Directed-2.ensures.value) at c.directed_rule.ensures.meaning)

pub network_of-returns-in_ok-word-in-Empty-clause-letters : goal.network_of-returns-in_ok-word-in-Empty-clause-letters
network_of-returns-in_ok-word-in-Empty-clause-letters t c = empty_only (all_letters c.args.alphabet.now) c.in_ok-word-in-Empty.field-0 c.in_ok-word-in-Empty.ensures.letters

pub network_of-returns-in_ok-one_letter-in-Any-clause-letters : goal.network_of-returns-in_ok-one_letter-in-Any-clause-letters
network_of-returns-in_ok-one_letter-in-Any-clause-letters t c x used = inside_all c.args.alphabet.now x (rw (c.deref.ensures.value ∙ c.in_ok-inner_letters-in-Any.ensures) at (c.in_ok-one_letter-in-Any.ensures.letters x used))

pub network_of-returns-in_ok-word-in-Edge-clause-letters : goal.network_of-returns-in_ok-word-in-Edge-clause-letters
network_of-returns-in_ok-word-in-Edge-clause-letters t c = edge_only c.args.alphabet.now c.in_ok-word-in-Edge.field-0 c.in_ok-word-in-Edge.ensures.letters

pub network_of-returns-in-Atom-clause-meaning : goal.network_of-returns-in-Atom-clause-meaning
network_of-returns-in-Atom-clause-meaning t c = subst (λ e. IfOk c.leaf.result (IsMeant c.args.parts.now c.args.alphabet.now (term e))) (sym c.in-Atom.is) c.leaf.ensures.meaning

pub network_of-returns-in_ok-symbols-in-Letters-clause-meaning : goal.network_of-returns-in_ok-symbols-in-Letters-clause-meaning
network_of-returns-in_ok-symbols-in-Letters-clause-meaning t c =
    let A = c.args.alphabet.now in
    let m = c.in_ok-symbols-in-Letters.field-0 in
    let words = rw c.deref-in-Letters.ensures.value at c.in_ok-symbols-in-Letters.ensures.words in
    subst (λ e. IsMeant c.args.parts.now A (term e) (Words m)) (sym c.in-Letters.is) (letters_meant c.args.parts.now A m c.in-Letters.letters.items (words c.args.parts.now))

pub network_of-returns-in-Group-clause-meaning : goal.network_of-returns-in-Group-clause-meaning
network_of-returns-in-Group-clause-meaning t c =
    subst (λ x. IfOk c.network_of.result (IsMeant c.args.parts.now c.args.alphabet.now (term x))) (sym c.in-Group.is) (rw c.deref-in-Group.ensures at c.network_of.ensures.meaning)

pub network_of-returns-in-Maybe-clause-meaning : goal.network_of-returns-in-Maybe-clause-meaning
network_of-returns-in-Maybe-clause-meaning t c =
    subst (λ x. IfOk c.perhaps.result (IsMeant c.args.parts.now c.args.alphabet.now (term x))) (sym c.in-Maybe.is) (rw c.deref-in-Maybe.ensures at c.perhaps.ensures.meaning)

pub network_of-returns-in-NotOne-clause-meaning : goal.network_of-returns-in-NotOne-clause-meaning
network_of-returns-in-NotOne-clause-meaning t c =
    subst (λ x. IfOk c.no_such_letter.result (IsMeant c.args.parts.now c.args.alphabet.now (term x))) (sym c.in-NotOne.is) (rw c.deref-in-NotOne.ensures at c.no_such_letter.ensures.meaning)

pub network_of-returns-in_ok-network_of-in-Suffixed-clause-meaning : goal.network_of-returns-in_ok-network_of-in-Suffixed-clause-meaning
network_of-returns-in_ok-network_of-in-Suffixed-clause-meaning t c =
    let A = c.args.alphabet.now in
    let e = term c.in-Suffixed.inner.value in
    let meant = rw c.deref-in-Suffixed.ensures at c.in_ok-network_of-in-Suffixed.ensures.meaning in
    let result = rw c.deref-in-Suffixed-2.ensures.value at c.apply_suffixes.ensures.meaning in
    subst (λ x. IfOk c.apply_suffixes.result (IsMeant c.args.parts.now A (term x))) (sym c.in-Suffixed.is)
    (IfOk-weaker _ _ _ (λ r. suffixed_for (kind_of (kinds c.args.parts.now) e) (In (stands c.args.parts.now) A e) (Relates (stands c.args.parts.now) A e) c.in_ok-network_of-in-Suffixed.field-0 r c.in-Suffixed.suffixes.items meant) result)

pub network_of-returns-in_ok-apply_prefixes-in-Prefixed-clause-meaning : goal.network_of-returns-in_ok-apply_prefixes-in-Prefixed-clause-meaning
network_of-returns-in_ok-apply_prefixes-in-Prefixed-clause-meaning t c =
    let A = c.args.alphabet.now in
    let m = c.in_ok-apply_prefixes-in-Prefixed.field-0 in
    let fits = subst (λ x. Fits (kinds c.args.parts.now) (term x)) c.in-Prefixed.is c.requires.fits in
    let words = rw c.deref-in-Prefixed.ensures at c.in_ok-words-in-Prefixed.ensures.words in
    let result = rw c.deref-in-Prefixed-2.ensures.value at c.in_ok-apply_prefixes-in-Prefixed.ensures.words in
    subst (λ x. IsMeant c.args.parts.now A (term x) (Words m)) (sym c.in-Prefixed.is)
    (prefixed_meant c.args.parts.now A c.in-Prefixed.prefixes.items (term c.in-Prefixed.inner.value) c.in_ok-words-in-Prefixed.words m fits.0 words result)

pub network_of-returns-in_ok-ignored-in-Ignore-clause-meaning : goal.network_of-returns-in_ok-ignored-in-Ignore-clause-meaning
network_of-returns-in_ok-ignored-in-Ignore-clause-meaning t c =
    let A = c.args.alphabet.now in
    let m = c.in_ok-ignored-in-Ignore.field-0 in
    let is = ap term c.in-Ignore.is ∙ term-Ignore c.in-Ignore.operands in
    let fits = subst (λ e. Fits (kinds c.args.parts.now) e) is c.requires.fits in
    let terms = terms_of (map term c.in-Ignore.operands.items) in
    subst (λ e. IsMeant c.args.parts.now A e (Words m)) (sym is) (words_meant c.args.parts.now A (ignore terms) m (each_kind_language c.args.parts.now A terms fits) (rw c.deref-in-Ignore.ensures.value at c.in_ok-ignored-in-Ignore.ensures.words))

pub network_of-returns-in_ok-concat_operands-in-Concat-clause-meaning : goal.network_of-returns-in_ok-concat_operands-in-Concat-clause-meaning
network_of-returns-in_ok-concat_operands-in-Concat-clause-meaning t c =
    let A = c.args.alphabet.now in
    let is = ap term c.in-Concat.is ∙ term-Concat c.in-Concat.operands in
    let e = concat (terms_of (map term c.in-Concat.operands.items)) in
    let meant = rw c.deref-in-Concat.ensures.value at c.in_ok-concat_operands-in-Concat.ensures.meaning in
    subst (λ e. IfOk c.reduced.result (IsMeant c.args.parts.now A e)) (sym is)
    (IfOk-weaker _ _ _ (λ r. reduced_for (kind_of (kinds c.args.parts.now) e) (In (stands c.args.parts.now) A e) (Relates (stands c.args.parts.now) A e) c.in_ok-concat_operands-in-Concat.field-0 r meant) c.reduced.ensures.meaning)

pub network_of-returns-in_ok-network_of-in-Chain-clause-meaning : goal.network_of-returns-in_ok-network_of-in-Chain-clause-meaning
network_of-returns-in_ok-network_of-in-Chain-clause-meaning t c =
    let A = c.args.alphabet.now in
    let is = ap term c.in-Chain.is ∙ term-Chain c.in-Chain.first c.in-Chain.links in
    let e = term c.in-Chain.first.value in
    let fits = subst (λ x. Fits (kinds c.args.parts.now) x) is c.requires.fits in
    let meant = rw c.deref-in-Chain.ensures at c.in_ok-network_of-in-Chain.ensures.meaning in
    let result = rw c.deref-in-Chain-2.ensures.value at c.in_chain.ensures.meaning in
    subst (λ x. IfOk c.in_chain.result (IsMeant c.args.parts.now A x)) (sym is)
    (IfOk-weaker _ _ _ (λ r. chain_for c.args.parts.now A (kind_of (kinds c.args.parts.now) e) (In (stands c.args.parts.now) A e) (Relates (stands c.args.parts.now) A e) c.in_ok-network_of-in-Chain.field-0 r (links_of c.in-Chain.links.items) fits.1 meant) result)

pub network_of-returns-in-Only-clause-meaning : goal.network_of-returns-in-Only-clause-meaning
network_of-returns-in-Only-clause-meaning t c =
    let is = ap term c.in-Only.is ∙ term-Only c.in-Only.centre c.in-Only.contexts in
    subst (λ x. IfOk c.only_in.result (IsMeant c.args.parts.now c.args.alphabet.now x)) (sym is) (rw (c.deref-in-Only.ensures, c.deref-in-Only-2.ensures.value) at c.only_in.ensures.meaning)

pub network_of-returns-in_ok-network_of-in-Steps-clause-meaning : goal.network_of-returns-in_ok-network_of-in-Steps-clause-meaning
network_of-returns-in_ok-network_of-in-Steps-clause-meaning t c =
    let A = c.args.alphabet.now in
    let is = ap term c.in-Steps.is ∙ term-Steps c.in-Steps.first c.in-Steps.steps in
    let e = term c.in-Steps.first.value in
    let fits = subst (λ x. Fits (kinds c.args.parts.now) x) is c.requires.fits in
    let meant = rw c.deref-in-Steps.ensures at c.in_ok-network_of-in-Steps.ensures.meaning in
    let result = rw c.deref-in-Steps-2.ensures.value at c.in_steps.ensures.meaning in
    subst (λ x. IfOk c.in_steps.result (IsMeant c.args.parts.now A x)) (sym is)
    (IfOk-weaker _ _ _ (λ r. steps_for c.args.parts.now A (kind_of (kinds c.args.parts.now) e) (In (stands c.args.parts.now) A e) (Relates (stands c.args.parts.now) A e) c.in_ok-network_of-in-Steps.field-0 r (steps_by c.in-Steps.steps.items) fits.1 meant) result)

pub no_such_letter-returns-clause-meaning : goal.no_such_letter-returns-clause-meaning
no_such_letter-returns-clause-meaning t c =
    not_one_meant c.args.parts.now c.args.alphabet.now c.args.count (term c.args.inner.now) c.in_ok-words.words c.in_ok-not_one_times.field-0 c.requires.fits.0 c.in_ok-words.ensures.words c.in_ok-not_one_times.ensures.words

pub only_in-returns-clause-meaning : goal.only_in-returns-clause-meaning
only_in-returns-clause-meaning t c =
    let fits = c.requires.fits in
    only_meant c.args.parts.now c.args.alphabet.now (term c.args.centre.now) (contexts_of c.args.contexts.now) c.in_ok-words.words c.in_ok-allowed.allowed c.in_ok-restrict.field-0 fits.0 fits.2 c.in_ok-words.ensures.words c.in_ok-allowed.ensures.words c.in_ok-restrict.ensures.words

pub perhaps-returns-clause-letters : goal.perhaps-returns-clause-letters
perhaps-returns-clause-letters t c =
    let A = c.args.alphabet.now in
    let empty = c.in_ok-word.field-0 in
    let either = given_two A (Words empty) c.in_ok-network_of.field-0 c.in_ok-either.either (empty_only (all_letters A) empty c.in_ok-word.ensures.letters) c.in_ok-network_of.ensures.letters c.in_ok-either.ensures.letters in
    IfOk-weaker _ _ _ (λ r. given_one A c.in_ok-either.either r either) c.reduced.ensures.letters

pub perhaps-returns-clause-meaning : goal.perhaps-returns-clause-meaning
perhaps-returns-clause-meaning t c =
    let A = c.args.alphabet.now in
    let e = maybe (term c.args.inner.now) in
    let either = c.in_ok-either.either in
    let meant = maybe_meant c.args.parts.now A (term c.args.inner.now) c.in_ok-word.field-0 c.in_ok-network_of.field-0 either c.in_ok-word.ensures.language c.in_ok-network_of.ensures.meaning c.in_ok-either.ensures.meaning in
    IfOk-weaker _ _ _ (λ r. reduced_for (kind_of (kinds c.args.parts.now) e) (In (stands c.args.parts.now) A e) (Relates (stands c.args.parts.now) A e) either r meant) c.reduced.ensures.meaning

pub words_of-returns-clause-words : goal.words_of-returns-clause-words
words_of-returns-clause-words t c = meant_words c.args.parts.now c.args.alphabet.now (term c.args.expr.now) c.in_ok-network_of.field-0 c.into_words.result c.requires.language c.into_words.ensures c.in_ok-network_of.ensures.meaning

pub narrowed-narrowed-requires : goal.narrowed-narrowed-requires
narrowed-narrowed-requires t c =
    let A = c.args.alphabet.now in
    let front = c.split_at.result.0.now in
    let back = c.split_at.result.1.now in
    let whole = c.args.links.now in
    let is = halves_joined front back whole (length whole / 2) c.split_at.ensures.front c.split_at.ensures.back in
    let light = links_halves front back whole is (omega arith) (omega arith) in
    let built = chain_built c.args.parts.now A front back (subst (λ (z : List (Link Atom)). LinksAreBuiltOver c.args.parts.now A (links_of z)) (sym is) c.requires.built) in
    let fits = chain_fits c.args.parts.now front back Language (subst (λ (z : List (Link Atom)). ChainFits (kinds c.args.parts.now) Language (links_of z)) (sym is) c.requires.fits) in
    (omega (arith, c.decreases, light.0), (c.requires.ground, (c.requires.letters, (over_left IsNarrowing front back (subst (All IsNarrowing) (sym is) c.requires.narrowing), (built.0, fits.0)))))

pub narrowed-narrowed-requires-in_default : goal.narrowed-narrowed-requires-in_default
narrowed-narrowed-requires-in_default t c =
    let A = c.args.alphabet.now in
    let front = c.split_at.result.0.now in
    let back = c.split_at.result.1.now in
    let whole = c.args.links.now in
    let is = halves_joined front back whole (length whole / 2) c.split_at.ensures.front c.split_at.ensures.back in
    let light = links_halves front back whole is (omega arith) (omega arith) in
    let built = chain_built c.args.parts.now A front back (subst (λ (z : List (Link Atom)). LinksAreBuiltOver c.args.parts.now A (links_of z)) (sym is) c.requires.built) in
    let fits = chain_fits c.args.parts.now front back Language (subst (λ (z : List (Link Atom)). ChainFits (kinds c.args.parts.now) Language (links_of z)) (sym is) c.requires.fits) in
    let all = subst (All IsNarrowing) (sym is) c.requires.narrowing in
    (omega (arith, c.decreases, light.1), (c.requires.ground, (c.in_ok-first-in_default.ensures.over, (over_right IsNarrowing front back all, (built.1, halves_fit c.args.parts.now front back (over_left IsNarrowing front back all) fits.0 fits.1)))))

pub narrowed-returns-in_ok-first-in_default : goal.narrowed-returns-in_ok-first-in_default
narrowed-returns-in_ok-first-in_default t c =
    let A = c.args.alphabet.now in
    let front = c.split_at.result.0.now in
    let back = c.split_at.result.1.now in
    let whole = c.args.links.now in
    let is = halves_joined front back whole (length whole / 2) c.split_at.ensures.front c.split_at.ensures.back in
    IfOk-weaker _ _ _ (λ r. narrowed_halves c.args.parts.now A (all_letters A) c.args.before c.in_ok-first-in_default.first r front back whole is c.in_ok-first-in_default.ensures) c.narrowed-in_default.ensures

pub lang_contexts-words_of-requires : goal.lang_contexts-words_of-requires
lang_contexts-words_of-requires t c =
    let P = c.args.parts.now in
    let A = c.args.alphabet.now in
    let whole = c.args.contexts.now in
    let item = c.context-item.result in
    let most = weight_contexts (contexts_of whole) in
    let all : ContextsReady P A whole most = record { built = c.requires.built; fits = c.requires.fits; light = omega arith } in
    let ready = subst (λ (z : Context Atom). ContextsReady P A (z ∷ []) most) (sym c.context-item.is) (context_ready P A whole most c.contexts.context-index item c.contexts-test.true all) in
    let light = ready.light in
    (omega (arith, c.decreases, light), (c.requires.ground, (ready.built.0, (ready.fits.1, ready.fits.0))))

pub lang_contexts-words_of-requires-in-contexts : goal.lang_contexts-words_of-requires-in-contexts
lang_contexts-words_of-requires-in-contexts t c =
    let P = c.args.parts.now in
    let A = c.args.alphabet.now in
    let whole = c.args.contexts.now in
    let item = c.context-item.result in
    let most = weight_contexts (contexts_of whole) in
    let all : ContextsReady P A whole most = record { built = c.requires.built; fits = c.requires.fits; light = omega arith } in
    let ready = subst (λ (z : Context Atom). ContextsReady P A (z ∷ []) most) (sym c.context-item.is) (context_ready P A whole most c.contexts.context-index item c.contexts-test.true all) in
    let light = ready.light in
    (omega (arith, c.decreases, light), (c.requires.ground, (ready.built.1, (ready.fits.3, ready.fits.2))))

pub lang_contexts-contexts-preserved : goal.lang_contexts-contexts-preserved
lang_contexts-contexts-preserved t c =
    let P = c.args.parts.now in
    let A = c.args.alphabet.now in
    let whole = c.args.contexts.now in
    let item = c.context-item.result in
    let left = c.in_ok-language.field-0 in
    let right = c.in_ok-language-2.field-0 in
    let lang : LangContext = record { left = left; right = right } in
    let here : AreContexts (stands P) A (contexts_of (item ∷ [])) (lang ∷ []) = (language_meant P A (term item.left) c.in_ok-left.left left c.in_ok-left.ensures.words c.in_ok-language.ensures, language_meant P A (term item.right) c.in_ok-right.right right c.in_ok-right.ensures.words c.in_ok-language-2.ensures, tt) in
    let one = subst (λ (z : Context Atom). AreContexts (stands P) A (contexts_of (z ∷ [])) (lang ∷ [])) c.context-item.is here in
    subst (λ (z : List LangContext). AreContexts (stands P) A (contexts_of (take (c.contexts.context-index + 1) whole)) z) (sym c.in_ok-push.ensures.items)
    (contexts_more (stands P) A whole c.contexts.context-index item c.contexts.langs.items lang c.contexts-test.true c.contexts.invariant one)

pub lang_map-part_language-requires-in-Plain : goal.lang_map-part_language-requires-in-Plain
lang_map-part_language-requires-in-Plain t c =
    let is = c.in-Plain.is in
    let built = subst (λ (z : Mapping Atom). MappingsAreBuiltOver c.args.parts.now c.args.alphabet.now (mappings_of (z ∷ []))) is c.requires.built in
    let fits = subst (λ (z : Mapping Atom). MappingsFit (kinds c.args.parts.now) (mappings_of (z ∷ []))) is c.requires.fits in
    let weighs = ap (λ (z : Mapping Atom). weight_mappings (mappings_of (z ∷ []))) is in
    (omega (arith, c.decreases, weighs), (c.requires.ground, (built.2, (fits.3, fits.2))))

pub lang_map-part_language-requires-in-Markup-2 : goal.lang_map-part_language-requires-in-Markup-2
lang_map-part_language-requires-in-Markup-2 t c =
    let is = c.in-Markup.is in
    let built = subst (λ (z : Mapping Atom). MappingsAreBuiltOver c.args.parts.now c.args.alphabet.now (mappings_of (z ∷ []))) is c.requires.built in
    let fits = subst (λ (z : Mapping Atom). MappingsFit (kinds c.args.parts.now) (mappings_of (z ∷ []))) is c.requires.fits in
    let weighs = ap (λ (z : Mapping Atom). weight_mappings (mappings_of (z ∷ []))) is in
    (omega (arith, c.decreases, weighs), (c.requires.ground, (built.2, (fits.3, fits.2))))

pub lang_map-part_language-requires-in-Markup-3 : goal.lang_map-part_language-requires-in-Markup-3
lang_map-part_language-requires-in-Markup-3 t c =
    let is = c.in-Markup.is in
    let built = subst (λ (z : Mapping Atom). MappingsAreBuiltOver c.args.parts.now c.args.alphabet.now (mappings_of (z ∷ []))) is c.requires.built in
    let fits = subst (λ (z : Mapping Atom). MappingsFit (kinds c.args.parts.now) (mappings_of (z ∷ []))) is c.requires.fits in
    let weighs = ap (λ (z : Mapping Atom). weight_mappings (mappings_of (z ∷ []))) is in
    (omega (arith, c.decreases, weighs), (c.requires.ground, (built.3, (fits.5, fits.4))))

pub lang_map-part_language-requires-in-Insert : goal.lang_map-part_language-requires-in-Insert
lang_map-part_language-requires-in-Insert t c =
    let is = c.in-Insert.is in
    let built = subst (λ (z : Mapping Atom). MappingsAreBuiltOver c.args.parts.now c.args.alphabet.now (mappings_of (z ∷ []))) is c.requires.built in
    let fits = subst (λ (z : Mapping Atom). MappingsFit (kinds c.args.parts.now) (mappings_of (z ∷ []))) is c.requires.fits in
    let weighs = ap (λ (z : Mapping Atom). weight_mappings (mappings_of (z ∷ []))) is in
    (omega (arith, c.decreases, weighs), (c.requires.ground, (built.0, (fits.1, fits.0))))

pub lang_maps-lang_map-requires : goal.lang_maps-lang_map-requires
lang_maps-lang_map-requires t c =
    let P = c.args.parts.now in
    let A = c.args.alphabet.now in
    let whole = c.args.maps.now in
    let item = c.map-item.result in
    let most = weight_mappings (mappings_of whole) in
    let all : MapsReady P A whole most = record { built = c.requires.built; fits = c.requires.fits; light = omega arith } in
    let ready = subst (λ (z : Mapping Atom). MapsReady P A (z ∷ []) most) (sym c.map-item.is) (map_ready P A whole most c.maps.map-index item c.maps-test.true all) in
    let light = ready.light in
    (omega (arith, c.decreases, light), (c.requires.ground, (ready.built, ready.fits)))

pub lang_maps-maps-preserved : goal.lang_maps-maps-preserved
lang_maps-maps-preserved t c =
    let P = c.args.parts.now in
    let A = c.args.alphabet.now in
    let whole = c.args.maps.now in
    let item = c.map-item.result in
    let lang = c.in_ok-lang_map.field-0 in
    let one = subst (λ (z : Mapping Atom). AreMaps (stands P) A (mappings_of (z ∷ [])) (lang ∷ [])) c.map-item.is c.in_ok-lang_map.ensures in
    subst (λ (z : List LangMap). AreMaps (stands P) A (mappings_of (take (c.maps.map-index + 1) whole)) z) (sym c.in_ok-push.ensures.items)
    (maps_more (stands P) A whole c.maps.map-index item c.maps.langs.items lang c.maps-test.true c.maps.invariant one)

pub replaced-lang_maps-requires : goal.replaced-lang_maps-requires
replaced-lang_maps-requires t c =
    let P = c.args.parts.now in
    let A = c.args.alphabet.now in
    let whole = c.args.groups.now in
    let item = c.group-item.result in
    let most = weight_groups (groups_of whole) in
    let all : GroupsReady P A whole most = record { built = c.requires.built; fits = c.requires.fits; light = omega arith } in
    let ready = subst (λ (z : Group Atom). GroupsReady P A (z ∷ []) most) (sym c.group-item.is) (group_ready P A whole most c.groups.group-index item c.groups-test.true all) in
    let light = ready.light in
    let same = c.deref.ensures.value ∙ sym (maps_of_is item) in
    let weighs = ap (λ (z : List (Mapping Atom)). weight_mappings (mappings_of z)) same in
    (omega (arith, c.decreases, light, weighs), (c.requires.ground, (subst (λ (z : List (Mapping Atom)). MappingsAreBuiltOver P A (mappings_of z)) (sym same) ready.built.0, subst (λ (z : List (Mapping Atom)). MappingsFit (kinds P) (mappings_of z)) (sym same) ready.fits.0)))

pub replaced-lang_contexts-requires : goal.replaced-lang_contexts-requires
replaced-lang_contexts-requires t c =
    let P = c.args.parts.now in
    let A = c.args.alphabet.now in
    let whole = c.args.groups.now in
    let item = c.group-item.result in
    let most = weight_groups (groups_of whole) in
    let all : GroupsReady P A whole most = record { built = c.requires.built; fits = c.requires.fits; light = omega arith } in
    let ready = subst (λ (z : Group Atom). GroupsReady P A (z ∷ []) most) (sym c.group-item.is) (group_ready P A whole most c.groups.group-index item c.groups-test.true all) in
    let light = ready.light in
    let same = c.deref-in-groups.ensures.value ∙ sym (contexts_in_is item) in
    let weighs = ap (λ (z : List (Context Atom)). weight_contexts (contexts_of z)) same in
    (omega (arith, c.decreases, light, weighs), (c.requires.ground, (subst (λ (z : List (Context Atom)). ContextsAreBuiltOver P A (contexts_of z)) (sym same) ready.built.1, subst (λ (z : List (Context Atom)). ContextsFit (kinds P) (contexts_of z)) (sym same) ready.fits.1)))

pub replaced-groups-preserved : goal.replaced-groups-preserved
replaced-groups-preserved t c =
    let P = c.args.parts.now in
    let A = c.args.alphabet.now in
    let whole = c.args.groups.now in
    let item = c.group-item.result in
    let maps = subst (λ (z : List (Mapping Atom)). AreMaps (stands P) A (mappings_of z) c.in_ok-maps.maps.items) (c.deref.ensures.value ∙ sym (maps_of_is item)) c.in_ok-maps.ensures in
    let contexts = subst (λ (z : List (Context Atom)). AreContexts (stands P) A (contexts_of z) c.in_ok-contexts.contexts.items) (c.deref-in-groups.ensures.value ∙ sym (contexts_in_is item)) c.in_ok-contexts.ensures in
    let lang : LangGroup = record { maps = c.in_ok-maps.maps; side = (out-Group Atom item).side; contexts = c.in_ok-contexts.contexts } in
    let here : AreGroups (stands P) A (groups_of (item ∷ [])) (lang ∷ []) = (maps, sym (side_of_is item), contexts, tt) in
    let one = subst (λ (z : Group Atom). AreGroups (stands P) A (groups_of (z ∷ [])) (lang ∷ [])) c.group-item.is here in
    subst (λ (z : List LangGroup). AreGroups (stands P) A (groups_of (take (c.groups.group-index + 1) whole)) z) (sym c.in_ok-push.ensures.items)
    (groups_more (stands P) A whole c.groups.group-index item c.groups.langs.items lang c.groups-test.true c.groups.invariant one)

pub replaced-replace-requires-clause-over : goal.replaced-replace-requires-clause-over
replaced-replace-requires-clause-over t c =
    let P = c.args.parts.now in
    let A = c.args.alphabet.now in
    let whole = c.args.groups.now in
    let so_far = subst (λ (z : List (Group Atom)). AreGroups (stands P) A (groups_of z) c.groups.langs.items) (take_whole whole c.groups.group-index c.groups-test.false) c.groups.invariant in
    let are = subst (λ (z : List LangGroup). AreGroups (stands P) A (groups_of whole) z) (sym c.deref-2.ensures.value) so_far in
    groups_over (stands P) A (groups_of whole) c.deref-2.result.now (else_second (is_insertion (groups_of whole)) (has_no_insertion (groups_of whole)) c.requires.alone (sym c.is_insertion.ensures ∙ c.if-is_insertion.false)) are

pub replaced-returns-clause-meaning : goal.replaced-returns-clause-meaning
replaced-returns-clause-meaning t c =
    let P = c.args.parts.now in
    let A = c.args.alphabet.now in
    let whole = c.args.groups.now in
    let so_far = subst (λ (z : List (Group Atom)). AreGroups (stands P) A (groups_of z) c.groups.langs.items) (take_whole whole c.groups.group-index c.groups-test.false) c.groups.invariant in
    let are = subst (λ (z : List LangGroup). AreGroups (stands P) A (groups_of whole) z) (sym c.deref-2.ensures.value) so_far in
    rules_meant P A c.args.optional whole c.deref-2.result.now c.in_ok-replace.field-0 are c.in_ok-replace.ensures.relation

pub replaced-insertion-requires-clause-one : goal.replaced-insertion-requires-clause-one
replaced-insertion-requires-clause-one t c =
    let P = c.args.parts.now in
    let A = c.args.alphabet.now in
    let whole = c.args.groups.now in
    let so_far = subst (λ (z : List (Group Atom)). AreGroups (stands P) A (groups_of z) c.groups.langs.items) (take_whole whole c.groups.group-index c.groups-test.false) c.groups.invariant in
    let are = subst (λ (z : List LangGroup). AreGroups (stands P) A (groups_of whole) z) (sym c.deref-then-is_insertion.ensures.value) so_far in
    insertion_rows (stands P) A (groups_of whole) c.deref-then-is_insertion.result.now (sym c.is_insertion.ensures ∙ c.if-is_insertion.true) are

pub replaced-returns-then-is_insertion-clause-meaning : goal.replaced-returns-then-is_insertion-clause-meaning
replaced-returns-then-is_insertion-clause-meaning t c =
    let P = c.args.parts.now in
    let A = c.args.alphabet.now in
    let whole = c.args.groups.now in
    let so_far = subst (λ (z : List (Group Atom)). AreGroups (stands P) A (groups_of z) c.groups.langs.items) (take_whole whole c.groups.group-index c.groups-test.false) c.groups.invariant in
    let are = subst (λ (z : List LangGroup). AreGroups (stands P) A (groups_of whole) z) (sym c.deref-then-is_insertion.ensures.value) so_far in
    insertion_meant P A c.args.optional whole c.deref-then-is_insertion.result.now c.in_ok-insertion.field-0 (sym c.is_insertion.ensures ∙ c.if-is_insertion.true) are c.in_ok-insertion.ensures.relation

pub directed_rule-lang_maps-requires : goal.directed_rule-lang_maps-requires
directed_rule-lang_maps-requires t c = (omega (arith, c.decreases), (c.requires.ground, (c.requires.built.1, c.requires.fits.0)))

pub directed_rule-lang_contexts-requires : goal.directed_rule-lang_contexts-requires
directed_rule-lang_contexts-requires t c = (omega (arith, c.decreases), (c.requires.ground, (c.requires.built.2, c.requires.fits.1)))

pub directed_rule-directed-requires-clause-over : goal.directed_rule-directed-requires-clause-over
directed_rule-directed-requires-clause-over t c =
    let A = c.args.alphabet.now in
    let leaf = stands c.args.parts.now in
    let maps = mappings_of c.args.maps.now in
    let are = subst (λ (z : List LangMap). AreMaps leaf A maps z) (sym c.deref.ensures.value) c.in_ok-langs.ensures in
    maps_over leaf A maps c.deref.result.now c.requires.built.0 are

pub directed_rule-returns-clause-meaning : goal.directed_rule-returns-clause-meaning
directed_rule-returns-clause-meaning t c =
    let P = c.args.parts.now in
    let A = c.args.alphabet.now in
    let are = subst (λ (z : List LangMap). AreMaps (stands P) A (mappings_of c.args.maps.now) z) (sym c.deref.ensures.value) c.in_ok-langs.ensures in
    let beside = subst (λ (z : List LangContext). AreContexts (stands P) A (contexts_of c.args.contexts.now) z) (sym c.deref-2.ensures.value) c.in_ok-around.ensures in
    directed_meant P A c.args.way c.args.maps.now c.args.contexts.now c.deref.result.now c.deref-2.result.now c.in_ok-directed.field-0 are beside c.in_ok-directed.ensures.relation

use Rattle.std.proofs.Common.{◌∷◌, [], ◌/◌, List, IfOk, All, length, sym, ap, subst, ◌∙◌, arith, ◌+◌, ◌<◌, map, take}
use Rattle.std.proofs.lemmas.Result.{IfOk-weaker}
use Rattle.fsm_base.specs.declared.letters.Sym.{Sym}
use Rattle.word_relations.specs.Words.{IsDistinct}
use Rattle.network_sets.proofs.Inside.{over_left, over_right}
use Rattle.network_sets.proofs.Restrictions.{edge_only, inner_only}
use Rattle.regex_ast.specs.Terms.{Term, concat, term, links_of, terms_of}
use Rattle.regex_ast.specs.declared.expr.Atom.{Atom}
use Rattle.regex_ast.specs.declared.expr.Expr.{Expr}
use Rattle.regex_ast.specs.declared.expr.Link.{Link}
use Rattle.regex_ast.specs.declared.twolc.PairPart.{PairPart}
use Rattle.regex_ast.proofs.Rows.{term-Concat, term-Ignore, term-Chain}
use Rattle.expr_leaves.specs.Mapped.{mapped}
use Rattle.expr_meaning.specs.Meaning.{In, InChain, InIgnoring}
use Rattle.fsa.specs.Language.{Accepts}
use Rattle.network_sets.proofs.Alike.{words_then}
use Rattle.network_algebra.specs.Networks.{UsesOnly, all_letters}
use Rattle.grammar_pairs.specs.Plain.{ArePairForms, IsPairForm, LinksArePairForms, links_in, part_of, term_of, terms_in}
use Rattle.network_grammars.specs.PairMeaning.{HasWordsOf, stands}
use Rattle.network_grammars.specs.Rows.{IsChoice}
use Rattle.network_grammars.proofs.LeafWords.{numbers_distinct}
use Rattle.network_grammars.proofs.PairRows.{HasWords, before_same, chain_choice, chain_two, choice_two, concat_one, concat_two, each_forms, empty_only, halves_joined, ignore_one, ignore_row, ignore_two, less_only, linked_and, linked_less, linked_or, links_forms, no_item, none_words, one_item, two_only, one_more, operand_form}
use Rattle.network_grammars.proofs.Weights.{each_halves, links_halves, link_lighter, link_weight, weight, weight_links, weight_each, operand_lighter}
use Rattle.network_grammars.proofs.PairWords.{maybe_words, not_one_words, prefixed_words, suffixed_words}
use Rattle.std.proofs.lemmas.List.{take_all}
use Rattle.network_grammars.proofs.words.+build.Goals as goal

pub ignored-words_of-requires : goal.ignored-words_of-requires
ignored-words_of-requires t c =
    let is = c.in-Some.ensures.cases.0 in
    let form = subst (λ (z : List (Expr (PairPart Atom))). ArePairForms (terms_in z)) is c.requires.form in
    (omega (arith, c.decreases, ap (λ (z : List (Expr (PairPart Atom))). weight_each (terms_of (map term z))) is), (c.requires.scope, form.0))

pub ignored-in_ignoring-requires : goal.ignored-in_ignoring-requires
ignored-in_ignoring-requires t c =
    let is = c.in-Some.ensures.cases.0 in
    let form = subst (λ (z : List (Expr (PairPart Atom))). ArePairForms (terms_in z)) is c.requires.form in
    (omega (arith, c.decreases, ap (λ (z : List (Expr (PairPart Atom))). weight_each (terms_of (map term z))) is), (c.requires.scope, (c.in_ok-words-in-Some.ensures.letters, form.1)))

pub ignored-returns-in_ok-words-in-Some-clause-words : goal.ignored-returns-in_ok-words-in-Some-clause-words
ignored-returns-in_ok-words-in-Some-clause-words t c =
    let words = c.in_ok-words-in-Some.words in
    IfOk-weaker _ _ _ (λ m. ignore_row (stands c.args.scope.now) c.args.scope.now.numbers.items c.in-Some.first.now c.in-Some.others.now c.args.operands.now words m c.in-Some.ensures.cases.0 c.in_ok-words-in-Some.ensures.words) c.in_ignoring.ensures.words

pub ignored-returns-in-None-clause-letters : goal.ignored-returns-in-None-clause-letters
ignored-returns-in-None-clause-letters t c = IfOk-weaker _ _ _ (λ m. empty_only (all_letters c.args.scope.now.numbers.items) m) c.word.ensures.letters

pub in_ignoring-words_of-requires : goal.in_ignoring-words_of-requires
in_ignoring-words_of-requires t c =
    let whole = c.args.operands.now in
    let item = c.operand-item.result in
    let i = c.operands.operand-index in
    let is = sym c.operand-item.is in
    let form = subst (λ (z : Expr (PairPart Atom)). IsPairForm (term_of z)) is (operand_form whole i item c.operands-test.true c.requires.form) in
    let light = subst (λ (z : Expr (PairPart Atom)). weight (term z) < weight_each (terms_of (map term whole))) is (operand_lighter whole (weight_each (terms_of (map term whole))) i item c.operands-test.true (omega arith)) in
    (omega (arith, c.decreases, light), (c.requires.scope, form))

pub in_ignoring-ignore-requires : goal.in_ignoring-ignore-requires
in_ignoring-ignore-requires t c =
    let scope = c.args.scope.now in
    let same = sym c.deref.ensures.value in
    record {
      distinct = subst (λ (z : List Sym). IsDistinct z) same (numbers_distinct scope c.requires.scope);
      first = subst (λ (z : List Sym). UsesOnly (all_letters z) c.operands.around) same c.operands.invariant.letters;
      second = subst (λ (z : List Sym). UsesOnly (all_letters z) c.in_ok-words.words) same c.in_ok-words.ensures.letters;
    }

pub in_ignoring-operands-preserved : goal.in_ignoring-operands-preserved
in_ignoring-operands-preserved t c =
    let leaf = stands c.args.scope.now in
    let A = c.args.scope.now.numbers.items in
    let whole = c.args.operands.now in
    let item = c.operand-item.result in
    let i = c.operands.operand-index in
    let words = c.in_ok-words.words in
    let made = c.in_ok-around.around in
    record {
      letters = subst (λ (z : List Sym). UsesOnly (all_letters z) made) c.deref.ensures.value c.in_ok-around.ensures.letters;
      words = ignore_two leaf A (take i whole) (item ∷ []) (take (i + 1) whole) (Accepts c.args.before) c.operands.around made (one_more whole i item c.operands-test.true c.operand-item.is) c.operands.invariant.words
          (ignore_one leaf A item c.operands.around words made c.in_ok-words.ensures.words c.in_ok-around.ensures.words);
    }

pub in_ignoring-returns-clause-words : goal.in_ignoring-returns-clause-words
in_ignoring-returns-clause-words t c =
    let whole = c.args.operands.now in
    subst (λ (z : List (Expr (PairPart Atom))). HasWords c.operands.around (InIgnoring (stands c.args.scope.now) c.args.scope.now.numbers.items (Accepts c.args.before) (terms_in z))) (take_all c.operands.operand-index whole c.operands-test.false) c.operands.invariant.words

pub concat_operands-concat_operands-requires : goal.concat_operands-concat_operands-requires
concat_operands-concat_operands-requires t c =
    let front = c.split_at.result.0.now in
    let back = c.split_at.result.1.now in
    let whole = c.args.operands.now in
    let is = halves_joined front back whole (length whole / 2) c.split_at.ensures.front c.split_at.ensures.back in
    let light = each_halves front back whole is (omega arith) (omega arith) in
    let forms = each_forms front back (subst (λ (z : List (Expr (PairPart Atom))). ArePairForms (terms_in z)) (sym is) c.requires.form) in
    (omega (arith, c.decreases, light.0), (c.requires.scope, forms.0))

pub concat_operands-concat_operands-requires-in_default : goal.concat_operands-concat_operands-requires-in_default
concat_operands-concat_operands-requires-in_default t c =
    let front = c.split_at.result.0.now in
    let back = c.split_at.result.1.now in
    let whole = c.args.operands.now in
    let is = halves_joined front back whole (length whole / 2) c.split_at.ensures.front c.split_at.ensures.back in
    let light = each_halves front back whole is (omega arith) (omega arith) in
    let forms = each_forms front back (subst (λ (z : List (Expr (PairPart Atom))). ArePairForms (terms_in z)) (sym is) c.requires.form) in
    (omega (arith, c.decreases, light.1), (c.requires.scope, forms.1))

pub concat_operands-returns-in-len1-clause-words : goal.concat_operands-returns-in-len1-clause-words
concat_operands-returns-in-len1-clause-words t c =
    let item = c.operand-item.result in
    subst (λ (z : List (Expr (PairPart Atom))). IfOk c.words_of.result (HasWordsOf c.args.scope.now (concat (terms_in z)))) (sym (one_item c.args.operands.now item (omega arith) (omega arith) c.operand-item.is))
    (IfOk-weaker _ _ _ (λ m. concat_one (stands c.args.scope.now) c.args.scope.now.numbers.items item m) c.words_of.ensures.words)

pub concat_operands-returns-in_ok-second-in_default-clause-words : goal.concat_operands-returns-in_ok-second-in_default-clause-words
concat_operands-returns-in_ok-second-in_default-clause-words t c =
    let front = c.split_at.result.0.now in
    let back = c.split_at.result.1.now in
    let whole = c.args.operands.now in
    let is = halves_joined front back whole (length whole / 2) c.split_at.ensures.front c.split_at.ensures.back in
    IfOk-weaker _ _ _ (λ m. concat_two (stands c.args.scope.now) c.args.scope.now.numbers.items front back whole c.in_ok-first-in_default.first c.in_ok-second-in_default.second m is c.in_ok-first-in_default.ensures.words c.in_ok-second-in_default.ensures.words) c.concat.ensures.language

pub concat_operands-returns-in_ok-second-in_default-clause-letters : goal.concat_operands-returns-in_ok-second-in_default-clause-letters
concat_operands-returns-in_ok-second-in_default-clause-letters t c =
    IfOk-weaker _ _ _ (λ m used. two_only (all_letters c.args.scope.now.numbers.items) c.in_ok-first-in_default.first c.in_ok-second-in_default.second m used c.in_ok-first-in_default.ensures.letters c.in_ok-second-in_default.ensures.letters) c.concat.ensures.letters

pub union_operands-union_operands-requires : goal.union_operands-union_operands-requires
union_operands-union_operands-requires t c =
    let front = c.split_at.result.0.now in
    let back = c.split_at.result.1.now in
    let whole = c.args.links.now in
    let is = halves_joined front back whole (length whole / 2) c.split_at.ensures.front c.split_at.ensures.back in
    let light = links_halves front back whole is (omega arith) (omega arith) in
    let forms = links_forms front back (subst (λ (z : List (Link (PairPart Atom))). LinksArePairForms (links_in z)) (sym is) c.requires.form) in
    (omega (arith, c.decreases, light.0), (c.requires.scope, (over_left IsChoice front back (subst (All IsChoice) (sym is) c.requires.choices), forms.0)))

pub union_operands-union_operands-requires-in_default : goal.union_operands-union_operands-requires-in_default
union_operands-union_operands-requires-in_default t c =
    let front = c.split_at.result.0.now in
    let back = c.split_at.result.1.now in
    let whole = c.args.links.now in
    let is = halves_joined front back whole (length whole / 2) c.split_at.ensures.front c.split_at.ensures.back in
    let light = links_halves front back whole is (omega arith) (omega arith) in
    let forms = links_forms front back (subst (λ (z : List (Link (PairPart Atom))). LinksArePairForms (links_in z)) (sym is) c.requires.form) in
    (omega (arith, c.decreases, light.1), (c.requires.scope, (over_right IsChoice front back (subst (All IsChoice) (sym is) c.requires.choices), forms.1)))

pub union_operands-returns-in_ok-second-in_default-clause-words : goal.union_operands-returns-in_ok-second-in_default-clause-words
union_operands-returns-in_ok-second-in_default-clause-words t c =
    let front = c.split_at.result.0.now in
    let back = c.split_at.result.1.now in
    let whole = c.args.links.now in
    let is = halves_joined front back whole (length whole / 2) c.split_at.ensures.front c.split_at.ensures.back in
    let all = over_right IsChoice front back (subst (All IsChoice) (sym is) c.requires.choices) in
    IfOk-weaker _ _ _ (λ m. choice_two (stands c.args.scope.now) c.args.scope.now.numbers.items front back whole c.in_ok-first-in_default.first c.in_ok-second-in_default.second m is all c.in_ok-first-in_default.ensures.words c.in_ok-second-in_default.ensures.words) c.union.ensures.language

pub union_operands-returns-in_ok-second-in_default-clause-letters : goal.union_operands-returns-in_ok-second-in_default-clause-letters
union_operands-returns-in_ok-second-in_default-clause-letters t c =
    IfOk-weaker _ _ _ (λ m used. two_only (all_letters c.args.scope.now.numbers.items) c.in_ok-first-in_default.first c.in_ok-second-in_default.second m used c.in_ok-first-in_default.ensures.letters c.in_ok-second-in_default.ensures.letters) c.union.ensures.letters

pub union_operands-returns-in-empty-clause-words : goal.union_operands-returns-in-empty-clause-words
union_operands-returns-in-empty-clause-words t c =
    let A = c.args.scope.now.numbers.items in
    subst (λ (z : List (Link (PairPart Atom))). IfOk c.new.result (λ m. HasWords m (InChain (stands c.args.scope.now) A (λ v. ⊥) (links_in z)))) (sym (no_item c.args.links.now (omega arith)))
    (IfOk-weaker _ _ _ (λ m. none_words m) c.new.ensures)

pub union_operands-returns-in_ok-new-in-len1-clause-words : goal.union_operands-returns-in_ok-new-in-len1-clause-words
union_operands-returns-in_ok-new-in-len1-clause-words t c =
    let leaf = stands c.args.scope.now in
    let A = c.args.scope.now.numbers.items in
    let item = c.link-item.result in
    let none = c.in_ok-new-in-len1.field-0 in
    subst (λ (z : List (Link (PairPart Atom))). IfOk c.linked-in-len1.result (λ m. HasWords m (InChain leaf A (λ v. ⊥) (links_in z)))) (sym (one_item c.args.links.now item (omega arith) (omega arith) c.link-item.is))
    (IfOk-weaker _ _ _ (λ m. before_same leaf A (item ∷ []) (Accepts none) (λ v. ⊥) m (none_words none c.in_ok-new-in-len1.ensures)) c.linked-in-len1.ensures.words)

pub concat_operands-returns-in-empty-clause-letters : goal.concat_operands-returns-in-empty-clause-letters
concat_operands-returns-in-empty-clause-letters t c = IfOk-weaker _ _ _ (λ m. empty_only (all_letters c.args.scope.now.numbers.items) m) c.word.ensures.letters

pub in_chain-union_operands-requires : goal.in_chain-union_operands-requires
in_chain-union_operands-requires t c = (omega (arith, c.decreases), (c.requires.scope, (c.are_choices.ensures.0 c.if-are_choices.true, c.requires.form)))

pub in_chain-linked-requires : goal.in_chain-linked-requires
in_chain-linked-requires t c =
    let item = c.link-item.result in
    let one = one_item c.args.links.now item (omega arith) (omega arith) c.link-item.is in
    let weighs = ap (λ (z : List (Link (PairPart Atom))). weight_links (links_of z)) one in
    (omega (arith, c.decreases, weighs, link_lighter item), (c.requires.scope, (c.requires.before, subst (λ (z : List (Link (PairPart Atom))). LinksArePairForms (links_in z)) one c.requires.form)))

pub in_chain-in_chain-requires : goal.in_chain-in_chain-requires
in_chain-in_chain-requires t c =
    let front = c.split_at.result.0.now in
    let back = c.split_at.result.1.now in
    let whole = c.args.links.now in
    let is = halves_joined front back whole (length whole / 2) c.split_at.ensures.front c.split_at.ensures.back in
    let light = links_halves front back whole is (omega arith) (omega arith) in
    let forms = links_forms front back (subst (λ (z : List (Link (PairPart Atom))). LinksArePairForms (links_in z)) (sym is) c.requires.form) in
    (omega (arith, c.decreases, light.0), (c.requires.scope, (c.requires.before, forms.0)))

pub in_chain-in_chain-requires-in_default-2 : goal.in_chain-in_chain-requires-in_default-2
in_chain-in_chain-requires-in_default-2 t c =
    let front = c.split_at.result.0.now in
    let back = c.split_at.result.1.now in
    let whole = c.args.links.now in
    let is = halves_joined front back whole (length whole / 2) c.split_at.ensures.front c.split_at.ensures.back in
    let light = links_halves front back whole is (omega arith) (omega arith) in
    let forms = links_forms front back (subst (λ (z : List (Link (PairPart Atom))). LinksArePairForms (links_in z)) (sym is) c.requires.form) in
    (omega (arith, c.decreases, light.1), (c.requires.scope, (c.in_ok-first-in_default-2.ensures.letters, forms.1)))

pub in_chain-returns-in_ok-union-in_default-clause-letters : goal.in_chain-returns-in_ok-union-in_default-clause-letters
in_chain-returns-in_ok-union-in_default-clause-letters t c =
    let A = all_letters c.args.scope.now.numbers.items in
    let either = c.in_ok-union-in_default.field-0 in
    let two = two_only A c.args.before c.in_ok-choice-in_default.choice either c.in_ok-union-in_default.ensures.letters c.requires.before c.in_ok-choice-in_default.ensures.letters in
    IfOk-weaker _ _ _ (λ m used. less_only A either m used two) c.reduced-in_default.ensures.letters

pub in_chain-returns-in_ok-union-in_default-clause-words : goal.in_chain-returns-in_ok-union-in_default-clause-words
in_chain-returns-in_ok-union-in_default-clause-words t c =
    let leaf = stands c.args.scope.now in
    let A = c.args.scope.now.numbers.items in
    let links = c.args.links.now in
    let either = c.in_ok-union-in_default.field-0 in
    let all = c.are_choices.ensures.0 c.if-are_choices.true in
    let chosen = chain_choice leaf A links all c.args.before c.in_ok-choice-in_default.choice either c.in_ok-choice-in_default.ensures.words c.in_ok-union-in_default.ensures.language in
    IfOk-weaker _ _ _ (λ m same. words_then (Accepts m) (Accepts either) (InChain leaf A (Accepts c.args.before) (links_in links)) same chosen) c.reduced-in_default.ensures.language

pub in_chain-returns-in-len1-clause-words : goal.in_chain-returns-in-len1-clause-words
in_chain-returns-in-len1-clause-words t c =
    let item = c.link-item.result in
    subst (λ (z : List (Link (PairPart Atom))). IfOk c.linked.result (λ m. HasWords m (InChain (stands c.args.scope.now) c.args.scope.now.numbers.items (Accepts c.args.before) (links_in z)))) (sym (one_item c.args.links.now item (omega arith) (omega arith) c.link-item.is)) c.linked.ensures.words

pub in_chain-returns-in_ok-first-in_default-2-clause-words : goal.in_chain-returns-in_ok-first-in_default-2-clause-words
in_chain-returns-in_ok-first-in_default-2-clause-words t c =
    let front = c.split_at.result.0.now in
    let back = c.split_at.result.1.now in
    let whole = c.args.links.now in
    let is = halves_joined front back whole (length whole / 2) c.split_at.ensures.front c.split_at.ensures.back in
    IfOk-weaker _ _ _ (λ m. chain_two (stands c.args.scope.now) c.args.scope.now.numbers.items front back whole (Accepts c.args.before) c.in_ok-first-in_default-2.first m is c.in_ok-first-in_default-2.ensures.words) c.in_chain-in_default-2.ensures.words

pub linked-words_of-requires : goal.linked-words_of-requires
linked-words_of-requires t c =
    let is = c.in-Or.is in
    let weighs = ap link_weight is in
    let form = subst (λ (z : Link (PairPart Atom)). LinksArePairForms (links_in (z ∷ []))) is c.requires.form in
    (omega (arith, c.decreases, weighs), (c.requires.scope, form.0))

pub linked-words_of-requires-in-And : goal.linked-words_of-requires-in-And
linked-words_of-requires-in-And t c =
    let is = c.in-And.is in
    let weighs = ap link_weight is in
    let form = subst (λ (z : Link (PairPart Atom)). LinksArePairForms (links_in (z ∷ []))) is c.requires.form in
    (omega (arith, c.decreases, weighs), (c.requires.scope, form.0))

pub linked-words_of-requires-in-Less : goal.linked-words_of-requires-in-Less
linked-words_of-requires-in-Less t c =
    let is = c.in-Less.is in
    let weighs = ap link_weight is in
    let form = subst (λ (z : Link (PairPart Atom)). LinksArePairForms (links_in (z ∷ []))) is c.requires.form in
    (omega (arith, c.decreases, weighs), (c.requires.scope, form.0))

pub linked-both-requires : goal.linked-both-requires
linked-both-requires t c =
    let scope = c.args.scope.now in
    let same = sym c.deref.ensures.value in
    record {
      distinct = subst (λ (z : List Sym). IsDistinct z) same (numbers_distinct scope c.requires.scope);
      first = subst (λ (z : List Sym). UsesOnly (all_letters z) c.args.before.now) same c.requires.before;
      second = subst (λ (z : List Sym). UsesOnly (all_letters z) c.in_ok-words-in-And.words) same c.in_ok-words-in-And.ensures.letters;
    }

pub linked-minus-requires : goal.linked-minus-requires
linked-minus-requires t c =
    let scope = c.args.scope.now in
    let same = sym c.deref-in-Less.ensures.value in
    record {
      distinct = subst (λ (z : List Sym). IsDistinct z) same (numbers_distinct scope c.requires.scope);
      first = subst (λ (z : List Sym). UsesOnly (all_letters z) c.args.before.now) same c.requires.before;
      second = subst (λ (z : List Sym). UsesOnly (all_letters z) c.in_ok-words-in-Less.words) same c.in_ok-words-in-Less.ensures.letters;
    }

pub linked-returns-in_ok-words-in-Or-clause-letters : goal.linked-returns-in_ok-words-in-Or-clause-letters
linked-returns-in_ok-words-in-Or-clause-letters t c =
    IfOk-weaker _ _ _ (λ m used. two_only (all_letters c.args.scope.now.numbers.items) c.args.before.now c.in_ok-words-in-Or.words m used c.requires.before c.in_ok-words-in-Or.ensures.letters) c.union.ensures.letters

pub linked-returns-in_ok-words-in-Or-clause-words : goal.linked-returns-in_ok-words-in-Or-clause-words
linked-returns-in_ok-words-in-Or-clause-words t c =
    let leaf = stands c.args.scope.now in
    let A = c.args.scope.now.numbers.items in
    subst (λ (z : Link (PairPart Atom)). IfOk c.union.result (λ m. HasWords m (InChain leaf A (Accepts c.args.before.now) (links_in (z ∷ []))))) (sym c.in-Or.is)
    (IfOk-weaker _ _ _ (λ m. linked_or leaf A c.in-Or.operand c.args.before.now c.in_ok-words-in-Or.words m c.in_ok-words-in-Or.ensures.words) c.union.ensures.language)

pub linked-returns-in_ok-words-in-And-clause-letters : goal.linked-returns-in_ok-words-in-And-clause-letters
linked-returns-in_ok-words-in-And-clause-letters t c = rw c.deref.ensures.value at c.both.ensures.letters

pub linked-returns-in_ok-words-in-And-clause-words : goal.linked-returns-in_ok-words-in-And-clause-words
linked-returns-in_ok-words-in-And-clause-words t c =
    let leaf = stands c.args.scope.now in
    let A = c.args.scope.now.numbers.items in
    subst (λ (z : Link (PairPart Atom)). IfOk c.both.result (λ m. HasWords m (InChain leaf A (Accepts c.args.before.now) (links_in (z ∷ []))))) (sym c.in-And.is)
    (IfOk-weaker _ _ _ (λ m. linked_and leaf A c.in-And.operand c.args.before.now c.in_ok-words-in-And.words m c.in_ok-words-in-And.ensures.words) c.both.ensures.words)

pub linked-returns-in_ok-words-in-Less-clause-letters : goal.linked-returns-in_ok-words-in-Less-clause-letters
linked-returns-in_ok-words-in-Less-clause-letters t c = rw c.deref-in-Less.ensures.value at c.minus.ensures.letters

pub linked-returns-in_ok-words-in-Less-clause-words : goal.linked-returns-in_ok-words-in-Less-clause-words
linked-returns-in_ok-words-in-Less-clause-words t c =
    let leaf = stands c.args.scope.now in
    let A = c.args.scope.now.numbers.items in
    subst (λ (z : Link (PairPart Atom)). IfOk c.minus.result (λ m. HasWords m (InChain leaf A (Accepts c.args.before.now) (links_in (z ∷ []))))) (sym c.in-Less.is)
    (IfOk-weaker _ _ _ (λ m. linked_less leaf A c.in-Less.operand c.args.before.now c.in_ok-words-in-Less.words m c.in_ok-words-in-Less.ensures.words) c.minus.ensures.words)

pub words_of-words_of-requires : goal.words_of-words_of-requires
words_of-words_of-requires t c =
    let is = ap term c.in-Group.is in
    let inner = c.deref-in-Group.ensures in
    (rw inner (omega (arith, c.decreases, ap weight is)), (c.requires.scope, rw inner (subst (λ (e : Term (PairPart Atom)). IsPairForm (mapped part_of e)) is c.requires.form)))

pub words_of-words_of-requires-in-Maybe : goal.words_of-words_of-requires-in-Maybe
words_of-words_of-requires-in-Maybe t c =
    let is = ap term c.in-Maybe.is in
    let inner = c.deref-in-Maybe.ensures in
    (rw inner (omega (arith, c.decreases, ap weight is)), (c.requires.scope, rw inner (subst (λ (e : Term (PairPart Atom)). IsPairForm (mapped part_of e)) is c.requires.form)))

pub words_of-words_of-requires-in-NotOne : goal.words_of-words_of-requires-in-NotOne
words_of-words_of-requires-in-NotOne t c =
    let is = ap term c.in-NotOne.is in
    let inner = c.deref-in-NotOne.ensures in
    (rw inner (omega (arith, c.decreases, ap weight is)), (c.requires.scope, rw inner (subst (λ (e : Term (PairPart Atom)). IsPairForm (mapped part_of e)) is c.requires.form)))

pub words_of-words_of-requires-in-Suffixed : goal.words_of-words_of-requires-in-Suffixed
words_of-words_of-requires-in-Suffixed t c =
    let is = ap term c.in-Suffixed.is in
    let inner = c.deref-in-Suffixed.ensures in
    (rw inner (omega (arith, c.decreases, ap weight is)), (c.requires.scope, rw inner (subst (λ (e : Term (PairPart Atom)). IsPairForm (mapped part_of e)) is c.requires.form)))

pub words_of-words_of-requires-in-Prefixed : goal.words_of-words_of-requires-in-Prefixed
words_of-words_of-requires-in-Prefixed t c =
    let is = ap term c.in-Prefixed.is in
    let inner = c.deref-in-Prefixed.ensures in
    (rw inner (omega (arith, c.decreases, ap weight is)), (c.requires.scope, rw inner (subst (λ (e : Term (PairPart Atom)). IsPairForm (mapped part_of e)) is c.requires.form)))

pub words_of-words_of-requires-in-Chain : goal.words_of-words_of-requires-in-Chain
words_of-words_of-requires-in-Chain t c =
    let is = ap term c.in-Chain.is ∙ term-Chain c.in-Chain.first c.in-Chain.links in
    let inner = c.deref-in-Chain.ensures in
    let form = subst (λ (e : Term (PairPart Atom)). IsPairForm (mapped part_of e)) is c.requires.form in
    (rw inner (omega (arith, c.decreases, ap weight is)), (c.requires.scope, rw inner form.0))

pub words_of-ignored-requires : goal.words_of-ignored-requires
words_of-ignored-requires t c =
    let is = ap term c.in-Ignore.is ∙ term-Ignore c.in-Ignore.operands in
    let slice = c.deref-in-Ignore.ensures.value in
    (rw slice (omega (arith, c.decreases, ap weight is)), (c.requires.scope, rw slice (subst (λ (e : Term (PairPart Atom)). IsPairForm (mapped part_of e)) is c.requires.form)))

pub words_of-concat_operands-requires : goal.words_of-concat_operands-requires
words_of-concat_operands-requires t c =
    let is = ap term c.in-Concat.is ∙ term-Concat c.in-Concat.operands in
    let slice = c.deref-in-Concat.ensures.value in
    (rw slice (omega (arith, c.decreases, ap weight is)), (c.requires.scope, rw slice (subst (λ (e : Term (PairPart Atom)). IsPairForm (mapped part_of e)) is c.requires.form)))

pub words_of-in_chain-requires : goal.words_of-in_chain-requires
words_of-in_chain-requires t c =
    let is = ap term c.in-Chain.is ∙ term-Chain c.in-Chain.first c.in-Chain.links in
    let slice = c.deref-in-Chain-2.ensures.value in
    let form = subst (λ (e : Term (PairPart Atom)). IsPairForm (mapped part_of e)) is c.requires.form in
    (rw slice (omega (arith, c.decreases, ap weight is)), (c.requires.scope, (c.in_ok-words-in-Chain.ensures.letters, rw slice form.1)))

pub words_of-not_one_times-requires : goal.words_of-not_one_times-requires
words_of-not_one_times-requires t c =
    let scope = c.args.scope.now in
    let same = sym c.deref-in-NotOne-2.ensures.value in
    record {
      distinct = subst (λ (z : List Sym). IsDistinct z) same (numbers_distinct scope c.requires.scope);
      only = subst (λ (z : List Sym). UsesOnly (all_letters z) c.in_ok-words-in-NotOne.words) same c.in_ok-words-in-NotOne.ensures.letters;
    }

pub words_of-apply_prefixes-requires : goal.words_of-apply_prefixes-requires
words_of-apply_prefixes-requires t c =
    let scope = c.args.scope.now in
    let same = sym c.deref-in-Prefixed-2.ensures.value in
    record {
      distinct = subst (λ (z : List Sym). IsDistinct z) same (numbers_distinct scope c.requires.scope);
      only = subst (λ (z : List Sym). UsesOnly (all_letters z) c.in_ok-words-in-Prefixed.words) same c.in_ok-words-in-Prefixed.ensures.letters;
    }

pub words_of-returns-in-Empty-clause-letters : goal.words_of-returns-in-Empty-clause-letters
words_of-returns-in-Empty-clause-letters t c = IfOk-weaker _ _ _ (λ m. empty_only (all_letters c.args.scope.now.numbers.items) m) c.word.ensures.letters

pub words_of-returns-in-Any-clause-letters : goal.words_of-returns-in-Any-clause-letters
words_of-returns-in-Any-clause-letters t c =
    IfOk-weaker _ _ _ (λ m. inner_only c.args.scope.now.numbers.items m) (rw c.deref.ensures.value at c.one_of.ensures.letters)

pub words_of-returns-in-Any-clause-words : goal.words_of-returns-in-Any-clause-words
words_of-returns-in-Any-clause-words t c =
    subst (λ (x : Expr (PairPart Atom)). IfOk c.one_of.result (HasWordsOf c.args.scope.now (term_of x))) (sym c.in-Any.is) (rw c.deref.ensures.value at c.one_of.ensures.words)

pub words_of-returns-in-Edge-clause-letters : goal.words_of-returns-in-Edge-clause-letters
words_of-returns-in-Edge-clause-letters t c = IfOk-weaker _ _ _ (λ m. edge_only c.args.scope.now.numbers.items m) c.word-in-Edge.ensures.letters

pub words_of-returns-in-Atom-clause-words : goal.words_of-returns-in-Atom-clause-words
words_of-returns-in-Atom-clause-words t c = subst (λ (x : Expr (PairPart Atom)). IfOk c.leaf.result (HasWordsOf c.args.scope.now (term_of x))) (sym c.in-Atom.is) c.leaf.ensures.words

pub words_of-returns-in-Group-clause-words : goal.words_of-returns-in-Group-clause-words
words_of-returns-in-Group-clause-words t c =
    subst (λ (x : Expr (PairPart Atom)). IfOk c.words_of.result (HasWordsOf c.args.scope.now (term_of x))) (sym c.in-Group.is) (rw c.deref-in-Group.ensures at c.words_of.ensures.words)

pub words_of-returns-in_ok-words_of-in-Maybe-clause-words : goal.words_of-returns-in_ok-words_of-in-Maybe-clause-words
words_of-returns-in_ok-words_of-in-Maybe-clause-words t c =
    let e = term_of c.in-Maybe.inner.value in
    let words = c.in_ok-words_of-in-Maybe.field-0 in
    let first = rw c.deref-in-Maybe.ensures at c.in_ok-words_of-in-Maybe.ensures.words in
    subst (λ (x : Expr (PairPart Atom)). IfOk c.perhaps-in-Maybe.result (HasWordsOf c.args.scope.now (term_of x))) (sym c.in-Maybe.is)
    (IfOk-weaker _ _ _ (λ m. maybe_words c.args.scope.now e words m first) c.perhaps-in-Maybe.ensures.words)

pub words_of-returns-in_ok-words-in-NotOne-clause-letters : goal.words_of-returns-in_ok-words-in-NotOne-clause-letters
words_of-returns-in_ok-words-in-NotOne-clause-letters t c = rw c.deref-in-NotOne-2.ensures.value at c.not_one_times.ensures.letters

pub words_of-returns-in_ok-words-in-NotOne-clause-words : goal.words_of-returns-in_ok-words-in-NotOne-clause-words
words_of-returns-in_ok-words-in-NotOne-clause-words t c =
    let e = term_of c.in-NotOne.inner.value in
    let first = rw c.deref-in-NotOne.ensures at c.in_ok-words-in-NotOne.ensures.words in
    subst (λ (x : Expr (PairPart Atom)). IfOk c.not_one_times.result (HasWordsOf c.args.scope.now (term_of x))) (sym c.in-NotOne.is)
    (IfOk-weaker _ _ _ (λ m. not_one_words c.args.scope.now e c.in_ok-words-in-NotOne.words m first c.in-NotOne.count) (rw c.deref-in-NotOne-2.ensures.value at c.not_one_times.ensures.words))

pub words_of-returns-in_ok-words_of-in-Suffixed-clause-words : goal.words_of-returns-in_ok-words_of-in-Suffixed-clause-words
words_of-returns-in_ok-words_of-in-Suffixed-clause-words t c =
    let e = term_of c.in-Suffixed.inner.value in
    let form = subst (λ (x : Expr (PairPart Atom)). IsPairForm (term_of x)) c.in-Suffixed.is c.requires.form in
    let words = c.in_ok-words_of-in-Suffixed.field-0 in
    let first = rw c.deref-in-Suffixed.ensures at c.in_ok-words_of-in-Suffixed.ensures.words in
    subst (λ (x : Expr (PairPart Atom)). IfOk c.with_suffixes.result (HasWordsOf c.args.scope.now (term_of x))) (sym c.in-Suffixed.is)
    (IfOk-weaker _ _ _ (λ m. suffixed_words c.args.scope.now e words m first c.in-Suffixed.suffixes.items form) (rw c.deref-in-Suffixed-2.ensures.value at c.with_suffixes.ensures.words))

pub words_of-returns-in_ok-words-in-Prefixed-clause-letters : goal.words_of-returns-in_ok-words-in-Prefixed-clause-letters
words_of-returns-in_ok-words-in-Prefixed-clause-letters t c = rw c.deref-in-Prefixed-2.ensures.value at c.apply_prefixes.ensures.letters

pub words_of-returns-in_ok-words-in-Prefixed-clause-words : goal.words_of-returns-in_ok-words-in-Prefixed-clause-words
words_of-returns-in_ok-words-in-Prefixed-clause-words t c =
    let e = term_of c.in-Prefixed.inner.value in
    let first = rw c.deref-in-Prefixed.ensures at c.in_ok-words-in-Prefixed.ensures.words in
    subst (λ (x : Expr (PairPart Atom)). IfOk c.apply_prefixes.result (HasWordsOf c.args.scope.now (term_of x))) (sym c.in-Prefixed.is)
    (IfOk-weaker _ _ _ (λ m. prefixed_words c.args.scope.now e c.in_ok-words-in-Prefixed.words m first c.in-Prefixed.prefixes.items) (rw (c.deref-in-Prefixed-2.ensures.value, c.deref-in-Prefixed-3.ensures.value) at c.apply_prefixes.ensures.words))

pub words_of-returns-in-Ignore-clause-words : goal.words_of-returns-in-Ignore-clause-words
words_of-returns-in-Ignore-clause-words t c =
    let is = ap term c.in-Ignore.is ∙ term-Ignore c.in-Ignore.operands in
    subst (λ (e : Term (PairPart Atom)). IfOk c.ignored.result (HasWordsOf c.args.scope.now (mapped part_of e))) (sym is) (rw c.deref-in-Ignore.ensures.value at c.ignored.ensures.words)

pub words_of-returns-in_ok-concat_operands-in-Concat-clause-letters : goal.words_of-returns-in_ok-concat_operands-in-Concat-clause-letters
words_of-returns-in_ok-concat_operands-in-Concat-clause-letters t c =
    IfOk-weaker _ _ _ (λ m used. less_only (all_letters c.args.scope.now.numbers.items) c.in_ok-concat_operands-in-Concat.field-0 m used c.in_ok-concat_operands-in-Concat.ensures.letters) c.reduced-in-Concat.ensures.letters

pub words_of-returns-in_ok-concat_operands-in-Concat-clause-words : goal.words_of-returns-in_ok-concat_operands-in-Concat-clause-words
words_of-returns-in_ok-concat_operands-in-Concat-clause-words t c =
    let leaf = stands c.args.scope.now in
    let A = c.args.scope.now.numbers.items in
    let is = ap term c.in-Concat.is ∙ term-Concat c.in-Concat.operands in
    let words = c.in_ok-concat_operands-in-Concat.field-0 in
    let row = In leaf A (concat (terms_in c.in-Concat.operands.items)) in
    let first = rw c.deref-in-Concat.ensures.value at c.in_ok-concat_operands-in-Concat.ensures.words in
    subst (λ (e : Term (PairPart Atom)). IfOk c.reduced-in-Concat.result (HasWordsOf c.args.scope.now (mapped part_of e))) (sym is)
    (IfOk-weaker _ _ _ (λ m same. words_then (Accepts m) (Accepts words) row same first) c.reduced-in-Concat.ensures.language)

pub words_of-returns-in_ok-words-in-Chain-clause-words : goal.words_of-returns-in_ok-words-in-Chain-clause-words
words_of-returns-in_ok-words-in-Chain-clause-words t c =
    let leaf = stands c.args.scope.now in
    let A = c.args.scope.now.numbers.items in
    let is = ap term c.in-Chain.is ∙ term-Chain c.in-Chain.first c.in-Chain.links in
    let e = term_of c.in-Chain.first.value in
    let first = rw c.deref-in-Chain.ensures at c.in_ok-words-in-Chain.ensures.words in
    subst (λ (e : Term (PairPart Atom)). IfOk c.in_chain.result (HasWordsOf c.args.scope.now (mapped part_of e))) (sym is)
    (IfOk-weaker _ _ _ (λ m. before_same leaf A c.in-Chain.links.items (Accepts c.in_ok-words-in-Chain.words) (In leaf A e) m first) (rw c.deref-in-Chain-2.ensures.value at c.in_chain.ensures.words))

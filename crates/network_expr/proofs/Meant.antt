-- What networks are that are made of networks of which it is known what they are.
use Rattle.std.proofs.Common.{◌≡◌, ◌↔◌, ◌⊎◌, ℕ, Bool, cond, false, true, List, [], ◌∷◌, ◌++◌, Some, None, All, slice_get, refl, sym, ap, subst, ◌∙◌, inl, inr}
use Rattle.std.specs.List.{Contains}
use Rattle.std.proofs.lemmas.List.Elements.{All-nil, All-cons, All-append}
use Rattle.fsm_base.specs.declared.letters.Bound.{Bound}
use Rattle.fsm_base.specs.declared.letters.Bound.TheVariants.{Edge}
use Rattle.fsm_base.specs.declared.letters.Pair.{Pair}
use Rattle.fsm_base.specs.declared.letters.Sym.{Sym}
use Rattle.word_relations.specs.Words.{IsOver, IsConcatenation}
use Rattle.word_relations.specs.Relations.{AreSame, IsConcatenationOfPairs}
use Rattle.word_relations.proofs.Laws.{IsConcatenation-more, IsConcatenation-empty_right}
use Rattle.word_relations.proofs.Members.{Contains-nil_cases, Contains-head}
use Rattle.word_relations.proofs.Pairs.{concatenation_same, concatenation_empty_right, same_trans, same_back}
use Rattle.fsa.specs.Automaton.{Automaton, UsesLetter}
use Rattle.fsa.specs.Language.{Accepts, stop, read, skip}
use Rattle.fsa.specs.Complete.{Complete}
use Rattle.fst_algebra.specs.Relation.{IsRelated}
use Rattle.lang_algebra.specs.Languages.{IsLang}
use Rattle.lang_algebra.proofs.Made.{IsLang-same}
use Rattle.word_relations.specs.Operations.{IsOneLetter, IsIgnoring}
use Rattle.regex_ast.specs.declared.expr.Prefix.{Prefix}
use Rattle.regex_ast.specs.declared.expr.Atom.{Atom}
use Rattle.regex_ast.specs.declared.expr.Atom.TheVariants.{Sym as Symbol}
use Rattle.regex_ast.specs.declared.expr.Link.{Link}
use Rattle.regex_ast.specs.declared.expr.Context.{Context}
use Rattle.regex_ast.specs.Terms.{Term, Terms, Links, Contexts, Steps, empty, any, atom, letters, maybe, cross, prefixed, not_one, ignore, concat, only, no_term, then_term, no_link, or, no_context, between, terms_of, links_of, contexts_of}
use Rattle.expr_kinds.specs.Atoms.{are_one_symbol}
use Rattle.expr_kinds.specs.Kinds.{are_alike, both, half, kind_of, kind_of_each, kind_of_chain, kind_of_steps, kind_of_contexts, ChainFits, StepsFit, ContextsFit, EachFitsAsLanguage}
use Rattle.expr_kinds.specs.declared.form.Kind.{Kind}
use Rattle.expr_kinds.specs.declared.form.Kind.TheVariants.{Language, Relation}
use Rattle.expr_meaning.specs.Operators.{inner, IsItself, ArePrefixed, IsNotOne, HasSuffix, HasPrefix}
use Rattle.network_expr.specs.Parts.{kinds, stands}
use Rattle.network_expr.specs.declared.parts.Part.{Part}
use Rattle.expr_meaning.specs.Meaning.{In, InLeaf, InLeaves, InEach, InIgnoring, InChain, InContext, InSteps, Relates, RelatesEach, RelatesChain, RelatesSteps}
use Rattle.expr_meaning.proofs.Languages.{both_languages, language_itself}
use Rattle.network_expr.proofs.Named.{parts_sound}
use Rattle.network_algebra.specs.Networks.{all_letters, UsesOnly, UsesSymbols, IsNetwork, kind_of_network, WordsOf, PairsOf, IsFor}
use Rattle.network_algebra.specs.declared.network.Network.{Network}
use Rattle.network_algebra.specs.declared.network.Network.TheVariants.{Words}
use Rattle.network_algebra.proofs.Meanings.{words_for, no_language}
use Rattle.network_sets.specs.Split.{split}
use Rattle.network_sets.specs.declared.parts.Split.{Split}
use Rattle.network_sets.proofs.Inside.{over_all}
use Rattle.network_expr.specs.Built.{IsMeant, IsChoice}
use Rattle.network_sets.proofs.Alike.{SameWords, words_then, words_back, ignoring_same, prefixes_same, not_one_same}
use Rattle.network_sets.proofs.Suffixed.{for_same, for_itself}
use Rattle.network_expr.proofs.Rows.{each_words, each_pairs, each_kind, put_in_same, put_in_split, chain_words, chain_language, chain_pairs, chain_words_split, chain_pairs_split, chain_kind, choice_words, choice_pairs, choice_kind, steps_words, steps_language, steps_pairs, context_split}

-- a smaller network that is the same
pub reduced_for : (K : Kind) (P : List (Bound Sym) → Type 0) (R : List Sym → List Sym → Type 0) (n r : Network) → IsFor K P R n → IsFor (kind_of_network n) (WordsOf n) (PairsOf n) r → IsFor K P R r
reduced_for K P R n r f h = for_same (kind_of_network n) K (WordsOf n) P (PairsOf n) R r f.kind_is f.words f.pairs h

-- two operands
module _ (K J : Kind) (P Q : List (Bound Sym) → Type 0) (R S : List Sym → List Sym → Type 0) (a b r : Network) (f : IsFor K P R a) (g : IsFor J Q S b) where
  both_kinds : both (kind_of_network a) (kind_of_network b) ≡ both K J
  both_kinds = ap (λ k. both k (kind_of_network b)) f.kind_is ∙ ap (both K) g.kind_is

  pub concat_for : IsFor (both (kind_of_network a) (kind_of_network b)) (IsConcatenation (WordsOf a) (WordsOf b)) (IsConcatenationOfPairs (PairsOf a) (PairsOf b)) r → IsFor (both K J) (IsConcatenation P Q) (IsConcatenationOfPairs R S) r
  concat_for h =
      for_same (both (kind_of_network a) (kind_of_network b)) (both K J) (IsConcatenation (WordsOf a) (WordsOf b)) (IsConcatenation P Q) (IsConcatenationOfPairs (PairsOf a) (PairsOf b)) (IsConcatenationOfPairs R S) r both_kinds
      (λ is. let two = both_languages K J is in λ w. (
        IsConcatenation-more (WordsOf a) (WordsOf b) P Q (λ v. (f.words two.0 v).0) (λ v. (g.words two.1 v).0) w,
        IsConcatenation-more P Q (WordsOf a) (WordsOf b) (λ v. (f.words two.0 v).1) (λ v. (g.words two.1 v).1) w,
      ))
      (concatenation_same (PairsOf a) (PairsOf b) R S f.pairs g.pairs) h

  pub union_for : IsFor (both (kind_of_network a) (kind_of_network b)) (λ w. WordsOf a w ⊎ WordsOf b w) (λ u w. PairsOf a u w ⊎ PairsOf b u w) r → IsFor (both K J) (λ w. P w ⊎ Q w) (λ u w. R u w ⊎ S u w) r
  union_for h =
      for_same (both (kind_of_network a) (kind_of_network b)) (both K J) (λ w. WordsOf a w ⊎ WordsOf b w) (λ w. P w ⊎ Q w) (λ u w. PairsOf a u w ⊎ PairsOf b u w) (λ u w. R u w ⊎ S u w) r both_kinds
      (λ is w. let two = both_languages K J is in (
        λ x. elim x as (λ _. P w ⊎ Q w) [ inl p ↦ inl ((f.words two.0 w).0 p) | inr q ↦ inr ((g.words two.1 w).0 q) ],
        λ x. elim x as (λ _. WordsOf a w ⊎ WordsOf b w) [ inl p ↦ inl ((f.words two.0 w).1 p) | inr q ↦ inr ((g.words two.1 w).1 q) ],
      ))
      (λ u w. (
        λ x. elim x as (λ _. R u w ⊎ S u w) [ inl p ↦ inl ((f.pairs u w).0 p) | inr q ↦ inr ((g.pairs u w).0 q) ],
        λ x. elim x as (λ _. PairsOf a u w ⊎ PairsOf b u w) [ inl p ↦ inl ((f.pairs u w).1 p) | inr q ↦ inr ((g.pairs u w).1 q) ],
      )) h

module _ (parts : List Part) (alphabet : List Sym) where
  -- a language by its words
  pub words_meant : (e : Term Atom) (m : Automaton (Bound Sym)) → kind_of (kinds parts) e ≡ Language → ((w : List (Bound Sym)) → Accepts m w ↔ In (stands parts) alphabet e w) → IsMeant parts alphabet e (Words m)
  words_meant e m is language =
      subst (λ k. IsFor k (In (stands parts) alphabet e) (Relates (stands parts) alphabet e) (Words m)) (sym is)
      (words_for m (In (stands parts) alphabet e) (Relates (stands parts) alphabet e) language (language_itself (kinds parts) (stands parts) alphabet (parts_sound parts) e is))

  pub meant_words : (e : Term Atom) (n : Network) (m : Automaton (Bound Sym)) → kind_of (kinds parts) e ≡ Language → n ≡ Words m → IsMeant parts alphabet e n → (w : List (Bound Sym)) → Accepts m w ↔ In (stands parts) alphabet e w
  meant_words e n m is same meant w = subst (λ (z : Network). WordsOf z w ↔ In (stands parts) alphabet e w) same (meant.words is w)

  -- leaves
  pub any_meant : (m : Automaton (Bound Sym)) (among : List (Bound Sym)) → among ≡ inner alphabet → ((w : List (Bound Sym)) → Accepts m w ↔ IsOneLetter among w) → IsMeant parts alphabet any (Words m)
  any_meant m among is language = words_meant any m refl (subst (λ (z : List (Bound Sym)). (w : List (Bound Sym)) → Accepts m w ↔ IsOneLetter z w) is language)

  pub symbol_meant : (m : Automaton (Bound Sym)) (s : Sym) → ((w : List (Bound Sym)) → Accepts m w ↔ InLeaves (stands parts) alphabet (Symbol s ∷ []) w) → IsMeant parts alphabet (atom (Symbol s)) (Words m)
  symbol_meant m s language =
      words_meant (atom (Symbol s)) m refl (λ w. let e = IsConcatenation-empty_right (InLeaf (stands parts) alphabet (Symbol s)) w in (λ h. e.0 ((language w).0 h), λ h. (language w).1 (e.1 h)))

  -- symbols in braces
  pub letters_meant : (m : Automaton (Bound Sym)) (all : List Atom) → ((w : List (Bound Sym)) → Accepts m w ↔ InLeaves (stands parts) alphabet all w) → IsMeant parts alphabet (letters all) (Words m)
  letters_meant m all language = words_meant (letters all) m refl language

  -- the empty string or more
  pub maybe_meant : (e : Term Atom) (m : Automaton (Bound Sym)) (n r : Network) → ((w : List (Bound Sym)) → Accepts m w ↔ (w ≡ [])) → IsMeant parts alphabet e n
      → IsFor (both Language (kind_of_network n)) (λ w. Accepts m w ⊎ WordsOf n w) (λ u w. IsItself (Accepts m) u w ⊎ PairsOf n u w) r → IsMeant parts alphabet (maybe e) r
  maybe_meant e m n r none meant h =
      for_same (both Language (kind_of (kinds parts) e)) (kind_of (kinds parts) e) (λ w. In (stands parts) alphabet empty w ⊎ In (stands parts) alphabet e w) (In (stands parts) alphabet (maybe e)) (λ u w. Relates (stands parts) alphabet empty u w ⊎ Relates (stands parts) alphabet e u w) (Relates (stands parts) alphabet (maybe e)) r refl
      (λ is w. (λ x. x, λ x. x))
      (λ u w. (
        λ x. elim x as (λ _. Relates (stands parts) alphabet (maybe e) u w) [ inl p ↦ inl ((nothing u w).0 p) | inr q ↦ inr q ],
        λ x. elim x as (λ _. Relates (stands parts) alphabet empty u w ⊎ Relates (stands parts) alphabet e u w) [ inl p ↦ inl ((nothing u w).1 p) | inr q ↦ inr q ],
      ))
      (union_for Language (kind_of (kinds parts) e) (In (stands parts) alphabet empty) (In (stands parts) alphabet e) (Relates (stands parts) alphabet empty) (Relates (stands parts) alphabet e) (Words m) n r (words_meant empty m refl none) meant h)
    where
      nothing : AreSame (Relates (stands parts) alphabet empty) (λ u w. (u ≡ []) × (w ≡ []))
      nothing u w = let e = Rattle.expr_meaning.proofs.Itself.empty_itself u w in (e.1, e.0)

  -- a colon, by whether its sides are alike
  pub colon_language : (e f : Term Atom) (alike : Bool) → alike ≡ are_alike are_one_symbol (half e) (half f) → alike ≡ true → kind_of (kinds parts) (cross e f) ≡ Language
  colon_language e f alike is same = ap (λ (b : Bool). cond b Language Relation) (sym is ∙ same)

  pub colon_relation : (e f : Term Atom) (alike : Bool) → alike ≡ are_alike are_one_symbol (half e) (half f) → alike ≡ false → kind_of (kinds parts) (cross e f) ≡ Relation
  colon_relation e f alike is other = ap (λ (b : Bool). cond b Language Relation) (sym is ∙ other)

  pub cross_meant : (e f : Term Atom) (a b : Automaton (Bound Sym)) (r : Network) → kind_of (kinds parts) (cross e f) ≡ Relation → ((w : List (Bound Sym)) → Accepts a w ↔ In (stands parts) alphabet e w) → ((w : List (Bound Sym)) → Accepts b w ↔ In (stands parts) alphabet f w)
      → IsFor Relation (λ w. Accepts a w × Accepts b w) (λ u w. Accepts a (inner u) × Accepts b (inner w)) r → IsMeant parts alphabet (cross e f) r
  cross_meant e f a b r is first second h =
      for_same Relation (kind_of (kinds parts) (cross e f)) (λ w. Accepts a w × Accepts b w) (In (stands parts) alphabet (cross e f)) (λ u w. Accepts a (inner u) × Accepts b (inner w)) (Relates (stands parts) alphabet (cross e f)) r (sym is)
      (λ language w. absurd (no_language (sym is ∙ language)))
      (λ u w. (λ x. ((first (inner u)).0 x.0, (second (inner w)).0 x.1), λ x. ((first (inner u)).1 x.0, (second (inner w)).1 x.1))) h

  pub same_meant : (e f : Term Atom) (a b m : Automaton (Bound Sym)) → kind_of (kinds parts) (cross e f) ≡ Language → ((w : List (Bound Sym)) → Accepts a w ↔ In (stands parts) alphabet e w) → ((w : List (Bound Sym)) → Accepts b w ↔ In (stands parts) alphabet f w)
      → ((w : List (Bound Sym)) → Accepts m w ↔ (Accepts a w × Accepts b w)) → IsMeant parts alphabet (cross e f) (Words m)
  same_meant e f a b m is first second language =
      words_meant (cross e f) m is (λ w. (λ h. let r = (language w).0 h in ((first w).0 r.0, (second w).0 r.1), λ h. (language w).1 ((first w).1 h.0, (second w).1 h.1)))

  -- expressions side by side
  pub turn_alone : (e : Term Atom) (n : Network) → IsMeant parts alphabet e n → IsMeant parts alphabet (concat (then_term e no_term)) n
  turn_alone e n meant =
      for_same (kind_of (kinds parts) e) (both (kind_of (kinds parts) e) Language) (In (stands parts) alphabet e) (InEach (stands parts) alphabet (then_term e no_term)) (Relates (stands parts) alphabet e) (RelatesEach (stands parts) alphabet (then_term e no_term)) n
      (both_last (kind_of (kinds parts) e)) (λ language w. let s = IsConcatenation-empty_right (In (stands parts) alphabet e) w in (s.1, s.0))
      (same_back (RelatesEach (stands parts) alphabet (then_term e no_term)) (Relates (stands parts) alphabet e) (concatenation_empty_right (Relates (stands parts) alphabet e))) meant
    where
      both_last : (k : Kind) → k ≡ both k Language
      both_last Language = refl
      both_last Relation = refl

  pub turns_meant : (xs ys whole : List (Term Atom)) (a b r : Network) → xs ++ ys ≡ whole → IsMeant parts alphabet (concat (terms_of xs)) a → IsMeant parts alphabet (concat (terms_of ys)) b
      → IsFor (both (kind_of_network a) (kind_of_network b)) (IsConcatenation (WordsOf a) (WordsOf b)) (IsConcatenationOfPairs (PairsOf a) (PairsOf b)) r → IsMeant parts alphabet (concat (terms_of whole)) r
  turns_meant xs ys whole a b r is f g h =
      let K = kind_of_each (kinds parts) (terms_of xs) in
      let J = kind_of_each (kinds parts) (terms_of ys) in
      let P = InEach (stands parts) alphabet (terms_of xs) in
      let Q = InEach (stands parts) alphabet (terms_of ys) in
      let R = RelatesEach (stands parts) alphabet (terms_of xs) in
      let S = RelatesEach (stands parts) alphabet (terms_of ys) in
      subst (λ (z : List (Term Atom)). IsMeant parts alphabet (concat (terms_of z)) r) is
      (for_same (both K J) (kind_of_each (kinds parts) (terms_of (xs ++ ys))) (IsConcatenation P Q) (InEach (stands parts) alphabet (terms_of (xs ++ ys))) (IsConcatenationOfPairs R S) (RelatesEach (stands parts) alphabet (terms_of (xs ++ ys))) r (sym (each_kind parts alphabet xs ys))
      (λ language w. let s = each_words parts alphabet xs ys w in (s.1, s.0)) (same_back (RelatesEach (stands parts) alphabet (terms_of (xs ++ ys))) (IsConcatenationOfPairs R S) (each_pairs parts alphabet xs ys)) (concat_for K J P Q R S a b r f g h))

  -- rows of `|`, `&` and `-`
  pub chain_for : (K : Kind) (P : List (Bound Sym) → Type 0) (R : List Sym → List Sym → Type 0) (n r : Network) (links : Links Atom) → ChainFits (kinds parts) K links → IsFor K P R n
      → IsFor (kind_of_chain (kinds parts) (kind_of_network n) links) (InChain (stands parts) alphabet (WordsOf n) links) (RelatesChain (stands parts) alphabet (WordsOf n) (PairsOf n) links) r → IsFor (kind_of_chain (kinds parts) K links) (InChain (stands parts) alphabet P links) (RelatesChain (stands parts) alphabet P R links) r
  chain_for K P R n r links fits f h =
      for_same (kind_of_chain (kinds parts) (kind_of_network n) links) (kind_of_chain (kinds parts) K links) (InChain (stands parts) alphabet (WordsOf n) links) (InChain (stands parts) alphabet P links) (RelatesChain (stands parts) alphabet (WordsOf n) (PairsOf n) links) (RelatesChain (stands parts) alphabet P R links) r
      (ap (λ k. kind_of_chain (kinds parts) k links) f.kind_is) (λ is. chain_words parts alphabet links (WordsOf n) P (f.words (chain_language parts alphabet links K is))) (chain_pairs parts alphabet links (WordsOf n) P (PairsOf n) R K fits f.words f.pairs) h

  -- what a row makes of a network
  abbrev pub IsChained : Network → List (Link Atom) → Network → Type 0
  IsChained n links r = IsFor (kind_of_chain (kinds parts) (kind_of_network n) (links_of links)) (InChain (stands parts) alphabet (WordsOf n) (links_of links)) (RelatesChain (stands parts) alphabet (WordsOf n) (PairsOf n) (links_of links)) r

  pub chain_halves : (n inner r : Network) (xs ys whole : List (Link Atom)) → xs ++ ys ≡ whole → ChainFits (kinds parts) (kind_of_chain (kinds parts) (kind_of_network n) (links_of xs)) (links_of ys) → IsChained n xs inner → IsChained inner ys r → IsChained n whole r
  chain_halves n inner r xs ys whole is fits f g =
      let K = kind_of_chain (kinds parts) (kind_of_network n) (links_of xs) in
      let P = InChain (stands parts) alphabet (WordsOf n) (links_of xs) in
      let R = RelatesChain (stands parts) alphabet (WordsOf n) (PairsOf n) (links_of xs) in
      subst (λ (z : List (Link Atom)). IsChained n z r) is
      (for_same (kind_of_chain (kinds parts) K (links_of ys)) (kind_of_chain (kinds parts) (kind_of_network n) (links_of (xs ++ ys))) (InChain (stands parts) alphabet P (links_of ys)) (InChain (stands parts) alphabet (WordsOf n) (links_of (xs ++ ys))) (RelatesChain (stands parts) alphabet P R (links_of ys)) (RelatesChain (stands parts) alphabet (WordsOf n) (PairsOf n) (links_of (xs ++ ys))) r
      (sym (chain_kind parts xs ys (kind_of_network n))) (λ language w. let s = chain_words_split parts alphabet xs ys (WordsOf n) w in (s.1, s.0))
      (same_back (RelatesChain (stands parts) alphabet (WordsOf n) (PairsOf n) (links_of (xs ++ ys))) (RelatesChain (stands parts) alphabet P R (links_of ys)) (chain_pairs_split parts alphabet xs ys (WordsOf n) (PairsOf n))) (chain_for K P R inner r (links_of ys) fits f g))

  -- nothing, of which a row of `|` makes a choice
  abbrev pub NoWord : List (Bound Sym) → Type 0
  NoWord w = ⊥

  abbrev pub NoPair : List Sym → List Sym → Type 0
  NoPair u w = ⊥

  abbrev pub IsChosen : List (Link Atom) → Network → Type 0
  IsChosen links r = IsFor (kind_of_chain (kinds parts) Language (links_of links)) (InChain (stands parts) alphabet (λ w. ⊥) (links_of links)) (RelatesChain (stands parts) alphabet (λ w. ⊥) (λ u w. ⊥) (links_of links)) r

  both_last : (k : Kind) → both k Language ≡ k
  both_last Language = refl
  both_last Relation = refl

  -- what stands before, or one of a row of `|`
  choice_for : (K : Kind) (P : List (Bound Sym) → Type 0) (R : List Sym → List Sym → Type 0) (xs : List (Link Atom)) (r : Network) → All IsChoice xs
      → IsFor (both K (kind_of_chain (kinds parts) Language (links_of xs))) (λ w. P w ⊎ InChain (stands parts) alphabet (λ w. ⊥) (links_of xs) w) (λ u w. R u w ⊎ RelatesChain (stands parts) alphabet (λ w. ⊥) (λ u w. ⊥) (links_of xs) u w) r
      → IsFor (kind_of_chain (kinds parts) K (links_of xs)) (InChain (stands parts) alphabet P (links_of xs)) (RelatesChain (stands parts) alphabet P R (links_of xs)) r
  choice_for K P R xs r all h =
      for_same (both K (kind_of_chain (kinds parts) Language (links_of xs))) (kind_of_chain (kinds parts) K (links_of xs)) (λ w. P w ⊎ InChain (stands parts) alphabet NoWord (links_of xs) w) (InChain (stands parts) alphabet P (links_of xs)) (λ u w. R u w ⊎ RelatesChain (stands parts) alphabet NoWord NoPair (links_of xs) u w) (RelatesChain (stands parts) alphabet P R (links_of xs)) r
      (sym (choice_kind parts xs all K Language) ∙ ap (λ k. kind_of_chain (kinds parts) k (links_of xs)) (both_last K))
      (λ language w.
      let choice = choice_words parts alphabet xs all P NoWord w in
      let more = chain_words parts alphabet (links_of xs) P (λ v. P v ⊎ NoWord v) (λ v. (λ p. inl p, λ x. elim x as (λ _. P v) [ inl p ↦ p | inr none ↦ absurd none ])) w in
      (λ x. more.1 (choice.1 x), λ y. choice.0 (more.0 y)))
      (same_back (RelatesChain (stands parts) alphabet P R (links_of xs)) (λ u w. R u w ⊎ RelatesChain (stands parts) alphabet NoWord NoPair (links_of xs) u w)
      (choice_pairs parts alphabet xs all P NoWord R R NoPair (λ u w. (λ p. inl p, λ x. elim x as (λ _. R u w) [ inl p ↦ p | inr none ↦ absurd none ])))) h

  pub chain_choice : (n b r : Network) (xs : List (Link Atom)) → All IsChoice xs → IsChosen xs b → IsFor (both (kind_of_network n) (kind_of_network b)) (λ w. WordsOf n w ⊎ WordsOf b w) (λ u w. PairsOf n u w ⊎ PairsOf b u w) r → IsChained n xs r
  chain_choice n b r xs all f h =
      let J = kind_of_chain (kinds parts) Language (links_of xs) in
      let Q = InChain (stands parts) alphabet NoWord (links_of xs) in
      let S = RelatesChain (stands parts) alphabet NoWord NoPair (links_of xs) in
      choice_for (kind_of_network n) (WordsOf n) (PairsOf n) xs r all (union_for (kind_of_network n) J (WordsOf n) Q (PairsOf n) S n b r (for_itself n) f h)

  pub choice_halves : (a b r : Network) (xs ys whole : List (Link Atom)) → xs ++ ys ≡ whole → All IsChoice ys → IsChosen xs a → IsChosen ys b → IsFor (both (kind_of_network a) (kind_of_network b)) (λ w. WordsOf a w ⊎ WordsOf b w) (λ u w. PairsOf a u w ⊎ PairsOf b u w) r → IsChosen whole r
  choice_halves a b r xs ys whole is all f g h =
      let K = kind_of_chain (kinds parts) Language (links_of xs) in
      let P = InChain (stands parts) alphabet NoWord (links_of xs) in
      let R = RelatesChain (stands parts) alphabet NoWord NoPair (links_of xs) in
      let J = kind_of_chain (kinds parts) Language (links_of ys) in
      let Q = InChain (stands parts) alphabet NoWord (links_of ys) in
      let S = RelatesChain (stands parts) alphabet NoWord NoPair (links_of ys) in
      subst (λ (z : List (Link Atom)). IsChosen z r) is
      (for_same (kind_of_chain (kinds parts) K (links_of ys)) (kind_of_chain (kinds parts) Language (links_of (xs ++ ys))) (InChain (stands parts) alphabet P (links_of ys)) (InChain (stands parts) alphabet NoWord (links_of (xs ++ ys))) (RelatesChain (stands parts) alphabet P R (links_of ys)) (RelatesChain (stands parts) alphabet NoWord NoPair (links_of (xs ++ ys))) r
      (sym (chain_kind parts xs ys Language)) (λ language w. let s = chain_words_split parts alphabet xs ys NoWord w in (s.1, s.0))
      (same_back (RelatesChain (stands parts) alphabet NoWord NoPair (links_of (xs ++ ys))) (RelatesChain (stands parts) alphabet P R (links_of ys)) (chain_pairs_split parts alphabet xs ys NoWord NoPair))
      (choice_for K P R ys r all (union_for K J P Q R S a b r f g h)))

  -- the operand of one `|`
  pub alone_chosen : (e : Term Atom) (n : Network) → IsMeant parts alphabet e n → IsFor (kind_of_chain (kinds parts) Language (or e no_link)) (InChain (stands parts) alphabet NoWord (or e no_link)) (RelatesChain (stands parts) alphabet NoWord NoPair (or e no_link)) n
  alone_chosen e n meant =
      for_same (kind_of (kinds parts) e) (kind_of (kinds parts) e) (In (stands parts) alphabet e) (λ w. NoWord w ⊎ In (stands parts) alphabet e w) (Relates (stands parts) alphabet e) (λ u w. NoPair u w ⊎ Relates (stands parts) alphabet e u w) n refl
      (λ is w. (λ h. inr h, λ h. elim h as (λ _. In (stands parts) alphabet e w) [ inl none ↦ absurd none | inr here ↦ here ]))
      (λ u w. (λ h. inr h, λ h. elim h as (λ _. Relates (stands parts) alphabet e u w) [ inl none ↦ absurd none | inr here ↦ here ])) meant

  -- nothing accepts nothing
  pub none_chosen : (m : Automaton (Bound Sym)) → ((w : List (Bound Sym)) → Accepts m w → ⊥) → IsChosen [] (Words m)
  none_chosen m none = record {
    kind_is = refl;
    words = λ is w. (λ h. none w h, λ h. absurd h);
    pairs = λ u w. (λ h. none (inner u) h.0, λ h. absurd h);
  }

  -- kinds of languages
  two_kinds : (k j : Kind) → k ≡ Language → j ≡ Language → both k j ≡ Language
  two_kinds k j first second = ap (λ x. both x j) first ∙ second

  -- rows of `.x.` and `.o.`
  pub steps_for : (K : Kind) (P : List (Bound Sym) → Type 0) (R : List Sym → List Sym → Type 0) (n r : Network) (more : Steps Atom) → StepsFit (kinds parts) K more → IsFor K P R n
      → IsFor (kind_of_steps (kinds parts) (kind_of_network n) more) (InSteps (stands parts) alphabet (WordsOf n) more) (RelatesSteps (stands parts) alphabet (WordsOf n) (PairsOf n) more) r → IsFor (kind_of_steps (kinds parts) K more) (InSteps (stands parts) alphabet P more) (RelatesSteps (stands parts) alphabet P R more) r
  steps_for K P R n r more fits f h =
      for_same (kind_of_steps (kinds parts) (kind_of_network n) more) (kind_of_steps (kinds parts) K more) (InSteps (stands parts) alphabet (WordsOf n) more) (InSteps (stands parts) alphabet P more) (RelatesSteps (stands parts) alphabet (WordsOf n) (PairsOf n) more) (RelatesSteps (stands parts) alphabet P R more) r
      (ap (λ k. kind_of_steps (kinds parts) k more) f.kind_is) (λ is. steps_words parts alphabet more (WordsOf n) P (f.words (steps_language parts alphabet more K is))) (steps_pairs parts alphabet more (WordsOf n) P (PairsOf n) R K fits f.words f.pairs) h

  -- contexts
  pub context_kind : (contexts : Contexts Atom) → ContextsFit (kinds parts) contexts → kind_of_contexts (kinds parts) contexts ≡ Language
  context_kind no_context fits = refl
  context_kind (between l r contexts) (first, f, second, g, fits) = two_kinds (both (kind_of (kinds parts) l) (kind_of (kinds parts) r)) (kind_of_contexts (kinds parts) contexts) (two_kinds (kind_of (kinds parts) l) (kind_of (kinds parts) r) first second) (context_kind contexts fits)

  -- the places that are in one of the contexts
  abbrev pub AreIn : Contexts Atom → Automaton Split → Type 0
  AreIn contexts m = (x y z : List (Bound Sym)) → IsOver (inner alphabet) x → IsOver (inner alphabet) y → IsOver (inner alphabet) z → Accepts m (split (Edge ∷ x) y (z ++ Edge ∷ [])) ↔ InContext (stands parts) alphabet contexts x z

  pub context_one : (l r : Term Atom) (left right : Automaton (Bound Sym)) (m : Automaton Split) → ((w : List (Bound Sym)) → Accepts left w ↔ In (stands parts) alphabet l w) → ((w : List (Bound Sym)) → Accepts right w ↔ In (stands parts) alphabet r w)
      → ((x y z : List (Bound Sym)) → IsOver (all_letters alphabet) x → IsOver (all_letters alphabet) y → IsOver (all_letters alphabet) z → Accepts m (split x y z) ↔ (HasSuffix (Accepts left) x × HasPrefix (Accepts right) z)) → AreIn (between l r no_context) m
  context_one l r left right m first second language x y z over_x over_y over_z =
      let edge_in : Contains (all_letters alphabet) Edge = Contains-head Edge (inner alphabet) in
      let before : IsOver (all_letters alphabet) (Edge ∷ x) = All-cons (Contains (all_letters alphabet)) Edge x edge_in (over_all alphabet x over_x) in
      let behind : IsOver (all_letters alphabet) (z ++ Edge ∷ []) = All-append (Contains (all_letters alphabet)) z (Edge ∷ []) (over_all alphabet z over_z) (All-cons (Contains (all_letters alphabet)) Edge [] edge_in (All-nil (Contains (all_letters alphabet)))) in
      let same = language (Edge ∷ x) y (z ++ Edge ∷ []) before (over_all alphabet y over_y) behind in (
        λ h.
            let r = same.0 h in
            let a = r.0 in
            let b = r.1 in
            inl ((a.0, a.1, a.2, (first a.1).0 a.3), (b.0, b.1, b.2, (second b.0).0 b.3)),
        λ h. elim h as (λ _. Accepts m (split (Edge ∷ x) y (z ++ Edge ∷ []))) [
          | inl ((f, b, e, p), (f', b', e', q)) ↦ same.1 ((f, b, e, (first b).1 p), (f', b', e', (second f').1 q))
          | inr none ↦ absurd none
        ],
      )

  pub context_halves : (xs ys whole : List (Context Atom)) (a b m : Automaton Split) → xs ++ ys ≡ whole → AreIn (contexts_of xs) a → AreIn (contexts_of ys) b → ((v : List Split) → Accepts m v ↔ (Accepts a v ⊎ Accepts b v)) → AreIn (contexts_of whole) m
  context_halves xs ys whole a b m is f g language =
      subst (λ (c : List (Context Atom)). AreIn (contexts_of c) m) is
      (λ x y z over_x over_y over_z.
      let v = split (Edge ∷ x) y (z ++ Edge ∷ []) in
      let one = f x y z over_x over_y over_z in
      let two = g x y z over_x over_y over_z in
      let split_in = context_split parts alphabet xs ys x z in (
        λ h. split_in.1 (elim ((language v).0 h) as (λ _. InContext (stands parts) alphabet (contexts_of xs) x z ⊎ InContext (stands parts) alphabet (contexts_of ys) x z) [ inl p ↦ inl (one.0 p) | inr q ↦ inr (two.0 q) ]),
        λ h. (language v).1 (elim (split_in.0 h) as (λ _. Accepts a v ⊎ Accepts b v) [ inl p ↦ inl (one.1 p) | inr q ↦ inr (two.1 q) ]),
      ))

  pub no_contexts : (m : Automaton Split) → ((v : List Split) → Accepts m v → ⊥) → AreIn no_context m
  no_contexts m none x y z over_x over_y over_z = (λ h. none (split (Edge ∷ x) y (z ++ Edge ∷ [])) h, λ h. absurd h)

  -- a restriction
  pub only_meant : (e : Term Atom) (contexts : Contexts Atom) (centre : Automaton (Bound Sym)) (allowed : Automaton Split) (m : Automaton (Bound Sym)) → kind_of (kinds parts) e ≡ Language → ContextsFit (kinds parts) contexts → ((w : List (Bound Sym)) → Accepts centre w ↔ In (stands parts) alphabet e w) → AreIn contexts allowed
      → ((w : List (Bound Sym)) → Accepts m w ↔ (IsOver (inner alphabet) w × ((x y z : List (Bound Sym)) → w ≡ x ++ (y ++ z) → Accepts centre y → Accepts allowed (split (Edge ∷ x) y (z ++ Edge ∷ []))))) → IsMeant parts alphabet (only e contexts) (Words m)
  only_meant e contexts centre allowed m kind fits first places language =
      words_meant (only e contexts) m (two_kinds (kind_of (kinds parts) e) (kind_of_contexts (kinds parts) contexts) kind (context_kind contexts fits)) (λ w. (
        λ h. let r = (language w).0 h in (r.0, λ x y z is p. let over = pieces w r.0 x y z is in (places x y z over.0 over.1 over.2).0 (r.1 x y z is ((first y).1 p))),
        λ (over_w, all). (language w).1 (over_w, λ x y z is p. let over = pieces w over_w x y z is in (places x y z over.0 over.1 over.2).1 (all x y z is ((first y).0 p))),
      ))
    where
      pieces : (w : List (Bound Sym)) → IsOver (inner alphabet) w → (x y z : List (Bound Sym)) → w ≡ x ++ (y ++ z) → IsOver (inner alphabet) x × IsOver (inner alphabet) y × IsOver (inner alphabet) z
      pieces w over x y z is =
          let whole : IsOver (inner alphabet) (x ++ (y ++ z)) = subst (IsOver (inner alphabet)) is over in
          let rest : IsOver (inner alphabet) (y ++ z) = Rattle.network_sets.proofs.Inside.over_right (Contains (inner alphabet)) x (y ++ z) whole in
          (Rattle.network_sets.proofs.Inside.over_left (Contains (inner alphabet)) x (y ++ z) whole, Rattle.network_sets.proofs.Inside.over_left (Contains (inner alphabet)) y z rest, Rattle.network_sets.proofs.Inside.over_right (Contains (inner alphabet)) y z rest)

-- letters of what was made
pub empty_only : {L : Type 0} (among : List L) (m : Automaton L) → ((x : L) → UsesLetter m x → Contains [] x) → UsesOnly among m
empty_only among m none x used = absurd (Contains-nil_cases x (none x used))

pub given_one : (alphabet : List Sym) (n r : Network) → IsNetwork alphabet n → ((symbols : List Sym) → IsNetwork symbols n → IsNetwork symbols r) → IsNetwork alphabet r
given_one alphabet n r first whole = whole alphabet first

pub given_two : (alphabet : List Sym) (a b r : Network) → IsNetwork alphabet a → IsNetwork alphabet b → ((symbols : List Sym) → IsNetwork symbols a → IsNetwork symbols b → IsNetwork symbols r) → IsNetwork alphabet r
given_two alphabet a b r first second whole = whole alphabet first second

module _ (parts : List Part) (alphabet : List Sym) where
  -- words put in
  pub ignore_row : (e : Term Atom) (es : Terms Atom) (before m : Automaton (Bound Sym)) → ((w : List (Bound Sym)) → Accepts before w ↔ In (stands parts) alphabet e w) → ((w : List (Bound Sym)) → Accepts m w ↔ InIgnoring (stands parts) alphabet (Accepts before) es w)
      → (w : List (Bound Sym)) → Accepts m w ↔ In (stands parts) alphabet (ignore (then_term e es)) w
  ignore_row e es before m first language = words_then (Accepts m) (InIgnoring (stands parts) alphabet (Accepts before) es) (InIgnoring (stands parts) alphabet (In (stands parts) alphabet e) es) language (put_in_same parts alphabet es (Accepts before) (In (stands parts) alphabet e) first)

  pub ignore_one : (e : Term Atom) (before words m : Automaton (Bound Sym)) → ((w : List (Bound Sym)) → Accepts words w ↔ In (stands parts) alphabet e w) → ((w : List (Bound Sym)) → Accepts m w ↔ IsIgnoring (Accepts before) (Accepts words) w) → (w : List (Bound Sym)) → Accepts m w ↔ InIgnoring (stands parts) alphabet (Accepts before) (then_term e no_term) w
  ignore_one e before words m second language =
      words_then (Accepts m) (IsIgnoring (Accepts before) (Accepts words)) (IsIgnoring (Accepts before) (In (stands parts) alphabet e)) language
      (ignoring_same (Accepts before) (Accepts before) (Accepts words) (In (stands parts) alphabet e) (λ w. (λ h. h, λ h. h)) second)

  pub ignore_halves : (xs ys whole : List (Term Atom)) (before inner m : Automaton (Bound Sym)) → xs ++ ys ≡ whole → ((w : List (Bound Sym)) → Accepts inner w ↔ InIgnoring (stands parts) alphabet (Accepts before) (terms_of xs) w)
      → ((w : List (Bound Sym)) → Accepts m w ↔ InIgnoring (stands parts) alphabet (Accepts inner) (terms_of ys) w) → (w : List (Bound Sym)) → Accepts m w ↔ InIgnoring (stands parts) alphabet (Accepts before) (terms_of whole) w
  ignore_halves xs ys whole before inner m is first language =
      let P = InIgnoring (stands parts) alphabet (Accepts before) (terms_of xs) in
      let Both = InIgnoring (stands parts) alphabet P (terms_of ys) in
      subst (λ (z : List (Term Atom)). SameWords (Accepts m) (InIgnoring (stands parts) alphabet (Accepts before) (terms_of z))) is
      (words_then (Accepts m) (InIgnoring (stands parts) alphabet (Accepts inner) (terms_of ys)) (InIgnoring (stands parts) alphabet (Accepts before) (terms_of (xs ++ ys))) language
      (words_then (InIgnoring (stands parts) alphabet (Accepts inner) (terms_of ys)) Both (InIgnoring (stands parts) alphabet (Accepts before) (terms_of (xs ++ ys))) (put_in_same parts alphabet (terms_of ys) (Accepts inner) P first)
      (words_back (InIgnoring (stands parts) alphabet (Accepts before) (terms_of (xs ++ ys))) Both (put_in_split parts alphabet xs ys (Accepts before)))))

  pub each_kind_language : (es : Terms Atom) → EachFitsAsLanguage (kinds parts) es → kind_of_each (kinds parts) es ≡ Language
  each_kind_language no_term fits = refl
  each_kind_language (then_term e es) (is, here, fits) = ap (λ k. both k (kind_of_each (kinds parts) es)) is ∙ each_kind_language es fits

  pub prefixed_meant : (prefixes : List Prefix) (e : Term Atom) (words m : Automaton (Bound Sym)) → kind_of (kinds parts) e ≡ Language → ((w : List (Bound Sym)) → Accepts words w ↔ In (stands parts) alphabet e w) → ((w : List (Bound Sym)) → Accepts m w ↔ ArePrefixed alphabet prefixes (Accepts words) w) → IsMeant parts alphabet (prefixed prefixes e) (Words m)
  prefixed_meant prefixes e words m kind first language =
      words_meant parts alphabet (prefixed prefixes e) m kind
      (words_then (Accepts m) (ArePrefixed alphabet prefixes (Accepts words)) (ArePrefixed alphabet prefixes (In (stands parts) alphabet e)) language (prefixes_same alphabet prefixes (Accepts words) (In (stands parts) alphabet e) first))

  pub not_one_meant : (n : ℕ) (e : Term Atom) (words m : Automaton (Bound Sym)) → kind_of (kinds parts) e ≡ Language → ((w : List (Bound Sym)) → Accepts words w ↔ In (stands parts) alphabet e w) → ((w : List (Bound Sym)) → Accepts m w ↔ IsNotOne alphabet n (Accepts words) w) → IsMeant parts alphabet (not_one n e) (Words m)
  not_one_meant n e words m kind first language =
      words_meant parts alphabet (not_one n e) m kind
      (words_then (Accepts m) (IsNotOne alphabet n (Accepts words)) (IsNotOne alphabet n (In (stands parts) alphabet e)) language (not_one_same alphabet n (Accepts words) (In (stands parts) alphabet e) first))

-- an automaton of one state that isn't final, and without edges
module _ {L : Type 0} (m : Automaton L) (is : m ≡ record { edges = []; finals = false ∷ [] }) where
  pub none_accepted : (v : List L) → Accepts m v → ⊥
  none_accepted v (stop f) = let h : Some false ≡ Some true = subst (λ (z : Automaton L). slice_get z.finals 0 ≡ Some true) is f in cc
  none_accepted v (read {q = q} {x = x} has rest) = Contains-nil_cases (record { from = 0; letter = Some x; to = q }) (subst (λ (z : Automaton L). Contains z.edges (record { from = 0; letter = Some x; to = q })) is has)
  none_accepted v (skip {q = q} has rest) = Contains-nil_cases (record { from = 0; letter = None; to = q }) (subst (λ (z : Automaton L). Contains z.edges (record { from = 0; letter = None; to = q })) is has)

  pub none_used : (x : L) → UsesLetter m x → ⊥
  none_used x (e, has, carries) = Contains-nil_cases e (subst (λ (z : Automaton L). Contains z.edges e) is has)

pub letters_through : (n inner r : Network) → ((s : List Sym) → IsNetwork s n → IsNetwork s inner) → ((s : List Sym) → IsNetwork s inner → IsNetwork s r) → (s : List Sym) → IsNetwork s n → IsNetwork s r
letters_through n inner r first second s h = second s (first s h)

-- a network's transducer and a language's automaton
pub relation_meant : (parts : List Part) (alphabet : List Sym) (e : Term Atom) (n : Network) (m : Automaton Pair) → IsMeant parts alphabet e n → AreSame (IsRelated m) (PairsOf n) → AreSame (IsRelated m) (Relates (stands parts) alphabet e)
relation_meant parts alphabet e n m meant same = same_trans (IsRelated m) (PairsOf n) (Relates (stands parts) alphabet e) same meant.pairs

pub symbols_meant : (alphabet : List Sym) (n : Network) (m : Automaton Pair) → IsNetwork alphabet n → ((symbols : List Sym) → IsNetwork symbols n → UsesSymbols symbols m) → UsesSymbols alphabet m
symbols_meant alphabet n m over used = used alphabet over

pub language_meant : (parts : List Part) (alphabet : List Sym) (e : Term Atom) (words : Automaton (Bound Sym)) (lang : Complete (Bound Sym)) → ((w : List (Bound Sym)) → Accepts words w ↔ In (stands parts) alphabet e w) → IsLang (all_letters alphabet) (Accepts words) lang → IsLang (all_letters alphabet) (In (stands parts) alphabet e) lang
language_meant parts alphabet e words lang same is = IsLang-same (all_letters alphabet) (Accepts words) (In (stands parts) alphabet e) lang same is

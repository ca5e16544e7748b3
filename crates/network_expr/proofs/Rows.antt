-- Rows of operands in two parts.
use Rattle.std.proofs.Common.{◌≡◌, ◌↔◌, ◌⊎◌, ◌<◌, ◌≤◌, ◌+◌, ℕ, List, [], ◌∷◌, ◌++◌, All, length, take, drop, get_or, arith, map, refl, sym, ap, ◌∙◌, inl, inr}
use Rattle.std.proofs.lemmas.List.{map-append, take_more, take-append-drop}
use Rattle.std.proofs.lemmas.List.Elements.{All-head, All-tail}
use Rattle.fsm_base.specs.declared.letters.Bound.{Bound}
use Rattle.fsm_base.specs.declared.letters.Sym.{Sym}
use Rattle.word_relations.specs.Words.{IsConcatenation}
use Rattle.word_relations.specs.Relations.{AreSame, IsConcatenationOfPairs, IsComposition}
use Rattle.word_relations.proofs.Laws.{IsConcatenation-more, IsConcatenation-assoc, IsConcatenation-empty_left}
use Rattle.word_relations.proofs.Pairs.{concatenation_same, concatenation_assoc, concatenation_empty_left, same_trans, same_back, AreEmpty}
use Rattle.word_relations.specs.Operations.{IsIgnoring}
use Rattle.regex_ast.specs.declared.expr.Atom.{Atom}
use Rattle.regex_ast.specs.declared.expr.Expr.{Expr}
use Rattle.regex_ast.specs.declared.expr.Link.{Link, Or, And, Less}
use Rattle.regex_ast.specs.declared.expr.Step.{Step, CrossWith, Then}
use Rattle.regex_ast.specs.declared.expr.Context.{Context}
use Rattle.regex_ast.specs.Terms.{Term, Terms, term, Links, Steps, no_term, then_term, no_link, or, and, less, no_step, cross_with, then, terms_of, links_of, contexts_of, steps_by}
use Rattle.expr_kinds.specs.Kinds.{both, kind_of, kind_of_each, kind_of_chain, kind_of_steps, EachFits, ChainFits, StepsFit, ContextsFit}
use Rattle.expr_kinds.specs.declared.form.Kind.{Kind}
use Rattle.expr_kinds.specs.declared.form.Kind.TheVariants.{Language, Relation}
use Rattle.expr_meaning.specs.Operators.{inner, IsItself}
use Rattle.network_expr.specs.Parts.{kinds, stands}
use Rattle.network_expr.specs.declared.parts.Part.{Part}
use Rattle.expr_meaning.specs.Meaning.{In, InEach, InIgnoring, InChain, InContext, InSteps, Relates, RelatesEach, RelatesChain, RelatesSteps}
use Rattle.expr_meaning.proofs.Languages.{both_languages}
use Rattle.network_expr.specs.Built.{AreBuiltOver, LinksAreBuiltOver, ContextsAreBuiltOver, IsChoice}
use Rattle.network_sets.proofs.Alike.{SameWords, ignoring_same, composition_same}

pub both_three : (a b c : Kind) → both (both a b) c ≡ both a (both b c)
both_three Language b c = refl
both_three Relation b c = refl

module _ (parts : List Part) (alphabet : List Sym) where
  -- side by side
  pub each_words : (xs ys : List (Term Atom)) (w : List (Bound Sym)) → InEach (stands parts) alphabet (terms_of (xs ++ ys)) w ↔ IsConcatenation (InEach (stands parts) alphabet (terms_of xs)) (InEach (stands parts) alphabet (terms_of ys)) w
  each_words [] ys w = let e = IsConcatenation-empty_left (InEach (stands parts) alphabet (terms_of ys)) w in (e.1, e.0)
  each_words (x ∷ xs) ys w =
      let P = In (stands parts) alphabet x in
      let Q = InEach (stands parts) alphabet (terms_of xs) in
      let R = InEach (stands parts) alphabet (terms_of ys) in
      let assoc = IsConcatenation-assoc P Q R w in (
        λ h. assoc.1 (IsConcatenation-more P (InEach (stands parts) alphabet (terms_of (xs ++ ys))) P (IsConcatenation Q R) (λ v p. p) (λ v. (each_words xs ys v).0) w h),
        λ h. IsConcatenation-more P (IsConcatenation Q R) P (InEach (stands parts) alphabet (terms_of (xs ++ ys))) (λ v p. p) (λ v. (each_words xs ys v).1) w (assoc.0 h),
      )

  pub each_pairs : (xs ys : List (Term Atom)) → AreSame (RelatesEach (stands parts) alphabet (terms_of (xs ++ ys))) (IsConcatenationOfPairs (RelatesEach (stands parts) alphabet (terms_of xs)) (RelatesEach (stands parts) alphabet (terms_of ys)))
  each_pairs [] ys = same_back (IsConcatenationOfPairs AreEmpty (RelatesEach (stands parts) alphabet (terms_of ys))) (RelatesEach (stands parts) alphabet (terms_of ys)) (concatenation_empty_left (RelatesEach (stands parts) alphabet (terms_of ys)))
  each_pairs (x ∷ xs) ys =
      let P = Relates (stands parts) alphabet x in
      let Q = RelatesEach (stands parts) alphabet (terms_of xs) in
      let R = RelatesEach (stands parts) alphabet (terms_of ys) in
      same_trans (RelatesEach (stands parts) alphabet (terms_of (x ∷ (xs ++ ys)))) (IsConcatenationOfPairs P (IsConcatenationOfPairs Q R)) (IsConcatenationOfPairs (IsConcatenationOfPairs P Q) R)
      (concatenation_same P (RelatesEach (stands parts) alphabet (terms_of (xs ++ ys))) P (IsConcatenationOfPairs Q R) (λ u w. (λ h. h, λ h. h)) (each_pairs xs ys))
      (same_back (IsConcatenationOfPairs (IsConcatenationOfPairs P Q) R) (IsConcatenationOfPairs P (IsConcatenationOfPairs Q R)) (concatenation_assoc P Q R))

  pub each_kind : (xs ys : List (Term Atom)) → kind_of_each (kinds parts) (terms_of (xs ++ ys)) ≡ both (kind_of_each (kinds parts) (terms_of xs)) (kind_of_each (kinds parts) (terms_of ys))
  each_kind [] ys = refl
  each_kind (x ∷ xs) ys = ap (both (kind_of (kinds parts) x)) (each_kind xs ys) ∙ sym (both_three (kind_of (kinds parts) x) (kind_of_each (kinds parts) (terms_of xs)) (kind_of_each (kinds parts) (terms_of ys)))

  pub each_built : (xs ys : List (Term Atom)) → AreBuiltOver parts alphabet (terms_of (xs ++ ys)) → AreBuiltOver parts alphabet (terms_of xs) × AreBuiltOver parts alphabet (terms_of ys)
  each_built [] ys h = (tt, h)
  each_built (x ∷ xs) ys (here, h) = let r = each_built xs ys h in ((here, r.0), r.1)

  -- words put in
  pub put_in_same : (es : Terms Atom) (P Q : List (Bound Sym) → Type 0) → SameWords P Q → SameWords (InIgnoring (stands parts) alphabet P es) (InIgnoring (stands parts) alphabet Q es)
  put_in_same no_term P Q f = f
  put_in_same (then_term e es) P Q f =
      put_in_same es (IsIgnoring P (In (stands parts) alphabet e)) (IsIgnoring Q (In (stands parts) alphabet e)) (ignoring_same P Q (In (stands parts) alphabet e) (In (stands parts) alphabet e) f (λ w. (λ h. h, λ h. h)))

  pub put_in_split : (xs ys : List (Term Atom)) (P : List (Bound Sym) → Type 0) → SameWords (InIgnoring (stands parts) alphabet P (terms_of (xs ++ ys))) (InIgnoring (stands parts) alphabet (InIgnoring (stands parts) alphabet P (terms_of xs)) (terms_of ys))
  put_in_split [] ys P = λ w. (λ h. h, λ h. h)
  put_in_split (x ∷ xs) ys P = put_in_split xs ys (IsIgnoring P (In (stands parts) alphabet x))

  -- rows of `|`, `&` and `-`

  pub chain_words : (links : Links Atom) (P Q : List (Bound Sym) → Type 0) → SameWords P Q → SameWords (InChain (stands parts) alphabet P links) (InChain (stands parts) alphabet Q links)
  chain_words no_link P Q f = f
  chain_words (or e links) P Q f =
      chain_words links (λ v. P v ⊎ In (stands parts) alphabet e v) (λ v. Q v ⊎ In (stands parts) alphabet e v)
      (λ w. (
        λ h. elim h as (λ _. Q w ⊎ In (stands parts) alphabet e w) [ inl p ↦ inl ((f w).0 p) | inr r ↦ inr r ],
        λ h. elim h as (λ _. P w ⊎ In (stands parts) alphabet e w) [ inl q ↦ inl ((f w).1 q) | inr r ↦ inr r ],
      ))
  chain_words (and e links) P Q f =
      chain_words links (λ v. P v × In (stands parts) alphabet e v) (λ v. Q v × In (stands parts) alphabet e v) (λ w. (λ h. ((f w).0 h.0, h.1), λ h. ((f w).1 h.0, h.1)))
  chain_words (less e links) P Q f =
      chain_words links (λ v. P v × ¬ In (stands parts) alphabet e v) (λ v. Q v × ¬ In (stands parts) alphabet e v) (λ w. (λ h. ((f w).0 h.0, h.1), λ h. ((f w).1 h.0, h.1)))

  -- a row that is a language begins with one
  pub chain_language : (links : Links Atom) (kind : Kind) → kind_of_chain (kinds parts) kind links ≡ Language → kind ≡ Language
  chain_language no_link kind is = is
  chain_language (or e links) kind is = (both_languages kind (kind_of (kinds parts) e) (chain_language links (both kind (kind_of (kinds parts) e)) is)).0
  chain_language (and e links) kind is = (both_languages kind (kind_of (kinds parts) e) (chain_language links (both kind (kind_of (kinds parts) e)) is)).0
  chain_language (less e links) kind is = (both_languages kind (kind_of (kinds parts) e) (chain_language links (both kind (kind_of (kinds parts) e)) is)).0

  pub chain_pairs : (links : Links Atom) (P Q : List (Bound Sym) → Type 0) (R S : List Sym → List Sym → Type 0) (kind : Kind) → ChainFits (kinds parts) kind links → (kind ≡ Language → SameWords P Q) → AreSame R S → AreSame (RelatesChain (stands parts) alphabet P R links) (RelatesChain (stands parts) alphabet Q S links)
  chain_pairs no_link P Q R S kind fits f g = g
  chain_pairs (or e links) P Q R S kind (here, fits) f g =
      chain_pairs links (λ v. P v ⊎ In (stands parts) alphabet e v) (λ v. Q v ⊎ In (stands parts) alphabet e v) (λ u w. R u w ⊎ Relates (stands parts) alphabet e u w) (λ u w. S u w ⊎ Relates (stands parts) alphabet e u w) (both kind (kind_of (kinds parts) e)) fits
      (λ is w. let same = f (both_languages kind (kind_of (kinds parts) e) is).0 in (
        λ h. elim h as (λ _. Q w ⊎ In (stands parts) alphabet e w) [ inl p ↦ inl ((same w).0 p) | inr r ↦ inr r ],
        λ h. elim h as (λ _. P w ⊎ In (stands parts) alphabet e w) [ inl q ↦ inl ((same w).1 q) | inr r ↦ inr r ],
      ))
      (λ u w. (
        λ h. elim h as (λ _. S u w ⊎ Relates (stands parts) alphabet e u w) [ inl r ↦ inl ((g u w).0 r) | inr r ↦ inr r ],
        λ h. elim h as (λ _. R u w ⊎ Relates (stands parts) alphabet e u w) [ inl s ↦ inl ((g u w).1 s) | inr r ↦ inr r ],
      ))
  chain_pairs (and e links) P Q R S kind (is, language, here, fits) f g =
      let both_words : SameWords (λ v. P v × In (stands parts) alphabet e v) (λ v. Q v × In (stands parts) alphabet e v) = λ w. (λ h. ((f is w).0 h.0, h.1), λ h. ((f is w).1 h.0, h.1)) in
      chain_pairs links (λ v. P v × In (stands parts) alphabet e v) (λ v. Q v × In (stands parts) alphabet e v) (IsItself (λ v. P v × In (stands parts) alphabet e v)) (IsItself (λ v. Q v × In (stands parts) alphabet e v)) (both kind (kind_of (kinds parts) e)) fits
      (λ _. both_words) (λ u w. (λ h. ((both_words (inner u)).0 h.0, h.1), λ h. ((both_words (inner u)).1 h.0, h.1)))
  chain_pairs (less e links) P Q R S kind (is, language, here, fits) f g =
      let less_words : SameWords (λ v. P v × ¬ In (stands parts) alphabet e v) (λ v. Q v × ¬ In (stands parts) alphabet e v) = λ w. (λ h. ((f is w).0 h.0, h.1), λ h. ((f is w).1 h.0, h.1)) in
      chain_pairs links (λ v. P v × ¬ In (stands parts) alphabet e v) (λ v. Q v × ¬ In (stands parts) alphabet e v) (IsItself (λ v. P v × ¬ In (stands parts) alphabet e v)) (IsItself (λ v. Q v × ¬ In (stands parts) alphabet e v)) (both kind (kind_of (kinds parts) e)) fits
      (λ _. less_words) (λ u w. (λ h. ((less_words (inner u)).0 h.0, h.1), λ h. ((less_words (inner u)).1 h.0, h.1)))

  pub chain_words_split : (xs ys : List (Link Atom)) (P : List (Bound Sym) → Type 0) → SameWords (InChain (stands parts) alphabet P (links_of (xs ++ ys))) (InChain (stands parts) alphabet (InChain (stands parts) alphabet P (links_of xs)) (links_of ys))
  chain_words_split [] ys P = λ w. (λ h. h, λ h. h)
  chain_words_split (Or e ∷ xs) ys P = chain_words_split xs ys (λ v. P v ⊎ In (stands parts) alphabet (term e) v)
  chain_words_split (And e ∷ xs) ys P = chain_words_split xs ys (λ v. P v × In (stands parts) alphabet (term e) v)
  chain_words_split (Less e ∷ xs) ys P = chain_words_split xs ys (λ v. P v × ¬ In (stands parts) alphabet (term e) v)

  pub chain_pairs_split : (xs ys : List (Link Atom)) (P : List (Bound Sym) → Type 0) (R : List Sym → List Sym → Type 0) → AreSame (RelatesChain (stands parts) alphabet P R (links_of (xs ++ ys))) (RelatesChain (stands parts) alphabet (InChain (stands parts) alphabet P (links_of xs)) (RelatesChain (stands parts) alphabet P R (links_of xs)) (links_of ys))
  chain_pairs_split [] ys P R = λ u w. (λ h. h, λ h. h)
  chain_pairs_split (Or e ∷ xs) ys P R = chain_pairs_split xs ys (λ v. P v ⊎ In (stands parts) alphabet (term e) v) (λ u w. R u w ⊎ Relates (stands parts) alphabet (term e) u w)
  chain_pairs_split (And e ∷ xs) ys P R = chain_pairs_split xs ys (λ v. P v × In (stands parts) alphabet (term e) v) (IsItself (λ v. P v × In (stands parts) alphabet (term e) v))
  chain_pairs_split (Less e ∷ xs) ys P R = chain_pairs_split xs ys (λ v. P v × ¬ In (stands parts) alphabet (term e) v) (IsItself (λ v. P v × ¬ In (stands parts) alphabet (term e) v))

  -- a row of `|` is a choice of what stands before and the row after nothing
  pub choice_words : (xs : List (Link Atom)) → All IsChoice xs → (P Q : List (Bound Sym) → Type 0) → SameWords (InChain (stands parts) alphabet (λ v. P v ⊎ Q v) (links_of xs)) (λ v. P v ⊎ InChain (stands parts) alphabet Q (links_of xs) v)
  choice_words [] all P Q w = (λ h. h, λ h. h)
  choice_words (Or e ∷ xs) all P Q w =
      let E = In (stands parts) alphabet (term e) in
      let rest = choice_words xs (All-tail IsChoice (Or e) xs all) P (λ v. Q v ⊎ E v) w in
      let moved = chain_words (links_of xs) (λ v. (P v ⊎ Q v) ⊎ E v) (λ v. P v ⊎ (Q v ⊎ E v))
      (λ v. (
        λ h. elim h as (λ _. P v ⊎ (Q v ⊎ E v)) [ inl pq ↦ elim pq as (λ _. P v ⊎ (Q v ⊎ E v)) [ inl p ↦ inl p | inr q ↦ inr (inl q) ] | inr x ↦ inr (inr x) ],
        λ h. elim h as (λ _. (P v ⊎ Q v) ⊎ E v) [ inl p ↦ inl (inl p) | inr qe ↦ elim qe as (λ _. (P v ⊎ Q v) ⊎ E v) [ inl q ↦ inl (inr q) | inr x ↦ inr x ] ],
      )) w in
      (λ h. rest.0 (moved.0 h), λ h. moved.1 (rest.1 h))
  choice_words (And e ∷ xs) all P Q w = absurd (All-head IsChoice (And e) xs all)
  choice_words (Less e ∷ xs) all P Q w = absurd (All-head IsChoice (Less e) xs all)

  pub choice_pairs : (xs : List (Link Atom)) → All IsChoice xs → (P Q : List (Bound Sym) → Type 0) (R S T : List Sym → List Sym → Type 0) → AreSame R (λ u w. S u w ⊎ T u w) → AreSame (RelatesChain (stands parts) alphabet P R (links_of xs)) (λ u w. S u w ⊎ RelatesChain (stands parts) alphabet Q T (links_of xs) u w)
  choice_pairs [] all P Q R S T is = is
  choice_pairs (Or e ∷ xs) all P Q R S T is =
      let E = Relates (stands parts) alphabet (term e) in
      choice_pairs xs (All-tail IsChoice (Or e) xs all) (λ v. P v ⊎ In (stands parts) alphabet (term e) v) (λ v. Q v ⊎ In (stands parts) alphabet (term e) v) (λ u w. R u w ⊎ E u w) S (λ u w. T u w ⊎ E u w)
      (λ u w. (
        λ h. elim h as (λ _. S u w ⊎ (T u w ⊎ E u w)) [ inl r ↦ elim ((is u w).0 r) as (λ _. S u w ⊎ (T u w ⊎ E u w)) [ inl s ↦ inl s | inr t ↦ inr (inl t) ] | inr x ↦ inr (inr x) ],
        λ h. elim h as (λ _. R u w ⊎ E u w) [ inl s ↦ inl ((is u w).1 (inl s)) | inr te ↦ elim te as (λ _. R u w ⊎ E u w) [ inl t ↦ inl ((is u w).1 (inr t)) | inr x ↦ inr x ] ],
      ))
  choice_pairs (And e ∷ xs) all P Q R S T is = absurd (All-head IsChoice (And e) xs all)
  choice_pairs (Less e ∷ xs) all P Q R S T is = absurd (All-head IsChoice (Less e) xs all)

  pub chain_built : (xs ys : List (Link Atom)) → LinksAreBuiltOver parts alphabet (links_of (xs ++ ys)) → LinksAreBuiltOver parts alphabet (links_of xs) × LinksAreBuiltOver parts alphabet (links_of ys)
  chain_built [] ys h = (tt, h)
  chain_built (Or e ∷ xs) ys (here, h) = let r = chain_built xs ys h in ((here, r.0), r.1)
  chain_built (And e ∷ xs) ys (here, h) = let r = chain_built xs ys h in ((here, r.0), r.1)
  chain_built (Less e ∷ xs) ys (here, h) = let r = chain_built xs ys h in ((here, r.0), r.1)

  -- rows of `.x.` and `.o.`
  pub steps_words : (more : Steps Atom) (P Q : List (Bound Sym) → Type 0) → SameWords P Q → SameWords (InSteps (stands parts) alphabet P more) (InSteps (stands parts) alphabet Q more)
  steps_words no_step P Q f = f
  steps_words (cross_with e more) P Q f =
      steps_words more (λ v. P v × In (stands parts) alphabet e v) (λ v. Q v × In (stands parts) alphabet e v) (λ w. (λ h. ((f w).0 h.0, h.1), λ h. ((f w).1 h.0, h.1)))
  steps_words (then e more) P Q f =
      steps_words more (λ v. P v × In (stands parts) alphabet e v) (λ v. Q v × In (stands parts) alphabet e v) (λ w. (λ h. ((f w).0 h.0, h.1), λ h. ((f w).1 h.0, h.1)))

  pub steps_language : (more : Steps Atom) (kind : Kind) → kind_of_steps (kinds parts) kind more ≡ Language → kind ≡ Language
  steps_language no_step kind is = is
  steps_language (cross_with e more) kind is = let e : Relation ≡ Language = steps_language more Relation is in absurd (cc)
  steps_language (then e more) kind is = (both_languages kind (kind_of (kinds parts) e) (steps_language more (both kind (kind_of (kinds parts) e)) is)).0

  pub steps_pairs : (more : Steps Atom) (P Q : List (Bound Sym) → Type 0) (R S : List Sym → List Sym → Type 0) (kind : Kind) → StepsFit (kinds parts) kind more → (kind ≡ Language → SameWords P Q) → AreSame R S → AreSame (RelatesSteps (stands parts) alphabet P R more) (RelatesSteps (stands parts) alphabet Q S more)
  steps_pairs no_step P Q R S kind fits f g = g
  steps_pairs (cross_with e more) P Q R S kind (is, language, here, fits) f g =
      steps_pairs more (λ v. P v × In (stands parts) alphabet e v) (λ v. Q v × In (stands parts) alphabet e v) (λ u w. P (inner u) × In (stands parts) alphabet e (inner w)) (λ u w. Q (inner u) × In (stands parts) alphabet e (inner w)) Relation fits
      (λ none w. (λ h. ((f is w).0 h.0, h.1), λ h. ((f is w).1 h.0, h.1))) (λ u w. (λ h. ((f is (inner u)).0 h.0, h.1), λ h. ((f is (inner u)).1 h.0, h.1)))
  steps_pairs (then e more) P Q R S kind (here, fits) f g =
      steps_pairs more (λ v. P v × In (stands parts) alphabet e v) (λ v. Q v × In (stands parts) alphabet e v) (IsComposition R (Relates (stands parts) alphabet e)) (IsComposition S (Relates (stands parts) alphabet e)) (both kind (kind_of (kinds parts) e)) fits
      (λ is w. let same = f (both_languages kind (kind_of (kinds parts) e) is).0 in (λ h. ((same w).0 h.0, h.1), λ h. ((same w).1 h.0, h.1)))
      (composition_same R S (Relates (stands parts) alphabet e) (Relates (stands parts) alphabet e) g (λ u w. (λ h. h, λ h. h)))

  pub steps_words_split : (xs ys : List (Step Atom)) (P : List (Bound Sym) → Type 0) → SameWords (InSteps (stands parts) alphabet P (steps_by (xs ++ ys))) (InSteps (stands parts) alphabet (InSteps (stands parts) alphabet P (steps_by xs)) (steps_by ys))
  steps_words_split [] ys P = λ w. (λ h. h, λ h. h)
  steps_words_split (CrossWith e ∷ xs) ys P = steps_words_split xs ys (λ v. P v × In (stands parts) alphabet (term e) v)
  steps_words_split (Then e ∷ xs) ys P = steps_words_split xs ys (λ v. P v × In (stands parts) alphabet (term e) v)

  pub steps_pairs_split : (xs ys : List (Step Atom)) (P : List (Bound Sym) → Type 0) (R : List Sym → List Sym → Type 0) → AreSame (RelatesSteps (stands parts) alphabet P R (steps_by (xs ++ ys))) (RelatesSteps (stands parts) alphabet (InSteps (stands parts) alphabet P (steps_by xs)) (RelatesSteps (stands parts) alphabet P R (steps_by xs)) (steps_by ys))
  steps_pairs_split [] ys P R = λ u w. (λ h. h, λ h. h)
  steps_pairs_split (CrossWith e ∷ xs) ys P R = steps_pairs_split xs ys (λ v. P v × In (stands parts) alphabet (term e) v) (λ u w. P (inner u) × In (stands parts) alphabet (term e) (inner w))
  steps_pairs_split (Then e ∷ xs) ys P R = steps_pairs_split xs ys (λ v. P v × In (stands parts) alphabet (term e) v) (IsComposition R (Relates (stands parts) alphabet (term e)))

  -- contexts
  pub context_split : (xs ys : List (Context Atom)) (x z : List (Bound Sym)) → InContext (stands parts) alphabet (contexts_of (xs ++ ys)) x z ↔ (InContext (stands parts) alphabet (contexts_of xs) x z ⊎ InContext (stands parts) alphabet (contexts_of ys) x z)
  context_split [] ys x z = (λ h. inr h, λ or. elim or as (λ _. InContext (stands parts) alphabet (contexts_of ys) x z) [ inl none ↦ absurd none | inr h ↦ h ])
  context_split (c ∷ xs) ys x z = (
    λ h. elim h as (λ _. InContext (stands parts) alphabet (contexts_of (c ∷ xs)) x z ⊎ InContext (stands parts) alphabet (contexts_of ys) x z) [
      | inl here ↦ inl (inl here)
      | inr more ↦ elim ((context_split xs ys x z).0 more) as (λ _. InContext (stands parts) alphabet (contexts_of (c ∷ xs)) x z ⊎ InContext (stands parts) alphabet (contexts_of ys) x z) [ inl a ↦ inl (inr a) | inr b ↦ inr b ]
    ],
    λ h. elim h as (λ _. InContext (stands parts) alphabet (contexts_of ((c ∷ xs) ++ ys)) x z) [
      | inl first ↦ elim first as (λ _. InContext (stands parts) alphabet (contexts_of ((c ∷ xs) ++ ys)) x z) [ inl here ↦ inl here | inr a ↦ inr ((context_split xs ys x z).1 (inl a)) ]
      | inr b ↦ inr ((context_split xs ys x z).1 (inr b))
    ],
  )

  pub contexts_built : (xs ys : List (Context Atom)) → ContextsAreBuiltOver parts alphabet (contexts_of (xs ++ ys)) → ContextsAreBuiltOver parts alphabet (contexts_of xs) × ContextsAreBuiltOver parts alphabet (contexts_of ys)
  contexts_built [] ys h = (tt, h)
  contexts_built (c ∷ xs) ys (l, r, h) = let rest = contexts_built xs ys h in ((l, r, rest.0), rest.1)

-- kinds and fitting operands of rows in two parts
module _ (parts : List Part) where
  pub each_fits : (xs ys : List (Term Atom)) → EachFits (kinds parts) (terms_of (xs ++ ys)) → EachFits (kinds parts) (terms_of xs) × EachFits (kinds parts) (terms_of ys)
  each_fits [] ys h = (tt, h)
  each_fits (x ∷ xs) ys (here, h) = let r = each_fits xs ys h in ((here, r.0), r.1)

  pub chain_kind : (xs ys : List (Link Atom)) (kind : Kind) → kind_of_chain (kinds parts) kind (links_of (xs ++ ys)) ≡ kind_of_chain (kinds parts) (kind_of_chain (kinds parts) kind (links_of xs)) (links_of ys)
  chain_kind [] ys kind = refl
  chain_kind (Or e ∷ xs) ys kind = chain_kind xs ys (both kind (kind_of (kinds parts) (term e)))
  chain_kind (And e ∷ xs) ys kind = chain_kind xs ys (both kind (kind_of (kinds parts) (term e)))
  chain_kind (Less e ∷ xs) ys kind = chain_kind xs ys (both kind (kind_of (kinds parts) (term e)))

  pub chain_fits : (xs ys : List (Link Atom)) (kind : Kind) → ChainFits (kinds parts) kind (links_of (xs ++ ys)) → ChainFits (kinds parts) kind (links_of xs) × ChainFits (kinds parts) (kind_of_chain (kinds parts) kind (links_of xs)) (links_of ys)
  chain_fits [] ys kind h = (tt, h)
  chain_fits (Or e ∷ xs) ys kind (here, h) = let r = chain_fits xs ys (both kind (kind_of (kinds parts) (term e))) h in ((here, r.0), r.1)
  chain_fits (And e ∷ xs) ys kind (is, language, here, h) = let r = chain_fits xs ys (both kind (kind_of (kinds parts) (term e))) h in ((is, language, here, r.0), r.1)
  chain_fits (Less e ∷ xs) ys kind (is, language, here, h) = let r = chain_fits xs ys (both kind (kind_of (kinds parts) (term e))) h in ((is, language, here, r.0), r.1)

  -- a row of `|` has the kind of what stands before and of the row
  pub choice_kind : (xs : List (Link Atom)) → All IsChoice xs → (a b : Kind) → kind_of_chain (kinds parts) (both a b) (links_of xs) ≡ both a (kind_of_chain (kinds parts) b (links_of xs))
  choice_kind [] all a b = refl
  choice_kind (Or e ∷ xs) all a b = ap (λ k. kind_of_chain (kinds parts) k (links_of xs)) (both_three a b (kind_of (kinds parts) (term e))) ∙ choice_kind xs (All-tail IsChoice (Or e) xs all) a (both b (kind_of (kinds parts) (term e)))
  choice_kind (And e ∷ xs) all a b = absurd (All-head IsChoice (And e) xs all)
  choice_kind (Less e ∷ xs) all a b = absurd (All-head IsChoice (Less e) xs all)

  -- operands of a row of `|` fit whatever stands before
  pub choice_fits : (xs : List (Link Atom)) → All IsChoice xs → (a b : Kind) → ChainFits (kinds parts) a (links_of xs) → ChainFits (kinds parts) b (links_of xs)
  choice_fits [] all a b h = tt
  choice_fits (Or e ∷ xs) all a b (here, h) = (here, choice_fits xs (All-tail IsChoice (Or e) xs all) (both a (kind_of (kinds parts) (term e))) (both b (kind_of (kinds parts) (term e))) h)
  choice_fits (And e ∷ xs) all a b h = absurd (All-head IsChoice (And e) xs all)
  choice_fits (Less e ∷ xs) all a b h = absurd (All-head IsChoice (Less e) xs all)

  pub steps_kind : (xs ys : List (Step Atom)) (kind : Kind) → kind_of_steps (kinds parts) kind (steps_by (xs ++ ys)) ≡ kind_of_steps (kinds parts) (kind_of_steps (kinds parts) kind (steps_by xs)) (steps_by ys)
  steps_kind [] ys kind = refl
  steps_kind (CrossWith e ∷ xs) ys kind = steps_kind xs ys Relation
  steps_kind (Then e ∷ xs) ys kind = steps_kind xs ys (both kind (kind_of (kinds parts) (term e)))

  pub contexts_fit : (xs ys : List (Context Atom)) → ContextsFit (kinds parts) (contexts_of (xs ++ ys)) → ContextsFit (kinds parts) (contexts_of xs) × ContextsFit (kinds parts) (contexts_of ys)
  contexts_fit [] ys h = (tt, h)
  contexts_fit (c ∷ xs) ys (a, b, d, e, h) = let rest = contexts_fit xs ys h in ((a, b, d, e, rest.0), rest.1)

-- rows of no operand, of one, and in two parts
pub no_item : {X : Type 0} (xs : List X) → length xs < 1 → xs ≡ []
no_item [] few = refl
no_item (x ∷ xs) few = absurd (omega arith)

pub one_item : {X : Type 0} (xs : List X) (first : X) → 1 ≤ length xs → length xs < 2 → first ≡ get_or xs 0 first → xs ≡ first ∷ []
one_item [] first some few is = absurd (omega arith)
one_item (x ∷ []) first some few is = ap (λ z. z ∷ []) (sym is)
one_item (x ∷ y ∷ xs) first some few is = absurd (omega arith)

pub halves_joined : {X : Type 0} (front back whole : List X) (n : ℕ) → front ≡ take n whole → back ≡ drop n whole → front ++ back ≡ whole
halves_joined front back whole n first second = ap (λ z. z ++ back) first ∙ ap (λ z. take n whole ++ z) second ∙ take-append-drop n whole

pub one_more : {X : Type 0} (xs : List X) (i : ℕ) (x : X) → i < length xs → x ≡ get_or xs i x → take i xs ++ x ∷ [] ≡ take (i + 1) xs
one_more xs i x within is = ap (λ z. take i xs ++ z ∷ []) is ∙ sym (take_more xs i x within)

pub terms_joined : (front back whole : List (Expr Atom)) → front ++ back ≡ whole → map term front ++ map term back ≡ map term whole
terms_joined front back whole is = sym (map-append term front back) ∙ ap (λ z. map term z) is

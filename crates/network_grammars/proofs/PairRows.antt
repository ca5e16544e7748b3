-- Rows of operands in two parts, and what their automata accept.
use Rattle.std.proofs.Common.{◌≡◌, ◌↔◌, ◌⊎◌, ◌<◌, ◌≤◌, ◌+◌, ℕ, zero, suc, true, false, None, Some, List, [], ◌∷◌, ◌++◌, All, length, take, drop, get_or, arith, refl, sym, ap, subst, ◌∙◌, inl, inr}
use Rattle.std.proofs.lemmas.List.{take_more, take-append-drop}
use Rattle.std.proofs.lemmas.List.Elements.{All-head, All-tail}
use Rattle.std.specs.List.{Contains, slice_get}
use Rattle.fsm_base.specs.declared.letters.Bound.{Bound}
use Rattle.fsm_base.specs.declared.letters.Sym.{Sym}
use Rattle.word_relations.specs.Words.{IsConcatenation}
use Rattle.word_relations.specs.Operations.{IsIgnoring}
use Rattle.word_relations.proofs.Members.{Contains-nil_cases}
use Rattle.word_relations.proofs.Laws.{IsConcatenation-more, IsConcatenation-assoc, IsConcatenation-empty_left, IsConcatenation-empty_right}
use Rattle.fsa.specs.Automaton.{Automaton, UsesLetter}
use Rattle.fsa.specs.Language.{Accepts, stop, read, skip}
use Rattle.regex_ast.specs.Terms.{Terms, Links, ignore, no_term, then_term, no_link, or, and, less}
use Rattle.regex_ast.specs.declared.expr.Atom.{Atom}
use Rattle.regex_ast.specs.declared.expr.Expr.{Expr}
use Rattle.regex_ast.specs.declared.expr.Link.{Link, Or, And, Less}
use Rattle.regex_ast.specs.declared.twolc.PairPart.{PairPart}
use Rattle.expr_meaning.specs.Meaning.{In, InEach, InIgnoring, InChain}
use Rattle.network_sets.proofs.Alike.{SameWords, words_back, words_then, ignoring_same}
use Rattle.project_meaning.specs.Trees.{Part}
use Rattle.grammar_pairs.specs.Plain.{ArePairForms, IsPairForm, LinksArePairForms, links_in, term_of, terms_in}
use Rattle.network_grammars.specs.Rows.{IsChoice}

-- the automaton accepts the words of the set
abbrev pub HasWords : Automaton (Bound Sym) → (List (Bound Sym) → Type 0) → Type 0
HasWords m P = (w : List (Bound Sym)) → Accepts m w ↔ P w

module _ (leaf : Part Atom → List Sym → List Sym → Type 0) (alphabet : List Sym) where
  -- side by side
  pub each_words : (xs ys : List (Expr (PairPart Atom))) (w : List (Bound Sym)) → InEach leaf alphabet (terms_in (xs ++ ys)) w ↔ IsConcatenation (InEach leaf alphabet (terms_in xs)) (InEach leaf alphabet (terms_in ys)) w
  each_words [] ys w = let e = IsConcatenation-empty_left (InEach leaf alphabet (terms_in ys)) w in (e.1, e.0)
  each_words (x ∷ xs) ys w =
      let P = In leaf alphabet (term_of x) in
      let Q = InEach leaf alphabet (terms_in xs) in
      let R = InEach leaf alphabet (terms_in ys) in
      let assoc = IsConcatenation-assoc P Q R w in (
        λ h. assoc.1 (IsConcatenation-more P (InEach leaf alphabet (terms_in (xs ++ ys))) P (IsConcatenation Q R) (λ v p. p) (λ v. (each_words xs ys v).0) w h),
        λ h. IsConcatenation-more P (IsConcatenation Q R) P (InEach leaf alphabet (terms_in (xs ++ ys))) (λ v p. p) (λ v. (each_words xs ys v).1) w (assoc.0 h),
      )

  -- words put in
  put_in_same : (es : Terms (Part Atom)) (P Q : List (Bound Sym) → Type 0) → SameWords P Q → SameWords (InIgnoring leaf alphabet P es) (InIgnoring leaf alphabet Q es)
  put_in_same no_term P Q f = f
  put_in_same (then_term e es) P Q f =
      put_in_same es (IsIgnoring P (In leaf alphabet e)) (IsIgnoring Q (In leaf alphabet e)) (ignoring_same P Q (In leaf alphabet e) (In leaf alphabet e) f (λ w. (λ h. h, λ h. h)))

  put_in_split : (xs ys : List (Expr (PairPart Atom))) (P : List (Bound Sym) → Type 0) → SameWords (InIgnoring leaf alphabet P (terms_in (xs ++ ys))) (InIgnoring leaf alphabet (InIgnoring leaf alphabet P (terms_in xs)) (terms_in ys))
  put_in_split [] ys P = λ w. (λ h. h, λ h. h)
  put_in_split (x ∷ xs) ys P = put_in_split xs ys (IsIgnoring P (In leaf alphabet (term_of x)))

  -- rows of `|`, `&` and `-`
  chain_words : (links : Links (Part Atom)) (P Q : List (Bound Sym) → Type 0) → SameWords P Q → SameWords (InChain leaf alphabet P links) (InChain leaf alphabet Q links)
  chain_words no_link P Q f = f
  chain_words (or e links) P Q f =
      chain_words links (λ v. P v ⊎ In leaf alphabet e v) (λ v. Q v ⊎ In leaf alphabet e v)
      (λ w. (
        λ h. elim h as (λ _. Q w ⊎ In leaf alphabet e w) [ inl p ↦ inl ((f w).0 p) | inr r ↦ inr r ],
        λ h. elim h as (λ _. P w ⊎ In leaf alphabet e w) [ inl q ↦ inl ((f w).1 q) | inr r ↦ inr r ],
      ))
  chain_words (and e links) P Q f =
      chain_words links (λ v. P v × In leaf alphabet e v) (λ v. Q v × In leaf alphabet e v) (λ w. (λ h. ((f w).0 h.0, h.1), λ h. ((f w).1 h.0, h.1)))
  chain_words (less e links) P Q f =
      chain_words links (λ v. P v × ¬ In leaf alphabet e v) (λ v. Q v × ¬ In leaf alphabet e v) (λ w. (λ h. ((f w).0 h.0, h.1), λ h. ((f w).1 h.0, h.1)))

  chain_split : (xs ys : List (Link (PairPart Atom))) (P : List (Bound Sym) → Type 0) → SameWords (InChain leaf alphabet P (links_in (xs ++ ys))) (InChain leaf alphabet (InChain leaf alphabet P (links_in xs)) (links_in ys))
  chain_split [] ys P = λ w. (λ h. h, λ h. h)
  chain_split (Or e ∷ xs) ys P = chain_split xs ys (λ v. P v ⊎ In leaf alphabet (term_of e) v)
  chain_split (And e ∷ xs) ys P = chain_split xs ys (λ v. P v × In leaf alphabet (term_of e) v)
  chain_split (Less e ∷ xs) ys P = chain_split xs ys (λ v. P v × ¬ In leaf alphabet (term_of e) v)

  -- a row of `|` is a choice of what stands before and the row after nothing
  choice_words : (xs : List (Link (PairPart Atom))) → All IsChoice xs → (P Q : List (Bound Sym) → Type 0) → SameWords (InChain leaf alphabet (λ v. P v ⊎ Q v) (links_in xs)) (λ v. P v ⊎ InChain leaf alphabet Q (links_in xs) v)
  choice_words [] all P Q w = (λ h. h, λ h. h)
  choice_words (Or e ∷ xs) all P Q w =
      let E = In leaf alphabet (term_of e) in
      let rest = choice_words xs (All-tail IsChoice (Or e) xs all) P (λ v. Q v ⊎ E v) w in
      let moved = chain_words (links_in xs) (λ v. (P v ⊎ Q v) ⊎ E v) (λ v. P v ⊎ (Q v ⊎ E v))
      (λ v. (
        λ h. elim h as (λ _. P v ⊎ (Q v ⊎ E v)) [ inl pq ↦ elim pq as (λ _. P v ⊎ (Q v ⊎ E v)) [ inl p ↦ inl p | inr q ↦ inr (inl q) ] | inr x ↦ inr (inr x) ],
        λ h. elim h as (λ _. (P v ⊎ Q v) ⊎ E v) [ inl p ↦ inl (inl p) | inr qe ↦ elim qe as (λ _. (P v ⊎ Q v) ⊎ E v) [ inl q ↦ inl (inr q) | inr x ↦ inr x ] ],
      )) w in
      (λ h. rest.0 (moved.0 h), λ h. moved.1 (rest.1 h))
  choice_words (And e ∷ xs) all P Q w = absurd (All-head IsChoice (And e) xs all)
  choice_words (Less e ∷ xs) all P Q w = absurd (All-head IsChoice (Less e) xs all)

  -- a row with something before that has no word
  choice_alone : (xs : List (Link (PairPart Atom))) → All IsChoice xs → (P : List (Bound Sym) → Type 0) → SameWords (InChain leaf alphabet P (links_in xs)) (λ v. P v ⊎ InChain leaf alphabet (λ u. ⊥) (links_in xs) v)
  choice_alone xs all P w =
      let same = chain_words (links_in xs) P (λ v. P v ⊎ ⊥) (λ v. (λ p. inl p, λ h. elim h as (λ _. P v) [ inl p ↦ p | inr never ↦ absurd never ])) w in
      let split = choice_words xs all P (λ v. ⊥) w in
      (λ h. split.0 (same.0 h), λ h. same.1 (split.1 h))

  -- automata of rows
  pub concat_one : (x : Expr (PairPart Atom)) (m : Automaton (Bound Sym)) → HasWords m (In leaf alphabet (term_of x)) → HasWords m (InEach leaf alphabet (terms_in (x ∷ [])))
  concat_one x m h w = let e = IsConcatenation-empty_right (In leaf alphabet (term_of x)) w in (λ a. e.1 ((h w).0 a), λ b. (h w).1 (e.0 b))

  pub concat_two : (xs ys whole : List (Expr (PairPart Atom))) (a b m : Automaton (Bound Sym)) → xs ++ ys ≡ whole → HasWords a (InEach leaf alphabet (terms_in xs)) → HasWords b (InEach leaf alphabet (terms_in ys))
      → HasWords m (IsConcatenation (Accepts a) (Accepts b)) → HasWords m (InEach leaf alphabet (terms_in whole))
  concat_two xs ys whole a b m is f g h =
      let P = InEach leaf alphabet (terms_in xs) in
      let Q = InEach leaf alphabet (terms_in ys) in
      subst (λ (z : List (Expr (PairPart Atom))). HasWords m (InEach leaf alphabet (terms_in z))) is (λ w. (
        λ x. (each_words xs ys w).1 (IsConcatenation-more (Accepts a) (Accepts b) P Q (λ v. (f v).0) (λ v. (g v).0) w ((h w).0 x)),
        λ x. (h w).1 (IsConcatenation-more P Q (Accepts a) (Accepts b) (λ v. (f v).1) (λ v. (g v).1) w ((each_words xs ys w).0 x)),
      ))

  pub ignore_one : (x : Expr (PairPart Atom)) (before words m : Automaton (Bound Sym)) → HasWords words (In leaf alphabet (term_of x)) → HasWords m (IsIgnoring (Accepts before) (Accepts words)) → HasWords m (InIgnoring leaf alphabet (Accepts before) (terms_in (x ∷ [])))
  ignore_one x before words m f h =
      words_then (Accepts m) (IsIgnoring (Accepts before) (Accepts words)) (IsIgnoring (Accepts before) (In leaf alphabet (term_of x))) h
      (ignoring_same (Accepts before) (Accepts before) (Accepts words) (In leaf alphabet (term_of x)) (λ w. (λ p. p, λ p. p)) f)

  pub ignore_two : (xs ys whole : List (Expr (PairPart Atom))) (P : List (Bound Sym) → Type 0) (first m : Automaton (Bound Sym)) → xs ++ ys ≡ whole → HasWords first (InIgnoring leaf alphabet P (terms_in xs))
      → HasWords m (InIgnoring leaf alphabet (Accepts first) (terms_in ys)) → HasWords m (InIgnoring leaf alphabet P (terms_in whole))
  ignore_two xs ys whole P first m is f h =
      subst (λ (z : List (Expr (PairPart Atom))). HasWords m (InIgnoring leaf alphabet P (terms_in z))) is
      (words_then (Accepts m) (InIgnoring leaf alphabet (Accepts first) (terms_in ys)) (InIgnoring leaf alphabet P (terms_in (xs ++ ys))) h
      (words_then (InIgnoring leaf alphabet (Accepts first) (terms_in ys)) (InIgnoring leaf alphabet (InIgnoring leaf alphabet P (terms_in xs)) (terms_in ys)) (InIgnoring leaf alphabet P (terms_in (xs ++ ys)))
      (put_in_same (terms_in ys) (Accepts first) (InIgnoring leaf alphabet P (terms_in xs)) f)
      (words_back (InIgnoring leaf alphabet P (terms_in (xs ++ ys))) (InIgnoring leaf alphabet (InIgnoring leaf alphabet P (terms_in xs)) (terms_in ys)) (put_in_split xs ys P))))

  -- a row of `/` begins with its first operand
  pub ignore_row : (x : Expr (PairPart Atom)) (xs whole : List (Expr (PairPart Atom))) (first m : Automaton (Bound Sym)) → whole ≡ x ∷ xs → HasWords first (In leaf alphabet (term_of x)) → HasWords m (InIgnoring leaf alphabet (Accepts first) (terms_in xs)) → HasWords m (In leaf alphabet (ignore (terms_in whole)))
  ignore_row x xs whole first m is f h =
      subst (λ (z : List (Expr (PairPart Atom))). HasWords m (In leaf alphabet (ignore (terms_in z)))) (sym is)
      (words_then (Accepts m) (InIgnoring leaf alphabet (Accepts first) (terms_in xs)) (InIgnoring leaf alphabet (In leaf alphabet (term_of x)) (terms_in xs)) h (put_in_same (terms_in xs) (Accepts first) (In leaf alphabet (term_of x)) f))

  pub chain_two : (xs ys whole : List (Link (PairPart Atom))) (P : List (Bound Sym) → Type 0) (first m : Automaton (Bound Sym)) → xs ++ ys ≡ whole → HasWords first (InChain leaf alphabet P (links_in xs))
      → HasWords m (InChain leaf alphabet (Accepts first) (links_in ys)) → HasWords m (InChain leaf alphabet P (links_in whole))
  chain_two xs ys whole P first m is f h =
      subst (λ (z : List (Link (PairPart Atom))). HasWords m (InChain leaf alphabet P (links_in z))) is
      (words_then (Accepts m) (InChain leaf alphabet (Accepts first) (links_in ys)) (InChain leaf alphabet P (links_in (xs ++ ys))) h
      (words_then (InChain leaf alphabet (Accepts first) (links_in ys)) (InChain leaf alphabet (InChain leaf alphabet P (links_in xs)) (links_in ys)) (InChain leaf alphabet P (links_in (xs ++ ys)))
      (chain_words (links_in ys) (Accepts first) (InChain leaf alphabet P (links_in xs)) f)
      (words_back (InChain leaf alphabet P (links_in (xs ++ ys))) (InChain leaf alphabet (InChain leaf alphabet P (links_in xs)) (links_in ys)) (chain_split xs ys P))))

  pub chain_choice : (xs : List (Link (PairPart Atom))) → All IsChoice xs → (before choice m : Automaton (Bound Sym)) → HasWords choice (InChain leaf alphabet (λ v. ⊥) (links_in xs)) → HasWords m (λ v. Accepts before v ⊎ Accepts choice v) → HasWords m (InChain leaf alphabet (Accepts before) (links_in xs))
  chain_choice xs all before choice m f h w =
      let alone = choice_alone xs all (Accepts before) w in (
        λ a. alone.1 (elim ((h w).0 a) as (λ _. Accepts before w ⊎ InChain leaf alphabet (λ v. ⊥) (links_in xs) w) [ inl p ↦ inl p | inr c ↦ inr ((f w).0 c) ]),
        λ b. (h w).1 (elim (alone.0 b) as (λ _. Accepts before w ⊎ Accepts choice w) [ inl p ↦ inl p | inr c ↦ inr ((f w).1 c) ]),
      )

  pub choice_two : (xs ys whole : List (Link (PairPart Atom))) (first second m : Automaton (Bound Sym)) → xs ++ ys ≡ whole → All IsChoice ys → HasWords first (InChain leaf alphabet (λ v. ⊥) (links_in xs)) → HasWords second (InChain leaf alphabet (λ v. ⊥) (links_in ys))
      → HasWords m (λ v. Accepts first v ⊎ Accepts second v) → HasWords m (InChain leaf alphabet (λ v. ⊥) (links_in whole))
  choice_two xs ys whole first second m is all f g h = chain_two xs ys whole (λ v. ⊥) first m is f (chain_choice ys all first second m g h)

  pub linked_or : (e : Expr (PairPart Atom)) (before words m : Automaton (Bound Sym)) → HasWords words (In leaf alphabet (term_of e)) → HasWords m (λ v. Accepts before v ⊎ Accepts words v) → HasWords m (InChain leaf alphabet (Accepts before) (links_in (Or e ∷ [])))
  linked_or e before words m f h w = (
    λ a. elim ((h w).0 a) as (λ _. Accepts before w ⊎ In leaf alphabet (term_of e) w) [ inl p ↦ inl p | inr q ↦ inr ((f w).0 q) ],
    λ b. (h w).1 (elim b as (λ _. Accepts before w ⊎ Accepts words w) [ inl p ↦ inl p | inr q ↦ inr ((f w).1 q) ]),
  )

  pub linked_and : (e : Expr (PairPart Atom)) (before words m : Automaton (Bound Sym)) → HasWords words (In leaf alphabet (term_of e)) → HasWords m (λ v. Accepts before v × Accepts words v) → HasWords m (InChain leaf alphabet (Accepts before) (links_in (And e ∷ [])))
  linked_and e before words m f h w = (λ a. let r = (h w).0 a in (r.0, (f w).0 r.1), λ b. (h w).1 (b.0, (f w).1 b.1))

  pub linked_less : (e : Expr (PairPart Atom)) (before words m : Automaton (Bound Sym)) → HasWords words (In leaf alphabet (term_of e)) → HasWords m (λ v. Accepts before v × ¬ Accepts words v) → HasWords m (InChain leaf alphabet (Accepts before) (links_in (Less e ∷ [])))
  linked_less e before words m f h w = (λ a. let r = (h w).0 a in (r.0, λ q. r.1 ((f w).1 q)), λ b. (h w).1 (b.0, λ q. b.1 ((f w).0 q)))

  -- what stands before may be exchanged for what has the same words
  pub before_same : (xs : List (Link (PairPart Atom))) (P Q : List (Bound Sym) → Type 0) (m : Automaton (Bound Sym)) → SameWords P Q → HasWords m (InChain leaf alphabet P (links_in xs)) → HasWords m (InChain leaf alphabet Q (links_in xs))
  before_same xs P Q m f h = words_then (Accepts m) (InChain leaf alphabet P (links_in xs)) (InChain leaf alphabet Q (links_in xs)) h (chain_words (links_in xs) P Q f)

-- forms of rows in two parts
pub each_forms : (xs ys : List (Expr (PairPart Atom))) → ArePairForms (terms_in (xs ++ ys)) → ArePairForms (terms_in xs) × ArePairForms (terms_in ys)
each_forms [] ys h = (tt, h)
each_forms (x ∷ xs) ys (here, h) = let r = each_forms xs ys h in ((here, r.0), r.1)

pub links_forms : (xs ys : List (Link (PairPart Atom))) → LinksArePairForms (links_in (xs ++ ys)) → LinksArePairForms (links_in xs) × LinksArePairForms (links_in ys)
links_forms [] ys h = (tt, h)
links_forms (Or e ∷ xs) ys (here, h) = let r = links_forms xs ys h in ((here, r.0), r.1)
links_forms (And e ∷ xs) ys (here, h) = let r = links_forms xs ys h in ((here, r.0), r.1)
links_forms (Less e ∷ xs) ys (here, h) = let r = links_forms xs ys h in ((here, r.0), r.1)

-- and of an operand in a row
pub operand_form : (xs : List (Expr (PairPart Atom))) (i : ℕ) (d : Expr (PairPart Atom)) → i < length xs → ArePairForms (terms_in xs) → IsPairForm (term_of (get_or xs i d))
operand_form [] i d within h = absurd (omega arith)
operand_form (x ∷ xs) zero d within (here, h) = here
operand_form (x ∷ xs) (suc i) d within (here, h) = operand_form xs i d (omega arith) h

-- rows of no operand, of one, and in two parts
pub no_item : {X : Type 0} (xs : List X) → length xs < 1 → xs ≡ []
no_item [] few = refl
no_item (x ∷ xs) few = absurd (omega arith)

pub one_item : {X : Type 0} (xs : List X) (first : X) → 1 ≤ length xs → length xs < 2 → first ≡ get_or xs 0 first → xs ≡ first ∷ []
one_item [] first some few is = absurd (omega arith)
one_item (x ∷ []) first some few is = ap (λ z. z ∷ []) (sym is)
one_item (x ∷ y ∷ xs) first some few is = absurd (omega arith)

pub halves_joined : {X : Type 0} (front back whole : List X) (n : ℕ) → front ≡ take n whole → back ≡ drop n whole → front ++ back ≡ whole
halves_joined front back whole n first second = ap (λ z. z ++ back) first ∙ ap (λ z. take n whole ++ z) second ∙ take-append-drop n whole

pub one_more : {X : Type 0} (xs : List X) (i : ℕ) (x : X) → i < length xs → x ≡ get_or xs i x → take i xs ++ x ∷ [] ≡ take (i + 1) xs
one_more xs i x within is = ap (λ z. take i xs ++ z ∷ []) is ∙ sym (take_more xs i x within)

-- an automaton that uses no letter, and one that uses those of two
pub empty_only : {L : Type 0} (letters : List L) (m : Automaton L) → ((x : L) → UsesLetter m x → Contains [] x) → (x : L) → UsesLetter m x → Contains letters x
empty_only letters m none x used = absurd (Contains-nil_cases x (none x used))

pub two_only : {L : Type 0} (letters : List L) (a b m : Automaton L) → ((x : L) → UsesLetter m x → UsesLetter a x ⊎ UsesLetter b x) → ((x : L) → UsesLetter a x → Contains letters x) → ((x : L) → UsesLetter b x → Contains letters x) → (x : L) → UsesLetter m x → Contains letters x
two_only letters a b m used first second x h = elim (used x h) as (λ _. Contains letters x) [ inl p ↦ first x p | inr q ↦ second x q ]

pub less_only : {L : Type 0} (letters : List L) (a m : Automaton L) → ((x : L) → UsesLetter m x → UsesLetter a x) → ((x : L) → UsesLetter a x → Contains letters x) → (x : L) → UsesLetter m x → Contains letters x
less_only letters a m used only x h = only x (used x h)

-- an automaton without edges, whose only state isn't final
pub none_accepted : {L : Type 0} (m : Automaton L) → m ≡ record { edges = []; finals = false ∷ [] } → (v : List L) → Accepts m v → ⊥
none_accepted {L} m is v (stop f) = let h : Some false ≡ Some true = subst (λ (z : Automaton L). slice_get z.finals 0 ≡ Some true) is f in cc
none_accepted {L} m is v (read {q = q} {x = x} has rest) = Contains-nil_cases (record { from = 0; letter = Some x; to = q }) (subst (λ (z : Automaton L). Contains z.edges (record { from = 0; letter = Some x; to = q })) is has)
none_accepted {L} m is v (skip {q = q} has rest) = Contains-nil_cases (record { from = 0; letter = None; to = q }) (subst (λ (z : Automaton L). Contains z.edges (record { from = 0; letter = None; to = q })) is has)

pub none_words : (m : Automaton (Bound Sym)) → m ≡ record { edges = []; finals = false ∷ [] } → HasWords m (λ v. ⊥)
none_words m is w = (none_accepted m is w, λ never. absurd never)

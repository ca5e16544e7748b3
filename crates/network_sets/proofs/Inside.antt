-- Languages of words without the edge.
use Rattle.std.proofs.Common.{◌≡◌, ◌↔◌, zero, suc, List, [], ◌∷◌, ◌++◌, Option, None, Some, All, map, refl, sym, ap, subst, ◌∙◌, slice_get}
use Rattle.std.specs.List.{Contains}
use Rattle.std.specs.Option.{option_map}
use Rattle.std.proofs.lemmas.Option.{slice_get-map}
use Rattle.std.proofs.lemmas.List.Elements.{All-nil, All-cons, All-head, All-tail}
use Rattle.fsm_base.specs.declared.letters.Sym.{Sym}
use Rattle.fsm_base.specs.declared.letters.Bound.{Bound}
use Rattle.fsm_base.specs.declared.letters.Bound.TheVariants.{Edge, Inner}
use Rattle.word_relations.specs.Words.{IsOver, IsDistinct}
use Rattle.word_relations.proofs.Members.{Contains-tail, Contains-map_cases}
use Rattle.word_relations.proofs.Places.{Contains-from_slice_get}
use Rattle.fsa.specs.Automaton.{Automaton, UsesLetter}
use Rattle.fsa.specs.Language as language
use Rattle.fsa.specs.Complete.{Complete, Accepts}
use Rattle.lang_algebra.specs.Languages.{IsLang}
use Rattle.word_relations.specs.Operations.{IsOneLetter, HasPart, IsIgnoring}
use Rattle.expr_meaning.specs.Operators.{inner, WithEdge}
use Rattle.network_algebra.specs.Networks.{all_letters, UsesOnly}

-- distinct names for distinct letters
pub distinct_map : {X Y : Type 0} (f : X → Y) → ((x y : X) → f x ≡ f y → x ≡ y) → (xs : List X) → IsDistinct xs → IsDistinct (map f xs)
distinct_map {X} {Y} f apart xs distinct i j y at other =
    let r = back (slice_get xs i) (sym (slice_get-map f xs i) ∙ at) in
    let s = back (slice_get xs j) (sym (slice_get-map f xs j) ∙ other) in
    let same : s.0 ≡ r.0 = apart s.0 r.0 (s.2 ∙ sym r.2) in
    distinct i j r.0 r.1 (s.1 ∙ ap (λ x. Some x) same)
  where
    back : (o : Option X) → option_map f o ≡ Some y → (x : X) × (o ≡ Some x) × (f x ≡ y)
    back None is = let e : None ≡ Some y = is in absurd (cc)
    back (Some x) is = let e : Some (f x) ≡ Some y = is in (x, refl, cc)

-- one letter more that isn't among the others
pub distinct_more : {X : Type 0} (x : X) (xs : List X) → (Contains xs x → ⊥) → IsDistinct xs → IsDistinct (x ∷ xs)
distinct_more x xs new distinct zero zero y at other = refl
distinct_more x xs new distinct zero (suc j) y at other = let e : Some x ≡ Some y = at in let same : y ≡ x = cc in absurd (new (Contains-from_slice_get xs j x (other ∙ ap (λ z. Some z) same)))
distinct_more x xs new distinct (suc i) zero y at other = let e : Some x ≡ Some y = other in let same : y ≡ x = cc in absurd (new (Contains-from_slice_get xs i x (at ∙ ap (λ z. Some z) same)))
distinct_more x xs new distinct (suc i) (suc j) y at other = ap suc (distinct i j y at other)

inner_apart : (x y : Sym) → Inner x ≡ Inner y → x ≡ y
inner_apart x y e = cc

edge_apart : (x : Sym) → Inner x ≡ Edge → ⊥
edge_apart x e = cc

pub no_edge_inside : (symbols : List Sym) → Contains (inner symbols) Edge → ⊥
no_edge_inside symbols h = let r = Contains-map_cases Inner symbols Edge h in edge_apart r.0 r.2

pub inner_distinct : (symbols : List Sym) → IsDistinct symbols → IsDistinct (inner symbols)
inner_distinct symbols distinct = distinct_map Inner inner_apart symbols distinct

pub all_distinct : (symbols : List Sym) → IsDistinct symbols → IsDistinct (all_letters symbols)
all_distinct symbols distinct = distinct_more Edge (inner symbols) (no_edge_inside symbols) (inner_distinct symbols distinct)

-- a word over the alphabet is without the edge
pub over_inner : (symbols : List Sym) (w : List (Bound Sym)) → IsOver (inner symbols) w → (u : List Sym) × (w ≡ inner u)
over_inner symbols [] over = ([], refl)
over_inner symbols (x ∷ w) over =
    let r = Contains-map_cases Inner symbols x (All-head (Contains (inner symbols)) x w over) in
    let rest = over_inner symbols w (All-tail (Contains (inner symbols)) x w over) in
    (r.0 ∷ rest.0, ap (λ z. z ∷ w) (sym r.2) ∙ ap (λ z. Inner r.0 ∷ z) rest.1)

pub over_left : {L : Type 0} (P : L → Type 0) (xs ys : List L) → All P (xs ++ ys) → All P xs
over_left P [] ys h = All-nil P
over_left P (x ∷ xs) ys h = All-cons P x xs (All-head P x (xs ++ ys) h) (over_left P xs ys (All-tail P x (xs ++ ys) h))

pub over_right : {L : Type 0} (P : L → Type 0) (xs ys : List L) → All P (xs ++ ys) → All P ys
over_right P [] ys h = h
over_right P (x ∷ xs) ys h = over_right P xs ys (All-tail P x (xs ++ ys) h)

-- letters of the inside are among all
pub inside_all : (symbols : List Sym) (x : Bound Sym) → Contains (inner symbols) x → Contains (all_letters symbols) x
inside_all symbols x h = Contains-tail Edge (inner symbols) x h

pub over_all : (symbols : List Sym) (w : List (Bound Sym)) → IsOver (inner symbols) w → IsOver (all_letters symbols) w
over_all symbols [] over = All-nil (Contains (all_letters symbols))
over_all symbols (x ∷ w) over =
    All-cons (Contains (all_letters symbols)) x w (inside_all symbols x (All-head (Contains (inner symbols)) x w over)) (over_all symbols w (All-tail (Contains (inner symbols)) x w over))

-- the words of the set without the edge, among words over the alphabet
module _ (symbols : List Sym) (P : List (Bound Sym) → Type 0) where
  abbrev pub Insides : List (Bound Sym) → Type 0
  Insides = WithEdge (λ u. P (inner u))

  pub inside_out : (w : List (Bound Sym)) → Insides w → P w
  inside_out w (u, is, p) = subst P (sym is) p

  pub inside_in : (w : List (Bound Sym)) → IsOver (inner symbols) w → P w → Insides w
  inside_in w over p = let r = over_inner symbols w over in (r.0, r.1, subst P r.1 p)

  pub one_over : (w : List (Bound Sym)) → IsOneLetter (inner symbols) w → IsOver (inner symbols) w
  one_over w (x, among, is) = subst (IsOver (inner symbols)) (sym is) (All-cons (Contains (inner symbols)) x [] among (All-nil (Contains (inner symbols))))

  pub part_in : (w : List (Bound Sym)) → IsOver (inner symbols) w → HasPart P w → HasPart Insides w
  part_in w over (x, y, z, is, p) =
      let whole : IsOver (inner symbols) (x ++ (y ++ z)) = subst (IsOver (inner symbols)) is over in
      let part : IsOver (inner symbols) y = over_left (Contains (inner symbols)) y z (over_right (Contains (inner symbols)) x (y ++ z) whole) in
      (x, y, z, is, inside_in y part p)

  pub part_out : (w : List (Bound Sym)) → HasPart Insides w → HasPart P w
  part_out w (x, y, z, is, h) = (x, y, z, is, inside_out y h)

-- what an automaton of a language has, of which another language was made
pub through : {L : Type 0} (letters : List L) (P : List L → Type 0) (lang : Complete L) (m : Automaton L) → IsLang letters P lang → ((w : List L) → language.Accepts m w ↔ Accepts lang w) → (w : List L) → language.Accepts m w ↔ P w
through letters P lang m is accepts w = (λ h. (is.words w).0 ((accepts w).0 h), λ p. (accepts w).1 ((is.words w).1 p))

pub only_through : (symbols : List Sym) (lang : Complete (Bound Sym)) (letters : List (Bound Sym)) (m : Automaton (Bound Sym)) → lang.letters ≡ letters → ((x : Bound Sym) → Contains letters x → Contains (all_letters symbols) x) → ((x : Bound Sym) → UsesLetter m x → Contains lang.letters x) → UsesOnly (all_letters symbols) m
only_through symbols lang letters m over among used x h = among x (subst (λ (z : List (Bound Sym)). Contains z x) over (used x h))

-- what was made of the words of a set without the edge
module _ (symbols : List Sym) (P : List (Bound Sym) → Type 0) (lang made : Complete (Bound Sym)) (m : Automaton (Bound Sym)) (of : IsLang (inner symbols) (Insides symbols P) lang)
    (accepts : (w : List (Bound Sym)) → language.Accepts m w ↔ Accepts made w) where
  over_them : (w : List (Bound Sym)) → IsOver lang.letters w ↔ IsOver (inner symbols) w
  over_them w = (subst (λ (z : List (Bound Sym)). IsOver z w) of.over, subst (λ (z : List (Bound Sym)). IsOver z w) (sym of.over))

  pub negated_words : IsLang lang.letters (λ w. IsOver lang.letters w × ¬ Accepts lang w) made → (w : List (Bound Sym)) → language.Accepts m w ↔ (IsOver (inner symbols) w × ¬ P w)
  negated_words is w = (there, upwards)
    where
      there : language.Accepts m w → IsOver (inner symbols) w × ¬ P w
      there h =
          let r = (is.words w).0 ((accepts w).0 h) in
          let over = (over_them w).0 r.0 in
          (over, λ p. r.1 ((of.words w).1 (inside_in symbols P w over p)))

      upwards : IsOver (inner symbols) w × ¬ P w → language.Accepts m w
      upwards (over, none) = (accepts w).1 ((is.words w).1 ((over_them w).1 over, λ h. none (inside_out symbols P w ((of.words w).0 h))))

  pub holding_words : IsLang lang.letters (λ w. IsOver lang.letters w × HasPart (Accepts lang) w) made → (w : List (Bound Sym)) → language.Accepts m w ↔ (IsOver (inner symbols) w × HasPart P w)
  holding_words is w = (there, upwards)
    where
      there : language.Accepts m w → IsOver (inner symbols) w × HasPart P w
      there h =
          let r = (is.words w).0 ((accepts w).0 h) in
          let part = r.1 in
          ((over_them w).0 r.0, (part.0, part.1, part.2, part.3, inside_out symbols P part.1 ((of.words part.1).0 part.4)))

      upwards : IsOver (inner symbols) w × HasPart P w → language.Accepts m w
      upwards (over, part) =
          let inside = part_in symbols P w over part in
          (accepts w).1 ((is.words w).1 ((over_them w).1 over, (inside.0, inside.1, inside.2, inside.3, (of.words inside.1).1 inside.4)))

  pub not_one_words : IsLang lang.letters (λ w. IsOneLetter lang.letters w × ¬ Accepts lang w) made → (w : List (Bound Sym)) → language.Accepts m w ↔ (IsOneLetter (inner symbols) w × ¬ P w)
  not_one_words is w = (there, upwards)
    where
      one : IsOneLetter lang.letters w ↔ IsOneLetter (inner symbols) w
      one = (subst (λ (z : List (Bound Sym)). IsOneLetter z w) of.over, subst (λ (z : List (Bound Sym)). IsOneLetter z w) (sym of.over))

      there : language.Accepts m w → IsOneLetter (inner symbols) w × ¬ P w
      there h =
          let r = (is.words w).0 ((accepts w).0 h) in
          let letter = one.0 r.0 in
          (letter, λ p. r.1 ((of.words w).1 (inside_in symbols P w (one_over symbols P w letter) p)))

      upwards : IsOneLetter (inner symbols) w × ¬ P w → language.Accepts m w
      upwards (letter, none) = (accepts w).1 ((is.words w).1 (one.1 letter, λ h. none (inside_out symbols P w ((of.words w).0 h))))

-- what was made of two languages
module _ {L : Type 0} (letters : List L) (P Q : List L → Type 0) (p q made : Complete L) (of_p : IsLang letters P p) (of_q : IsLang letters Q q) (m : Automaton L) where
  pub both_words : IsLang p.letters (λ w. Accepts p w × Accepts q w) made → ((w : List L) → language.Accepts m w ↔ Accepts made w) → (w : List L) → language.Accepts m w ↔ (P w × Q w)
  both_words is accepts w = (
    λ h. let r = (is.words w).0 ((accepts w).0 h) in ((of_p.words w).0 r.0, (of_q.words w).0 r.1),
    λ h. (accepts w).1 ((is.words w).1 ((of_p.words w).1 h.0, (of_q.words w).1 h.1)),
  )

  pub minus_words : IsLang p.letters (λ w. Accepts p w × ¬ Accepts q w) made → ((w : List L) → language.Accepts m w ↔ Accepts made w) → (w : List L) → language.Accepts m w ↔ (P w × ¬ Q w)
  minus_words is accepts w = (
    λ h. let r = (is.words w).0 ((accepts w).0 h) in ((of_p.words w).0 r.0, λ b. r.1 ((of_q.words w).1 b)),
    λ h. (accepts w).1 ((is.words w).1 ((of_p.words w).1 h.0, λ b. h.1 ((of_q.words w).0 b))),
  )

-- what was made of words with words of another language put in
pub ignoring_words : {L : Type 0} (letters : List L) (P Q : List L → Type 0) (mixed : Automaton L) (lang : Complete L) (m : Automaton L) → IsLang letters (language.Accepts mixed) lang → ((w : List L) → language.Accepts mixed w ↔ IsIgnoring P Q w) → ((w : List L) → language.Accepts m w ↔ Accepts lang w) → (w : List L) → language.Accepts m w ↔ IsIgnoring P Q w
ignoring_words letters P Q mixed lang m is mixed_is accepts w =
    let made = through letters (language.Accepts mixed) lang m is accepts w in
    (λ h. (mixed_is w).0 (made.0 h), λ h. made.1 ((mixed_is w).1 h))

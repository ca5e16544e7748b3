-- All marks of symbols and places, listed.
use Rattle.std.proofs.Common.{◌≡◌, ◌↔◌, ℕ, zero, suc, ◌<◌, List, [], ◌∷◌, ◌++◌, ◌⊎◌, inl, inr, Some, refl, sym, ap, subst, ◌∙◌, arith}
use Rattle.std.specs.List.{Contains, flat_map}
use Rattle.std.proofs.Math.Nat.{le-suc_iff}
use Rattle.std.proofs.lemmas.List.Elements.{Contains-append_left, Contains-append_right, Contains-append_cases}
use Rattle.fsm_base.specs.declared.letters.Sym.{Sym}
use Rattle.fsm_base.specs.declared.letters.Bound.{Bound}
use Rattle.fsm_base.specs.declared.letters.Bound.TheVariants.{Edge, Inner}
use Rattle.word_relations.specs.Words.{IsDistinct}
use Rattle.word_relations.proofs.Members.{Contains-nil_cases, Contains-head, Contains-tail, Contains-cons_cases}
use Rattle.word_relations.proofs.Places.{Contains-from_slice_get, slice_get_from_Contains, slice_get-append_cases}
use Rattle.replace_words.specs.declared.marks.Mark.{Mark}
use Rattle.replace_words.specs.declared.marks.Mark.TheVariants.{Copy, Up, Low, Same, Open, Close}
use Rattle.replace_rules.specs.Letters.{IsMarkOf, marks_with, brackets}

-- lists in which each element stands once
pub none_distinct : {X : Type 0} → IsDistinct {L = X} []
none_distinct {X} i j x at other = absurd (Contains-nil_cases x (Contains-from_slice_get [] i x at))

distinct_more : {X : Type 0} (x : X) (xs : List X) → (Contains xs x → ⊥) → IsDistinct xs → IsDistinct (x ∷ xs)
distinct_more x xs new distinct zero zero y at other = refl
distinct_more x xs new distinct zero (suc j) y at other = let e : Some x ≡ Some y = at in let same : y ≡ x = cc in absurd (new (Contains-from_slice_get xs j x (other ∙ ap (λ z. Some z) same)))
distinct_more x xs new distinct (suc i) zero y at other = let e : Some x ≡ Some y = other in let same : y ≡ x = cc in absurd (new (Contains-from_slice_get xs i x (at ∙ ap (λ z. Some z) same)))
distinct_more x xs new distinct (suc i) (suc j) y at other = ap suc (distinct i j y at other)

distinct_both : {X : Type 0} (xs ys : List X) → IsDistinct xs → IsDistinct ys → ((x : X) → Contains xs x → Contains ys x → ⊥) → IsDistinct (xs ++ ys)
distinct_both xs ys first second apart i j x at other =
    elim (slice_get-append_cases xs ys i x at) [
      | inl a ↦ elim (slice_get-append_cases xs ys j x other) [
        | inl b ↦ first i j x a b
        | inr b ↦ absurd (apart x (Contains-from_slice_get xs i x a) (Contains-from_slice_get ys b.0 x b.2))
      ]
      | inr a ↦ elim (slice_get-append_cases xs ys j x other) [
        | inl b ↦ absurd (apart x (Contains-from_slice_get xs j x b) (Contains-from_slice_get ys a.0 x a.2))
        | inr b ↦ let same : a.0 ≡ b.0 = second a.0 b.0 x a.2 b.2 in omega (arith, a.1, b.1)
      ]
    ]

-- an element more that wasn't there
pub distinct_push : {X : Type 0} (xs : List X) (x : X) → IsDistinct xs → (Contains xs x → ⊥) → IsDistinct (xs ++ x ∷ [])
distinct_push {X} xs x distinct new = distinct_both xs (x ∷ []) distinct (distinct_more x [] (Contains-nil_cases x) none_distinct) apart
  where
    apart : (y : X) → Contains xs y → Contains (x ∷ []) y → ⊥
    apart y old h = elim (Contains-cons_cases x [] y h) [
      | inl same ↦ new (subst (Contains xs) (sym same) old)
      | inr none ↦ Contains-nil_cases y none
    ]

rest_distinct : {X : Type 0} (x : X) (xs : List X) → IsDistinct (x ∷ xs) → IsDistinct xs
rest_distinct x xs distinct i j y at other = let e : suc i ≡ suc j = distinct (suc i) (suc j) y at other in omega (arith, e)

first_new : {X : Type 0} (x : X) (xs : List X) → IsDistinct (x ∷ xs) → Contains xs x → ⊥
first_new x xs distinct among =
    let n = slice_get_from_Contains xs x among in
    let e : zero ≡ suc n.0 = distinct zero (suc n.0) x refl n.1 in
    absurd (omega (arith, e))

-- a mark that holds one of the symbols
abbrev HoldsOne : List Sym → Bound Mark → Type 0
HoldsOne symbols Edge = ⊥
HoldsOne symbols (Inner (Copy s)) = Contains symbols s
HoldsOne symbols (Inner (Up s)) = Contains symbols s
HoldsOne symbols (Inner (Low s)) = Contains symbols s
HoldsOne symbols (Inner (Same s)) = Contains symbols s
HoldsOne symbols (Inner (Open k)) = ⊥
HoldsOne symbols (Inner (Close k)) = ⊥

holds_first : (s : Sym) (symbols : List Sym) (m : Bound Mark) → Contains (marks_with s) m → HoldsOne (s ∷ symbols) m
holds_first s symbols m h =
    elim (Contains-cons_cases (Inner (Copy s)) (Inner (Up s) ∷ Inner (Low s) ∷ Inner (Same s) ∷ []) m h) as (λ _. HoldsOne (s ∷ symbols) m) [
      | inl e ↦ subst (HoldsOne (s ∷ symbols)) e (Contains-head s symbols)
      | inr h2 ↦ elim (Contains-cons_cases (Inner (Up s)) (Inner (Low s) ∷ Inner (Same s) ∷ []) m h2) as (λ _. HoldsOne (s ∷ symbols) m) [
        | inl e ↦ subst (HoldsOne (s ∷ symbols)) e (Contains-head s symbols)
        | inr h3 ↦ elim (Contains-cons_cases (Inner (Low s)) (Inner (Same s) ∷ []) m h3) as (λ _. HoldsOne (s ∷ symbols) m) [
          | inl e ↦ subst (HoldsOne (s ∷ symbols)) e (Contains-head s symbols)
          | inr h4 ↦ elim (Contains-cons_cases (Inner (Same s)) [] m h4) as (λ _. HoldsOne (s ∷ symbols) m) [
            | inl e ↦ subst (HoldsOne (s ∷ symbols)) e (Contains-head s symbols)
            | inr none ↦ absurd (Contains-nil_cases m none)
          ]
        ]
      ]
    ]

holds_more : (s : Sym) (symbols : List Sym) (m : Bound Mark) → HoldsOne symbols m → HoldsOne (s ∷ symbols) m
holds_more s symbols Edge h = h
holds_more s symbols (Inner (Copy t)) h = Contains-tail s symbols t h
holds_more s symbols (Inner (Up t)) h = Contains-tail s symbols t h
holds_more s symbols (Inner (Low t)) h = Contains-tail s symbols t h
holds_more s symbols (Inner (Same t)) h = Contains-tail s symbols t h
holds_more s symbols (Inner (Open k)) h = h
holds_more s symbols (Inner (Close k)) h = h

listed_holds : (symbols : List Sym) (m : Bound Mark) → Contains (flat_map marks_with symbols) m → HoldsOne symbols m
listed_holds [] m h = absurd (Contains-nil_cases m h)
listed_holds (s ∷ symbols) m h =
    elim (Contains-append_cases (marks_with s) (flat_map marks_with symbols) m h) as (λ _. HoldsOne (s ∷ symbols) m) [
      | inl here ↦ holds_first s symbols m here
      | inr later ↦ holds_more s symbols m (listed_holds symbols m later)
    ]

-- the marks of a symbol that is there are listed
listed_all : (symbols : List Sym) (s : Sym) (m : Bound Mark) → Contains symbols s → Contains (marks_with s) m → Contains (flat_map marks_with symbols) m
listed_all [] s m among h = absurd (Contains-nil_cases s among)
listed_all (t ∷ symbols) s m among h =
    elim (Contains-cons_cases t symbols s among) as (λ _. Contains (flat_map marks_with (t ∷ symbols)) m) [
      | inl same ↦ Contains-append_left (marks_with t) (flat_map marks_with symbols) m (subst (λ x. Contains (marks_with x) m) (sym same) h)
      | inr later ↦ Contains-append_right (marks_with t) (flat_map marks_with symbols) m (listed_all symbols s m later h)
    ]

holds_listed : (symbols : List Sym) (m : Bound Mark) → HoldsOne symbols m → Contains (flat_map marks_with symbols) m
holds_listed symbols Edge h = absurd h
holds_listed symbols (Inner (Copy s)) h = listed_all symbols s (Inner (Copy s)) h (Contains-head (Inner (Copy s)) (Inner (Up s) ∷ Inner (Low s) ∷ Inner (Same s) ∷ []))
holds_listed symbols (Inner (Up s)) h =
    listed_all symbols s (Inner (Up s)) h (Contains-tail (Inner (Copy s)) (Inner (Up s) ∷ Inner (Low s) ∷ Inner (Same s) ∷ []) (Inner (Up s)) (Contains-head (Inner (Up s)) (Inner (Low s) ∷ Inner (Same s) ∷ [])))
holds_listed symbols (Inner (Low s)) h =
    listed_all symbols s (Inner (Low s)) h (Contains-tail (Inner (Copy s)) (Inner (Up s) ∷ Inner (Low s) ∷ Inner (Same s) ∷ []) (Inner (Low s))
    (Contains-tail (Inner (Up s)) (Inner (Low s) ∷ Inner (Same s) ∷ []) (Inner (Low s)) (Contains-head (Inner (Low s)) (Inner (Same s) ∷ []))))
holds_listed symbols (Inner (Same s)) h =
    listed_all symbols s (Inner (Same s)) h (Contains-tail (Inner (Copy s)) (Inner (Up s) ∷ Inner (Low s) ∷ Inner (Same s) ∷ []) (Inner (Same s))
    (Contains-tail (Inner (Up s)) (Inner (Low s) ∷ Inner (Same s) ∷ []) (Inner (Same s)) (Contains-tail (Inner (Low s)) (Inner (Same s) ∷ []) (Inner (Same s)) (Contains-head (Inner (Same s)) []))))
holds_listed symbols (Inner (Open k)) h = absurd h
holds_listed symbols (Inner (Close k)) h = absurd h

-- a bracket of a place below the number
abbrev IsBracket : ℕ → Bound Mark → Type 0
IsBracket n Edge = ⊥
IsBracket n (Inner (Copy s)) = ⊥
IsBracket n (Inner (Up s)) = ⊥
IsBracket n (Inner (Low s)) = ⊥
IsBracket n (Inner (Same s)) = ⊥
IsBracket n (Inner (Open k)) = k < n
IsBracket n (Inner (Close k)) = k < n

bracket_more : (n : ℕ) (m : Bound Mark) → IsBracket n m → IsBracket (suc n) m
bracket_more n Edge h = h
bracket_more n (Inner (Copy s)) h = h
bracket_more n (Inner (Up s)) h = h
bracket_more n (Inner (Low s)) h = h
bracket_more n (Inner (Same s)) h = h
bracket_more n (Inner (Open k)) h = omega (arith, h)
bracket_more n (Inner (Close k)) h = omega (arith, h)

bracket_last : (n : ℕ) (m : Bound Mark) → Contains (Inner (Open n) ∷ Inner (Close n) ∷ []) m → IsBracket (suc n) m
bracket_last n m h =
    elim (Contains-cons_cases (Inner (Open n)) (Inner (Close n) ∷ []) m h) as (λ _. IsBracket (suc n) m) [
      | inl e ↦ subst (IsBracket (suc n)) e (omega arith)
      | inr h2 ↦ elim (Contains-cons_cases (Inner (Close n)) [] m h2) as (λ _. IsBracket (suc n) m) [
        | inl e ↦ subst (IsBracket (suc n)) e (omega arith)
        | inr none ↦ absurd (Contains-nil_cases m none)
      ]
    ]

listed_bracket : (n : ℕ) (m : Bound Mark) → Contains (brackets n) m → IsBracket n m
listed_bracket zero m h = absurd (Contains-nil_cases m h)
listed_bracket (suc n) m h =
    elim (Contains-append_cases (brackets n) (Inner (Open n) ∷ Inner (Close n) ∷ []) m h) as (λ _. IsBracket (suc n) m) [
      | inl before ↦ bracket_more n m (listed_bracket n m before)
      | inr last ↦ bracket_last n m last
    ]

below : (k n : ℕ) → k < suc n → (k < n) ⊎ (k ≡ n)
below k n l = elim ((le-suc_iff {m = suc k} {n = n}).0 l) [ inl less ↦ inl less | inr e ↦ inr (omega (arith, e)) ]

open_listed : (n k : ℕ) → k < n → Contains (brackets n) (Inner (Open k))
open_listed zero k l = absurd (omega (arith, l))
open_listed (suc n) k l =
    elim (below k n l) as (λ _. Contains (brackets (suc n)) (Inner (Open k))) [
      | inl less ↦ Contains-append_left (brackets n) (Inner (Open n) ∷ Inner (Close n) ∷ []) (Inner (Open k)) (open_listed n k less)
      | inr same ↦ subst (λ j. Contains (brackets (suc n)) (Inner (Open j))) (sym same)
          (Contains-append_right (brackets n) (Inner (Open n) ∷ Inner (Close n) ∷ []) (Inner (Open n)) (Contains-head (Inner (Open n)) (Inner (Close n) ∷ [])))
    ]

close_listed : (n k : ℕ) → k < n → Contains (brackets n) (Inner (Close k))
close_listed zero k l = absurd (omega (arith, l))
close_listed (suc n) k l =
    elim (below k n l) as (λ _. Contains (brackets (suc n)) (Inner (Close k))) [
      | inl less ↦ Contains-append_left (brackets n) (Inner (Open n) ∷ Inner (Close n) ∷ []) (Inner (Close k)) (close_listed n k less)
      | inr same ↦ subst (λ j. Contains (brackets (suc n)) (Inner (Close j))) (sym same)
          (Contains-append_right (brackets n) (Inner (Open n) ∷ Inner (Close n) ∷ []) (Inner (Close n)) (Contains-tail (Inner (Open n)) (Inner (Close n) ∷ []) (Inner (Close n)) (Contains-head (Inner (Close n)) [])))
    ]

bracket_listed : (n : ℕ) (m : Bound Mark) → IsBracket n m → Contains (brackets n) m
bracket_listed n Edge h = absurd h
bracket_listed n (Inner (Copy s)) h = absurd h
bracket_listed n (Inner (Up s)) h = absurd h
bracket_listed n (Inner (Low s)) h = absurd h
bracket_listed n (Inner (Same s)) h = absurd h
bracket_listed n (Inner (Open k)) h = open_listed n k h
bracket_listed n (Inner (Close k)) h = close_listed n k h

-- marks are the edge, or hold a symbol, or are brackets
abbrev pub listed : List Sym → ℕ → List (Bound Mark)
listed symbols n = (Edge ∷ flat_map marks_with symbols) ++ brackets n

of_holds : (symbols : List Sym) (n : ℕ) (m : Bound Mark) → HoldsOne symbols m → IsMarkOf symbols n m
of_holds symbols n Edge h = absurd h
of_holds symbols n (Inner (Copy s)) h = h
of_holds symbols n (Inner (Up s)) h = h
of_holds symbols n (Inner (Low s)) h = h
of_holds symbols n (Inner (Same s)) h = h
of_holds symbols n (Inner (Open k)) h = absurd h
of_holds symbols n (Inner (Close k)) h = absurd h

of_bracket : (symbols : List Sym) (n : ℕ) (m : Bound Mark) → IsBracket n m → IsMarkOf symbols n m
of_bracket symbols n Edge h = absurd h
of_bracket symbols n (Inner (Copy s)) h = absurd h
of_bracket symbols n (Inner (Up s)) h = absurd h
of_bracket symbols n (Inner (Low s)) h = absurd h
of_bracket symbols n (Inner (Same s)) h = absurd h
of_bracket symbols n (Inner (Open k)) h = h
of_bracket symbols n (Inner (Close k)) h = h

in_front : (symbols : List Sym) (n : ℕ) (m : Bound Mark) → HoldsOne symbols m → Contains (listed symbols n) m
in_front symbols n m h = Contains-append_left (Edge ∷ flat_map marks_with symbols) (brackets n) m (Contains-tail Edge (flat_map marks_with symbols) m (holds_listed symbols m h))

in_back : (symbols : List Sym) (n : ℕ) (m : Bound Mark) → IsBracket n m → Contains (listed symbols n) m
in_back symbols n m h = Contains-append_right (Edge ∷ flat_map marks_with symbols) (brackets n) m (bracket_listed n m h)

listed_from : (symbols : List Sym) (n : ℕ) (m : Bound Mark) → IsMarkOf symbols n m → Contains (listed symbols n) m
listed_from symbols n Edge h = Contains-append_left (Edge ∷ flat_map marks_with symbols) (brackets n) Edge (Contains-head Edge (flat_map marks_with symbols))
listed_from symbols n (Inner (Copy s)) h = in_front symbols n (Inner (Copy s)) h
listed_from symbols n (Inner (Up s)) h = in_front symbols n (Inner (Up s)) h
listed_from symbols n (Inner (Low s)) h = in_front symbols n (Inner (Low s)) h
listed_from symbols n (Inner (Same s)) h = in_front symbols n (Inner (Same s)) h
listed_from symbols n (Inner (Open k)) h = in_back symbols n (Inner (Open k)) h
listed_from symbols n (Inner (Close k)) h = in_back symbols n (Inner (Close k)) h

pub listed_marks : (symbols : List Sym) (n : ℕ) (m : Bound Mark) → Contains (listed symbols n) m ↔ IsMarkOf symbols n m
listed_marks symbols n m = (
  λ h. elim (Contains-append_cases (Edge ∷ flat_map marks_with symbols) (brackets n) m h) as (λ _. IsMarkOf symbols n m) [
    | inl front ↦ elim (Contains-cons_cases Edge (flat_map marks_with symbols) m front) as (λ _. IsMarkOf symbols n m) [
      | inl e ↦ subst (IsMarkOf symbols n) e tt
      | inr held ↦ of_holds symbols n m (listed_holds symbols m held)
    ]
    | inr back ↦ of_bracket symbols n m (listed_bracket n m back)
  ],
  listed_from symbols n m,
)

-- each stands once
new_copy : (s : Sym) (rest : List (Bound Mark)) → (Contains rest (Inner (Copy s)) → ⊥) → Contains (Inner (Up s) ∷ Inner (Low s) ∷ Inner (Same s) ∷ rest) (Inner (Copy s)) → ⊥
new_copy s rest new h =
    elim (Contains-cons_cases (Inner (Up s)) (Inner (Low s) ∷ Inner (Same s) ∷ rest) (Inner (Copy s)) h) [
      | inl e ↦ cc
      | inr h2 ↦ elim (Contains-cons_cases (Inner (Low s)) (Inner (Same s) ∷ rest) (Inner (Copy s)) h2) [
        | inl e ↦ cc
        | inr h3 ↦ elim (Contains-cons_cases (Inner (Same s)) rest (Inner (Copy s)) h3) [ inl e ↦ cc | inr h4 ↦ new h4 ]
      ]
    ]

new_up : (s : Sym) (rest : List (Bound Mark)) → (Contains rest (Inner (Up s)) → ⊥) → Contains (Inner (Low s) ∷ Inner (Same s) ∷ rest) (Inner (Up s)) → ⊥
new_up s rest new h =
    elim (Contains-cons_cases (Inner (Low s)) (Inner (Same s) ∷ rest) (Inner (Up s)) h) [
      | inl e ↦ cc
      | inr h3 ↦ elim (Contains-cons_cases (Inner (Same s)) rest (Inner (Up s)) h3) [ inl e ↦ cc | inr h4 ↦ new h4 ]
    ]

new_low : (s : Sym) (rest : List (Bound Mark)) → (Contains rest (Inner (Low s)) → ⊥) → Contains (Inner (Same s) ∷ rest) (Inner (Low s)) → ⊥
new_low s rest new h = elim (Contains-cons_cases (Inner (Same s)) rest (Inner (Low s)) h) [ inl e ↦ cc | inr h4 ↦ new h4 ]

symbols_once : (symbols : List Sym) → IsDistinct symbols → IsDistinct (flat_map marks_with symbols)
symbols_once [] distinct = none_distinct
symbols_once (s ∷ symbols) distinct =
    let rest = flat_map marks_with symbols in
    let new = first_new s symbols distinct in
    let later = symbols_once symbols (rest_distinct s symbols distinct) in
    distinct_more (Inner (Copy s)) (Inner (Up s) ∷ Inner (Low s) ∷ Inner (Same s) ∷ rest) (new_copy s rest (λ h. new (listed_holds symbols (Inner (Copy s)) h)))
    (distinct_more (Inner (Up s)) (Inner (Low s) ∷ Inner (Same s) ∷ rest) (new_up s rest (λ h. new (listed_holds symbols (Inner (Up s)) h)))
    (distinct_more (Inner (Low s)) (Inner (Same s) ∷ rest) (new_low s rest (λ h. new (listed_holds symbols (Inner (Low s)) h)))
    (distinct_more (Inner (Same s)) rest (λ h. new (listed_holds symbols (Inner (Same s)) h)) later)))

no_bracket_twice : (n : ℕ) (m : Bound Mark) → IsBracket n m → Contains (Inner (Open n) ∷ Inner (Close n) ∷ []) m → ⊥
no_bracket_twice n m h last =
    elim (Contains-cons_cases (Inner (Open n)) (Inner (Close n) ∷ []) m last) [
      | inl e ↦ let l : n < n = subst (IsBracket n) (sym e) h in omega (arith, l)
      | inr h2 ↦ elim (Contains-cons_cases (Inner (Close n)) [] m h2) [
        | inl e ↦ let l : n < n = subst (IsBracket n) (sym e) h in omega (arith, l)
        | inr none ↦ Contains-nil_cases m none
      ]
    ]

last_new : (n : ℕ) → Contains (Inner (Close n) ∷ []) (Inner (Open n)) → ⊥
last_new n h = elim (Contains-cons_cases (Inner (Close n)) [] (Inner (Open n)) h) [ inl e ↦ cc | inr none ↦ Contains-nil_cases (Inner (Open n)) none ]

brackets_once : (n : ℕ) → IsDistinct (brackets n)
brackets_once zero = none_distinct
brackets_once (suc n) =
    distinct_both (brackets n) (Inner (Open n) ∷ Inner (Close n) ∷ []) (brackets_once n)
    (distinct_more (Inner (Open n)) (Inner (Close n) ∷ []) (last_new n) (distinct_more (Inner (Close n)) [] (Contains-nil_cases (Inner (Close n))) none_distinct))
    (λ m old new. no_bracket_twice n m (listed_bracket n m old) new)

held_no_bracket : (symbols : List Sym) (n : ℕ) (m : Bound Mark) → HoldsOne symbols m → IsBracket n m → ⊥
held_no_bracket symbols n Edge h b = h
held_no_bracket symbols n (Inner (Copy s)) h b = b
held_no_bracket symbols n (Inner (Up s)) h b = b
held_no_bracket symbols n (Inner (Low s)) h b = b
held_no_bracket symbols n (Inner (Same s)) h b = b
held_no_bracket symbols n (Inner (Open k)) h b = h
held_no_bracket symbols n (Inner (Close k)) h b = h

edge_no_bracket : (n : ℕ) (m : Bound Mark) → Edge ≡ m → IsBracket n m → ⊥
edge_no_bracket n m e b = subst (IsBracket n) (sym e) b

pub listed_once : (symbols : List Sym) (n : ℕ) → IsDistinct symbols → IsDistinct (listed symbols n)
listed_once symbols n distinct =
    distinct_both (Edge ∷ flat_map marks_with symbols) (brackets n)
    (distinct_more Edge (flat_map marks_with symbols) (λ h. listed_holds symbols Edge h) (symbols_once symbols distinct)) (brackets_once n)
    (λ m front back. elim (Contains-cons_cases Edge (flat_map marks_with symbols) m front) [
      | inl e ↦ edge_no_bracket n m e (listed_bracket n m back)
      | inr held ↦ held_no_bracket symbols n m (listed_holds symbols m held) (listed_bracket n m back)
    ])

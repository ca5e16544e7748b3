-- The marks of symbols and mappings, listed mapping by mapping.
use Rattle.std.proofs.Common.{◌≡◌, ◌↔◌, ℕ, suc, ◌+◌, ◌<◌, List, [], ◌∷◌, ◌++◌, ◌⊎◌, inl, inr, length, map, All, refl, sym, ap, subst, ◌∙◌, arith}
use Rattle.std.specs.List.{Contains}
use Rattle.std.proofs.Math.Nat.{le-suc_iff}
use Rattle.std.proofs.lemmas.List.{length-append, length-map}
use Rattle.std.proofs.lemmas.List.Elements.{All-nil, All-cons, All-append, All-map, All-weaker, All-contains, Contains-append_left, Contains-append_right, Contains-append_cases}
use Rattle.fsm_base.specs.declared.letters.Sym.{Sym}
use Rattle.word_relations.specs.Words.{IsDistinct}
use Rattle.word_relations.proofs.Members.{Contains-head, Contains-tail, Contains-cons_cases, Contains-map, Contains-map_cases}
use Rattle.replace_marks.specs.declared.marks.Mark.{Mark}
use Rattle.replace_marks.specs.declared.marks.Mark.TheVariants.{Copy, Up, Low, Open, Close}
use Rattle.replace_marks.specs.Marks.{IsMarkOf, count_of}
use Rattle.replace_marks.specs.Listed.{marks_by}
use Rattle.replace_marks.proofs.Distinct.{IsDistinct-one, IsDistinct-append, IsDistinct-before}

-- the list has just the marks of the symbols and so many mappings, each once where each symbol is there once
pub record AreMarks (symbols : List Sym) (maps : ℕ) (marks : List Mark) : Type 0 where
  pub members : (m : Mark) → Contains marks m ↔ IsMarkOf symbols maps m
  pub count : length marks ≡ count_of (length symbols) maps
  pub once : IsDistinct symbols → IsDistinct marks

-- a mark of the mapping of this number
abbrev IsMarkBy : List Sym → ℕ → Mark → Type 0
IsMarkBy symbols number (Copy s) = ⊥
IsMarkBy symbols number (Up k s) = (k ≡ number) × Contains symbols s
IsMarkBy symbols number (Low k s) = (k ≡ number) × Contains symbols s
IsMarkBy symbols number (Open k) = k ≡ number
IsMarkBy symbols number (Close k) = k ≡ number

-- a symbol by which marks of one kind differ
abbrev symbol_in : Mark → Sym
symbol_in (Copy s) = s
symbol_in (Up k s) = s
symbol_in (Low k s) = s
symbol_in (Open k) = record { 0 = k }
symbol_in (Close k) = record { 0 = k }

marked_once : (f : Sym → Mark) → ((s : Sym) → symbol_in (f s) ≡ s) → (symbols : List Sym) → IsDistinct symbols → IsDistinct (map f symbols)
marked_once f back symbols distinct = IsDistinct-before symbol_in (map f symbols) (subst IsDistinct (sym (undone symbols)) distinct)
  where
    undone : (ss : List Sym) → map symbol_in (map f ss) ≡ ss
    undone [] = refl
    undone (s ∷ ss) = ap (λ t. t ∷ map symbol_in (map f ss)) (back s) ∙ ap (λ ts. s ∷ ts) (undone ss)

pub copies_are : (symbols : List Sym) → AreMarks symbols 0 (map Copy symbols)
copies_are symbols = record { members = λ m. (up m, down m); count = grind (arith, length-map); once = marked_once Copy (λ s. refl) symbols }
  where
    up : (m : Mark) → Contains (map Copy symbols) m → IsMarkOf symbols 0 m
    up m h = let r = Contains-map_cases Copy symbols m h in subst (IsMarkOf symbols 0) r.2 r.1

    down : (m : Mark) → IsMarkOf symbols 0 m → Contains (map Copy symbols) m
    down (Copy s) h = Contains-map Copy symbols s h
    down (Up k s) h = let l : k < 0 = h.0 in absurd (omega arith)
    down (Low k s) h = let l : k < 0 = h.0 in absurd (omega arith)
    down (Open k) h = let l : k < 0 = h in absurd (omega arith)
    down (Close k) h = let l : k < 0 = h in absurd (omega arith)

-- the kinds of marks, numbered against the order in which those of one mapping are listed
abbrev kind : Mark → ℕ
kind (Copy s) = 4
kind (Open k) = 3
kind (Close k) = 2
kind (Up k s) = 1
kind (Low k s) = 0

abbrev AreBelow : ℕ → List Mark → Type 0
AreBelow n marks = All (λ m. kind m < n) marks

-- marks of one kind, and behind them marks of later kinds
kinds_once : (n : ℕ) (first later : List Mark) → All (λ m. kind m ≡ n) first → AreBelow n later → IsDistinct first → IsDistinct later → IsDistinct (first ++ later)
kinds_once n first later of_kind below once also = IsDistinct-append first later once also apart
  where
    apart : (m : Mark) → Contains first m → Contains later m → ⊥
    apart m here there =
        let at : kind m ≡ n = All-contains (λ x. kind x ≡ n) first m of_kind here in
        let under : kind m < n = All-contains (λ x. kind x < n) later m below there in
        omega arith

module _ (symbols : List Sym) (number : ℕ) where
  abbrev sides : List Mark
  sides = map (Up number) symbols ++ map (Low number) symbols

  sides_below : AreBelow 2 sides
  sides_below =
      All-append (λ m. kind m < 2) (map (Up number) symbols) (map (Low number) symbols)
      (All-map (λ m. kind m < 2) (Up number) symbols (λ k d l. omega arith))
      (All-map (λ m. kind m < 2) (Low number) symbols (λ k d l. omega arith))

  sides_once : IsDistinct symbols → IsDistinct sides
  sides_once distinct =
      kinds_once 1 (map (Up number) symbols) (map (Low number) symbols)
      (All-map (λ m. kind m ≡ 1) (Up number) symbols (λ k d l. refl))
      (All-map (λ m. kind m < 1) (Low number) symbols (λ k d l. omega arith))
      (marked_once (Up number) (λ s. refl) symbols distinct) (marked_once (Low number) (λ s. refl) symbols distinct)

  by_once : IsDistinct symbols → IsDistinct (marks_by symbols number)
  by_once distinct =
      kinds_once 3 (Open number ∷ []) (Close number ∷ sides)
      (All-cons (λ m. kind m ≡ 3) (Open number) [] refl (All-nil (λ m. kind m ≡ 3)))
      (All-cons (λ m. kind m < 3) (Close number) sides (omega arith) (All-weaker (λ m. kind m < 2) (λ m. kind m < 3) (λ m l. omega (arith, l)) sides sides_below))
      (IsDistinct-one (Open number))
      (kinds_once 2 (Close number ∷ []) sides (All-cons (λ m. kind m ≡ 2) (Close number) [] refl (All-nil (λ m. kind m ≡ 2))) sides_below (IsDistinct-one (Close number)) (sides_once distinct))

  by_from_listed : (m : Mark) → Contains (marks_by symbols number) m → IsMarkBy symbols number m
  by_from_listed m h =
      elim (Contains-cons_cases (Open number) (Close number ∷ sides) m h) [
        | inl e ↦ subst (IsMarkBy symbols number) e refl
        | inr later ↦ elim (Contains-cons_cases (Close number) sides m later) [
          | inl e ↦ subst (IsMarkBy symbols number) e refl
          | inr rest ↦ elim (Contains-append_cases (map (Up number) symbols) (map (Low number) symbols) m rest) [
            | inl up ↦ let r = Contains-map_cases (Up number) symbols m up in subst (IsMarkBy symbols number) r.2 (refl, r.1)
            | inr low ↦ let r = Contains-map_cases (Low number) symbols m low in subst (IsMarkBy symbols number) r.2 (refl, r.1)
          ]
        ]
      ]

  behind : (m : Mark) → Contains sides m → Contains (marks_by symbols number) m
  behind m h = Contains-tail (Open number) (Close number ∷ sides) m (Contains-tail (Close number) sides m h)

  listed_from_by : (m : Mark) → IsMarkBy symbols number m → Contains (marks_by symbols number) m
  listed_from_by (Copy s) h = absurd h
  listed_from_by (Up k s) h =
      subst (λ n. Contains (marks_by symbols number) (Up n s)) (sym h.0)
      (behind (Up number s) (Contains-append_left (map (Up number) symbols) (map (Low number) symbols) (Up number s) (Contains-map (Up number) symbols s h.1)))
  listed_from_by (Low k s) h =
      subst (λ n. Contains (marks_by symbols number) (Low n s)) (sym h.0)
      (behind (Low number s) (Contains-append_right (map (Up number) symbols) (map (Low number) symbols) (Low number s) (Contains-map (Low number) symbols s h.1)))
  listed_from_by (Open k) h = subst (λ n. Contains (marks_by symbols number) (Open n)) (sym h) (Contains-head (Open number) (Close number ∷ sides))
  listed_from_by (Close k) h = subst (λ n. Contains (marks_by symbols number) (Close n)) (sym h) (Contains-tail (Open number) (Close number ∷ sides) (Close number) (Contains-head (Close number) sides))

  last_or_before : (k : ℕ) → k < number + 1 → (k < number) ⊎ (k ≡ number)
  last_or_before k l = elim ((le-suc_iff {m = suc k} {n = number}).0 (omega arith)) [ inl less ↦ inl less | inr e ↦ inr (omega (arith, e)) ]

  -- the marks of one mapping more are those of the mappings before and its own, and none is both
  of_more : (m : Mark) → IsMarkOf symbols (number + 1) m → IsMarkOf symbols number m ⊎ IsMarkBy symbols number m
  of_more (Copy s) h = inl h
  of_more (Up k s) h = elim (last_or_before k h.0) [ inl l ↦ inl (l, h.1) | inr e ↦ inr (e, h.1) ]
  of_more (Low k s) h = elim (last_or_before k h.0) [ inl l ↦ inl (l, h.1) | inr e ↦ inr (e, h.1) ]
  of_more (Open k) h = last_or_before k h
  of_more (Close k) h = last_or_before k h

  more_from_of : (m : Mark) → IsMarkOf symbols number m → IsMarkOf symbols (number + 1) m
  more_from_of (Copy s) h = h
  more_from_of (Up k s) h = (omega (arith, h.0), h.1)
  more_from_of (Low k s) h = (omega (arith, h.0), h.1)
  more_from_of (Open k) h = omega (arith, h)
  more_from_of (Close k) h = omega (arith, h)

  more_from_by : (m : Mark) → IsMarkBy symbols number m → IsMarkOf symbols (number + 1) m
  more_from_by (Copy s) h = absurd h
  more_from_by (Up k s) h = (omega (arith, h.0), h.1)
  more_from_by (Low k s) h = (omega (arith, h.0), h.1)
  more_from_by (Open k) h = omega (arith, h)
  more_from_by (Close k) h = omega (arith, h)

  of_or_by : (m : Mark) → IsMarkOf symbols number m → IsMarkBy symbols number m → ⊥
  of_or_by (Copy s) h b = b
  of_or_by (Up k s) h b = omega (arith, h.0, b.0)
  of_or_by (Low k s) h b = omega (arith, h.0, b.0)
  of_or_by (Open k) h b = omega (arith, h, b)
  of_or_by (Close k) h b = omega (arith, h, b)

  pub one_map_more : (marks : List Mark) → AreMarks symbols number marks → AreMarks symbols (number + 1) (marks ++ marks_by symbols number)
  one_map_more marks so_far = record { members = λ m. (from_listed m, to_listed m); count = longer; once = λ distinct. IsDistinct-append marks (marks_by symbols number) (so_far.once distinct) (by_once distinct) apart }
    where
      from_listed : (m : Mark) → Contains (marks ++ marks_by symbols number) m → IsMarkOf symbols (number + 1) m
      from_listed m h =
          elim (Contains-append_cases marks (marks_by symbols number) m h) [
            | inl old ↦ more_from_of m ((so_far.members m).0 old)
            | inr new ↦ more_from_by m (by_from_listed m new)
          ]

      to_listed : (m : Mark) → IsMarkOf symbols (number + 1) m → Contains (marks ++ marks_by symbols number) m
      to_listed m h =
          elim (of_more m h) [
            | inl old ↦ Contains-append_left marks (marks_by symbols number) m ((so_far.members m).1 old)
            | inr new ↦ Contains-append_right marks (marks_by symbols number) m (listed_from_by m new)
          ]

      longer : length (marks ++ marks_by symbols number) ≡ count_of (length symbols) (number + 1)
      longer = grind (arith, so_far.count, length-append, length-map)

      apart : (m : Mark) → Contains marks m → Contains (marks_by symbols number) m → ⊥
      apart m old new = of_or_by m ((so_far.members m).0 old) (by_from_listed m new)

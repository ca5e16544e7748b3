-- The table of the firsts of marks, one row more at a time.
use Rattle.std.proofs.Common.{◌≡◌, ℕ, ◌+◌, suc, List, [], ◌∷◌, ◌++◌, Option, Some, map, take, sym, ap, subst, ◌∙◌, append_assoc, arith}
use Rattle.std.specs.Prelude.{option_map}
use Rattle.std.specs.List.{slice_get, flat_map}
use Rattle.std.proofs.lemmas.Grind.{flat_map-append}
use Rattle.std.proofs.lemmas.List.{map-append}
use Rattle.std.proofs.lemmas.Option.{slice_get-map, same_Some}
use Rattle.fsm_base.specs.declared.letters.Sym.{Sym}
use Rattle.fsm_base.specs.declared.letters.Bound.{Bound}
use Rattle.fsm_base.specs.declared.letters.Bound.TheVariants.{Edge, Inner}
use Rattle.word_relations.proofs.Places.{take_more-slice_get}
use Rattle.replace_words.specs.declared.marks.Mark.{Mark}
use Rattle.replace_words.specs.declared.marks.Mark.TheVariants.{Copy, Up, Low, Same, Open, Close}
use Rattle.replace_words.specs.Firsts.{first_mark}
use Rattle.replace_rules.specs.Letters.{table_of, first_table, marks_with, brackets}

abbrev Row : Type 0
Row = Bound Mark × Option (Bound Mark)

abbrev row : Mark → Mark → Row
row m f = (Inner m, Some (Inner f))

-- the symbol that stands at a place
pub first_at : (first : Sym → Sym) (symbols firsts : List Sym) → firsts ≡ map first symbols → (k : ℕ) (s f : Sym) → slice_get symbols k ≡ Some s → slice_get firsts k ≡ Some f → f ≡ first s
first_at first symbols firsts e k s f at at' = same_Some f (first s) (sym at' ∙ ap (λ fs. slice_get fs k) e ∙ slice_get-map first symbols k ∙ ap (option_map first) at)

module _ (f : Sym → Sym) where
  abbrev Table : List (Bound Mark) → List Row
  Table marks = table_of (λ m. Some (first_mark f m)) marks

  pub symbol_rows : (s first : Sym) → first ≡ f s → (r0 r1 r2 r3 r4 : List Row)
      → r1 ≡ r0 ++ (Inner (Copy s), Some (Inner (Copy first))) ∷ [] → r2 ≡ r1 ++ (Inner (Up s), Some (Inner (Up first))) ∷ [] → r3 ≡ r2 ++ (Inner (Low s), Some (Inner (Low first))) ∷ [] → r4 ≡ r3 ++ (Inner (Same s), Some (Inner (Same first))) ∷ []
      → r4 ≡ r0 ++ table_of (λ m. Some (first_mark f m)) (marks_with s)
  symbol_rows s first e r0 r1 r2 r3 r4 e1 e2 e3 e4 =
      let a : Row = (Inner (Copy s), Some (Inner (Copy first))) in
      let b : Row = (Inner (Up s), Some (Inner (Up first))) in
      let c : Row = (Inner (Low s), Some (Inner (Low first))) in
      let d : Row = (Inner (Same s), Some (Inner (Same first))) in
      let second : r2 ≡ r0 ++ a ∷ b ∷ [] = e2 ∙ ap (λ z. z ++ b ∷ []) e1 ∙ append_assoc r0 (a ∷ []) (b ∷ []) in
      let third : r3 ≡ r0 ++ a ∷ b ∷ c ∷ [] = e3 ∙ ap (λ z. z ++ c ∷ []) second ∙ append_assoc r0 (a ∷ b ∷ []) (c ∷ []) in
      let fourth : r4 ≡ r0 ++ a ∷ b ∷ c ∷ d ∷ [] = e4 ∙ ap (λ z. z ++ d ∷ []) third ∙ append_assoc r0 (a ∷ b ∷ c ∷ []) (d ∷ []) in
      fourth ∙ ap (λ x. r0 ++ (Inner (Copy s), Some (Inner (Copy x))) ∷ (Inner (Up s), Some (Inner (Up x))) ∷ (Inner (Low s), Some (Inner (Low x))) ∷ (Inner (Same s), Some (Inner (Same x))) ∷ []) e

  pub symbols_more : (symbols : List Sym) (k : ℕ) (s : Sym) (start old new : List Row) → slice_get symbols k ≡ Some s → old ≡ start ++ table_of (λ m. Some (first_mark f m)) (flat_map marks_with (take k symbols)) → new ≡ old ++ table_of (λ m. Some (first_mark f m)) (marks_with s)
      → new ≡ start ++ table_of (λ m. Some (first_mark f m)) (flat_map marks_with (take (k + 1) symbols))
  symbols_more symbols k s start old new at before here =
      let before_marks : List (Bound Mark) = flat_map marks_with (take k symbols) in
      let marks : flat_map marks_with (take (k + 1) symbols) ≡ before_marks ++ marks_with s = ap (flat_map marks_with) (take_more-slice_get symbols k s at) ∙ flat_map-append marks_with (take k symbols) (s ∷ []) in
      here ∙ ap (λ z. z ++ Table (marks_with s)) before ∙ append_assoc start (Table before_marks) (Table (marks_with s)) ∙ ap (λ z. start ++ z) (sym (map-append (λ m. (m, Some (first_mark f m))) before_marks (marks_with s)) ∙ sym (ap (λ z. Table z) marks))

  pub brackets_more : (k : ℕ) (start old mid new : List Row) → old ≡ start ++ table_of (λ m. Some (first_mark f m)) (brackets k)
      → mid ≡ old ++ (Inner (Open k), Some (Inner (Open k))) ∷ [] → new ≡ mid ++ (Inner (Close k), Some (Inner (Close k))) ∷ [] → new ≡ start ++ table_of (λ m. Some (first_mark f m)) (brackets (k + 1))
  brackets_more k start old mid new before first second =
      let a : Row = (Inner (Open k), Some (Inner (Open k))) in
      let b : Row = (Inner (Close k), Some (Inner (Close k))) in
      let next : suc k ≡ k + 1 = omega (arith) in
      let all : new ≡ start ++ Table (brackets (suc k)) = second ∙ ap (λ z. z ++ b ∷ []) (first ∙ ap (λ z. z ++ a ∷ []) before) ∙ append_assoc (start ++ Table (brackets k)) (a ∷ []) (b ∷ []) ∙ append_assoc start (Table (brackets k)) (a ∷ b ∷ [])
      ∙ ap (λ z. start ++ z) (sym (map-append (λ m. (m, Some (first_mark f m))) (brackets k) (Inner (Open k) ∷ Inner (Close k) ∷ []))) in
      subst (λ n. new ≡ start ++ Table (brackets n)) next all

  pub all_rows : (symbols : List Sym) (n : ℕ) (none edge mid new : List Row) → none ≡ [] → edge ≡ none ++ (Edge, Some Edge) ∷ [] → mid ≡ edge ++ table_of (λ m. Some (first_mark f m)) (flat_map marks_with symbols) → new ≡ mid ++ table_of (λ m. Some (first_mark f m)) (brackets n)
      → new ≡ first_table f symbols n
  all_rows symbols n none edge mid new is one two three =
      let front : mid ≡ Table (Edge ∷ flat_map marks_with symbols) = two ∙ ap (λ z. z ++ Table (flat_map marks_with symbols)) (one ∙ ap (λ z. z ++ (Edge, Some Edge) ∷ []) is) in
      three ∙ ap (λ z. z ++ Table (brackets n)) front ∙ sym (map-append (λ m. (m, Some (first_mark f m))) (Edge ∷ flat_map marks_with symbols) (brackets n))

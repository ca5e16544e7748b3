-- Words of marks of which the upper side is a centre.
use Rattle.std.proofs.Common.{◌≡◌, ◌↔◌, ℕ, ◌+◌, ◌<◌, List, [], ◌∷◌, ◌++◌, Option, Some, None, length, take, get_or, refl, sym, ap, subst, ◌∙◌, inl, inr, append-nil}
use Rattle.std.specs.Prelude.{option_map}
use Rattle.std.specs.List.{Contains, filter_map, cons_option}
use Rattle.std.proofs.lemmas.List.{take_more}
use Rattle.std.proofs.lemmas.List.Elements.{All-nil, All-cons, All-head, All-tail, filter_map-append}
use Rattle.fsm_base.specs.declared.letters.Sym.{Sym}
use Rattle.fsm_base.specs.declared.letters.Bound.{Bound}
use Rattle.fsm_base.specs.declared.letters.Bound.TheVariants.{Edge, Inner}
use Rattle.word_relations.specs.Words.{IsOver, Translates, finish, keep, omit}
use Rattle.word_relations.proofs.Members.{Contains-nil_cases, Contains-cons_cases, Contains-head, Contains-tail}
use Rattle.fsa.specs.Automaton.{Automaton}
use Rattle.fsa.specs.Language as language
use Rattle.fsa.specs.Complete.{Complete}
use Rattle.lang_algebra.specs.Languages.{IsLang}
use Rattle.lang_algebra.proofs.Made.{IsLang-same}
use Rattle.expr_meaning.specs.Operators.{inner}
use Rattle.replace_words.specs.declared.marks.Mark.{Mark}
use Rattle.replace_words.specs.Marked.{upper_of, reading, side_of}
use Rattle.replace_rules.specs.declared.rules.LangMap.{LangMap}
use Rattle.replace_rules.specs.Rules.{HasCentre}
use Rattle.replace_directed.specs.Marked.{IsCentre, upper_row}

-- the rows, mark after mark
pub rows_more : (marks : List (Bound Mark)) (rows : List (Bound Mark × Option Sym)) (i : ℕ) (d : Bound Mark) → i < length marks → rows ≡ filter_map upper_row (take i marks) ++ cons_option (upper_row (get_or marks i d)) [] → rows ≡ filter_map upper_row (take (i + 1) marks)
rows_more marks rows i d within is =
    is ∙ sym (filter_map-append upper_row (take i marks) (get_or marks i d ∷ [])) ∙ ap (filter_map upper_row) (sym (take_more marks i d within))

pub row_here : (marks : List (Bound Mark)) (rows old : List (Bound Mark × Option Sym)) (i : ℕ) (x : Bound Mark) (m : Mark) (o : Option Sym) → x ≡ Inner m → o ≡ upper_of m → old ≡ filter_map upper_row (take i marks) → rows ≡ old ++ (x, o) ∷ [] → rows ≡ filter_map upper_row (take i marks) ++ cons_option (upper_row x) []
row_here marks rows old i x m o is symbol before e =
    let front = filter_map upper_row (take i marks) in
    e ∙ ap (λ z. z ++ (x, o) ∷ []) before ∙ ap (λ (y : Bound Mark). front ++ (y, o) ∷ []) is ∙ ap (λ (y : Option Sym). front ++ (Inner m, y) ∷ []) symbol ∙ ap (λ y. front ++ cons_option (upper_row y) []) (sym is)

pub row_past : (marks : List (Bound Mark)) (rows old : List (Bound Mark × Option Sym)) (i : ℕ) (x : Bound Mark) → ((m : Mark) → x ≡ Inner m → ⊥) → old ≡ filter_map upper_row (take i marks) → rows ≡ old → rows ≡ filter_map upper_row (take i marks) ++ cons_option (upper_row x) []
row_past marks rows old i Edge none before e = e ∙ before ∙ sym (append-nil (filter_map upper_row (take i marks)))
row_past marks rows old i (Inner m) none before e = absurd (none m refl)

-- what stands in a row
abbrev IsRow : Bound Mark → Option Sym → Type 0
IsRow Edge o = ⊥
IsRow (Inner m) o = upper_of m ≡ o

abbrev Row : Type 0
Row = Bound Mark × Option Sym

row_cases : (marks : List (Bound Mark)) (m : Bound Mark) (o : Option Sym) → Contains {X = Row} (filter_map upper_row marks) (m, o) → Contains marks m × IsRow m o
row_cases [] m o h = absurd (Contains-nil_cases {X = Row} (m, o) h)
row_cases (Edge ∷ marks) m o h = let r = row_cases marks m o h in (Contains-tail Edge marks m r.0, r.1)
row_cases (Inner k ∷ marks) m o h = elim (Contains-cons_cases {X = Row} (Inner k, upper_of k) (filter_map upper_row marks) (m, o) h) as (λ _. Contains (Inner k ∷ marks) m × IsRow m o) [
  | inl same ↦ here (Inner k, upper_of k) (m, o) same refl refl
  | inr more ↦ let r = row_cases marks m o more in (Contains-tail (Inner k) marks m r.0, r.1)
]
  where
    here : (a b : Row) → a ≡ b → a.0 ≡ Inner k → a.1 ≡ upper_of k → Contains (Inner k ∷ marks) b.0 × IsRow b.0 b.1
    here a b same is_mark is_symbol =
        let first : Inner k ≡ b.0 = sym is_mark ∙ ap (λ (r : Row). r.0) same in
        let second : upper_of k ≡ b.1 = sym is_symbol ∙ ap (λ (r : Row). r.1) same in
        (subst (Contains (Inner k ∷ marks)) first (Contains-head (Inner k) marks), subst (λ x. IsRow x b.1) first second)

row_there : (marks : List (Bound Mark)) (m : Mark) → Contains marks (Inner m) → Contains {X = Row} (filter_map upper_row marks) (Inner m, upper_of m)
row_there [] m h = absurd (Contains-nil_cases (Inner m) h)
row_there (Edge ∷ marks) m h = elim (Contains-cons_cases Edge marks (Inner m) h) as (λ _. Contains {X = Row} (filter_map upper_row marks) (Inner m, upper_of m)) [
  | inl same ↦ absurd (let e : Edge ≡ Inner m = same in cc)
  | inr more ↦ row_there marks m more
]
row_there (Inner k ∷ marks) m h = elim (Contains-cons_cases (Inner k) marks (Inner m) h) as (λ _. Contains {X = Row} ((Inner k, upper_of k) ∷ filter_map upper_row marks) (Inner m, upper_of m)) [
  | inl same ↦ here same
  | inr more ↦ Contains-tail {X = Row} (Inner k, upper_of k) (filter_map upper_row marks) (Inner m, upper_of m) (row_there marks m more)
]
  where
    here : Inner k ≡ Inner m → Contains {X = Row} ((Inner k, upper_of k) ∷ filter_map upper_row marks) (Inner m, upper_of m)
    here same =
        let e : k ≡ m = cc in
        subst (λ x. Contains {X = Row} ((Inner k, upper_of k) ∷ filter_map upper_row marks) (Inner x, upper_of x)) e (Contains-head {X = Row} (Inner k, upper_of k) (filter_map upper_row marks))

row_reads : (x : Bound Mark) (o : Option Sym) → IsRow x o → side_of upper_of x ≡ option_map Inner o
row_reads Edge o h = absurd h
row_reads (Inner m) o h = ap (option_map Inner) h

module _ (marks : List (Bound Mark)) where
  abbrev Rows : List Row
  Rows = filter_map upper_row marks

  translated_down : (v : List (Bound Mark)) (c : List Sym) → Translates Rows v c → IsOver marks v × (reading upper_of v ≡ inner c)
  translated_down _ _ finish = (All-nil (Contains marks), refl)
  translated_down _ _ (keep {x = x} {y = y} {v = v} {w = w} row rest) =
      let r = row_cases marks x (Some y) row in
      let t = translated_down v w rest in
      (All-cons (Contains marks) x v r.0 t.0, ap (λ o. cons_option o (reading upper_of v)) (row_reads x (Some y) r.1) ∙ ap (λ z. Inner y ∷ z) t.1)
  translated_down _ _ (omit {x = x} {v = v} {w = w} row rest) =
      let r = row_cases marks x None row in
      let t = translated_down v w rest in
      (All-cons (Contains marks) x v r.0 t.0, ap (λ o. cons_option o (reading upper_of v)) (row_reads x None r.1) ∙ t.1)

  translated_up : (v : List (Bound Mark)) (c : List Sym) → IsOver marks v → reading upper_of v ≡ inner c → Translates Rows v c
  translated_up [] [] over is = finish
  translated_up [] (s ∷ c) over is = absurd (let e : [] ≡ Inner s ∷ inner c = is in cc)
  translated_up (Edge ∷ v) [] over is = absurd (let e : Edge ∷ reading upper_of v ≡ [] = is in cc)
  translated_up (Edge ∷ v) (s ∷ c) over is = absurd (let e : Edge ∷ reading upper_of v ≡ Inner s ∷ inner c = is in cc)
  translated_up (Inner m ∷ v) c over is =
      go (upper_of m) c (row_there marks m (All-head (Contains marks) (Inner m) v over)) is (λ d. translated_up v d (All-tail (Contains marks) (Inner m) v over))
    where
      go : (o : Option Sym) (c : List Sym) → Contains {X = Row} Rows (Inner m, o) → cons_option (option_map Inner o) (reading upper_of v) ≡ inner c → ((d : List Sym) → reading upper_of v ≡ inner d → Translates Rows v d) → Translates Rows (Inner m ∷ v) c
      go None c row e later = omit row (later c e)
      go (Some y) [] row e later = absurd (let e' : Inner y ∷ reading upper_of v ≡ [] = e in cc)
      go (Some y) (s ∷ c) row e later =
          let e' : Inner y ∷ reading upper_of v ≡ Inner s ∷ inner c = e in
          let head : y ≡ s = cc in
          let tail : reading upper_of v ≡ inner c = cc in
          subst (λ x. Translates Rows (Inner m ∷ v) (x ∷ c)) head (keep row (later c tail))

pub centred_words : (marks : List (Bound Mark)) (maps : List LangMap) (rows : List Row) (words : Automaton Sym) (upper : Automaton (Bound Mark)) (lang : Complete (Bound Mark)) → rows ≡ filter_map upper_row marks → ((c : List Sym) → language.Accepts words c ↔ HasCentre maps c)
    → ((v : List (Bound Mark)) → language.Accepts upper v ↔ ((w : List Sym) × language.Accepts words w × Translates rows v w)) → IsLang marks (λ w. IsOver marks w × language.Accepts upper w) lang → IsLang marks (λ w. IsOver marks w × IsCentre maps w) lang
centred_words marks maps rows words upper lang rows_are words_are upper_is lang_is =
    IsLang-same marks (λ w. IsOver marks w × language.Accepts upper w) (λ w. IsOver marks w × IsCentre maps w) lang (λ w. (λ h. (h.0, down w h.1), λ h. (h.0, up w h.0 h.1))) lang_is
  where
    down : (w : List (Bound Mark)) → language.Accepts upper w → IsCentre maps w
    down w h =
        let r = (upper_is w).0 h in
        let t = translated_down marks w r.0 (subst (λ rs. Translates rs w r.0) rows_are r.2) in
        (r.0, t.1, (words_are r.0).0 r.1)

    up : (w : List (Bound Mark)) → IsOver marks w → IsCentre maps w → language.Accepts upper w
    up w over (c, is, has) = (upper_is w).1 (c, (words_are c).1 has, subst (λ rs. Translates rs w c) (sym rows_are) (translated_up marks w c over is))

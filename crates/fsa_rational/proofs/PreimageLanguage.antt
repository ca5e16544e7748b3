-- The preimage: each edge carries the letters for which the table gives its letter, and a letter for which the table
-- gives none leads from each state to itself.
use Rattle.std.proofs.Common.{◌≡◌, ℕ, ◌<◌, ◌⊎◌, ◌↔◌, List, [], ◌∷◌, true, Option, Some, None, length, refl, subst, sym, ap, inl, inr, ◌∙◌}
use Rattle.std.specs.List.{Contains, slice_get}
use Rattle.std.proofs.lemmas.Option.{same_Some}
use Rattle.word_relations.specs.Words.{Translates, finish, keep, omit}
use Rattle.word_relations.proofs.Members.{Contains-nil_cases}
use Rattle.fsa.specs.Automaton.{Automaton, IsFinal, IsWellFormed, UsesLetter}
use Rattle.fsa.specs.Language.{AcceptsFrom, Accepts, stop, read, skip}
use Rattle.fsa.specs.declared.automaton.Edge.{Edge}
use Rattle.fsa_rational.specs.Shapes.{Extends, ForEach, ComesFrom, IsPreimage, PreimageOf, LoopsBelow, loop_at, epsilon}
use Rattle.fsa_rational.proofs.Extended.{Extends-same}
use Rattle.fsa_rational.proofs.Walks.{AcceptsFrom-within}

module _ {L M : Type 0} (table : List (L × Option M)) (rows : List (M × L)) (kept : (row : M × L) → Contains rows row ↔ Contains table (row.1, Some row.0))
    (letters : List L) (omitted : (x : L) → Contains letters x ↔ Contains table (x, None)) (a : Automaton M) (a_ok : IsWellFormed a) (start now m : Automaton L)
    (none : start.edges ≡ []) (finals : start.finals ≡ a.finals) (made : Extends start now (ForEach (PreimageOf rows) a.edges)) (looped : Extends now m (LoopsBelow (length now.finals) letters)) where
  m_finals : m.finals ≡ a.finals
  m_finals = looped.finals ∙ made.finals ∙ finals

  now_finals : now.finals ≡ a.finals
  now_finals = made.finals ∙ finals

  -- an edge of the preimage comes from an edge of `a`, or is a loop
  from_a : ℕ → ℕ → Option L → Type 0
  from_a p q letter = (y : Option M) × Contains a.edges (record { from = p; letter = y; to = q }) × IsPreimage rows y letter

  is_loop : ℕ → ℕ → Option L → Type 0
  is_loop p q letter = (x : L) × Contains table (x, None) × (letter ≡ Some x) × (q ≡ p)

  behind : (p q : ℕ) (letter : Option L) → Contains m.edges (record { from = p; letter = letter; to = q }) → from_a p q letter ⊎ is_loop p q letter
  unfolding from_a is_loop
  behind p q letter h =
      let e : Edge L = record { from = p; letter = letter; to = q } in
      elim (looped.only e h) [
        | inr r ↦
            let x : L = r.2.0 in
            let is : e ≡ loop_at r.0 x = r.2.2 in
            inr (x, (omitted x).0 r.2.1, ap (λ f. f.letter) is, ap (λ f. f.to) is ∙ sym (ap (λ f. f.from) is))
        | inl h1 ↦ elim (made.only e h1) [
          | inl h0 ↦ absurd (Contains-nil_cases e (subst (λ es. Contains es e) none h0))
          | inr r ↦
              let old : Edge M = r.0 in
              let P : ℕ → ℕ → Type 0 = λ u v. Contains a.edges (record { from = u; letter = old.letter; to = v }) in
              let from : p ≡ old.from = ap (λ f. f.from) r.2.2 in
              let to : q ≡ old.to = ap (λ f. f.to) r.2.2 in
              let reads : letter ≡ r.2.0 = ap (λ f. f.letter) r.2.2 in
              inl (old.letter, subst (λ v. P p v) (sym to) (subst (λ u. P u old.to) (sym from) r.1), subst (λ l. IsPreimage rows old.letter l) (sym reads) r.2.1)
        ]
      ]

  down_from : (p q : ℕ) (y : Option M) (letter : Option L) (x : L) (v : List L) → letter ≡ Some x → Contains a.edges (record { from = p; letter = y; to = q }) → IsPreimage rows y letter → (w : List M) × AcceptsFrom a q w × Translates table v w → (w : List M) × AcceptsFrom a p w × Translates table (x ∷ v) w
  down_from p q None letter x v reads held is rest = let clash : None ≡ Some x = sym is ∙ reads in absurd (cc)
  down_from p q (Some y) letter x v reads held (z, row, is) (w, path, t) =
      let same : z ≡ x = same_Some z x (sym is ∙ reads) in
      (y ∷ w, read held path, keep (subst (λ k. Contains table (k, Some y)) same ((kept (y, z)).0 row)) t)

  down_epsilon : (p q : ℕ) (y : Option M) (v : List L) → Contains a.edges (record { from = p; letter = y; to = q }) → IsPreimage rows y None → (w : List M) × AcceptsFrom a q w × Translates table v w → (w : List M) × AcceptsFrom a p w × Translates table v w
  down_epsilon p q None v held is (w, path, t) = (w, skip held path, t)
  down_epsilon p q (Some y) v held (z, row, is) rest = let clash : None ≡ Some z = is in absurd (cc)

  down : {p : ℕ} {v : List L} → AcceptsFrom m p v → (w : List M) × AcceptsFrom a p w × Translates table v w
  unfolding from_a is_loop
  down {p} (stop h) = ([], stop (subst (λ fs. slice_get fs p ≡ Some true) m_finals h), finish)
  down {p} (read {q = q} {x = x} {w = v} h rest) =
      let more : (w : List M) × AcceptsFrom a q w × Translates table v w = down rest in
      elim (behind p q (Some x) h) [
        | inl r ↦ down_from p q r.0 (Some x) x v refl r.1 r.2 more
        | inr r ↦
            let same : r.0 ≡ x = same_Some r.0 x (sym r.2) in
            (more.0, subst (λ k. AcceptsFrom a k more.0) r.3 more.1, omit (subst (λ k. Contains table (k, None)) same r.1) more.2)
      ]
  down {p} (skip {q = q} {w = v} h rest) =
      let more : (w : List M) × AcceptsFrom a q w × Translates table v w = down rest in
      elim (behind p q None h) [
        | inl r ↦ down_epsilon p q r.0 v r.1 r.2 more
        | inr r ↦ let clash : None ≡ Some r.0 = r.2 in absurd (cc)
      ]

  new_edge : (p q : ℕ) (y : Option M) (letter : Option L) → Contains a.edges (record { from = p; letter = y; to = q }) → IsPreimage rows y letter → Contains m.edges (record { from = p; letter = letter; to = q })
  new_edge p q y letter held is =
      looped.kept (record { from = p; letter = letter; to = q }) (made.all (record { from = p; letter = letter; to = q }) (record { from = p; letter = y; to = q }, held, (letter, is, refl)))

  new_loop : (p : ℕ) (x : L) → p < length a.finals → Contains table (x, None) → Contains m.edges (loop_at p x)
  new_loop p x there row =
      looped.all (loop_at p x) (p, subst (λ fs. p < length fs) (sym now_finals) there, (x, (omitted x).1 row, refl))

  up_stop : (p : ℕ) → p < length a.finals → IsFinal a p → {v : List L} → Translates table v [] → AcceptsFrom m p v
  up_stop p there h finish = stop (subst (λ fs. slice_get fs p ≡ Some true) (sym m_finals) h)
  up_stop p there h (omit {x = x} row t) = read (new_loop p x there row) (up_stop p there h t)

  up_read : (p q : ℕ) (y : M) (w : List M) → p < length a.finals → Contains a.edges (record { from = p; letter = Some y; to = q }) → ((v : List L) → Translates table v w → AcceptsFrom m q v) → {v : List L} → Translates table v (y ∷ w) → AcceptsFrom m p v
  up_read p q y w there held rest (keep {x = x} {v = v} row t) = read (new_edge p q (Some y) (Some x) held (x, (kept (y, x)).1 row, refl)) (rest v t)
  up_read p q y w there held rest (omit {x = x} row t) = read (new_loop p x there row) (up_read p q y w there held rest t)

  up : {p : ℕ} {w : List M} → AcceptsFrom a p w → (v : List L) → Translates table v w → AcceptsFrom m p v
  up {p} (stop h) v t = up_stop p (AcceptsFrom-within a a_ok (stop h)) h t
  up {p} (read {q = q} {x = y} {w = w} h rest) v t = up_read p q y w (AcceptsFrom-within a a_ok (read h rest)) h (up rest) t
  up {p} (skip {q = q} h rest) v t = skip (new_edge p q None None h refl) (up rest v t)

  pub preimage_language : (v : List L) → Accepts m v ↔ ((w : List M) × Accepts a w × Translates table v w)
  preimage_language v = (down, λ (w, path, t). up path v t)

  letter_row : (y : Option M) (letter : Option L) (x : L) → letter ≡ Some x → IsPreimage rows y letter → (z : Option M) × Contains table (x, z)
  letter_row None letter x reads is = let clash : None ≡ Some x = sym is ∙ reads in absurd (cc)
  letter_row (Some y) letter x reads (z, row, is) =
      let same : z ≡ x = same_Some z x (sym is ∙ reads) in
      (Some y, subst (λ k. Contains table (k, Some y)) same ((kept (y, z)).0 row))

  pub preimage_letters : (x : L) → UsesLetter m x → (z : Option M) × Contains table (x, z)
  unfolding from_a is_loop
  preimage_letters x (e, h, reads) = elim (behind e.from e.to e.letter h) [
    | inl r ↦ letter_row r.0 e.letter x reads r.2
    | inr r ↦ let same : r.0 ≡ x = same_Some r.0 x (sym r.2 ∙ reads) in (None, subst (λ k. Contains table (k, None)) same r.1)
  ]

-- the edge that stands for an epsilon edge
pub preimage_epsilon : {L M : Type 0} (rows : List (M × L)) (old : Edge M) (now new : Automaton L) → old.letter ≡ None → Extends now new (λ e. e ≡ epsilon old.from old.to) → Extends now new (PreimageOf rows old)
preimage_epsilon {L} {M} rows old now new none added =
    let with_letter : Option L → Edge L = λ y. record { from = old.from; letter = y; to = old.to } in
    Extends-same now new (λ e. e ≡ epsilon old.from old.to) (PreimageOf rows old)
    (λ e is. (None, subst (λ l. IsPreimage rows l None) (sym none) refl, is))
    (λ e r. r.2 ∙ ap with_letter (subst (λ l. IsPreimage rows l r.0) none r.1))
    added

-- the edges that stand for one with a letter
pub preimage_rows : {L M : Type 0} (rows items : List (M × L)) (old : Edge M) (y : M) (now new : Automaton L) → old.letter ≡ Some y → ((row : M × L) → Contains items row ↔ (Contains rows row × (row.0 ≡ y))) → Extends now new (ComesFrom (λ row. record { from = old.from; letter = Some row.1; to = old.to }) items) → Extends now new (PreimageOf rows old)
preimage_rows {L} {M} rows items old y now new letter are added =
    let with_letter : Option L → Edge L = λ l. record { from = old.from; letter = l; to = old.to } in
    Extends-same now new (ComesFrom (λ row. record { from = old.from; letter = Some row.1; to = old.to }) items) (PreimageOf rows old)
    (λ e r.
    let row = (are r.0).0 r.1 in
    let held : Contains rows (y, r.0.1) = subst (λ k. Contains rows (k, r.0.1)) row.1 row.0 in
    (Some r.0.1, subst (λ l. IsPreimage rows l (Some r.0.1)) (sym letter) (r.0.1, held, refl), r.2))
    (λ e r.
    let there : IsPreimage rows (Some y) r.0 = subst (λ l. IsPreimage rows l r.0) letter r.1 in
    ((y, there.0), (are (y, there.0)).1 (there.1, refl), r.2 ∙ ap with_letter there.2))
    added

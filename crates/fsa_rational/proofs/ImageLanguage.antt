-- The image: each edge carries what the table gives for its letter.
use Rattle.std.proofs.Common.{◌≡◌, ℕ, ◌↔◌, List, [], ◌∷◌, true, Option, Some, None, refl, subst, sym, ap, inl, inr, ◌∙◌}
use Rattle.std.specs.List.{Contains, slice_get}
use Rattle.word_relations.specs.Words.{Translates, finish, keep, omit}
use Rattle.word_relations.proofs.Members.{Contains-nil_cases}
use Rattle.fsa.specs.Automaton.{Automaton, IsFinal, UsesLetter}
use Rattle.fsa.specs.Language.{AcceptsFrom, Accepts, stop, read, skip}
use Rattle.fsa.specs.declared.automaton.Edge.{Edge}
use Rattle.fsa_rational.specs.Shapes.{Extends, ForEach, ComesFrom, IsImage, ImageOf, epsilon}
use Rattle.fsa_rational.proofs.Extended.{Extends-same}

module _ {L M : Type 0} (table rows : List (L × Option M)) (same : (row : L × Option M) → Contains rows row ↔ Contains table row) (a : Automaton L) (start m : Automaton M)
    (none : start.edges ≡ []) (finals : start.finals ≡ a.finals) (made : Extends start m (ForEach (ImageOf rows) a.edges)) where
  m_finals : m.finals ≡ a.finals
  m_finals = made.finals ∙ finals

  old_edge : (e : Edge M) → Contains m.edges e → ForEach (ImageOf rows) a.edges e
  old_edge e h = elim (made.only e h) [ inl h0 ↦ absurd (Contains-nil_cases e (subst (λ es. Contains es e) none h0)) | inr r ↦ r ]

  kept_letter : (letter : Option L) (y : M) → IsImage rows letter (Some y) → (x : L) × (letter ≡ Some x) × Contains table (x, Some y)
  kept_letter None y is = cc
  kept_letter (Some x) y is = (x, refl, (same (x, Some y)).0 is)

  -- what the edge of `a` behind an edge of the image adds to a word
  down_read : (p q : ℕ) (letter : Option L) (y : M) (w : List M) → Contains a.edges (record { from = p; letter = letter; to = q }) → IsImage rows letter (Some y) → (v : List L) × AcceptsFrom a q v × Translates table v w → (v : List L) × AcceptsFrom a p v × Translates table v (y ∷ w)
  down_read p q None y w held is rest = cc
  down_read p q (Some x) y w held is (v, path, t) = (x ∷ v, read held path, keep ((same (x, Some y)).0 is) t)

  down_skip : (p q : ℕ) (letter : Option L) (w : List M) → Contains a.edges (record { from = p; letter = letter; to = q }) → IsImage rows letter None → (v : List L) × AcceptsFrom a q v × Translates table v w → (v : List L) × AcceptsFrom a p v × Translates table v w
  down_skip p q None w held is (v, path, t) = (v, skip held path, t)
  down_skip p q (Some x) w held is (v, path, t) = (x ∷ v, read held path, omit ((same (x, None)).0 is) t)

  -- the edge of `a` behind an edge of the image
  behind : (p q : ℕ) (y : Option M) → Contains m.edges (record { from = p; letter = y; to = q }) → (letter : Option L) × Contains a.edges (record { from = p; letter = letter; to = q }) × IsImage rows letter y
  behind p q y h =
      let r = old_edge (record { from = p; letter = y; to = q }) h in
      let old : Edge L = r.0 in
      let P : ℕ → ℕ → Type 0 = λ u v. Contains a.edges (record { from = u; letter = old.letter; to = v }) in
      let from : p ≡ old.from = ap (λ e. e.from) r.2.2 in
      let to : q ≡ old.to = ap (λ e. e.to) r.2.2 in
      let letter : y ≡ r.2.0 = ap (λ e. e.letter) r.2.2 in
      (old.letter, subst (λ v. P p v) (sym to) (subst (λ u. P u old.to) (sym from) r.1), subst (λ z. IsImage rows old.letter z) (sym letter) r.2.1)

  down : {p : ℕ} {w : List M} → AcceptsFrom m p w → (v : List L) × AcceptsFrom a p v × Translates table v w
  down {p} (stop h) = ([], stop (subst (λ fs. slice_get fs p ≡ Some true) m_finals h), finish)
  down {p} (read {q = q} {x = y} {w = w} h rest) = let b = behind p q (Some y) h in down_read p q b.0 y w b.1 b.2 (down rest)
  down {p} (skip {q = q} {w = w} h rest) = let b = behind p q None h in down_skip p q b.0 w b.1 b.2 (down rest)

  new_edge : (p q : ℕ) (letter : Option L) (y : Option M) → Contains a.edges (record { from = p; letter = letter; to = q }) → IsImage rows letter y → Contains m.edges (record { from = p; letter = y; to = q })
  new_edge p q letter y held is = made.all (record { from = p; letter = y; to = q }) (record { from = p; letter = letter; to = q }, held, (y, is, refl))

  up_read : (p q : ℕ) (x : L) (v : List L) (w : List M) → Contains a.edges (record { from = p; letter = Some x; to = q }) → ((u : List M) → Translates table v u → AcceptsFrom m q u) → Translates table (x ∷ v) w → AcceptsFrom m p w
  up_read p q x v w held rest (keep {y = y} {w = u} c t) = read (new_edge p q (Some x) (Some y) held ((same (x, Some y)).1 c)) (rest u t)
  up_read p q x v w held rest (omit c t) = skip (new_edge p q (Some x) None held ((same (x, None)).1 c)) (rest w t)

  up_stop : (p : ℕ) (w : List M) → IsFinal a p → Translates table [] w → AcceptsFrom m p w
  up_stop p w h finish = stop (subst (λ fs. slice_get fs p ≡ Some true) (sym m_finals) h)

  up : {p : ℕ} {v : List L} → AcceptsFrom a p v → (w : List M) → Translates table v w → AcceptsFrom m p w
  up {p} (stop h) w t = up_stop p w h t
  up {p} (read {q = q} {x = x} {w = v} h rest) w t = up_read p q x v w h (up rest) t
  up {p} (skip {q = q} h rest) w t = skip (new_edge p q None None h refl) (up rest w t)

  pub image_language : (w : List M) → Accepts m w ↔ ((v : List L) × Accepts a v × Translates table v w)
  image_language w = (down, λ (v, path, t). up path w t)

  pub image_letters : (y : M) → UsesLetter m y → (x : L) × Contains table (x, Some y)
  image_letters y (e, h, reads) =
      let r = old_edge e h in
      let letter : r.2.0 ≡ Some y = sym (ap (λ f. f.letter) r.2.2) ∙ reads in
      let k = kept_letter r.0.letter y (subst (λ z. IsImage rows r.0.letter z) letter r.2.1) in
      (k.0, k.2)

-- the edge that stands for an epsilon edge
pub image_epsilon : {L M : Type 0} (rows : List (L × Option M)) (old : Edge L) (now new : Automaton M) → old.letter ≡ None → Extends now new (λ e. e ≡ epsilon old.from old.to) → Extends now new (ImageOf rows old)
image_epsilon {L} {M} rows old now new none added =
    let with_letter : Option M → Edge M = λ y. record { from = old.from; letter = y; to = old.to } in
    Extends-same now new (λ e. e ≡ epsilon old.from old.to) (ImageOf rows old)
    (λ e is. (None, subst (λ l. IsImage rows l None) (sym none) refl, is))
    (λ e r. r.2 ∙ ap with_letter (subst (λ l. IsImage rows l r.0) none r.1))
    added

-- the edges that stand for one with a letter
pub image_rows : {L M : Type 0} (rows items : List (L × Option M)) (old : Edge L) (x : L) (now new : Automaton M) → old.letter ≡ Some x → ((row : L × Option M) → Contains items row ↔ (Contains rows row × (row.0 ≡ x))) → Extends now new (ComesFrom (λ row. record { from = old.from; letter = row.1; to = old.to }) items) → Extends now new (ImageOf rows old)
image_rows {L} {M} rows items old x now new letter are added =
    Extends-same now new (ComesFrom (λ row. record { from = old.from; letter = row.1; to = old.to }) items) (ImageOf rows old)
    (λ e r.
    let row = (are r.0).0 r.1 in
    let held : Contains rows (x, r.0.1) = subst (λ k. Contains rows (k, r.0.1)) row.1 row.0 in
    (r.0.1, subst (λ l. IsImage rows l r.0.1) (sym letter) held, r.2))
    (λ e r.
    let held : Contains rows (x, r.0) = subst (λ l. IsImage rows l r.0) letter r.1 in
    ((x, r.0), (are (x, r.0)).1 (held, refl), r.2))
    added

-- The words of insertions by so many places, and the well-formed words.
use Rattle.std.proofs.Common.{◌≡◌, ◌↔◌, ◌⊎◌, ℕ, ◌+◌, ◌<◌, List, [], ◌∷◌, ◌++◌, false, true, Some, refl, ap, subst, ◌∙◌, inl, inr, arith}
use Rattle.std.specs.List.{flat_map}
use Rattle.std.proofs.lemmas.Bool.{cases_lt}
use Rattle.std.proofs.lemmas.List.Elements.{All-weaker}
use Rattle.fsm_base.specs.declared.letters.Sym.{Sym}
use Rattle.fsm_base.specs.declared.letters.Bound.{Bound}
use Rattle.fsm_base.specs.declared.letters.Bound.TheVariants.{Edge, Inner}
use Rattle.word_relations.specs.Words.{IsConcatenation, IsRepetition}
use Rattle.word_relations.specs.Operations.{IsOneLetter}
use Rattle.word_relations.proofs.Members.{Contains-nil_cases}
use Rattle.fsa.specs.Automaton.{Automaton}
use Rattle.fsa.specs.Language as language
use Rattle.fsa.specs.Language.{AcceptsFrom, stop, read, skip}
use Rattle.fsa.specs.Complete.{Complete, Accepts}
use Rattle.replace_words.specs.declared.marks.Mark.{Mark}
use Rattle.replace_words.specs.declared.marks.Mark.TheVariants.{Open, Close}
use Rattle.replace_words.specs.Marked.{copies, lows, bracket}
use Rattle.replace_insertions.specs.Marked.{IsInsertion, IsBlockOf, AreBlocksOf}

abbrev alone : {L : Type 0} → Automaton L
alone {L} = record { edges = []; finals = false ∷ [] }

alone_from : {L : Type 0} {w : List L} → AcceptsFrom (alone {L = L}) 0 w → ⊥
alone_from (stop h) = let e : Some false ≡ Some true = h in cc
alone_from (read {q = q} {x = x} c rest) = Contains-nil_cases (record { from = 0; letter = Some x; to = q }) c
alone_from (skip {q = q} c rest) = Contains-nil_cases _ c

-- the automaton of one state accepts nothing
nothing : {L : Type 0} (m : Automaton L) → m ≡ record { edges = []; finals = false ∷ [] } → (w : List L) → language.Accepts m w → ⊥
nothing m is w h = alone_from (subst (λ a. language.Accepts a w) is h)

-- automata of numbers, united one by one
module _ {L : Type 0} (Q : ℕ → List L → Type 0) where
  abbrev pub Below : ℕ → List L → Type 0
  Below n v = (k : ℕ) × (k < n) × Q k v

  pub below_none : (m : Automaton L) → m ≡ record { edges = []; finals = false ∷ [] } → (v : List L) → language.Accepts m v ↔ Below 0 v
  below_none m is v = (λ h. absurd (nothing m is v h), λ h. let l : h.0 < 0 = h.1 in absurd (omega (arith, l)))

  pub below_more : (i : ℕ) (old more new : Automaton L) → ((v : List L) → language.Accepts old v ↔ Below i v) → ((v : List L) → language.Accepts more v ↔ Q i v) → ((v : List L) → language.Accepts new v ↔ (language.Accepts old v ⊎ language.Accepts more v)) → (v : List L) → language.Accepts new v ↔ Below (i + 1) v
  below_more i old more new before here both v = (
    λ h. elim ((both v).0 h) as (λ _. Below (i + 1) v) [
      | inl was ↦ let r = (before v).0 was in let l : r.0 < i = r.1 in (r.0, omega (arith, l), r.2)
      | inr now ↦ (i, omega arith, (here v).0 now)
    ],
    λ (k, l, there). (both v).1 (elim (cases_lt k i) as (λ _. language.Accepts old v ⊎ language.Accepts more v) [
      | inl less ↦ inl ((before v).1 (k, less, there))
      | inr greater ↦ let same : k ≡ i = omega (arith, l, greater) in inr ((here v).1 (subst (λ j. Q j v) same there))
    ]),
  )

-- words between the brackets of a place
pub bracketed : (k : ℕ) (Q : List (Bound Mark) → Type 0) (open_ inside close rest m : Automaton (Bound Mark)) → ((v : List (Bound Mark)) → language.Accepts open_ v ↔ (v ≡ Inner (Open k) ∷ [])) → ((v : List (Bound Mark)) → language.Accepts inside v ↔ Q v) → ((v : List (Bound Mark)) → language.Accepts close v ↔ (v ≡ Inner (Close k) ∷ []))
    → ((v : List (Bound Mark)) → language.Accepts rest v ↔ IsConcatenation (language.Accepts inside) (language.Accepts close) v) → ((v : List (Bound Mark)) → language.Accepts m v ↔ IsConcatenation (language.Accepts open_) (language.Accepts rest) v)
    → (v : List (Bound Mark)) → language.Accepts m v ↔ ((b : List (Bound Mark)) × (v ≡ bracket k b) × Q b)
bracketed k Q open_ inside close rest m open_is inside_is close_is rest_is m_is v = (
  λ h.
      let (x, y, e, first, second) = (m_is v).0 h in
      let (b, z, e2, middle, last) = (rest_is y).0 second in
      (b, e ∙ ap (λ u. u ++ y) ((open_is x).0 first) ∙ ap (λ u. Inner (Open k) ∷ u) (e2 ∙ ap (λ u. b ++ u) ((close_is z).0 last)), (inside_is b).0 middle),
  λ (b, e, q). (m_is v).1 (Inner (Open k) ∷ [], b ++ Inner (Close k) ∷ [], e, (open_is (Inner (Open k) ∷ [])).1 refl, (rest_is (b ++ Inner (Close k) ∷ [])).1 (b, Inner (Close k) ∷ [], refl, (inside_is b).1 q, (close_is (Inner (Close k) ∷ [])).1 refl)),
)

-- the insertions of one place
pub insertion_words : (put : Complete Sym) (words : Automaton Sym) (lower m : Automaton (Bound Mark)) (k : ℕ) → ((w : List Sym) → language.Accepts words w ↔ Accepts put w) → ((v : List (Bound Mark)) → language.Accepts lower v ↔ ((w : List Sym) × (v ≡ lows w) × language.Accepts words w))
    → ((v : List (Bound Mark)) → language.Accepts m v ↔ ((b : List (Bound Mark)) × (v ≡ bracket k b) × language.Accepts lower b)) → (v : List (Bound Mark)) → language.Accepts m v ↔ IsInsertion put k v
insertion_words put words lower m k words_are lower_is m_is v = (
  λ h.
      let (b, e, inside) = (m_is v).0 h in
      let (r, er, pr) = (lower_is b).0 inside in
      (r, e ∙ ap (bracket k) er, (words_are r).0 pr),
  λ (r, e, pr). (m_is v).1 (lows r, e, (lower_is (lows r)).1 (r, refl, (words_are r).1 pr)),
)

-- the well-formed words
module _ (symbols : List Sym) (put : Complete Sym) (places : ℕ) (symbol : Automaton Sym) (copied inserted block blocks edge rest m : Automaton (Bound Mark))
    (symbol_is : (w : List Sym) → language.Accepts symbol w ↔ IsOneLetter symbols w) (copied_is : (v : List (Bound Mark)) → language.Accepts copied v ↔ ((w : List Sym) × (v ≡ copies w) × language.Accepts symbol w))
    (inserted_is : (v : List (Bound Mark)) → language.Accepts inserted v ↔ ((k : ℕ) × (k < places) × IsInsertion put k v)) (block_is : (v : List (Bound Mark)) → language.Accepts block v ↔ (language.Accepts copied v ⊎ language.Accepts inserted v))
    (blocks_are : (v : List (Bound Mark)) → language.Accepts blocks v ↔ IsRepetition (language.Accepts block) v) (edge_is : (v : List (Bound Mark)) → language.Accepts edge v ↔ (v ≡ Edge ∷ []))
    (rest_is : (v : List (Bound Mark)) → language.Accepts rest v ↔ IsConcatenation (language.Accepts blocks) (language.Accepts edge) v) (m_is : (v : List (Bound Mark)) → language.Accepts m v ↔ IsConcatenation (language.Accepts edge) (language.Accepts rest) v) where
  abbrev Block : List (Bound Mark) → Type 0
  Block v = IsBlockOf symbols put places v

  block_there : (v : List (Bound Mark)) → language.Accepts block v → Block v
  block_there v h = elim ((block_is v).0 h) as (λ _. Block v) [
    | inl copy ↦
        let (w, e, one) = (copied_is v).0 copy in
        let (s, among, is) = (symbol_is w).0 one in
        inl (s, e ∙ ap copies is, among)
    | inr more ↦ inr ((inserted_is v).0 more)
  ]

  block_back : (v : List (Bound Mark)) → Block v → language.Accepts block v
  block_back v (inl (s, e, among)) = (block_is v).1 (inl ((copied_is v).1 (s ∷ [], e, (symbol_is (s ∷ [])).1 (s, among, refl))))
  block_back v (inr more) = (block_is v).1 (inr ((inserted_is v).1 more))

  pub well_words : (w : List (Bound Mark)) → language.Accepts m w ↔ AreBlocksOf symbols put places w
  well_words w = (
    λ h.
        let (x, y, e, first, second) = (m_is w).0 h in
        let (z, u, e2, middle, last) = (rest_is y).0 second in
        let (vs, ez, all) = (blocks_are z).0 middle in
        (vs, e ∙ ap (λ t. t ++ y) ((edge_is x).0 first) ∙ ap (λ t. Edge ∷ t) (e2 ∙ ap (λ t. t ++ u) ez ∙ ap (λ t. flat_map (λ v. v) vs ++ t) ((edge_is u).0 last)), All-weaker (language.Accepts block) Block block_there vs all),
    λ (vs, e, all).
        (m_is w).1 (
          Edge ∷ [],
          flat_map (λ v. v) vs ++ Edge ∷ [],
          e,
          (edge_is (Edge ∷ [])).1 refl,
          (rest_is (flat_map (λ v. v) vs ++ Edge ∷ [])).1 (flat_map (λ v. v) vs, Edge ∷ [], refl, (blocks_are (flat_map (λ v. v) vs)).1 (vs, refl, All-weaker Block (language.Accepts block) block_back vs all), (edge_is (Edge ∷ [])).1 refl),
        ),
  )

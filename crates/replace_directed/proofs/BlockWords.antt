-- The words of replacements, and the well-formed words.
use Rattle.std.proofs.Common.{◌≡◌, ◌↔◌, ◌⊎◌, ℕ, ◌<◌, List, [], ◌∷◌, ◌++◌, refl, ap, ◌∙◌, inl, inr}
use Rattle.std.specs.List.{flat_map}
use Rattle.std.proofs.lemmas.List.Elements.{All-weaker}
use Rattle.fsm_base.specs.declared.letters.Sym.{Sym}
use Rattle.fsm_base.specs.declared.letters.Bound.{Bound}
use Rattle.fsm_base.specs.declared.letters.Bound.TheVariants.{Edge, Inner}
use Rattle.word_relations.specs.Words.{IsConcatenation, IsRepetition}
use Rattle.word_relations.specs.Operations.{IsOneLetter}
use Rattle.fsa.specs.Automaton.{Automaton}
use Rattle.fsa.specs.Language as language
use Rattle.fsa.specs.Complete.{Complete, Accepts}
use Rattle.replace_words.specs.declared.marks.Mark.{Mark}
use Rattle.replace_words.specs.declared.marks.Mark.TheVariants.{Open, Close}
use Rattle.replace_words.specs.Marked.{copies, ups, lows, sames, bracket}
use Rattle.replace_rules.specs.declared.rules.LangMap.{LangMap}
use Rattle.replace_rules.specs.Places.{IsBody}
use Rattle.replace_directed.specs.Marked.{IsBlockOf, AreBlocksOf}

-- a word of one set on the upper side, then one of another on the lower side
pub plain_words : (centre put : Complete Sym) (c p : Automaton Sym) (upper lower m : Automaton (Bound Mark)) → ((w : List Sym) → language.Accepts c w ↔ Accepts centre w) → ((w : List Sym) → language.Accepts p w ↔ Accepts put w)
    → ((v : List (Bound Mark)) → language.Accepts upper v ↔ ((w : List Sym) × (v ≡ ups w) × language.Accepts c w)) → ((v : List (Bound Mark)) → language.Accepts lower v ↔ ((w : List Sym) × (v ≡ lows w) × language.Accepts p w))
    → ((v : List (Bound Mark)) → language.Accepts m v ↔ IsConcatenation (language.Accepts upper) (language.Accepts lower) v)
    → (v : List (Bound Mark)) → language.Accepts m v ↔ ((c : List Sym) × (r : List Sym) × (v ≡ ups c ++ lows r) × Accepts centre c × Accepts put r)
plain_words centre put c p upper lower m c_is p_is upper_is lower_is m_is v = (
  λ h.
      let (x, y, e, first, second) = (m_is v).0 h in
      let (w, ew, pw) = (upper_is x).0 first in
      let (r, er, pr) = (lower_is y).0 second in
      (w, r, e ∙ ap (λ z. z ++ y) ew ∙ ap (λ z. ups w ++ z) er, (c_is w).0 pw, (p_is r).0 pr),
  λ (w, r, e, pw, pr). (m_is v).1 (ups w, lows r, e, (upper_is (ups w)).1 (w, refl, (c_is w).1 pw), (lower_is (lows r)).1 (r, refl, (p_is r).1 pr)),
)

pub markup_words : (before centre after : Complete Sym) (b c a : Automaton Sym) (front kept behind start m : Automaton (Bound Mark)) → ((w : List Sym) → language.Accepts b w ↔ Accepts before w) → ((w : List Sym) → language.Accepts c w ↔ Accepts centre w) → ((w : List Sym) → language.Accepts a w ↔ Accepts after w)
    → ((v : List (Bound Mark)) → language.Accepts front v ↔ ((w : List Sym) × (v ≡ lows w) × language.Accepts b w)) → ((v : List (Bound Mark)) → language.Accepts kept v ↔ ((w : List Sym) × (v ≡ sames w) × language.Accepts c w))
    → ((v : List (Bound Mark)) → language.Accepts behind v ↔ ((w : List Sym) × (v ≡ lows w) × language.Accepts a w))
    → ((v : List (Bound Mark)) → language.Accepts start v ↔ IsConcatenation (language.Accepts front) (language.Accepts kept) v) → ((v : List (Bound Mark)) → language.Accepts m v ↔ IsConcatenation (language.Accepts start) (language.Accepts behind) v)
    → (v : List (Bound Mark)) → language.Accepts m v ↔ ((f : List Sym) × (c : List Sym) × (a : List Sym) × (v ≡ lows f ++ sames c ++ lows a) × Accepts centre c × Accepts before f × Accepts after a)
markup_words before centre after b c a front kept behind start m b_is c_is a_is front_is kept_is behind_is start_is m_is v = (
  λ h.
      let (xy, z, e, first, third) = (m_is v).0 h in
      let (x, y, e2, one, two) = (start_is xy).0 first in
      let (f, ef, pf) = (front_is x).0 one in
      let (w, ew, pw) = (kept_is y).0 two in
      let (l, el, pl) = (behind_is z).0 third in
      (f, w, l, e ∙ ap (λ u. u ++ z) (e2 ∙ ap (λ u. u ++ y) ef ∙ ap (λ u. lows f ++ u) ew) ∙ ap (λ u. lows f ++ sames w ++ u) el, (c_is w).0 pw, (b_is f).0 pf, (a_is l).0 pl),
  λ (f, w, l, e, pw, pf, pl).
      (m_is v).1 (lows f ++ sames w, lows l, e, (start_is (lows f ++ sames w)).1 (lows f, sames w, refl, (front_is (lows f)).1 (f, refl, (b_is f).1 pf), (kept_is (sames w)).1 (w, refl, (c_is w).1 pw)), (behind_is (lows l)).1 (l, refl, (a_is l).1 pl)),
)

-- words between the brackets of a place
pub bracketed : (k : ℕ) (Q : List (Bound Mark) → Type 0) (open_ inside close rest m : Automaton (Bound Mark)) → ((v : List (Bound Mark)) → language.Accepts open_ v ↔ (v ≡ Inner (Open k) ∷ [])) → ((v : List (Bound Mark)) → language.Accepts inside v ↔ Q v) → ((v : List (Bound Mark)) → language.Accepts close v ↔ (v ≡ Inner (Close k) ∷ []))
    → ((v : List (Bound Mark)) → language.Accepts rest v ↔ IsConcatenation (language.Accepts inside) (language.Accepts close) v) → ((v : List (Bound Mark)) → language.Accepts m v ↔ IsConcatenation (language.Accepts open_) (language.Accepts rest) v)
    → (v : List (Bound Mark)) → language.Accepts m v ↔ ((b : List (Bound Mark)) × (v ≡ bracket k b) × Q b)
bracketed k Q open_ inside close rest m open_is inside_is close_is rest_is m_is v = (
  λ h.
      let (x, y, e, first, second) = (m_is v).0 h in
      let (b, z, e2, middle, last) = (rest_is y).0 second in
      (b, e ∙ ap (λ u. u ++ y) ((open_is x).0 first) ∙ ap (λ u. Inner (Open k) ∷ u) (e2 ∙ ap (λ u. b ++ u) ((close_is z).0 last)), (inside_is b).0 middle),
  λ (b, e, q). (m_is v).1 (Inner (Open k) ∷ [], b ++ Inner (Close k) ∷ [], e, (open_is (Inner (Open k) ∷ [])).1 refl, (rest_is (b ++ Inner (Close k) ∷ [])).1 (b, Inner (Close k) ∷ [], refl, (inside_is b).1 q, (close_is (Inner (Close k) ∷ [])).1 refl)),
)

-- a replacement between the brackets of a place
abbrev pub IsBracketed : List LangMap → ℕ → List (Bound Mark) → Type 0
IsBracketed maps k v = (b : List (Bound Mark)) × (v ≡ bracket k b) × IsBody maps b

pub bracketed_bodies : (maps : List LangMap) (k : ℕ) (inside m : Automaton (Bound Mark)) → ((v : List (Bound Mark)) → language.Accepts inside v ↔ IsBody maps v) → ((v : List (Bound Mark)) → language.Accepts m v ↔ ((b : List (Bound Mark)) × (v ≡ bracket k b) × language.Accepts inside b))
    → (v : List (Bound Mark)) → language.Accepts m v ↔ IsBracketed maps k v
bracketed_bodies maps k inside m inside_is m_is v = (
  λ h. let r = (m_is v).0 h in (r.0, r.1, (inside_is r.0).0 r.2),
  λ h. (m_is v).1 (h.0, h.1, (inside_is h.0).1 h.2),
)

-- the well-formed words
module _ (symbols : List Sym) (maps : List LangMap) (places : ℕ) (symbol : Automaton Sym) (copied replaced block blocks edge rest m : Automaton (Bound Mark))
    (symbol_is : (w : List Sym) → language.Accepts symbol w ↔ IsOneLetter symbols w) (copied_is : (v : List (Bound Mark)) → language.Accepts copied v ↔ ((w : List Sym) × (v ≡ copies w) × language.Accepts symbol w))
    (replaced_is : (v : List (Bound Mark)) → language.Accepts replaced v ↔ ((k : ℕ) × (k < places) × ((b : List (Bound Mark)) × (v ≡ bracket k b) × IsBody maps b))) (block_is : (v : List (Bound Mark)) → language.Accepts block v ↔ (language.Accepts copied v ⊎ language.Accepts replaced v))
    (blocks_are : (v : List (Bound Mark)) → language.Accepts blocks v ↔ IsRepetition (language.Accepts block) v) (edge_is : (v : List (Bound Mark)) → language.Accepts edge v ↔ (v ≡ Edge ∷ []))
    (rest_is : (v : List (Bound Mark)) → language.Accepts rest v ↔ IsConcatenation (language.Accepts blocks) (language.Accepts edge) v) (m_is : (v : List (Bound Mark)) → language.Accepts m v ↔ IsConcatenation (language.Accepts edge) (language.Accepts rest) v) where
  abbrev Block : List (Bound Mark) → Type 0
  Block v = IsBlockOf symbols maps places v

  block_there : (v : List (Bound Mark)) → language.Accepts block v → Block v
  block_there v h = elim ((block_is v).0 h) as (λ _. Block v) [
    | inl copy ↦
        let (w, e, one) = (copied_is v).0 copy in
        let (s, among, is) = (symbol_is w).0 one in
        inl (s, e ∙ ap copies is, among)
    | inr more ↦ inr ((replaced_is v).0 more)
  ]

  block_back : (v : List (Bound Mark)) → Block v → language.Accepts block v
  block_back v (inl (s, e, among)) = (block_is v).1 (inl ((copied_is v).1 (s ∷ [], e, (symbol_is (s ∷ [])).1 (s, among, refl))))
  block_back v (inr more) = (block_is v).1 (inr ((replaced_is v).1 more))

  pub well_words : (w : List (Bound Mark)) → language.Accepts m w ↔ AreBlocksOf symbols maps places w
  well_words w = (
    λ h.
        let (x, y, e, first, second) = (m_is w).0 h in
        let (z, u, e2, middle, last) = (rest_is y).0 second in
        let (vs, ez, all) = (blocks_are z).0 middle in
        (vs, e ∙ ap (λ t. t ++ y) ((edge_is x).0 first) ∙ ap (λ t. Edge ∷ t) (e2 ∙ ap (λ t. t ++ u) ez ∙ ap (λ t. flat_map (λ v. v) vs ++ t) ((edge_is u).0 last)), All-weaker (language.Accepts block) Block block_there vs all),
    λ (vs, e, all).
        (m_is w).1 (
          Edge ∷ [],
          flat_map (λ v. v) vs ++ Edge ∷ [],
          e,
          (edge_is (Edge ∷ [])).1 refl,
          (rest_is (flat_map (λ v. v) vs ++ Edge ∷ [])).1 (flat_map (λ v. v) vs, Edge ∷ [], refl, (blocks_are (flat_map (λ v. v) vs)).1 (vs, refl, All-weaker Block (language.Accepts block) block_back vs all), (edge_is (Edge ∷ [])).1 refl),
        ),
  )

-- The network of the two sides of words of marks.
use Rattle.std.proofs.Common.{◌≡◌, ◌↔◌, ℕ, List, [], ◌∷◌, Option, Some, None, refl, sym, ap, subst, ◌∙◌}
use Rattle.std.specs.List.{Contains, filter_map}
use Rattle.fsm_base.specs.declared.letters.Sym.{Sym}
use Rattle.fsm_base.specs.declared.letters.Pair.{Pair}
use Rattle.fsm_base.specs.declared.letters.Bound.{Bound}
use Rattle.fsm_base.specs.declared.letters.Bound.TheVariants.{Edge, Inner}
use Rattle.word_relations.specs.Words.{IsOver, Translates}
use Rattle.fsa.specs.Automaton.{Automaton, UsesLetter}
use Rattle.fsa.specs.Language as language
use Rattle.fsa.specs.Complete.{Complete, IsComplete, Accepts}
use Rattle.fsa_product.proofs.Turned.{accepted_over}
use Rattle.fst_algebra.specs.Relation.{IsRelated, uppers, lowers}
use Rattle.network_algebra.specs.Networks.{UsesSymbols}
use Rattle.replace_words.specs.declared.marks.Mark.{Mark}
use Rattle.replace_words.specs.declared.marks.Mark.TheVariants.{Copy, Up, Low, Same, Open, Close}
use Rattle.replace_words.specs.Marked.{upper_of, lower_of, symbol_of}
use Rattle.replace_rules.specs.Letters.{IsMarkOf, AreMarksOf, pair_of, pair_table}
use Rattle.replace_rules.proofs.Tables.{row_cases, translated}

-- the sides of the pairs are the sides of the marks
upper_pairs : (z : List (Bound Mark)) → uppers (filter_map pair_of z) ≡ filter_map (symbol_of upper_of) z
upper_pairs [] = refl
upper_pairs (Edge ∷ z) = upper_pairs z
upper_pairs (Inner (Copy s) ∷ z) = ap (λ u. s ∷ u) (upper_pairs z)
upper_pairs (Inner (Up s) ∷ z) = ap (λ u. s ∷ u) (upper_pairs z)
upper_pairs (Inner (Low s) ∷ z) = upper_pairs z
upper_pairs (Inner (Same s) ∷ z) = ap (λ u. s ∷ u) (upper_pairs z)
upper_pairs (Inner (Open k) ∷ z) = upper_pairs z
upper_pairs (Inner (Close k) ∷ z) = upper_pairs z

lower_pairs : (z : List (Bound Mark)) → lowers (filter_map pair_of z) ≡ filter_map (symbol_of lower_of) z
lower_pairs [] = refl
lower_pairs (Edge ∷ z) = lower_pairs z
lower_pairs (Inner (Copy s) ∷ z) = ap (λ u. s ∷ u) (lower_pairs z)
lower_pairs (Inner (Up s) ∷ z) = lower_pairs z
lower_pairs (Inner (Low s) ∷ z) = ap (λ u. s ∷ u) (lower_pairs z)
lower_pairs (Inner (Same s) ∷ z) = ap (λ u. s ∷ u) (lower_pairs z)
lower_pairs (Inner (Open k) ∷ z) = lower_pairs z
lower_pairs (Inner (Close k) ∷ z) = lower_pairs z

pub related_sides : (marks : List (Bound Mark)) (words : Automaton (Bound Mark)) (pairs m : Automaton Pair) → ((p : List Pair) → language.Accepts pairs p ↔ ((z : List (Bound Mark)) × language.Accepts words z × Translates (pair_table marks) z p))
    → ((p : List Pair) → language.Accepts m p ↔ language.Accepts pairs p)
    → (u w : List Sym) → IsRelated m u w ↔ ((z : List (Bound Mark)) × (IsOver marks z × language.Accepts words z) × (filter_map (symbol_of upper_of) z ≡ u) × (filter_map (symbol_of lower_of) z ≡ w))
related_sides marks words pairs m pairs_are m_is u w = (
  λ (p, h, up, low).
      let r = (pairs_are p).0 ((m_is p).0 h) in
      let t = (translated pair_of marks (λ x. x ≡ p) r.0).0 (p, refl, r.2) in
      (r.0, (t.0, r.1), sym (upper_pairs r.0) ∙ ap uppers t.1 ∙ up, sym (lower_pairs r.0) ∙ ap lowers t.1 ∙ low),
  λ (z, (over, h), up, low).
      let t = (translated pair_of marks (λ x. x ≡ filter_map pair_of z) z).1 (over, refl) in
      (filter_map pair_of z, (m_is (filter_map pair_of z)).1 ((pairs_are (filter_map pair_of z)).1 (z, h, subst (Translates (pair_table marks) z) t.1 t.2)), upper_pairs z ∙ up, lower_pairs z ∙ low),
)

-- the words of a language are over its letters
pub related_words : (words : Complete (Bound Mark)) (marks : List (Bound Mark)) (same : marks ≡ words.letters) (ok : IsComplete words) (accepted : Automaton (Bound Mark)) → ((z : List (Bound Mark)) → language.Accepts accepted z ↔ Accepts words z)
    → (R S : List (Bound Mark) → Type 0) (related : Type 0) → (related ↔ ((z : List (Bound Mark)) × (IsOver marks z × language.Accepts accepted z) × R z × S z)) → related ↔ ((z : List (Bound Mark)) × Accepts words z × R z × S z)
related_words words marks same ok accepted accepted_is R S related is = (
  λ h. let (z, (over, held), up, low) = is.0 h in (z, (accepted_is z).0 held, up, low),
  λ (z, h, up, low). is.1 (z, (subst (λ ls. IsOver ls z) (sym same) (accepted_over words ok h), (accepted_is z).1 h), up, low),
)

upper_symbol : (symbols : List Sym) (n : ℕ) (x : Bound Mark) (y : Pair) (s : Sym) → IsMarkOf symbols n x → pair_of x ≡ Some y → y.up ≡ Some s → Contains symbols s
upper_symbol symbols n Edge y s is e up = let c : None ≡ Some y = e in absurd (cc)
upper_symbol symbols n (Inner (Copy t)) y s is e up = let c : Some (record { up = Some t; low = Some t }) ≡ Some y = e in let same : t ≡ s = cc in subst (Contains symbols) same is
upper_symbol symbols n (Inner (Up t)) y s is e up = let c : Some (record { up = Some t; low = None }) ≡ Some y = e in let same : t ≡ s = cc in subst (Contains symbols) same is
upper_symbol symbols n (Inner (Low t)) y s is e up = let c : Some (record { up = None; low = Some t }) ≡ Some y = e in absurd (cc)
upper_symbol symbols n (Inner (Same t)) y s is e up = let c : Some (record { up = Some t; low = Some t }) ≡ Some y = e in let same : t ≡ s = cc in subst (Contains symbols) same is
upper_symbol symbols n (Inner (Open k)) y s is e up = let c : None ≡ Some y = e in absurd (cc)
upper_symbol symbols n (Inner (Close k)) y s is e up = let c : None ≡ Some y = e in absurd (cc)

lower_symbol : (symbols : List Sym) (n : ℕ) (x : Bound Mark) (y : Pair) (s : Sym) → IsMarkOf symbols n x → pair_of x ≡ Some y → y.low ≡ Some s → Contains symbols s
lower_symbol symbols n Edge y s is e low = let c : None ≡ Some y = e in absurd (cc)
lower_symbol symbols n (Inner (Copy t)) y s is e low = let c : Some (record { up = Some t; low = Some t }) ≡ Some y = e in let same : t ≡ s = cc in subst (Contains symbols) same is
lower_symbol symbols n (Inner (Up t)) y s is e low = let c : Some (record { up = Some t; low = None }) ≡ Some y = e in absurd (cc)
lower_symbol symbols n (Inner (Low t)) y s is e low = let c : Some (record { up = None; low = Some t }) ≡ Some y = e in let same : t ≡ s = cc in subst (Contains symbols) same is
lower_symbol symbols n (Inner (Same t)) y s is e low = let c : Some (record { up = Some t; low = Some t }) ≡ Some y = e in let same : t ≡ s = cc in subst (Contains symbols) same is
lower_symbol symbols n (Inner (Open k)) y s is e low = let c : None ≡ Some y = e in absurd (cc)
lower_symbol symbols n (Inner (Close k)) y s is e low = let c : None ≡ Some y = e in absurd (cc)

pub symbols_used : (symbols : List Sym) (marks : List (Bound Mark)) (pairs m : Automaton Pair) → AreMarksOf symbols marks → ((y : Pair) → UsesLetter pairs y → (x : Bound Mark) × Contains {X = Bound Mark × Option Pair} (pair_table marks) (x, Some y)) → ((y : Pair) → UsesLetter m y → UsesLetter pairs y) → UsesSymbols symbols m
symbols_used symbols marks pairs m (n, are) first second = record {
  upper = λ s (y, used, up). let r = first y (second y used) in let t = row_cases pair_of marks r.0 (Some y) r.1 in upper_symbol symbols n r.0 y s (are r.0 t.0) t.1 up;
  lower = λ s (y, used, low). let r = first y (second y used) in let t = row_cases pair_of marks r.0 (Some y) r.1 in lower_symbol symbols n r.0 y s (are r.0 t.0) t.1 low;
}

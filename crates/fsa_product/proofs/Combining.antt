-- The product of two automata accepts what the operation makes of their languages.
use Rattle.std.proofs.Common.{◌≡◌, ℕ, ◌<◌, ◌↔◌, List, [], ◌∷◌, Bool, Some, length, get_or, slice_index, subst, sym, arith, ◌∙◌}
use Rattle.std.specs.List.{slice_get, Contains}
use Rattle.std.proofs.lemmas.Option.{slice_get-get_or}
use Rattle.word_relations.proofs.Places.{Contains-from_slice_get, same_at}
use Rattle.fsa.specs.Complete.{Complete, IsComplete, AcceptsFrom, Accepts, next_state, stop, read}
use Rattle.fsa.proofs.Paths.{stop_back, read_back}
use Rattle.fsa_explore.specs.Alike.{AreAlike, AreBothAlike, ByClass, LeadAlike}
use Rattle.fsa_explore.specs.Explored.{IsExplored}
use Rattle.fsa_explore.proofs.Built.{IsLanguage, built_language}
use Rattle.fsa_explore.proofs.Spreading.{explored_weaker}
use Rattle.fsa_product.specs.Pairs.{combined, IsPair, LeadsAt, LeadsPair, IsFinalPair}
use Rattle.fsa_product.specs.declared.products.Operation.{Operation}
use Rattle.fsa_product.specs.declared.products.Operation.TheVariants.{Intersection, Difference}

-- the operation goes by whether the parts hold
combined_same : (o : Operation) {P P' Q Q' : Type 0} → P ↔ P' → Q ↔ Q' → combined o P Q ↔ combined o P' Q'
combined_same Intersection p q = (λ h. (p.0 h.0, q.0 h.1), λ h. (p.1 h.0, q.1 h.1))
combined_same Difference p q = (λ h. (p.0 h.0, λ k. h.1 (q.1 k)), λ h. (p.1 h.0, λ k. h.1 (q.0 k)))

combined_first : (o : Operation) (P Q : Type 0) → combined o P Q → P
combined_first Intersection P Q h = h.0
combined_first Difference P Q h = h.0

first_letter : {L : Type 0} (d : Complete L) (s : ℕ) (x : L) (w : List L) → AcceptsFrom d s (x ∷ w) → Contains d.letters x
first_letter d s x w (read k letter goes rest) = Contains-from_slice_get d.letters k x letter

module _ {L : Type 0} (o : Operation) (a b : Complete L) (a_ok : IsComplete a) (b_ok : IsComplete b) (same : a.letters ≡ b.letters) where
  abbrev PairWords : List ℕ → List L → Type 0
  PairWords pair w = combined o (AcceptsFrom a (slice_index pair 0) w) (AcceptsFrom b (slice_index pair 1) w)

  pairs_language : IsLanguage a.letters (IsPair a b) (LeadsPair a b) (IsFinalPair o a b) PairWords
  pairs_language = record {
    empty = λ pair is. combined_same o (stop_back a (slice_index pair 0), stop) (stop_back b (slice_index pair 1), stop);
    longer = λ pair to place x w is leads letter.
        let other : slice_get b.letters place ≡ Some x = subst (λ ls. slice_get ls place ≡ Some x) same letter in
        combined_same o
        (read_back a a_ok.distinct (slice_index pair 0) (slice_index to 0) place x w letter leads.0, read place letter leads.0)
        (read_back b b_ok.distinct (slice_index pair 1) (slice_index to 1) place x w other leads.1, read place other leads.1);
    over = λ pair x w is h. first_letter a (slice_index pair 0) x w (combined_first o (AcceptsFrom a (slice_index pair 0) (x ∷ w)) (AcceptsFrom b (slice_index pair 1) (x ∷ w)) h);
  }

  -- what was built from the pair of the starts
  pub product_language : (start next : List ℕ) (finals : List Bool) → start ≡ 0 ∷ 0 ∷ [] → IsExplored (IsPair a b) (LeadsPair a b) (IsFinalPair o a b) (length a.letters) start next finals → (d : Complete L) (letters : List L) → letters ≡ a.letters → d ≡ record { letters = letters; next = next; finals = finals } → (w : List L) → Accepts d w ↔ combined o (Accepts a w) (Accepts b w)
  product_language start next finals is_start built d letters is_letters is w =
      let here : (Accepts (record { letters = a.letters; next = next; finals = finals }) w) ↔ PairWords start w = built_language a.letters (IsPair a b) (LeadsPair a b) (IsFinalPair o a b) PairWords pairs_language start next finals built w in
      let there : (Accepts (record { letters = a.letters; next = next; finals = finals }) w) ↔ PairWords (0 ∷ 0 ∷ []) w = subst (λ p. (Accepts (record { letters = a.letters; next = next; finals = finals }) w) ↔ PairWords p w) is_start here in
      let with_letters : (Accepts (record { letters = letters; next = next; finals = finals }) w) ↔ PairWords (0 ∷ 0 ∷ []) w = subst (λ ls. (Accepts (record { letters = ls; next = next; finals = finals }) w) ↔ PairWords (0 ∷ 0 ∷ []) w) (sym is_letters) there in
      subst (λ y. Accepts y w ↔ combined o (Accepts a w) (Accepts b w)) (sym is) with_letters

-- letters of one class lead a state to the same next state
same_class : {L : Type 0} (a : Complete L) (letters : ℕ) (of_places firsts : List ℕ) → AreAlike (LeadAlike a) letters of_places firsts → (j k : ℕ) → j < letters → slice_get of_places j ≡ slice_get of_places k → LeadAlike a j k
same_class a letters of_places firsts are j k inside same state l =
    let counted : length of_places ≡ letters = are.count in
    let there : j < length of_places = omega arith in
    let class : ℕ = get_or of_places j 0 in
    let at : slice_get of_places j ≡ Some class = slice_get-get_or of_places j 0 there in
    let f = are.first j class at in
    let g = are.first k class (sym same ∙ at) in
    let is : g.0 ≡ f.0 = same_at firsts class g.0 f.0 g.1 f.1 in
    f.2 state l ∙ sym (subst (λ n. next_state a state k ≡ next_state a state n) is (g.2 state l))

-- what is built from classes of letters that act alike in both is built from the letters
pub pairs_by_class : {L : Type 0} (o : Operation) (a b : Complete L) (of_a firsts_a of_b firsts_b of_places firsts : List ℕ) → a.letters ≡ b.letters
    → AreAlike (LeadAlike a) (length a.letters) of_a firsts_a → AreAlike (LeadAlike b) (length b.letters) of_b firsts_b → AreAlike (AreBothAlike of_a of_b) (length of_a) of_places firsts
    → (start next : List ℕ) (finals : List Bool) → IsExplored (IsPair a b) (ByClass (LeadsAt a b firsts) of_places) (IsFinalPair o a b) (length of_places) start next finals → IsExplored (IsPair a b) (LeadsPair a b) (IsFinalPair o a b) (length a.letters) start next finals
pairs_by_class o a b of_a firsts_a of_b firsts_b of_places firsts same are_a are_b are start next finals built =
    let counted : length of_places ≡ length a.letters = are.count ∙ are_a.count in
    let by_letters = explored_weaker (IsPair a b) (IsPair a b) (ByClass (LeadsAt a b firsts) of_places) (LeadsPair a b) (IsFinalPair o a b) (length of_places) start next finals
    (λ pair is. is)
    (λ pair to place l is by.
    let class : ℕ = by.0 in
    let f = are.first place class by.1 in
    let first_is : f.0 ≡ by.2.0 = same_at firsts class f.0 by.2.0 f.1 by.2.1 in
    let in_a : place < length a.letters = omega arith in
    let in_b : place < length b.letters = subst (λ ls. place < length ls) same in_a in
    let lead_a = same_class a (length a.letters) of_a firsts_a are_a place f.0 in_a f.2.0 (slice_index pair 0) is.first in
    let lead_b = same_class b (length b.letters) of_b firsts_b are_b place f.0 in_b f.2.1 (slice_index pair 1) is.second in
    let here : LeadsPair a b pair f.0 to = subst (λ k. LeadsPair a b pair k to) (sym first_is) by.2.2 in
    (lead_a ∙ here.0, lead_b ∙ here.1)) built in
    subst (λ n. IsExplored (IsPair a b) (LeadsPair a b) (IsFinalPair o a b) n start next finals) counted by_letters

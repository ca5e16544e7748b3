-- Words with an end in a language, and what is read backwards.
use Rattle.std.proofs.Common.{◌≡◌, ◌↔◌, List, [], ◌∷◌, ◌++◌, reverse, refl, sym, ap, subst, ◌∙◌}
use Rattle.std.specs.List.{Contains, All}
use Rattle.std.proofs.lemmas.List.{map-append, reverse-append, reverse-reverse}
use Rattle.std.proofs.lemmas.List.Elements.{All-nil, All-cons, All-head, All-tail}
use Rattle.fsm_base.specs.declared.letters.Pair.{Pair}
use Rattle.fsm_base.specs.declared.letters.Bound.{Bound}
use Rattle.fsm_base.specs.declared.letters.Bound.TheVariants.{Edge, Inner}
use Rattle.word_relations.specs.Words.{IsConcatenation, IsOver, IsRepetition}
use Rattle.word_relations.specs.Operations.{IsOneLetter}
use Rattle.word_relations.proofs.Laws.{IsOver-repetition, IsRepetition-more}
use Rattle.fsa.specs.Automaton.{Automaton}
use Rattle.fsa.specs.Complete as complete
use Rattle.fsa.specs.Language.{Accepts}
use Rattle.expr_meaning.specs.Operators.{HasPrefix, HasSuffix, inner}
use Rattle.pair_test.specs.Tests.{edge_before}

front_over : {X : Type 0} (P : X → Type 0) (xs ys : List X) → All P (xs ++ ys) → All P xs
front_over P [] ys all = All-nil P
front_over P (x ∷ xs) ys all = All-cons P x xs (All-head P x (xs ++ ys) all) (front_over P xs ys (All-tail P x (xs ++ ys) all))

-- the words of an automaton of any letters and then an end
module _ {L : Type 0} (letters : List L) (one any end whole : Automaton L) (d : complete.Complete L) (one_is : (w : List L) → Accepts one w ↔ IsOneLetter letters w) (any_is : (w : List L) → Accepts any w ↔ IsRepetition (Accepts one) w)
    (whole_is : (w : List L) → Accepts whole w ↔ IsConcatenation (Accepts any) (Accepts end) w) (made : (w : List L) → complete.Accepts d w ↔ Accepts whole w) where
  pub ends : (w : List L) → IsOver letters w → complete.Accepts d w ↔ HasSuffix (Accepts end) w
  ends w over = (
    λ h. let r = (whole_is w).0 ((made w).0 h) in (r.0, r.1, r.2, r.4),
    λ (front, back, is, h).
        let some : IsOver letters front = front_over (Contains letters) front back (subst (IsOver letters) is over) in
        (made w).1 ((whole_is w).1 (front, back, is, (any_is front).1 (IsRepetition-more (IsOneLetter letters) (Accepts one) (λ v. (one_is v).1) front ((IsOver-repetition letters front).0 some)), h)),
  )

module _ {L : Type 0} where
  pub suffix_same : (P Q : List L → Type 0) → ((w : List L) → P w ↔ Q w) → (w : List L) → HasSuffix P w ↔ HasSuffix Q w
  suffix_same P Q same w = (λ (front, back, is, h). (front, back, is, (same back).0 h), λ (front, back, is, h). (front, back, is, (same back).1 h))

  -- an end of a word that is read backwards is a beginning of it
  pub suffix_reverse : (Q : List L → Type 0) (w : List L) → HasSuffix (λ v. Q (reverse v)) w ↔ HasPrefix Q (reverse w)
  suffix_reverse Q w = (
    λ (front, back, is, h). (reverse back, reverse front, ap reverse is ∙ reverse-append front back, h),
    λ (front, back, is, h).
        (reverse back, reverse front, sym (reverse-reverse w) ∙ ap reverse is ∙ reverse-append front back, subst Q (sym (reverse-reverse front)) h),
  )

-- the letters of a string that is read backwards
pub inner_reverse : (z : List Pair) → inner (reverse z) ≡ reverse (inner z)
inner_reverse [] = refl
inner_reverse (x ∷ z) =
    ap (λ (v : List Pair). inner v) (reverse-append (x ∷ []) z) ∙ map-append Inner (reverse z) (reverse (x ∷ [])) ∙ ap (λ (v : List (Bound Pair)). v ++ Inner x ∷ []) (inner_reverse z) ∙ sym (reverse-append (Inner x ∷ []) (inner z))

pub edge_reverse : (z : List Pair) → reverse (edge_before (reverse z)) ≡ inner z ++ Edge ∷ []
edge_reverse z =
    reverse-append (Edge ∷ []) (inner (reverse z)) ∙ ap (λ (v : List (Bound Pair)). reverse v ++ Edge ∷ []) (inner_reverse z) ∙ ap (λ (v : List (Bound Pair)). v ++ Edge ∷ []) (reverse-reverse (inner z))

-- the automata of a context, by its languages
module _ {L : Type 0} (letters : List L) (lang : complete.Complete L) (own : Automaton L) (own_is : (w : List L) → Accepts own w ↔ complete.Accepts lang w) (d : complete.Complete L) where
  pub before_made : ((w : List L) → IsOver letters w → complete.Accepts d w ↔ HasSuffix (Accepts own) w) → (w : List L) → IsOver letters w → complete.Accepts d w ↔ HasSuffix (complete.Accepts lang) w
  before_made made w over =
      let a = made w over in
      let b = suffix_same (Accepts own) (complete.Accepts lang) own_is w in
      (λ h. b.0 (a.0 h), λ h. a.1 (b.1 h))

  pub behind_made : (turned : Automaton L) → ((w : List L) → Accepts turned w ↔ Accepts own (reverse w)) → ((w : List L) → IsOver letters w → complete.Accepts d w ↔ HasSuffix (Accepts turned) w)
      → (w : List L) → IsOver letters w → complete.Accepts d w ↔ HasPrefix (complete.Accepts lang) (reverse w)
  behind_made turned turned_is made w over =
      let a = made w over in
      let b = suffix_same (Accepts turned) (λ v. complete.Accepts lang (reverse v)) (λ v. (λ h. (own_is (reverse v)).0 ((turned_is v).0 h), λ h. (turned_is v).1 ((own_is (reverse v)).1 h))) w in
      let e = suffix_reverse (complete.Accepts lang) w in
      (λ h. e.0 (b.0 (a.0 h)), λ h. a.1 (b.1 (e.1 h)))

-- How many states the smallest automaton of a language has.
use Rattle.std.proofs.Common.{◌≡◌, ◌≤◌, ◌↔◌, ◌∙◌, ℕ, ◌+◌, ◌*◌, ◌<◌, List, [], ◌∷◌, Bool, All, length, map, not, refl, subst, sym, ap, inl, inr, arith}
use Rattle.std.specs.List.{Contains}
use Rattle.std.proofs.lemmas.List.{length-map}
use Rattle.word_relations.specs.Words.{IsOver}
use Rattle.fsa.specs.Complete.{Complete, IsComplete, Accepts}
use Rattle.fsa_product.proofs.Turned.{accepted_over, accepts_or_not, complement_language}
use Rattle.fsa_minimal.specs.Fewest.{HasFewest}
use Rattle.lang_algebra.specs.Languages.{IsLang, IsFewestCount}

pub fewest_count : {L : Type 0} (d : Complete L) (count : ℕ) → IsComplete d → HasFewest d → count ≡ length d.finals → IsFewestCount d.letters (Accepts d) count
fewest_count d count ok few is = record {
  some = (d, record { complete = ok; over = refl; words = λ w. (λ h. h, λ h. h) }, sym is);
  least = λ other lang. let l = few.least other lang.complete lang.over lang.words in omega arith;
}

-- the complement of an automaton with the fewest states has the fewest: an automaton of the complement's language that
-- had fewer would have a complement with fewer
module _ {L : Type 0} (d c : Complete L) (ok : IsComplete d) (few : HasFewest d) (letters : c.letters ≡ d.letters) (size : length c.finals ≡ length d.finals)
    (language : (w : List L) → Accepts c w ↔ (IsOver d.letters w × ¬ Accepts d w)) where
  module _ (other : Complete L) (other_ok : IsComplete other) (over : other.letters ≡ c.letters) (same : (w : List L) → Accepts other w ↔ Accepts c w) where
    abbrev back : Complete L
    back = record { letters = other.letters; next = other.next; finals = map not other.finals }

    count : length (map not other.finals) ≡ length other.finals
    count = length-map other.finals not

    back_ok : IsComplete back
    back_ok = record {
      start = let a = other_ok.start in let b = count in omega arith;
      distinct = other_ok.distinct;
      full = other_ok.full ∙ ap (λ n. n * length other.letters) (sym count);
      within = subst (λ n. All (λ state. state < n) other.next) (sym count) other_ok.within;
    }

    here : other.letters ≡ d.letters
    here = over ∙ letters

    back_language : (w : List L) → Accepts back w ↔ (IsOver other.letters w × ¬ Accepts other w)
    back_language = complement_language other other_ok back refl refl refl

    back_same : (w : List L) → Accepts back w ↔ Accepts d w
    back_same w = (
      λ h. let p = (back_language w).0 h in
          let all : IsOver d.letters w = subst (λ ls. IsOver ls w) here p.0 in
          elim (accepts_or_not d ok w 0 ok.start all) [
            | inl accepted ↦ accepted
            | inr never ↦ absurd (p.1 ((same w).1 ((language w).1 (all, never))))
          ],
      λ accepted. (back_language w).1 (
        subst (λ ls. IsOver ls w) (sym here) (accepted_over d ok accepted),
        λ h. ((language w).0 ((same w).0 h)).1 accepted,
      ),
    )

    turned_least : length c.finals ≤ length other.finals
    turned_least = let l = few.least back back_ok here back_same in let n = count in let s = size in omega arith

  pub complement_fewest : HasFewest c
  complement_fewest = record { least = λ other other_ok over same. turned_least other other_ok over same }

-- A language that is that of an automaton is every set of words that the automaton accepts.
use Rattle.std.proofs.Common.{◌≡◌, ◌↔◌, List, ap, subst, ◌∙◌}
use Rattle.fsa.specs.Complete.{Complete, Accepts}
use Rattle.lang_algebra.specs.Languages.{IsLang}

pub small_made : {L : Type 0} (letters : List L) (P : List L → Type 0) (dfa : Complete L) → dfa.letters ≡ letters → ((w : List L) → Accepts dfa w ↔ P w) → (lang : Complete L) → IsLang dfa.letters (Accepts dfa) lang → IsLang letters P lang
small_made letters P dfa over words lang is = record {
  complete = is.complete;
  over = is.over ∙ over;
  words = λ w. (λ h. (words w).0 ((is.words w).0 h), λ h. (is.words w).1 ((words w).1 h));
}

-- the same where the automata of two languages are views of others
module _ {L : Type 0} (self other a b dfa : Complete L) (is_self : a ≡ self) (is_other : b ≡ other) (over : dfa.letters ≡ a.letters) where
  here : dfa.letters ≡ self.letters
  here = over ∙ ap (λ d. d.letters) is_self

  pub both_made : ((w : List L) → Accepts dfa w ↔ (Accepts a w × Accepts b w)) → (lang : Complete L) → IsLang dfa.letters (Accepts dfa) lang → IsLang self.letters (λ w. Accepts self w × Accepts other w) lang
  both_made words = small_made self.letters (λ w. Accepts self w × Accepts other w) dfa here
      (subst (λ x. (w : List L) → Accepts dfa w ↔ (Accepts x w × Accepts other w)) is_self
      (subst (λ y. (w : List L) → Accepts dfa w ↔ (Accepts a w × Accepts y w)) is_other words))

  pub minus_made : ((w : List L) → Accepts dfa w ↔ (Accepts a w × ¬ Accepts b w)) → (lang : Complete L) → IsLang dfa.letters (Accepts dfa) lang → IsLang self.letters (λ w. Accepts self w × ¬ Accepts other w) lang
  minus_made words = small_made self.letters (λ w. Accepts self w × ¬ Accepts other w) dfa here
      (subst (λ x. (w : List L) → Accepts dfa w ↔ (Accepts x w × ¬ Accepts other w)) is_self
      (subst (λ y. (w : List L) → Accepts dfa w ↔ (Accepts a w × ¬ Accepts y w)) is_other words))

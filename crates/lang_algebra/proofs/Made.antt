-- Languages that the constructions make.
use Rattle.std.proofs.Common.{◌≡◌, ◌↔◌, ◌∙◌, List, [], ◌∷◌, ◌++◌, All, refl, subst, sym, ap}
use Rattle.std.specs.List.{Contains}
use Rattle.std.proofs.lemmas.List.Elements.{All-nil, All-cons, All-head, All-tail, All-append}
use Rattle.word_relations.specs.Words.{IsOver, IsConcatenation, IsRepetition}
use Rattle.word_relations.proofs.Laws.{IsOver-repetition, IsRepetition-more}
use Rattle.fsa.specs.Automaton.{Automaton}
use Rattle.fsa.specs.Language as language
use Rattle.fsa.specs.Complete.{Complete, IsComplete, Accepts}
use Rattle.fsa_product.proofs.Turned.{accepted_over}
use Rattle.word_relations.specs.Operations.{IsOneLetter, HasPart, IsIgnoring}
use Rattle.lang_algebra.proofs.Inserting.{IsIgnoring-more}
use Rattle.lang_algebra.specs.Languages.{IsLang}

-- a word whose letters all pass is one where those of both its parts do
over_left : {L : Type 0} (P : L → Type 0) (xs ys : List L) → All P (xs ++ ys) → All P xs
over_left P [] ys h = All-nil P
over_left P (x ∷ xs) ys h = All-cons P x xs (All-head P x (xs ++ ys) h) (over_left P xs ys (All-tail P x (xs ++ ys) h))

over_right : {L : Type 0} (P : L → Type 0) (xs ys : List L) → All P (xs ++ ys) → All P ys
over_right P [] ys h = h
over_right P (x ∷ xs) ys h = over_right P xs ys (All-tail P x (xs ++ ys) h)

-- the same words, tested in another way
pub IsLang-same : {L : Type 0} (letters : List L) (P Q : List L → Type 0) (lang : Complete L) → ((w : List L) → P w ↔ Q w) → IsLang letters P lang → IsLang letters Q lang
IsLang-same letters P Q lang same is = record {
  complete = is.complete;
  over = is.over;
  words = λ w. (λ h. (same w).0 ((is.words w).0 h), λ q. (is.words w).1 ((same w).1 q));
}

pub complement_made : {L : Type 0} (self kept dfa lang : Complete L) → kept ≡ self → lang ≡ dfa → IsComplete lang → dfa.letters ≡ kept.letters → ((w : List L) → Accepts dfa w ↔ (IsOver kept.letters w × ¬ Accepts kept w)) → IsLang self.letters (λ w. IsOver self.letters w × ¬ Accepts self w) lang
complement_made {L} self kept dfa lang view same complete letters language =
    let over : lang.letters ≡ kept.letters = ap (λ d. d.letters) same ∙ letters in
    let made : IsLang kept.letters (λ w. IsOver kept.letters w × ¬ Accepts kept w) lang = record {
      complete = complete;
      over = over;
      words = subst (λ d. (w : List L) → Accepts d w ↔ (IsOver kept.letters w × ¬ Accepts kept w)) (sym same) language;
    } in
    subst (λ d. IsLang d.letters (λ w. IsOver d.letters w × ¬ Accepts d w) lang) view made

module _ {L : Type 0} (self : Complete L) (ok : IsComplete self) (letters : List L) (same : letters ≡ self.letters) (one any own behind whole : Automaton L)
    (one_is : (w : List L) → language.Accepts one w ↔ IsOneLetter letters w) (any_is : (w : List L) → language.Accepts any w ↔ IsRepetition (language.Accepts one) w)
    (own_is : (w : List L) → language.Accepts own w ↔ Accepts self w) (behind_is : (w : List L) → language.Accepts behind w ↔ IsConcatenation (language.Accepts own) (language.Accepts any) w)
    (whole_is : (w : List L) → language.Accepts whole w ↔ IsConcatenation (language.Accepts any) (language.Accepts behind) w) where
  any_over : (w : List L) → language.Accepts any w → IsOver letters w
  any_over w h = (IsOver-repetition letters w).1 (IsRepetition-more (language.Accepts one) (IsOneLetter letters) (λ v p. (one_is v).0 p) w ((any_is w).0 h))

  over_any : (w : List L) → IsOver letters w → language.Accepts any w
  over_any w over = (any_is w).1 (IsRepetition-more (IsOneLetter letters) (language.Accepts one) (λ v p. (one_is v).1 p) w ((IsOver-repetition letters w).0 over))

  self_over : (w : List L) → Accepts self w → IsOver letters w
  self_over w h = subst (λ xs. IsOver xs w) (sym same) (accepted_over self ok h)

  part_down : (w : List L) → language.Accepts whole w → IsOver letters w × HasPart (Accepts self) w
  part_down w h =
      let r = (whole_is w).0 h in
      let t = (behind_is r.1).0 r.4 in
      let x : List L = r.0 in
      let y : List L = t.0 in
      let z : List L = t.1 in
      let part : Accepts self y = (own_is y).0 t.3 in
      let is : w ≡ x ++ (y ++ z) = r.2 ∙ ap (λ v. x ++ v) t.2 in
      let over : IsOver letters (x ++ (y ++ z)) = All-append (Contains letters) x (y ++ z) (any_over x r.3) (All-append (Contains letters) y z (self_over y part) (any_over z t.4)) in
      (subst (IsOver letters) (sym is) over, (x, y, z, is, part))

  part_up : (w : List L) → IsOver letters w × HasPart (Accepts self) w → language.Accepts whole w
  part_up w (over, (x, y, z, is, part)) =
      let all : IsOver letters (x ++ (y ++ z)) = subst (IsOver letters) is over in
      let rest : IsOver letters (y ++ z) = over_right (Contains letters) x (y ++ z) all in
      (whole_is w).1 (
        x,
        y ++ z,
        is,
        over_any x (over_left (Contains letters) x (y ++ z) all),
        (behind_is (y ++ z)).1 (y, z, refl, (own_is y).1 part, over_any z (over_right (Contains letters) y z rest)),
      )

  pub contains_made : (lang : Complete L) → IsLang letters (language.Accepts whole) lang → IsLang self.letters (λ w. IsOver self.letters w × HasPart (Accepts self) w) lang
  contains_made lang is =
      subst (λ xs. IsLang xs (λ w. IsOver xs w × HasPart (Accepts self) w) lang) same
      (IsLang-same letters (language.Accepts whole) (λ w. IsOver letters w × HasPart (Accepts self) w) lang (λ w. (part_down w, part_up w)) is)

pub ignore_made : {L : Type 0} (self other : Complete L) (first second mixed : Automaton L) → ((w : List L) → language.Accepts first w ↔ Accepts self w) → ((w : List L) → language.Accepts second w ↔ Accepts other w) → ((w : List L) → language.Accepts mixed w ↔ IsIgnoring (language.Accepts first) (language.Accepts second) w) → (lang : Complete L) → IsLang self.letters (language.Accepts mixed) lang → IsLang self.letters (IsIgnoring (Accepts self) (Accepts other)) lang
ignore_made self other first second mixed first_is second_is mixed_is lang is =
    IsLang-same self.letters (language.Accepts mixed) (IsIgnoring (Accepts self) (Accepts other)) lang
    (λ w. (
      λ h. IsIgnoring-more (language.Accepts first) (Accepts self) (language.Accepts second) (Accepts other) (λ v. (first_is v).0) (λ v. (second_is v).0) w ((mixed_is w).0 h),
      λ h. (mixed_is w).1 (IsIgnoring-more (Accepts self) (language.Accepts first) (Accepts other) (language.Accepts second) (λ v. (first_is v).1) (λ v. (second_is v).1) w h),
    ))
    is

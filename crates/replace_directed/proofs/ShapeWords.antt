-- Words of marks of some shape.
use Rattle.std.proofs.Common.{◌≡◌, ◌↔◌, true, List, [], ◌∷◌, ◌++◌, refl, sym, ap, subst, ◌∙◌}
use Rattle.std.specs.Prelude.{All}
use Rattle.std.specs.List.{Contains}
use Rattle.std.proofs.lemmas.List.Elements.{All-nil, All-cons, All-head, All-tail, All-weaker}
use Rattle.fsm_base.specs.declared.letters.Bound.{Bound}
use Rattle.word_relations.specs.Words.{IsOver, IsConcatenation}
use Rattle.word_relations.specs.Operations.{IsOneLetter}
use Rattle.fsa.specs.Automaton.{Automaton}
use Rattle.fsa.specs.Language as language
use Rattle.fsa.specs.Complete.{Complete, Accepts}
use Rattle.lang_algebra.specs.Languages.{IsLang}
use Rattle.lang_algebra.proofs.Made.{IsLang-same}
use Rattle.replace_words.specs.declared.marks.Mark.{Mark}
use Rattle.replace_rules.proofs.Sets.{accepted_letters, over_front, over_back}
use Rattle.directed_words.specs.declared.kinds.MarkKind.{MarkKind}
use Rattle.directed_words.specs.declared.kinds.MarkKind.TheVariants.{Opening, Closing, NotClosing, Upper}
use Rattle.directed_words.specs.Kinds.{is_of, BeginsWith}
use Rattle.directed_words.specs.Marked.{GoesBeyond, StaysInside}

-- one of the marks, of the kind
abbrev pub IsOneOf : List (Bound Mark) → MarkKind → List (Bound Mark) → Type 0
IsOneOf marks kind w = (e : Bound Mark) × (w ≡ e ∷ []) × Contains marks e × (is_of kind e ≡ true)

-- one of them and then a word of the set
abbrev pub Starts : List (Bound Mark) → MarkKind → (List (Bound Mark) → Type 0) → List (Bound Mark) → Type 0
Starts marks kind Rest w = (e : Bound Mark) × (v : List (Bound Mark)) × (w ≡ e ∷ v) × Contains marks e × (is_of kind e ≡ true) × Rest v

-- any word of the marks before it
abbrev pub Reaches : List (Bound Mark) → MarkKind → (List (Bound Mark) → Type 0) → List (Bound Mark) → Type 0
Reaches marks kind Rest w = (y : List (Bound Mark)) × (e : Bound Mark) × (v : List (Bound Mark)) × (w ≡ y ++ e ∷ v) × IsOver marks y × Contains marks e × (is_of kind e ≡ true) × Rest v

pub one_words : (marks found : List (Bound Mark)) (kind : MarkKind) (one : Automaton (Bound Mark)) → ((m : Bound Mark) → Contains found m ↔ (Contains marks m × (is_of kind m ≡ true))) → ((w : List (Bound Mark)) → language.Accepts one w ↔ IsOneLetter found w) → (w : List (Bound Mark)) → language.Accepts one w ↔ IsOneOf marks kind w
one_words marks found kind one found_is one_is w = (
  λ h. let r = (one_is w).0 h in let t = (found_is r.0).0 r.1 in (r.0, r.2, t.0, t.1),
  λ (e, is, among, of). (one_is w).1 (e, (found_is e).1 (among, of), is),
)

pub starting_words : (marks : List (Bound Mark)) (kind : MarkKind) (Rest : List (Bound Mark) → Type 0) (first m : Automaton (Bound Mark)) → ((w : List (Bound Mark)) → language.Accepts first w ↔ IsOneOf marks kind w) → ((w : List (Bound Mark)) → language.Accepts m w ↔ IsConcatenation (language.Accepts first) Rest w)
    → (w : List (Bound Mark)) → language.Accepts m w ↔ Starts marks kind Rest w
starting_words marks kind Rest first m first_is m_is w = (
  λ h.
      let (x, y, e, front, rest) = (m_is w).0 h in
      let (k, one, among, of) = (first_is x).0 front in
      (k, y, e ∙ ap (λ z. z ++ y) one, among, of, rest),
  λ (k, v, e, among, of, rest). (m_is w).1 (k ∷ [], v, e, (first_is (k ∷ [])).1 (k, refl, among, of), rest),
)

pub reaching_words : (marks : List (Bound Mark)) (kind : MarkKind) (Rest : List (Bound Mark) → Type 0) (before found m : Automaton (Bound Mark)) → ((w : List (Bound Mark)) → language.Accepts before w ↔ IsOver marks w) → ((w : List (Bound Mark)) → language.Accepts found w ↔ Starts marks kind Rest w)
    → ((w : List (Bound Mark)) → language.Accepts m w ↔ IsConcatenation (language.Accepts before) (language.Accepts found) w) → (w : List (Bound Mark)) → language.Accepts m w ↔ Reaches marks kind Rest w
reaching_words marks kind Rest before found m before_is found_is m_is w = (
  λ h.
      let (x, y, e, front, there) = (m_is w).0 h in
      let (k, v, ek, among, of, rest) = (found_is y).0 there in
      (x, k, v, e ∙ ap (λ z. x ++ z) ek, (before_is x).0 front, among, of, rest),
  λ (x, k, v, e, over, among, of, rest). (m_is w).1 (x, k ∷ v, e, (before_is x).1 over, (found_is (k ∷ v)).1 (k, v, refl, among, of, rest)),
)

-- the words of a language that an automaton accepts
pub shaped_words : (lang : Complete (Bound Mark)) (marks : List (Bound Mark)) (shape : Automaton (Bound Mark)) (wanted last : Complete (Bound Mark)) → marks ≡ lang.letters → IsLang marks (λ w. IsOver marks w × language.Accepts shape w) wanted → IsLang lang.letters (λ w. Accepts lang w × Accepts wanted w) last
    → IsLang lang.letters (λ w. Accepts lang w × language.Accepts shape w) last
shaped_words lang marks shape wanted last same wanted_is last_is =
    IsLang-same lang.letters (λ w. Accepts lang w × Accepts wanted w) (λ w. Accepts lang w × language.Accepts shape w) last
    (λ w. (λ h. (h.0, ((wanted_is.words w).0 h.1).1), λ h. (h.0, (wanted_is.words w).1 (subst (λ ls. IsOver ls w) (sym same) (accepted_letters lang h.0), h.1)))) last_is

-- words over some letters with a property are over those of the letters that have it
over_both : (found marks : List (Bound Mark)) (Q : Bound Mark → Type 0) → ((m : Bound Mark) → Contains found m ↔ (Contains marks m × Q m)) → (v : List (Bound Mark)) → IsOver marks v → All Q v → IsOver found v
over_both found marks Q is [] over all = All-nil (Contains found)
over_both found marks Q is (m ∷ v) over all =
    All-cons (Contains found) m v ((is m).1 (All-head (Contains marks) m v over, All-head Q m v all)) (over_both found marks Q is v (All-tail (Contains marks) m v over) (All-tail Q m v all))

module _ (lang : Complete (Bound Mark)) (marks : List (Bound Mark)) (same : marks ≡ lang.letters) (shape : Automaton (Bound Mark)) (last : Complete (Bound Mark)) (last_is : IsLang lang.letters (λ w. Accepts lang w × language.Accepts shape w) last) where
  over_marks : (w : List (Bound Mark)) → Accepts lang w → IsOver marks w
  over_marks w h = subst (λ ls. IsOver ls w) (sym same) (accepted_letters lang h)

  -- those that begin with a mark of a kind
  pub begun_words : (kind : MarkKind) (rest : Automaton (Bound Mark)) → ((w : List (Bound Mark)) → language.Accepts rest w ↔ IsOver marks w) → ((w : List (Bound Mark)) → language.Accepts shape w ↔ Starts marks kind (language.Accepts rest) w) → IsLang lang.letters (λ w. Accepts lang w × BeginsWith kind w) last
  begun_words kind rest rest_is shape_is = IsLang-same lang.letters (λ w. Accepts lang w × language.Accepts shape w) (λ w. Accepts lang w × BeginsWith kind w) last (λ w. (λ h. (h.0, down w h.1), λ h. (h.0, up w h.0 h.1))) last_is
    where
      down : (w : List (Bound Mark)) → language.Accepts shape w → BeginsWith kind w
      down w h = let (e, v, is, among, of, there) = (shape_is w).0 h in (e, v, is, of)

      up : (w : List (Bound Mark)) → Accepts lang w → BeginsWith kind w → language.Accepts shape w
      up w h (m, z, e, is) =
          let over : IsOver marks (m ∷ z) = subst (IsOver marks) e (over_marks w h) in
          (shape_is w).1 (m, z, e, All-head (Contains marks) m z over, is, (rest_is z).1 (All-tail (Contains marks) m z over))

  -- those that go on behind a replacement
  pub beyond_words : (rest symbol closed : Automaton (Bound Mark)) → ((w : List (Bound Mark)) → language.Accepts rest w ↔ IsOver marks w) → ((w : List (Bound Mark)) → language.Accepts symbol w ↔ Reaches marks Upper (language.Accepts rest) w)
      → ((w : List (Bound Mark)) → language.Accepts closed w ↔ Reaches marks Closing (language.Accepts symbol) w) → ((w : List (Bound Mark)) → language.Accepts shape w ↔ Starts marks Opening (language.Accepts closed) w) → IsLang lang.letters (λ w. Accepts lang w × GoesBeyond w) last
  beyond_words rest symbol closed rest_is symbol_is closed_is shape_is = IsLang-same lang.letters (λ w. Accepts lang w × language.Accepts shape w) (λ w. Accepts lang w × GoesBeyond w) last (λ w. (λ h. (h.0, down w h.1), λ h. (h.0, up w h.0 h.1))) last_is
    where
      down : (w : List (Bound Mark)) → language.Accepts shape w → GoesBeyond w
      down w h =
          let (o, a, e1, in_o, of_o, h1) = (shape_is w).0 h in
          let (y, e, b, e2, over_y, in_e, of_e, h2) = (closed_is a).0 h1 in
          let (v, t, r, e3, over_v, in_t, of_t, h3) = (symbol_is b).0 h2 in
          (o, y, e, v, t, r, e1 ∙ ap (λ z. o ∷ z) (e2 ∙ ap (λ z. y ++ e ∷ z) e3), of_o, of_e, of_t)

      up : (w : List (Bound Mark)) → Accepts lang w → GoesBeyond w → language.Accepts shape w
      up w h (o, y, e, v, t, r, is, of_o, of_e, of_t) =
          let b = v ++ t ∷ r in
          let a = y ++ e ∷ b in
          let over : IsOver marks (o ∷ a) = subst (IsOver marks) is (over_marks w h) in
          let over_a : IsOver marks a = All-tail (Contains marks) o a over in
          let over_eb : IsOver marks (e ∷ b) = over_back marks y (e ∷ b) over_a in
          let over_b : IsOver marks b = All-tail (Contains marks) e b over_eb in
          let over_tr : IsOver marks (t ∷ r) = over_back marks v (t ∷ r) over_b in
          let in_b = (symbol_is b).1 (v, t, r, refl, over_front marks v (t ∷ r) over_b, All-head (Contains marks) t r over_tr, of_t, (rest_is r).1 (All-tail (Contains marks) t r over_tr)) in
          let in_a = (closed_is a).1 (y, e, b, refl, over_front marks y (e ∷ b) over_a, All-head (Contains marks) e b over_eb, of_e, in_b) in
          (shape_is w).1 (o, a, is, All-head (Contains marks) o a over, of_o, in_a)

  -- those that don't end the replacement with which they begin
  pub inside_words : (within : List (Bound Mark)) (rest : Automaton (Bound Mark)) → ((m : Bound Mark) → Contains within m ↔ (Contains marks m × (is_of NotClosing m ≡ true))) → ((w : List (Bound Mark)) → language.Accepts rest w ↔ IsOver within w)
      → ((w : List (Bound Mark)) → language.Accepts shape w ↔ Starts marks Opening (language.Accepts rest) w) → IsLang lang.letters (λ w. Accepts lang w × StaysInside w) last
  inside_words within rest within_is rest_is shape_is = IsLang-same lang.letters (λ w. Accepts lang w × language.Accepts shape w) (λ w. Accepts lang w × StaysInside w) last (λ w. (λ h. (h.0, down w h.1), λ h. (h.0, up w h.0 h.1))) last_is
    where
      down : (w : List (Bound Mark)) → language.Accepts shape w → StaysInside w
      down w h =
          let (o, y, e, among, of, rest) = (shape_is w).0 h in
          (o, y, e, of, All-weaker (Contains within) (λ m. is_of NotClosing m ≡ true) (λ m in_it. ((within_is m).0 in_it).1) y ((rest_is y).0 rest))

      up : (w : List (Bound Mark)) → Accepts lang w → StaysInside w → language.Accepts shape w
      up w h (o, y, e, of, all) =
          let over : IsOver marks (o ∷ y) = subst (IsOver marks) e (over_marks w h) in
          (shape_is w).1 (o, y, e, All-head (Contains marks) o y over, of, (rest_is y).1 (over_both within marks (λ m. is_of NotClosing m ≡ true) within_is y (All-tail (Contains marks) o y over) all))

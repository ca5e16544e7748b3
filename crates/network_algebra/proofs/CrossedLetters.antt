-- Words of one letter, crossed.
use Rattle.std.proofs.Common.{◌≡◌, ◌↔◌, List, [], ◌∷◌, true, false, map, refl, sym, ap, subst, ◌∙◌, inl, inr}
use Rattle.std.specs.List.{Contains}
use Rattle.std.proofs.lemmas.List.Elements.{Contains-append_cases, Contains-append_left, Contains-append_right}
use Rattle.std.proofs.lemmas.Option.{same_Some}
use Rattle.fsm_base.specs.declared.letters.Sym.{Sym}
use Rattle.fsm_base.specs.declared.letters.Pair.{Pair}
use Rattle.word_relations.specs.Relations.{AreSame, IsCross}
use Rattle.word_relations.proofs.Members.{Contains-nil_cases, Contains-cons_cases, Contains-head, Contains-tail, Contains-map, Contains-map_cases}
use Rattle.fsa.specs.Automaton.{Automaton, UsesLetter}
use Rattle.fsa.specs.Language.{Accepts}
use Rattle.fst_algebra.specs.Relation.{IsRelated, uppers, lowers}
use Rattle.fst_algebra.specs.Relations.{UsesLower, UsesUpper}
use Rattle.word_relations.specs.Operations.{IsOneLetter}
use Rattle.lang_algebra.proofs.OneLetter.{ReadsOne, one_letter_language}
use Rattle.network_algebra.specs.Crossing.{only_step, crossed, crossed_pairs}

-- an automaton whose edges all go from the start to the end
module _ {L : Type 0} (letters : List L) (m : Automaton L) (finals : m.finals ≡ false ∷ true ∷ []) (edges : m.edges ≡ map only_step letters) where
  step_there : (x : L) → Contains letters x → Contains m.edges (only_step x)
  step_there x held = subst (λ es. Contains es (only_step x)) (sym edges) (Contains-map only_step letters x held)

  reads_one : ReadsOne letters m
  reads_one = record {
    finals = finals;
    only = λ e h. let r = Contains-map_cases only_step letters e (subst (λ es. Contains es e) edges h) in (r.0, r.1, sym r.2);
    all = step_there;
  }

  pub alone_letters : (x : L) → Contains letters x → UsesLetter m x
  alone_letters x held = (only_step x, step_there x held, refl)

  pub alone_language : (w : List L) → Accepts m w ↔ IsOneLetter letters w
  alone_language = one_letter_language letters m reads_one

-- each pair is of a letter of the first list and one of the second
pair_parts : (xs ys : List Sym) (p : Pair) → Contains (crossed_pairs xs ys) p → (x : Sym) × (y : Sym) × Contains xs x × Contains ys y × (crossed x y ≡ p)
pair_parts [] ys p h = absurd (Contains-nil_cases p h)
pair_parts (x ∷ xs) ys p h = elim (Contains-append_cases (map (λ y. crossed x y) ys) (crossed_pairs xs ys) p h) [
  | inl here ↦ let r = Contains-map_cases (λ y. crossed x y) ys p here in (x, r.0, Contains-head x xs, r.1, r.2)
  | inr there ↦ let r = pair_parts xs ys p there in (r.0, r.1, Contains-tail x xs r.0 r.2, r.3, r.4)
]

pair_there : (xs ys : List Sym) (x y : Sym) → Contains xs x → Contains ys y → Contains (crossed_pairs xs ys) (crossed x y)
pair_there [] ys x y held low = absurd (Contains-nil_cases x held)
pair_there (z ∷ xs) ys x y held low = elim (Contains-cons_cases z xs x held) [
  | inl same ↦ subst (λ (u : Sym). Contains (crossed_pairs (z ∷ xs) ys) (crossed u y)) same (Contains-append_left (map (λ y. crossed z y) ys) (crossed_pairs xs ys) (crossed z y) (Contains-map (λ y. crossed z y) ys y low))
  | inr rest ↦ Contains-append_right (map (λ y. crossed z y) ys) (crossed_pairs xs ys) (crossed x y) (pair_there xs ys x y rest low)
]

module _ (xs ys : List Sym) (pairs : List Pair) (m : Automaton Pair) (all : pairs ≡ crossed_pairs xs ys) where
  parts : (p : Pair) → Contains pairs p → (x : Sym) × (y : Sym) × Contains xs x × Contains ys y × (crossed x y ≡ p)
  parts p h = pair_parts xs ys p (subst (λ ps. Contains ps p) all h)

  pub crossed_upper : ((p : Pair) → UsesLetter m p → Contains pairs p) → (x : Sym) → UsesUpper m x → Contains xs x
  crossed_upper used x (p, uses, up) =
      let r = parts p (used p uses) in
      subst (Contains xs) (same_Some r.0 x (ap (λ (q : Pair). q.up) r.4 ∙ up)) r.2

  pub crossed_lower : ((p : Pair) → UsesLetter m p → Contains pairs p) → (y : Sym) → UsesLower m y → Contains ys y
  crossed_lower used y (p, uses, low) =
      let r = parts p (used p uses) in
      subst (Contains ys) (same_Some r.1 y (ap (λ (q : Pair). q.low) r.4 ∙ low)) r.3

  pub crossed_relation : ((v : List Pair) → Accepts m v ↔ IsOneLetter pairs v) → AreSame (IsRelated m) (IsCross (IsOneLetter xs) (IsOneLetter ys))
  crossed_relation language u w = (there, back)
    where
      there : IsRelated m u w → IsCross (IsOneLetter xs) (IsOneLetter ys) u w
      there (v, accepted, up, low) =
          let (p, held, is) = (language v).0 accepted in
          let r = parts p held in
          let alone : v ≡ crossed r.0 r.1 ∷ [] = is ∙ ap (λ (q : Pair). q ∷ []) (sym r.4) in
          ((r.0, r.2, sym up ∙ ap uppers alone), (r.1, r.3, sym low ∙ ap lowers alone))

      back : IsCross (IsOneLetter xs) (IsOneLetter ys) u w → IsRelated m u w
      back ((x, up, is_up), (y, low, is_low)) =
          let v : List Pair = crossed x y ∷ [] in
          (v, (language v).1 (crossed x y, subst (λ ps. Contains ps (crossed x y)) (sym all) (pair_there xs ys x y up low), refl), sym is_up, sym is_low)

-- the cross product of words of one letter is that of the languages
pub crossed_languages : (a b : Automaton Sym) (m : Automaton Pair) (xs ys : List Sym) → ((w : List Sym) → Accepts a w ↔ IsOneLetter xs w) → ((w : List Sym) → Accepts b w ↔ IsOneLetter ys w)
    → AreSame (IsRelated m) (IsCross (IsOneLetter xs) (IsOneLetter ys)) → AreSame (IsRelated m) (IsCross (Accepts a) (Accepts b))
crossed_languages a b m xs ys first second same u w = (
  λ h. let r = (same u w).0 h in ((first u).1 r.0, (second w).1 r.1),
  λ h. (same u w).1 ((first u).0 h.0, (second w).0 h.1),
)

pub crossed_upper_used : (m : Automaton Pair) (xs : List Sym) (a : Automaton Sym) → ((x : Sym) → UsesUpper m x → Contains xs x) → ((x : Sym) → Contains xs x → UsesLetter a x) → (x : Sym) → UsesUpper m x → UsesLetter a x
crossed_upper_used m xs a upper used x h = used x (upper x h)

pub crossed_lower_used : (m : Automaton Pair) (ys : List Sym) (b : Automaton Sym) → ((y : Sym) → UsesLower m y → Contains ys y) → ((y : Sym) → Contains ys y → UsesLetter b y) → (y : Sym) → UsesLower m y → UsesLetter b y
crossed_lower_used m ys b lower used y h = used y (lower y h)

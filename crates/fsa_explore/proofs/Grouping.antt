-- Letters that are added one by one: each is in one class with the letters that have the same list.
use Rattle.std.proofs.Common.{◌≡◌, ℕ, zero, suc, ◌+◌, ◌-◌, ◌<◌, ◌↔◌, ◌⊎◌, List, [], ◌∷◌, ◌++◌, false, Option, Some, map, length, get_or, refl, subst, sym, ap, inl, inr, arith, ◌∙◌}
use Rattle.std.specs.List.{slice_get, Contains}
use Rattle.std.proofs.lemmas.Bool.{cases_lt}
use Rattle.std.proofs.lemmas.List.{length_push}
use Rattle.std.proofs.lemmas.Option.{slice_get_within, slice_get-get_or, get_or_from_slice_get, same_Some}
use Rattle.word_relations.proofs.Members.{Contains-map, Contains-map_cases}
use Rattle.word_relations.proofs.Places.{slice_get-append_cases, slice_get-push, same_at}
use Rattle.fsa.specs.Complete.{Complete}
use Rattle.fsa.specs.declared.automaton.Edge.{Edge}
use Rattle.fsa_explore.specs.Alike.{AddsLetter, AreAlike, AreBothAlike, GoAlike, IsCounting, LeadAlike, LeadsAsFirsts}
use Rattle.fsa_explore.specs.Explored.{Numbered}
use Rattle.fsa_explore.specs.Signatures.{IsSignature, edge_mark, known_class}
use Rattle.fsa_explore.proofs.Exploring.{kept_at}
use Rattle.fsa_explore.proofs.Signed.{signatures_agree, letter_same, target_same}

-- the class has the list of the letter
abbrev pub HasListOf : (ℕ → List ℕ → Type 0) → List (List ℕ) → ℕ → ℕ → Type 0
HasListOf HasList lists class place = (list : List ℕ) × (slice_get lists class ≡ Some list) × HasList place list

-- the letters before a place were added
pub record AreGrouped (HasList : ℕ → List ℕ → Type 0) (upto : ℕ) (found : Numbered) (firsts : List ℕ) : Type 0 where
  pub count : length found.next ≡ upto
  pub classes : length firsts ≡ length found.lists
  pub listed : (place class : ℕ) → slice_get found.next place ≡ Some class → HasListOf HasList found.lists class place
  pub first : (class first : ℕ) → slice_get firsts class ≡ Some first → (first < upto) × HasListOf HasList found.lists class first

-- the one element of a list stands at place 0
one_at : (x j y : ℕ) → slice_get (x ∷ []) j ≡ Some y → (j ≡ 0) × (x ≡ y)
one_at x zero y e = (refl, same_Some x y e)
one_at x (suc j) y e = absurd (cc)

module _ (HasList : ℕ → List ℕ → Type 0) where
  pub grouped_none : (found : Numbered) (firsts : List ℕ) → found ≡ record { lists = []; next = [] } → firsts ≡ [] → AreGrouped HasList 0 found firsts
  grouped_none found firsts is none = record {
    count = ap (λ f. length f.next) is;
    classes = ap length none ∙ sym (ap (λ f. length f.lists) is);
    listed = λ place class at. let past : slice_get [] place ≡ Some class = sym (ap (λ f. slice_get f.next place) is) ∙ at in absurd (cc);
    first = λ class first at. let past : slice_get [] class ≡ Some first = sym (ap (λ fs. slice_get fs class) none) ∙ at in absurd (cc);
  }

  module _ (place : ℕ) (old new : Numbered) (firsts firsts_new list : List ℕ) (has : HasList place list) (adds : AddsLetter old new firsts firsts_new place list) (before : AreGrouped HasList place old firsts) where
    number : ℕ
    number = adds.target.next.0

    kept : (class : ℕ) (l : List ℕ) → slice_get old.lists class ≡ Some l → slice_get new.lists class ≡ Some l
    kept class l at = elim adds.firsts [
      | inl same ↦ subst (λ ls. slice_get ls class ≡ Some l) (sym same.0) at
      | inr more ↦ kept_at old.lists new.lists (list ∷ []) more.0 class l at
    ]

    held : (class k : ℕ) → HasListOf HasList old.lists class k → HasListOf HasList new.lists class k
    held class k h = (h.0, kept class h.0 h.1, h.2)

    first_before : (class first : ℕ) → slice_get firsts class ≡ Some first → (first < place + 1) × HasListOf HasList new.lists class first
    first_before class first at = let r = before.first class first at in let l = r.0 in (omega arith, held class first r.1)

    first_new : new.lists ≡ old.lists ++ list ∷ [] → (class : ℕ) → class ≡ length firsts → HasListOf HasList new.lists class place
    first_new is class at =
        let here : slice_get (old.lists ++ list ∷ []) class ≡ Some list = subst (λ k. slice_get (old.lists ++ list ∷ []) k ≡ Some list) (sym (at ∙ before.classes)) (slice_get-push old.lists list) in
        (list, subst (λ ls. slice_get ls class ≡ Some list) (sym is) here, has)

    pub grouped_more : AreGrouped HasList (place + 1) new firsts_new
    grouped_more = record {
      count = ap length adds.target.next.1 ∙ length_push old.next adds.target.next.0 ∙ ap (λ n. n + 1) before.count;
      classes = elim adds.firsts [
        | inl same ↦ ap length same.1 ∙ before.classes ∙ sym (ap length same.0)
        | inr more ↦ ap length more.1 ∙ length_push firsts place ∙ ap (λ n. n + 1) before.classes ∙ sym (length_push old.lists list) ∙ sym (ap length more.0)
      ];
      listed = λ k class at. elim (slice_get-append_cases old.next (adds.target.next.0 ∷ []) k class (sym (ap (λ ns. slice_get ns k) adds.target.next.1) ∙ at)) [
        | inl there ↦ held class k (before.listed k class there)
        | inr fresh ↦
            let one = one_at adds.target.next.0 fresh.0 class fresh.2 in
            let sum : k ≡ fresh.0 + length old.next = fresh.1 in
            let zero_is : fresh.0 ≡ 0 = one.0 in
            let counted : length old.next ≡ place = before.count in
            let is_place : place ≡ k = omega arith in
            subst (λ j. HasListOf HasList new.lists class j) is_place (list, subst (λ n. slice_get new.lists n ≡ Some list) one.1 adds.target.next.2, has)
      ];
      first = λ class first at. elim adds.firsts [
        | inl same ↦ first_before class first (sym (ap (λ fs. slice_get fs class) same.1) ∙ at)
        | inr more ↦ elim (slice_get-append_cases firsts (place ∷ []) class first (sym (ap (λ fs. slice_get fs class) more.1) ∙ at)) [
          | inl there ↦ first_before class first there
          | inr fresh ↦
              let one = one_at place fresh.0 first fresh.2 in
              let sum : class ≡ fresh.0 + length firsts = fresh.1 in
              let zero_is : fresh.0 ≡ 0 = one.0 in
              let last : class ≡ length firsts = omega arith in
              let same : place ≡ first = one.1 in
              let below : first < place + 1 = omega arith in
              (below, subst (λ j. HasListOf HasList new.lists class j) same (first_new more.0 class last))
        ]
      ];
    }

  -- letters with the same list act alike
  pub grouped_alike : (Alike : ℕ → ℕ → Type 0) → ((j k : ℕ) (list : List ℕ) → HasList j list → HasList k list → Alike j k) → (letters : ℕ) (found : Numbered) (firsts : List ℕ) → AreGrouped HasList letters found firsts → AreAlike Alike letters found.next firsts
  grouped_alike Alike agree letters found firsts all = record {
    count = all.count;
    within = λ class d l. (all.first class (get_or firsts class d) (slice_get-get_or firsts class d l)).0;
    first = λ place class at.
        let mine = all.listed place class at in
        let listed = slice_get_within found.lists class mine.0 mine.1 in
        let counted : length firsts ≡ length found.lists = all.classes in
        let inside : class < length firsts = omega arith in
        let first_at : slice_get firsts class ≡ Some (get_or firsts class 0) = slice_get-get_or firsts class 0 inside in
        let other = (all.first class (get_or firsts class 0) first_at).1 in
        let same : other.0 ≡ mine.0 = same_at found.lists class other.0 mine.0 other.1 mine.1 in
        (get_or firsts class 0, first_at, agree place (get_or firsts class 0) mine.0 mine.2 (subst (HasList (get_or firsts class 0)) same other.2));
  }

pub last_or_before : (i s : ℕ) → s < i + 1 → (s < i) ⊎ (s ≡ i)
last_or_before i s l = elim (cases_lt s i) [ inl b ↦ inl b | inr g ↦ inr (omega arith) ]

module _ {L : Type 0} (a : Complete L) where
  -- classes that were checked
  pub firsts_alike : (Alike : ℕ → ℕ → Type 0) (letters : ℕ) (of_places firsts : List ℕ) → AreAlike Alike letters of_places firsts → ((state : ℕ) → state < length a.finals → LeadsAsFirsts a of_places firsts state (length of_places)) → AreAlike (LeadAlike a) letters of_places firsts
  firsts_alike Alike letters of_places firsts are leads = record {
    count = are.count;
    within = are.within;
    first = λ place class at.
        let f = are.first place class at in
        (f.0, f.1, λ state l. leads state l place class f.0 (slice_get_within of_places place class at) at f.1);
  }

  -- each letter alone
  pub apart_alike : (letters : ℕ) (of_places firsts : List ℕ) → IsCounting letters of_places → IsCounting letters firsts → AreAlike (LeadAlike a) letters of_places firsts
  apart_alike letters of_places firsts count order = record {
    count = count.count;
    within = λ k d l.
        let counted : length firsts ≡ letters = order.count in
        let inside : k < letters = omega arith in
        let same : get_or firsts k d ≡ k = get_or_from_slice_get firsts k k d (order.at k inside) in
        omega arith;
    first = λ place class at.
        let l = slice_get_within of_places place class at in
        let counted : length of_places ≡ letters = count.count in
        let inside : place < letters = omega arith in
        let same : place ≡ class = same_at of_places place place class (count.at place inside) at in
        (place, subst (λ k. slice_get firsts k ≡ Some place) same (order.at place inside), λ state _. refl);
  }

-- a state's signature by its edges alone
abbrev pub HasSignature : List (Edge ℕ) → ℕ → List ℕ → Type 0
HasSignature rows state list =
    (out : List (Edge ℕ)) × ((e : Edge ℕ) → Contains out e ↔ (Contains rows e × (e.from ≡ state))) × IsSignature false (map (edge_mark [] 0) out) list

module _ (rows : List (Edge ℕ)) where
  with_parts : (e : Edge ℕ) (from to : ℕ) (letter : Option ℕ) → e.from ≡ from → e.letter ≡ letter → e.to ≡ to → Contains rows e → Contains rows (record { from = from; letter = letter; to = to })
  with_parts e from to letter a b c held =
      let at : ℕ → Option ℕ → ℕ → Type 0 = λ f l t. Contains rows (record { from = f; letter = l; to = t }) in
      subst (λ f. at f letter to) a (subst (λ l. at e.from l to) b (subst (λ t. at e.from e.letter t) c held))

  signed_edge : (j k : ℕ) (list : List ℕ) → HasSignature rows j list → HasSignature rows k list → (letter : Option ℕ) (to : ℕ) → Contains rows (record { from = j; letter = letter; to = to }) → Contains rows (record { from = k; letter = letter; to = to })
  signed_edge j k list (out, is, sign) (other, are, signed) letter to h =
      let e : Edge ℕ = record { from = j; letter = letter; to = to } in
      let agree = signatures_agree false false (map (edge_mark [] 0) out) (map (edge_mark [] 0) other) list sign signed in
      let m = agree.1 (edge_mark [] 0 e) (Contains-map (edge_mark [] 0) out e ((is e).1 (h, refl))) in
      let r = Contains-map_cases (edge_mark [] 0) other (edge_mark [] 0 e) m in
      let f : Edge ℕ = r.0 in
      let there = (are f).0 r.1 in
      elim (target_same f.letter letter (known_class [] 0 f.to) (known_class [] 0 to) f.to to r.2) [
        | inl known ↦ let past : slice_get [] (0 - 1 - to) ≡ Some known.0 = known.2 in absurd (cc)
        | inr same ↦ with_parts f k to letter there.1 (letter_same f.letter letter (known_class [] 0 f.to) (known_class [] 0 to) f.to to r.2) same.2 there.0
      ]

  pub signatures_alike : (j k : ℕ) (list : List ℕ) → HasSignature rows j list → HasSignature rows k list → GoAlike rows j k
  signatures_alike j k list m n = λ letter to. (signed_edge j k list m n letter to, signed_edge k j list n m letter to)

-- the numbers of a place in two lists
abbrev pub HasPair : List ℕ → List ℕ → ℕ → List ℕ → Type 0
HasPair a b place list = (c : ℕ) × (d : ℕ) × (slice_get a place ≡ Some c) × (slice_get b place ≡ Some d) × (list ≡ c ∷ d ∷ [])

pair_first : (c d e f : ℕ) → c ∷ d ∷ [] ≡ e ∷ f ∷ [] → c ≡ e
pair_first c d e f is = cc

pair_second : (c d e f : ℕ) → c ∷ d ∷ [] ≡ e ∷ f ∷ [] → d ≡ f
pair_second c d e f is = cc

pub pairs_agree : (a b : List ℕ) (j k : ℕ) (list : List ℕ) → HasPair a b j list → HasPair a b k list → AreBothAlike a b j k
pairs_agree a b j k list (c, d, at_c, at_d, is) (e, f, at_e, at_f, are) =
    let same : c ∷ d ∷ [] ≡ e ∷ f ∷ [] = sym is ∙ are in
    (at_c ∙ ap Some (pair_first c d e f same) ∙ sym at_e, at_d ∙ ap Some (pair_second c d e f same) ∙ sym at_f)

-- each letter has a class that is there
pub classes_within : (Alike : ℕ → ℕ → Type 0) (letters : ℕ) (of_places firsts : List ℕ) → AreAlike Alike letters of_places firsts → (place : ℕ) (d : ℕ) → place < length of_places → get_or of_places place d < length firsts
classes_within Alike letters of_places firsts are place d l =
    let r = are.first place (get_or of_places place d) (slice_get-get_or of_places place d l) in
    slice_get_within firsts (get_or of_places place d) r.0 r.1

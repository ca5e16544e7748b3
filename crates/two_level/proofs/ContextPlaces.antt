-- Places in strings of pairs, and the contexts that hold there.
use Rattle.std.proofs.Common.{◌≡◌, ◌↔◌, ◌⊎◌, List, [], ◌∷◌, ◌++◌, Some, None, true, false, slice_get, refl, sym, ap, subst, ◌∙◌, inl, inr}
use Rattle.std.specs.List.{Contains}
use Rattle.std.proofs.lemmas.List.Elements.{Contains-append_left, Contains-append_right, Contains-append_cases}
use Rattle.fsm_base.specs.declared.letters.Pair.{Pair}
use Rattle.fsm_base.specs.declared.letters.Bound.{Bound}
use Rattle.fsm_base.specs.declared.letters.Bound.TheVariants.{Edge}
use Rattle.word_relations.specs.Words.{IsOver, IsConcatenation}
use Rattle.word_relations.proofs.Members.{Contains-head, Contains-cons_cases, Contains-nil_cases}
use Rattle.fsa.specs.Automaton.{Automaton, UsesLetter}
use Rattle.fsa.specs.Language.{Accepts, stop, read, skip}
use Rattle.fsa.specs.Complete as complete
use Rattle.lang_algebra.specs.Languages.{IsLang}
use Rattle.expr_meaning.specs.Operators.{inner, HasSuffix, HasPrefix}
use Rattle.network_algebra.specs.Networks.{all_letters, UsesOnly}
use Rattle.network_sets.proofs.Inside.{over_left, over_right}
use Rattle.two_level.specs.Marks.{marked, IsMarked, place_between, IsPlaceWhere, marked_letters}
use Rattle.two_level.specs.Rules.{HasLettersOf, Holds}
use Rattle.two_level.specs.declared.rule.PairContext.{PairContext}
use Rattle.two_level.specs.declared.marks.MarkedLetter.{MarkedLetter}
use Rattle.two_level.proofs.Letters.{inner_over, over_inner, edge_before, edge_behind, inside_all}
use Rattle.two_level.proofs.MarkedStrings.{marked_same}

pub edge_only : (pairs : List Pair) (m : Automaton (Bound Pair)) → ((x : Bound Pair) → UsesLetter m x → Contains (Edge ∷ []) x) → UsesOnly (all_letters pairs) m
edge_only pairs m only x used =
    elim (Contains-cons_cases Edge [] x (only x used)) as (λ _. Contains (all_letters pairs) x) [
      | inl e ↦ subst (Contains (all_letters pairs)) e (Contains-head Edge (inner pairs))
      | inr none ↦ absurd (Contains-nil_cases x none)
    ]

pub inner_only : (pairs : List Pair) (m : Automaton (Bound Pair)) → UsesOnly (inner pairs) m → UsesOnly (all_letters pairs) m
inner_only pairs m only x used = inside_all pairs x (only x used)

pub lang_only : (pairs : List Pair) (lang : complete.Complete (Bound Pair)) (m : Automaton (Bound Pair)) → HasLettersOf pairs lang → ((x : Bound Pair) → UsesLetter m x → Contains lang.letters x) → UsesOnly (all_letters pairs) m
lang_only pairs lang m over used x h = over x (used x h)

module _ (pairs : List Pair) where
  -- every place
  pub place_words : (any edge before behind : Automaton (Bound Pair)) (m : Automaton MarkedLetter) → ((w : List (Bound Pair)) → Accepts any w ↔ IsOver (inner pairs) w) → ((w : List (Bound Pair)) → Accepts edge w ↔ (w ≡ Edge ∷ []))
      → ((w : List (Bound Pair)) → Accepts before w ↔ IsConcatenation (Accepts edge) (Accepts any) w) → ((w : List (Bound Pair)) → Accepts behind w ↔ IsConcatenation (Accepts any) (Accepts edge) w)
      → ((v : List MarkedLetter) → Accepts m v ↔ IsMarked (Accepts before) (Accepts behind) v) → (v : List MarkedLetter) → Accepts m v ↔ IsPlaceWhere pairs (λ x z. Unit {0}) v
  place_words any edge before behind m any_is edge_is before_is behind_is language v = (there, upwards)
    where
      there : Accepts m v → IsPlaceWhere pairs (λ x z. Unit {0}) v
      there h =
          let r = (language v).0 h in
          let first = (before_is r.0).0 r.3 in
          let last = (behind_is r.1).0 r.4 in
          let x = over_inner pairs first.1 ((any_is first.1).0 first.4) in
          let z = over_inner pairs last.0 ((any_is last.0).0 last.3) in
          let before_word : r.0 ≡ Edge ∷ inner x.0 = first.2 ∙ ap (λ u. u ++ first.1) ((edge_is first.0).0 first.3) ∙ ap (λ u. Edge ∷ u) x.1 in
          let behind_word : r.1 ≡ inner z.0 ++ Edge ∷ [] = last.2 ∙ ap (λ u. last.0 ++ u) ((edge_is last.1).0 last.4) ∙ ap (λ u. u ++ Edge ∷ []) z.1 in
          (x.0, z.0, r.2 ∙ ap (λ u. marked u r.1) before_word ∙ ap (λ u. marked (Edge ∷ inner x.0) u) behind_word, x.2, z.2, tt)

      upwards : IsPlaceWhere pairs (λ x z. Unit {0}) v → Accepts m v
      upwards (x, z, is, over_x, over_z, u) =
          (language v).1 (
            Edge ∷ inner x,
            inner z ++ Edge ∷ [],
            is,
            (before_is (Edge ∷ inner x)).1 (Edge ∷ [], inner x, refl, (edge_is (Edge ∷ [])).1 refl, (any_is (inner x)).1 (inner_over pairs x over_x)),
            (behind_is (inner z ++ Edge ∷ [])).1 (inner z, Edge ∷ [], refl, (any_is (inner z)).1 (inner_over pairs z over_z), (edge_is (Edge ∷ [])).1 refl),
          )

  -- a context
  pub context_words : (P Q : List (Bound Pair) → Type 0) (left right any before behind : Automaton (Bound Pair)) (m : Automaton MarkedLetter) → ((w : List (Bound Pair)) → Accepts left w ↔ P w) → ((w : List (Bound Pair)) → Accepts right w ↔ Q w)
      → ((w : List (Bound Pair)) → Accepts any w ↔ IsOver (all_letters pairs) w)
      → ((w : List (Bound Pair)) → Accepts before w ↔ IsConcatenation (Accepts any) (Accepts left) w) → ((w : List (Bound Pair)) → Accepts behind w ↔ IsConcatenation (Accepts right) (Accepts any) w)
      → ((v : List MarkedLetter) → Accepts m v ↔ IsMarked (Accepts before) (Accepts behind) v)
      → (x z : List (Bound Pair)) → IsOver (all_letters pairs) x → IsOver (all_letters pairs) z → Accepts m (marked x z) ↔ (HasSuffix P x × HasPrefix Q z)
  context_words P Q left right any before behind m left_is right_is any_is before_is behind_is language x z over_x over_z = (there, upwards)
    where
      there : Accepts m (marked x z) → HasSuffix P x × HasPrefix Q z
      there h =
          let r = (language (marked x z)).0 h in
          let same = marked_same x z r.0 r.1 r.2 in
          let first = (before_is r.0).0 r.3 in
          let last = (behind_is r.1).0 r.4 in
          ((first.0, first.1, same.0 ∙ first.2, (left_is first.1).0 first.4), (last.0, last.1, same.1 ∙ last.2, (right_is last.0).0 last.3))

      upwards : HasSuffix P x × HasPrefix Q z → Accepts m (marked x z)
      upwards ((front, back, is, l), (head, tail, e, r)) =
          let over_front : IsOver (all_letters pairs) front = over_left (Contains (all_letters pairs)) front back (subst (IsOver (all_letters pairs)) is over_x) in
          let over_tail : IsOver (all_letters pairs) tail = over_right (Contains (all_letters pairs)) head tail (subst (IsOver (all_letters pairs)) e over_z) in
          (language (marked x z)).1 (
            x,
            z,
            refl,
            (before_is x).1 (front, back, is, (any_is front).1 over_front, (left_is back).1 l),
            (behind_is z).1 (head, tail, e, (right_is head).1 r, (any_is tail).1 over_tail),
          )

  -- the places at which a context of a row holds
  abbrev pub TellsPlaces : List PairContext → Automaton MarkedLetter → Type 0
  TellsPlaces contexts m = (x z : List Pair) → IsOver pairs x → IsOver pairs z → Accepts m (place_between x z) ↔ Holds contexts x z

  pub none_hold : (m : Automaton MarkedLetter) → ((v : List MarkedLetter) → Accepts m v → ⊥) → TellsPlaces [] m
  none_hold m none x z over_x over_z = (λ h. absurd (none (place_between x z) h), λ h. absurd (Contains-nil_cases h.0 h.1))

  pub one_holds : (c : PairContext) (m : Automaton MarkedLetter)
      → ((x z : List (Bound Pair)) → IsOver (all_letters pairs) x → IsOver (all_letters pairs) z → Accepts m (marked x z) ↔ (HasSuffix (complete.Accepts c.left) x × HasPrefix (complete.Accepts c.right) z)) → TellsPlaces (c ∷ []) m
  one_holds c m language x z over_x over_z =
      let same = language (Edge ∷ inner x) (inner z ++ Edge ∷ []) (edge_before pairs x over_x) (edge_behind pairs z over_z) in (
        λ h. let r = same.0 h in (c, Contains-head c [], r.0, r.1),
        λ h. same.1 (only h),
      )
    where
      only : Holds (c ∷ []) x z → HasSuffix (complete.Accepts c.left) (Edge ∷ inner x) × HasPrefix (complete.Accepts c.right) (inner z ++ Edge ∷ [])
      only (d, among, l, r) =
          elim (Contains-cons_cases c [] d among) as (λ _. HasSuffix (complete.Accepts c.left) (Edge ∷ inner x) × HasPrefix (complete.Accepts c.right) (inner z ++ Edge ∷ [])) [
            | inl e ↦ subst (λ (k : PairContext). HasSuffix (complete.Accepts k.left) (Edge ∷ inner x) × HasPrefix (complete.Accepts k.right) (inner z ++ Edge ∷ [])) (sym e) (l, r)
            | inr none ↦ absurd (Contains-nil_cases d none)
          ]

  pub halves_hold : (front back whole : List PairContext) (a b m : Automaton MarkedLetter) → front ++ back ≡ whole → TellsPlaces front a → TellsPlaces back b → ((v : List MarkedLetter) → Accepts m v ↔ (Accepts a v ⊎ Accepts b v)) → TellsPlaces whole m
  halves_hold front back whole a b m is f g language =
      subst (λ (cs : List PairContext). TellsPlaces cs m) is (λ x z over_x over_z. (there x z over_x over_z, upwards x z over_x over_z))
    where
      there : (x z : List Pair) → IsOver pairs x → IsOver pairs z → Accepts m (place_between x z) → Holds (front ++ back) x z
      there x z over_x over_z h =
          elim ((language (place_between x z)).0 h) as (λ _. Holds (front ++ back) x z) [
            | inl p ↦ let r = (f x z over_x over_z).0 p in (r.0, Contains-append_left front back r.0 r.1, r.2, r.3)
            | inr q ↦ let r = (g x z over_x over_z).0 q in (r.0, Contains-append_right front back r.0 r.1, r.2, r.3)
          ]

      upwards : (x z : List Pair) → IsOver pairs x → IsOver pairs z → Holds (front ++ back) x z → Accepts m (place_between x z)
      upwards x z over_x over_z (c, among, l, r) =
          (language (place_between x z)).1 (elim (Contains-append_cases front back c among) as (λ _. Accepts a (place_between x z) ⊎ Accepts b (place_between x z)) [
            | inl p ↦ inl ((f x z over_x over_z).1 (c, p, l, r))
            | inr q ↦ inr ((g x z over_x over_z).1 (c, q, l, r))
          ])

  -- the places of a language where contexts hold
  pub places_holding : (contexts : List PairContext) (m : Automaton MarkedLetter) (every holding made : complete.Complete MarkedLetter) → TellsPlaces contexts m → IsLang (marked_letters pairs) (IsPlaceWhere pairs (λ x z. Unit {0})) every → IsLang (marked_letters pairs) (Accepts m) holding
      → IsLang every.letters (λ v. complete.Accepts every v × complete.Accepts holding v) made → IsLang (marked_letters pairs) (IsPlaceWhere pairs (Holds contexts)) made
  places_holding contexts m every holding made tells all of is =
      record {
        complete = is.complete;
        over = is.over ∙ all.over;
        words = λ v. (there v, upwards v);
      }
    where
      there : (v : List MarkedLetter) → complete.Accepts made v → IsPlaceWhere pairs (Holds contexts) v
      there v h =
          let r = (is.words v).0 h in
          let p = (all.words v).0 r.0 in
          let x = p.0 in
          let z = p.1 in
          (x, z, p.2, p.3, p.4, (tells x z p.3 p.4).0 (subst (Accepts m) p.2 ((of.words v).0 r.1)))

      upwards : (v : List MarkedLetter) → IsPlaceWhere pairs (Holds contexts) v → complete.Accepts made v
      upwards v (x, z, e, over_x, over_z, holds) =
          (is.words v).1 ((all.words v).1 (x, z, e, over_x, over_z, tt), (of.words v).1 (subst (Accepts m) (sym e) ((tells x z over_x over_z).1 holds)))

-- an automaton of one state that isn't final, and without edges
module _ {L : Type 0} (m : Automaton L) (is : m ≡ record { edges = []; finals = false ∷ [] }) where
  pub none_accepted : (v : List L) → Accepts m v → ⊥
  none_accepted v (stop f) = let h : Some false ≡ Some true = subst (λ (z : Automaton L). slice_get z.finals 0 ≡ Some true) is f in cc
  none_accepted v (read {q = q} {x = x} has rest) = Contains-nil_cases (record { from = 0; letter = Some x; to = q }) (subst (λ (z : Automaton L). Contains z.edges (record { from = 0; letter = Some x; to = q })) is has)
  none_accepted v (skip {q = q} has rest) = Contains-nil_cases (record { from = 0; letter = None; to = q }) (subst (λ (z : Automaton L). Contains z.edges (record { from = 0; letter = None; to = q })) is has)

  pub none_used : (letters : List L) → UsesOnly letters m
  none_used letters x (e, has, carries) = absurd (Contains-nil_cases e (subst (λ (z : Automaton L). Contains z.edges e) is has))

-- Visits: a place is opened, what it refers to is visited, and then it is done.
use Rattle.std.proofs.Common.{◌≡◌, ℕ, zero, suc, ◌+◌, ◌<◌, ◌≤◌, ◌↔◌, ◌⊎◌, List, [], ◌∷◌, ◌++◌, cond, Some, length, get_or, take, sum_by, subst, sym, ap, inl, inr, arith, ◌∙◌, All}
use Rattle.std.proofs.Math.ListN.{set, replicate}
use Rattle.std.specs.List.{slice_get, Contains}
use Rattle.std.proofs.lemmas.Option.{slice_get_within, get_or_from_slice_get, same_Some}
use Rattle.std.proofs.lemmas.List.{length-set, take_all, take-append-le}
use Rattle.std.proofs.lemmas.List.Elements.{All-contains, All-more, All-weaker, Contains-push_cases, Contains-push, Contains-append_left}
use Rattle.std.proofs.lemmas.List.Sums.{sum_by-set}
use Rattle.std.proofs.lemmas.Bool.{cases_eq}
use Rattle.word_relations.specs.Words.{IsDistinct}
use Rattle.word_relations.proofs.Members.{Contains-nil_cases}
use Rattle.word_relations.proofs.Places.{Contains-from_slice_get, slice_get-append_cases, slice_get-set_same, slice_get-set_other}
use Rattle.name_order.specs.Graph.{Refers, Reaches, at_once}
use Rattle.name_order.specs.Orders.{AreBehind}
use Rattle.name_order.specs.Visits.{is_new, count_new, IsOpen, AreVisits, Extends, Visited}
use Rattle.name_order.specs.declared.visit.Mark.{Mark}
use Rattle.name_order.specs.declared.visit.Mark.TheVariants.{New, Open, Done}
use Rattle.name_order.specs.declared.visit.Visits.{Visits}
use Rattle.name_order.proofs.References.{reaches_on}

-- what stands at a place of a list with one element more
at_push : {X : Type 0} (xs : List X) (y : X) (i : ℕ) (x : X) → slice_get (xs ++ y ∷ []) i ≡ Some x → (slice_get xs i ≡ Some x) ⊎ ((i ≡ length xs) × (y ≡ x))
at_push xs y i x h = elim (slice_get-append_cases xs (y ∷ []) i x h) [
  | inl old ↦ inl old
  | inr new ↦ inr (at_first new.0 new.1 new.2)
] where
  at_first : (j : ℕ) → i ≡ j + length xs → slice_get (y ∷ []) j ≡ Some x → (i ≡ length xs) × (y ≡ x)
  at_first zero e h = (omega arith, same_Some y x h)
  at_first (suc j) e h = absurd (let l = slice_get_within (y ∷ []) (suc j) x h in omega arith)

-- one element more, which wasn't there
distinct_push : (xs : List ℕ) (y : ℕ) → IsDistinct xs → (Contains xs y → ⊥) → IsDistinct (xs ++ y ∷ [])
distinct_push xs y apart none i j x h g =
    elim (at_push xs y i x h) as (λ _. i ≡ j) [
      | inl a ↦ elim (at_push xs y j x g) as (λ _. i ≡ j) [
        | inl b ↦ apart i j x a b
        | inr b ↦ absurd (none (subst (λ (z : ℕ). Contains xs z) (sym b.1) (Contains-from_slice_get xs i x a)))
      ]
      | inr a ↦ elim (at_push xs y j x g) as (λ _. i ≡ j) [
        | inl b ↦ absurd (none (subst (λ (z : ℕ). Contains xs z) (sym a.1) (Contains-from_slice_get xs j x b)))
        | inr b ↦ a.0 ∙ sym b.0
      ]
    ]

behind_push : (graph : List (List ℕ)) (order : List ℕ) (place : ℕ) → AreBehind graph order → ((other : ℕ) → Refers graph place other → Contains order other)
    → AreBehind graph (order ++ place ∷ [])
behind_push graph order place behind all k from other h r =
    elim (at_push order place k from h) as (λ _. Contains (take k (order ++ place ∷ [])) other) [
      | inl old ↦
          let within = slice_get_within order k from old in
          subst (λ (ps : List ℕ). Contains ps other) (sym (take-append-le k order (place ∷ []) (omega (arith, within)))) (behind k from other old r)
      | inr (last, same) ↦
          let front : take k (order ++ place ∷ []) ≡ order = take-append-le k order (place ∷ []) (omega (arith, last)) ∙ take_all k order (omega (arith, last)) in
          subst (λ (ps : List ℕ). Contains ps other) (sym front) (all other (subst (λ (p : ℕ). Refers graph p other) (sym same) r))
    ]

marks_differ : (a b : Mark) (marks : List Mark) (place : ℕ) → slice_get marks place ≡ Some a → slice_get marks place ≡ Some b → a ≡ b
marks_differ a b marks place h g = same_Some a b (sym h ∙ g)

new_open : New ≡ Open → ⊥
new_open e = cc

new_done : New ≡ Done → ⊥
new_done e = cc

open_done : Open ≡ Done → ⊥
open_done e = cc

-- how the count of new places changes at a mark
abbrev one : Mark → ℕ
one mark = cond (is_new mark) 1 0

count_set : (marks : List Mark) (place : ℕ) (before after : Mark) → slice_get marks place ≡ Some before → count_new (set marks place after) + one before ≡ count_new marks + one after
count_set marks place before after h =
    let was : get_or marks place before ≡ before = get_or_from_slice_get marks place before before h in
    let moved : sum_by one (set marks place after) + one (get_or marks place before) ≡ sum_by one marks + one after = sum_by-set one marks place after before (slice_get_within marks place before h) in
    ap (λ (m : Mark). count_new (set marks place after) + one m) (sym was) ∙ moved

none_done : (n place : ℕ) (mark : Mark) → (New ≡ mark → ⊥) → slice_get (replicate n New) place ≡ Some mark → ⊥
none_done zero place mark other e = cc
none_done (suc n) zero mark other e = other (same_Some New mark e)
none_done (suc n) (suc k) mark other e = none_done n k mark other e

pub visits_none : (graph : List (List ℕ)) (v : Visits) → v.marks.items ≡ replicate (length graph) New → v.order.items ≡ [] → length v.marks.items ≡ length graph → AreVisits graph v
visits_none graph v marks order count = record {
  marks = count;
  done = λ place. (
    λ h. absurd (none_done (length graph) place Done new_done (subst (λ (ms : List Mark). slice_get ms place ≡ Some Done) marks h)),
    λ h. absurd (Contains-nil_cases place (subst (λ (ps : List ℕ). Contains ps place) order h)),
  );
  once = subst IsDistinct (sym order) (λ i j x h g. absurd (nowhere i x h));
  behind = subst (AreBehind graph) (sym order) (λ k place other h r. absurd (nowhere k place h));
} where
  nowhere : (i x : ℕ) → slice_get {X = ℕ} [] i ≡ Some x → ⊥
  nowhere i x e = cc

pub none_open : (n : ℕ) (v : Visits) → v.marks.items ≡ replicate n New → (place : ℕ) → IsOpen v place → ⊥
none_open n v marks place h = none_done n place Open new_open (subst (λ (ms : List Mark). slice_get ms place ≡ Some Open) marks h)

-- a place that is done stays as it is
pub visited_before : (graph : List (List ℕ)) (v : Visits) (place : ℕ) → AreVisits graph v → slice_get v.marks.items place ≡ Some Done → Visited graph v v place
visited_before graph v place are h = record {
  visits = are;
  extends = record { more = λ other there. there; open_alike = λ other. (λ o. o, λ o. o); fewer = omega arith };
  done = (are.done place).0 h;
}

pub extends_on : (a b c : Visits) → Extends a b → Extends b c → Extends a c
extends_on a b c first second = record {
  more = λ place h. second.more place (first.more place h);
  open_alike = λ place. (λ o. (second.open_alike place).0 ((first.open_alike place).0 o), λ o. (first.open_alike place).1 ((second.open_alike place).1 o));
  fewer = let x = first.fewer in let y = second.fewer in omega arith;
}

pub extends_none : (v : Visits) → Extends v v
extends_none v = record { more = λ place h. h; open_alike = λ place. (λ o. o, λ o. o); fewer = omega arith }

-- a new place is opened
module _ (graph : List (List ℕ)) (old opened : Visits) (place : ℕ) (are : AreVisits graph old) (is_new_there : slice_get old.marks.items place ≡ Some New)
    (marks : opened.marks.items ≡ set old.marks.items place Open) (order : opened.order.items ≡ old.order.items) where
  within : place < length old.marks.items
  within = slice_get_within old.marks.items place New is_new_there

  pub open_here : IsOpen opened place
  open_here = subst (λ (ms : List Mark). slice_get ms place ≡ Some Open) (sym marks) (slice_get-set_same old.marks.items place Open within)

  other_mark : (p : ℕ) → (p ≡ place → ⊥) → slice_get opened.marks.items p ≡ slice_get old.marks.items p
  other_mark p apart = ap (λ (ms : List Mark). slice_get ms p) marks ∙ slice_get-set_other old.marks.items place p Open apart

  no_done : slice_get old.marks.items place ≡ Some Done → ⊥
  no_done h = new_done (marks_differ New Done old.marks.items place is_new_there h)

  pub opened_visits : AreVisits graph opened
  opened_visits = record {
    marks = ap (λ (ms : List Mark). length ms) marks ∙ length-set old.marks.items place Open ∙ are.marks;
    done = λ p. (
      λ h. elim (cases_eq p place) as (λ _. Contains opened.order.items p) [
        | inl same ↦ absurd (open_done (marks_differ Open Done opened.marks.items place open_here (subst (λ (q : ℕ). slice_get opened.marks.items q ≡ Some Done) same h)))
        | inr apart ↦ subst (λ (ps : List ℕ). Contains ps p) (sym order) ((are.done p).0 (sym (other_mark p apart) ∙ h))
      ],
      λ h. elim (cases_eq p place) as (λ _. slice_get opened.marks.items p ≡ Some Done) [
        | inl same ↦ absurd (no_done ((are.done place).1 (subst (λ (q : ℕ). Contains old.order.items q) same (subst (λ (ps : List ℕ). Contains ps p) order h))))
        | inr apart ↦ other_mark p apart ∙ (are.done p).1 (subst (λ (ps : List ℕ). Contains ps p) order h)
      ],
    );
    once = subst IsDistinct (sym order) are.once;
    behind = subst (AreBehind graph) (sym order) are.behind;
  }

  pub fewer_new : count_new opened.marks.items < count_new old.marks.items
  fewer_new =
      let moved = count_set old.marks.items place New Open is_new_there in
      let is : count_new opened.marks.items ≡ count_new (set old.marks.items place Open) = ap count_new marks in
      omega (arith, moved, is)

  -- places that are open then reach a place that this one refers to
  pub open_reach : (next : ℕ) → Refers graph place next → ((other : ℕ) → IsOpen old other → Reaches graph other place) → (v : Visits) → Extends opened v
      → (other : ℕ) → IsOpen v other → Reaches graph other next
  open_reach next r reach v e other h =
      elim (cases_eq other place) as (λ _. Reaches graph other next) [
        | inl same ↦ subst (λ (q : ℕ). Reaches graph q next) (sym same) (at_once r)
        | inr apart ↦ reaches_on graph other place next (reach other (sym (other_mark other apart) ∙ (e.open_alike other).1 h)) r
      ]

  -- and then it is done, where all that it refers to is
  module _ (before after : Visits) (now : AreVisits graph before) (e : Extends opened before) (all : (other : ℕ) → Refers graph place other → Contains before.order.items other)
      (after_marks : after.marks.items ≡ set before.marks.items place Done) (after_order : after.order.items ≡ before.order.items ++ place ∷ []) where
    still_open : IsOpen before place
    still_open = (e.open_alike place).0 open_here

    inside : place < length before.marks.items
    inside = slice_get_within before.marks.items place Open still_open

    after_mark : (p : ℕ) → (p ≡ place → ⊥) → slice_get after.marks.items p ≡ slice_get before.marks.items p
    after_mark p apart = ap (λ (ms : List Mark). slice_get ms p) after_marks ∙ slice_get-set_other before.marks.items place p Done apart

    done_here : slice_get after.marks.items place ≡ Some Done
    done_here = subst (λ (ms : List Mark). slice_get ms place ≡ Some Done) (sym after_marks) (slice_get-set_same before.marks.items place Done inside)

    not_there : Contains before.order.items place → ⊥
    not_there h = open_done (marks_differ Open Done before.marks.items place still_open ((now.done place).1 h))

    there : Contains after.order.items place
    there = subst (λ (ps : List ℕ). Contains ps place) (sym after_order) (Contains-push before.order.items place)

    kept : (p : ℕ) → Contains before.order.items p → Contains after.order.items p
    kept p h = subst (λ (ps : List ℕ). Contains ps p) (sym after_order) (Contains-append_left before.order.items (place ∷ []) p h)

    after_visits : AreVisits graph after
    after_visits = record {
      marks = ap (λ (ms : List Mark). length ms) after_marks ∙ length-set before.marks.items place Done ∙ now.marks;
      done = λ p. (
        λ h. elim (cases_eq p place) as (λ _. Contains after.order.items p) [
          | inl same ↦ subst (λ (q : ℕ). Contains after.order.items q) (sym same) there
          | inr apart ↦ kept p ((now.done p).0 (sym (after_mark p apart) ∙ h))
        ],
        λ h. elim (cases_eq p place) as (λ _. slice_get after.marks.items p ≡ Some Done) [
          | inl same ↦ subst (λ (q : ℕ). slice_get after.marks.items q ≡ Some Done) (sym same) done_here
          | inr apart ↦ elim (Contains-push_cases before.order.items place p (subst (λ (ps : List ℕ). Contains ps p) after_order h)) as (λ _. slice_get after.marks.items p ≡ Some Done) [
            | inl old ↦ after_mark p apart ∙ (now.done p).1 old
            | inr same ↦ absurd (apart (sym same))
          ]
        ],
      );
      once = subst IsDistinct (sym after_order) (distinct_push before.order.items place now.once not_there);
      behind = subst (AreBehind graph) (sym after_order) (behind_push graph before.order.items place now.behind all);
    }

    after_open : (p : ℕ) → IsOpen old p ↔ IsOpen after p
    after_open p = (
      λ h. elim (cases_eq p place) as (λ _. IsOpen after p) [
        | inl same ↦ absurd (new_open (marks_differ New Open old.marks.items place is_new_there (subst (λ (q : ℕ). IsOpen old q) same h)))
        | inr apart ↦ after_mark p apart ∙ (e.open_alike p).0 (other_mark p apart ∙ h)
      ],
      λ h. elim (cases_eq p place) as (λ _. IsOpen old p) [
        | inl same ↦ absurd (open_done (marks_differ Open Done after.marks.items place (subst (λ (q : ℕ). IsOpen after q) same h) done_here))
        | inr apart ↦ sym (other_mark p apart) ∙ (e.open_alike p).1 (sym (after_mark p apart) ∙ h)
      ],
    )

    pub visited_after : Visited graph old after place
    visited_after = record {
      visits = after_visits;
      extends = record {
        more = λ p h. kept p (e.more p (subst (λ (ps : List ℕ). Contains ps p) (sym order) h));
        open_alike = after_open;
        fewer =
            let moved = count_set before.marks.items place Open Done still_open in
            let is : count_new after.marks.items ≡ count_new (set before.marks.items place Done) = ap count_new after_marks in
            let few = e.fewer in let less = fewer_new in omega (arith, moved, is, few, less);
      };
      done = there;
    }

-- one place more that is referred to was visited
pub below_more : (xs : List ℕ) (i : ℕ) (old new : Visits) → i < length xs → All (Contains old.order.items) (take i xs) → Extends old new → Contains new.order.items (get_or xs i 0)
    → All (Contains new.order.items) (take (i + 1) xs)
below_more xs i old new below so_far e here =
    All-more (Contains new.order.items) xs i 0 below (All-weaker (Contains old.order.items) (Contains new.order.items) e.more (take i xs) so_far) here

pub below_all : (xs : List ℕ) (i : ℕ) (v : Visits) → length xs ≤ i → All (Contains v.order.items) (take i xs) → (other : ℕ) → Contains xs other → Contains v.order.items other
below_all xs i v past all other h = All-contains (Contains v.order.items) xs other (subst (λ (ps : List ℕ). All (Contains v.order.items) ps) (take_all i xs past) all) h

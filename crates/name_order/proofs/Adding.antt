-- Marks of the places that were found.
use Rattle.std.proofs.Common.{◌≡◌, ℕ, zero, suc, ◌+◌, ◌<◌, ◌≤◌, ◌⊎◌, List, [], ◌∷◌, ◌++◌, Bool, true, false, cond, Some, length, get_or, take, count_by, sum_by, refl, subst, sym, ap, inl, inr, arith, ◌∙◌, append_assoc}
use Rattle.std.proofs.Math.ListN.{set, replicate}
use Rattle.std.specs.List.{slice_get, Contains}
use Rattle.std.proofs.lemmas.Option.{slice_get_within, get_or_from_slice_get}
use Rattle.std.proofs.lemmas.List.{length_push, length-set, append-nil, take_more, take_all}
use Rattle.std.proofs.lemmas.List.Elements.{Contains-push_cases, Contains-push, Contains-append_left}
use Rattle.std.proofs.lemmas.List.Sums.{count_by-le-length, sum_by-set}
use Rattle.std.proofs.lemmas.Bool.{cases_eq}
use Rattle.word_relations.proofs.Members.{Contains-nil_cases}
use Rattle.word_relations.proofs.Places.{slice_get-set_same, slice_get-set_other}
use Rattle.name_order.specs.Found.{AreMarked, AreFound, Adds}
use Rattle.name_order.specs.declared.reach.Found.{Found}

all_unmarked : (n k : ℕ) → slice_get (replicate n false) k ≡ Some true → ⊥
all_unmarked zero k e = cc
all_unmarked (suc n) zero e = cc
all_unmarked (suc n) (suc k) e = all_unmarked n k e

none_marked : (n : ℕ) → count_by (λ b. b) (replicate n false) ≡ 0
none_marked zero = refl
none_marked (suc n) = let rest = none_marked n in omega arith

pub marked_none : (n : ℕ) → AreMarked (replicate n false) []
marked_none n = record {
  marked = λ k h. absurd (Contains-nil_cases k h);
  only = λ k e. absurd (all_unmarked n k e);
  count = sym (none_marked n);
}

count-set_true : (marks : List Bool) (k : ℕ) → slice_get marks k ≡ Some false → count_by (λ b. b) (set marks k true) ≡ count_by (λ b. b) marks + 1
count-set_true marks k e =
    let one : Bool → ℕ = λ b. cond b 1 0 in
    let was : get_or marks k false ≡ false = get_or_from_slice_get marks k false false e in
    let moved : sum_by one (set marks k true) + one (get_or marks k false) ≡ sum_by one marks + 1 = sum_by-set one marks k true false (slice_get_within marks k false e) in
    let was_none : one (get_or marks k false) ≡ 0 = ap one was in
    omega arith

marked_one : (marks : List Bool) (places : List ℕ) (k : ℕ) → AreMarked marks places → slice_get marks k ≡ Some false → AreMarked (set marks k true) (places ++ k ∷ [])
marked_one marks places k m free =
    let within : k < length marks = slice_get_within marks k false free in
    record {
      marked = λ j h. elim (cases_eq j k) [
        | inl same ↦ subst (λ i. slice_get (set marks k true) i ≡ Some true) (sym same) (slice_get-set_same marks k true within)
        | inr other ↦ elim (Contains-push_cases places k j h) [
          | inl old ↦ slice_get-set_other marks k j true other ∙ m.marked j old
          | inr same ↦ absurd (other (sym same))
        ]
      ];
      only = λ j e. elim (cases_eq j k) [
        | inl same ↦ subst (λ i. Contains (places ++ k ∷ []) i) (sym same) (Contains-push places k)
        | inr other ↦ Contains-append_left places (k ∷ []) j (m.only j (sym (slice_get-set_other marks k j true other) ∙ e))
      ];
      count = let long = length_push places k in let more = count-set_true marks k free in let old : length places ≡ count_by (λ b. b) marks = m.count in omega arith;
    }

-- no more places are found than there are
pub found_few : (f : Found) → AreFound f → length f.places.items ≤ length f.marks.items
found_few f m = let few = count_by-le-length (λ b. b) f.marks.items in let is : length f.places.items ≡ count_by (λ b. b) f.marks.items = m.count in omega arith

pub found_within : (f : Found) (place : ℕ) → AreFound f → Contains f.places.items place → place < length f.marks.items
found_within f place m h = slice_get_within f.marks.items place true (m.marked place h)

pub adds_none : (f : Found) → AreFound f → Adds f f (Contains [])
adds_none f m = record {
  found = m;
  bound = refl;
  grown = ([], sym (append-nil f.places.items));
  only = λ place h. inl h;
  all = λ place h. absurd (Contains-nil_cases place h);
}

-- a place that was found before, and one that is new
pub adds_old : (f : Found) (place : ℕ) → AreFound f → slice_get f.marks.items place ≡ Some true → Adds f f (λ other. other ≡ place)
adds_old f place m marked = record {
  found = m;
  bound = refl;
  grown = ([], sym (append-nil f.places.items));
  only = λ other h. inl h;
  all = λ other is. subst (λ k. Contains f.places.items k) (sym is) (m.only place marked);
}

pub adds_new : (f g : Found) (place : ℕ) → AreFound f → slice_get f.marks.items place ≡ Some false → g.marks.items ≡ set f.marks.items place true
    → g.places.items ≡ f.places.items ++ place ∷ [] → Adds f g (λ other. other ≡ place)
adds_new f g place m free marks places = record {
  found = subst (λ (bs : List Bool). AreMarked bs g.places.items) (sym marks)
      (subst (λ (ps : List ℕ). AreMarked (set f.marks.items place true) ps) (sym places) (marked_one f.marks.items f.places.items place m free));
  bound = ap (λ (bs : List Bool). length bs) marks ∙ length-set f.marks.items place true;
  grown = (place ∷ [], places);
  only = λ other h. elim (Contains-push_cases f.places.items place other (subst (λ (ps : List ℕ). Contains ps other) places h)) [
    | inl old ↦ inl old
    | inr same ↦ inr (sym same)
  ];
  all = λ other is. subst (λ (k : ℕ). Contains g.places.items k) (sym is) (subst (λ (ps : List ℕ). Contains ps place) (sym places) (Contains-push f.places.items place));
}

pub adds_keeps : (f g : Found) (P : ℕ → Type 0) → Adds f g P → (place : ℕ) → Contains f.places.items place → Contains g.places.items place
adds_keeps f g P a place h = subst (λ (ps : List ℕ). Contains ps place) (sym a.grown.1) (Contains-append_left f.places.items a.grown.0 place h)

-- one item of a list after those before it
pub adds_more : (xs : List ℕ) (i : ℕ) (f g h : Found) → i < length xs → Adds f g (Contains (take i xs)) → Adds g h (λ other. other ≡ get_or xs i 0) → Adds f h (Contains (take (i + 1) xs))
adds_more xs i f g h below first second =
    let x = get_or xs i 0 in
    let front : take (i + 1) xs ≡ take i xs ++ x ∷ [] = take_more xs i 0 below in
    record {
      found = second.found;
      bound = second.bound ∙ first.bound;
      grown = (first.grown.0 ++ second.grown.0, second.grown.1 ∙ ap (λ (ps : List ℕ). ps ++ second.grown.0) first.grown.1 ∙ append_assoc f.places.items first.grown.0 second.grown.0);
      only = λ place there. elim (second.only place there) as (λ _. Contains f.places.items place ⊎ Contains (take (i + 1) xs) place) [
        | inl old ↦ elim (first.only place old) as (λ _. Contains f.places.items place ⊎ Contains (take (i + 1) xs) place) [
          | inl older ↦ inl older
          | inr among ↦ inr (subst (λ (ps : List ℕ). Contains ps place) (sym front) (Contains-append_left (take i xs) (x ∷ []) place among))
        ]
        | inr is ↦ inr (subst (λ (k : ℕ). Contains (take (i + 1) xs) k) (sym is) (subst (λ (ps : List ℕ). Contains ps x) (sym front) (Contains-push (take i xs) x)))
      ];
      all = λ place among. elim (Contains-push_cases (take i xs) x place (subst (λ (ps : List ℕ). Contains ps place) front among)) as (λ _. Contains h.places.items place) [
        | inl before ↦ adds_keeps g h (λ other. other ≡ x) second place (first.all place before)
        | inr same ↦ second.all place (sym same)
      ];
    }

pub adds_all : (xs : List ℕ) (i : ℕ) (f g : Found) → length xs ≤ i → Adds f g (Contains (take i xs)) → Adds f g (Contains xs)
adds_all xs i f g past a = subst (λ (ps : List ℕ). Adds f g (Contains ps)) (take_all i xs past) a

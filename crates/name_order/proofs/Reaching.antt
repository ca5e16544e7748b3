-- The places that a place reaches, as they are found: in the end all of them, and no others.
use Rattle.std.proofs.Common.{◌≡◌, ℕ, ◌+◌, ◌<◌, ◌≤◌, ◌↔◌, List, [], ◌∷◌, ◌++◌, length, get_or, take, subst, sym, ap, inl, inr, arith, ◌∙◌, All}
use Rattle.std.specs.Prelude.{Vec}
use Rattle.std.specs.Global.{Global}
use Rattle.std.specs.List.{Contains}
use Rattle.std.proofs.lemmas.List.{take_more, take_all, take-append-le, length-append}
use Rattle.std.proofs.lemmas.List.Elements.{Contains-push_cases, Contains-get_or}
use Rattle.word_relations.proofs.Members.{Contains-nil_cases}
use Rattle.name_order.specs.Found.{Adds, AreGrowing}
use Rattle.name_order.specs.Graph.{graph_of, Refers, Reaches, at_once, further, IsWhole}
use Rattle.name_order.specs.declared.reach.Found.{Found}
use Rattle.name_order.proofs.References.{count_of, refers_from, refers_to, reaches_on}
use Rattle.name_order.proofs.Adding.{adds_keeps, found_few, found_within}

module _ (lists : List (Vec ℕ Global)) (whole : IsWhole (graph_of lists)) where
  abbrev graph : List (List ℕ)
  graph = graph_of lists

  -- what a list refers to is within as many marks as there are places
  pub below_marks : (place : ℕ) (list : Vec ℕ Global) (n : ℕ) → place < length lists → list ≡ get_or lists place list → n ≡ length lists → All (λ other. other < n) list.items
  below_marks place list n within is count k d lt =
      let below : get_or list.items k d < length graph =
      whole place (get_or list.items k d) (refers_from lists place list within is (get_or list.items k d) (Contains-get_or list.items k d lt)) in
      let size = count_of lists in omega (arith, below, size, count)

  pub growing_first : (start : ℕ) (list : Vec ℕ Global) (old new : Found) → start < length lists → list ≡ get_or lists start list → length old.marks.items ≡ length lists
      → old.places.items ≡ [] → Adds old new (Contains list.items) → AreGrowing graph start 0 new
  growing_first start list old new within is count none a = record {
    found = a.found;
    bound = a.bound ∙ count ∙ sym (count_of lists);
    reached = λ place h. elim (a.only place h) as (λ _. Reaches graph start place) [
      | inl before ↦ absurd (Contains-nil_cases place (subst (λ (ps : List ℕ). Contains ps place) none before))
      | inr among ↦ at_once (refers_from lists start list within is place among)
    ];
    first = λ place r. a.all place (refers_to lists start list within is place r);
    followed = λ place other h r. absurd (Contains-nil_cases place h);
    within = omega arith;
  }

  module _ (start number : ℕ) (old new : Found) (list : Vec ℕ Global) (place : ℕ) (g : AreGrowing graph start number old) (inside : number < length old.places.items)
      (place_is : place ≡ get_or old.places.items number place) where
    among : Contains old.places.items place
    among = (number, inside, sym place_is)

    pub place_within : place < length lists
    place_within = let below = found_within old place g.found among in let marks = g.bound in let size = count_of lists in omega (arith, below, marks, size)

    -- the next place is followed
    pub growing_more : list ≡ get_or lists place list → Adds old new (Contains list.items) → AreGrowing graph start (number + 1) new
    growing_more is a =
        let longer : length new.places.items ≡ length old.places.items + length a.grown.0 = ap (λ (ps : List ℕ). length ps) a.grown.1 ∙ length-append old.places.items a.grown.0 in
        let next : take (number + 1) new.places.items ≡ take number old.places.items ++ place ∷ [] =
        ap (λ (ps : List ℕ). take (number + 1) ps) a.grown.1 ∙ take-append-le (number + 1) old.places.items a.grown.0 (omega (arith, inside))
        ∙ take_more old.places.items number place inside ∙ ap (λ (p : ℕ). take number old.places.items ++ p ∷ []) (sym place_is) in
        record {
          found = a.found;
          bound = a.bound ∙ g.bound;
          reached = λ other h. elim (a.only other h) as (λ _. Reaches graph start other) [
            | inl before ↦ g.reached other before
            | inr listed ↦ reaches_on graph start place other (g.reached place among) (refers_from lists place list place_within is other listed)
          ];
          first = λ other r. adds_keeps old new (Contains list.items) a other (g.first other r);
          followed = λ from other h r. elim (Contains-push_cases (take number old.places.items) place from (subst (λ (ps : List ℕ). Contains ps from) next h)) as (λ _. Contains new.places.items other) [
            | inl before ↦ adds_keeps old new (Contains list.items) a other (g.followed from other before r)
            | inr same ↦ a.all other (refers_to lists place list place_within is other (subst (λ (p : ℕ). Refers graph p other) (sym same) r))
          ];
          within = omega (arith, inside, longer);
        }

  pub numbers_end : (start number : ℕ) (f : Found) → AreGrowing graph start number f → number < length f.places.items → number < length lists
  numbers_end start number f g inside = let few = found_few f g.found in let marks = g.bound in let size = count_of lists in omega (arith, few, marks, size, inside)

  -- where all places were followed, all that are reached are found
  module _ (start number : ℕ) (f : Found) (g : AreGrowing graph start number f) (past : length f.places.items ≤ number) where
    on : (from other : ℕ) → Contains f.places.items from → Refers graph from other → Contains f.places.items other
    on from other h r = g.followed from other (subst (λ (ps : List ℕ). Contains ps from) (sym (take_all number f.places.items past)) h) r

    all_on : (from other : ℕ) → Contains f.places.items from → Reaches graph from other → Contains f.places.items other
    all_on from other h (at_once r) = on from other h r
    all_on from other h (further {next} r more) = all_on next other (on from next h r) more

    all_reached : (other : ℕ) → Reaches graph start other → Contains f.places.items other
    all_reached other (at_once r) = g.first other r
    all_reached other (further {next} r more) = all_on next other (g.first next r) more

    pub reached_is : (other : ℕ) → Contains f.places.items other ↔ Reaches graph start other
    reached_is other = (g.reached other, all_reached other)

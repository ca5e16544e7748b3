-- Strings in which a place is marked.
use Rattle.std.proofs.Common.{◌≡◌, ◌↔◌, ◌⊎◌, List, [], ◌∷◌, ◌++◌, Option, Some, None, map, refl, sym, ap, subst, ◌∙◌, inl, inr, append-nil}
use Rattle.std.specs.List.{Contains, flat_map}
use Rattle.std.specs.Option.{option_to_list}
use Rattle.std.proofs.lemmas.List.{map-append}
use Rattle.std.proofs.lemmas.List.Elements.{All-head, All-tail, Contains-append_left, Contains-append_right, Contains-append_cases}
use Rattle.std.proofs.lemmas.Option.{same_Some}
use Rattle.fsm_base.specs.declared.letters.Pair.{Pair}
use Rattle.fsm_base.specs.declared.letters.Bound.{Bound}
use Rattle.fsm_base.specs.declared.letters.Bound.TheVariants.{Edge, Inner}
use Rattle.word_relations.specs.Words.{IsDistinct, IsOver, IsConcatenation, Translates, finish, keep, omit}
use Rattle.word_relations.proofs.Members.{Contains-nil_cases, Contains-head, Contains-tail, Contains-cons_cases, Contains-map, Contains-map_cases}
use Rattle.fsa.specs.Automaton.{Automaton, UsesLetter}
use Rattle.fsa.specs.Language.{Accepts}
use Rattle.expr_meaning.specs.Operators.{inner}
use Rattle.network_algebra.specs.Networks.{all_letters, UsesOnly}
use Rattle.network_algebra.specs.Renamed.{IsRenamed, inside_of}
use Rattle.network_sets.proofs.Inside.{distinct_map, distinct_more}
use Rattle.two_level.specs.Marks.{marked, IsMarked, place_between, marked_letters, letter_row, place_row, filled_table}
use Rattle.two_level.specs.declared.marks.MarkedLetter.{MarkedLetter}
use Rattle.two_level.specs.declared.marks.MarkedLetter.TheVariants.{Letter, Place}
use Rattle.two_level.proofs.Letters.{all_distinct, edge_among, inside_all, inner_same, ended_same}

-- words of letters that all have names
all_named : {X Y : Type 0} (f : X → Y) (w : List X) (v : List Y) → map (λ x. Some (f x)) w ≡ map Some v → v ≡ map f w
all_named f [] [] is = refl
all_named f [] (y ∷ v) is = let e : [] ≡ Some y ∷ map Some v = is in absurd (cc)
all_named f (x ∷ w) [] is = let e : Some (f x) ∷ map (λ x. Some (f x)) w ≡ [] = is in absurd (cc)
all_named f (x ∷ w) (y ∷ v) is =
    let e : Some (f x) ∷ map (λ x. Some (f x)) w ≡ Some y ∷ map Some v = is in
    let head : y ≡ f x = cc in
    let tail : map (λ x. Some (f x)) w ≡ map Some v = cc in
    ap (λ z. z ∷ v) head ∙ ap (λ z. f x ∷ z) (all_named f w v tail)

names_all : {X Y : Type 0} (f : X → Y) (w : List X) → map (λ x. Some (f x)) w ≡ map Some (map f w)
names_all f [] = refl
names_all f (x ∷ w) = ap (λ z. Some (f x) ∷ z) (names_all f w)

-- the automata of parts
pub part_used : (a : Automaton (Bound Pair)) (m : Automaton MarkedLetter) → ((x : MarkedLetter) → UsesLetter m x → (y : Bound Pair) × UsesLetter a y × (Some (Letter y) ≡ Some x)) → (x : MarkedLetter) → UsesLetter m x → (y : Bound Pair) × UsesLetter a y × (x ≡ Letter y)
part_used a m letters x used = let r = letters x used in (r.0, r.1, sym (same_Some (Letter r.0) x r.2))

pub part_accepts : (a : Automaton (Bound Pair)) (m : Automaton MarkedLetter) → ((v : List MarkedLetter) → Accepts m v ↔ IsRenamed (λ x. Some (Letter x)) (Accepts a) v) → (v : List MarkedLetter) → Accepts m v ↔ ((w : List (Bound Pair)) × Accepts a w × (v ≡ map Letter w))
part_accepts a m language v = (
  λ h. let r = (language v).0 h in (r.0, r.1, all_named Letter r.0 v r.2),
  λ (w, p, is). (language v).1 (w, p, names_all Letter w ∙ ap (λ z. map Some z) (sym is)),
)

-- a place between two parts
pub marked_words : (a b : Automaton (Bound Pair)) (front place back rest m : Automaton MarkedLetter) → ((v : List MarkedLetter) → Accepts front v ↔ ((w : List (Bound Pair)) × Accepts a w × (v ≡ map Letter w))) → ((v : List MarkedLetter) → Accepts place v ↔ (v ≡ Place ∷ [])) → ((v : List MarkedLetter) → Accepts back v ↔ ((w : List (Bound Pair)) × Accepts b w × (v ≡ map Letter w)))
    → ((v : List MarkedLetter) → Accepts rest v ↔ IsConcatenation (Accepts place) (Accepts back) v) → ((v : List MarkedLetter) → Accepts m v ↔ IsConcatenation (Accepts front) (Accepts rest) v) → (v : List MarkedLetter) → Accepts m v ↔ IsMarked (Accepts a) (Accepts b) v
marked_words a b front place back rest m first second third behind whole v = (there, upwards)
  where
    there : Accepts m v → IsMarked (Accepts a) (Accepts b) v
    there h =
        let r = (whole v).0 h in
        let x = (first r.0).0 r.3 in
        let s = (behind r.1).0 r.4 in
        let y = (second s.0).0 s.3 in
        let z = (third s.1).0 s.4 in
        let back_is : r.1 ≡ Place ∷ map Letter z.0 = s.2 ∙ ap (λ u. u ++ s.1) y ∙ ap (λ u. Place ∷ u) z.2 in
        (x.0, z.0, r.2 ∙ ap (λ u. u ++ r.1) x.2 ∙ ap (λ u. map Letter x.0 ++ u) back_is, x.1, z.1)

    upwards : IsMarked (Accepts a) (Accepts b) v → Accepts m v
    upwards (x, z, is, p, q) =
        (whole v).1 (
          map Letter x,
          Place ∷ map Letter z,
          is,
          (first (map Letter x)).1 (x, p, refl),
          (behind (Place ∷ map Letter z)).1 (Place ∷ [], map Letter z, refl, (second (Place ∷ [])).1 refl, (third (map Letter z)).1 (z, q, refl)),
        )

-- letters
pub place_among : (pairs : List Pair) → Contains (marked_letters pairs) Place
place_among pairs = Contains-head Place (map Letter (all_letters pairs))

pub letter_among : (pairs : List Pair) (x : Bound Pair) → Contains (all_letters pairs) x → Contains (marked_letters pairs) (Letter x)
letter_among pairs x h = Contains-tail Place (map Letter (all_letters pairs)) (Letter x) (Contains-map Letter (all_letters pairs) x h)

part_only : (pairs : List Pair) (a : Automaton (Bound Pair)) (m : Automaton MarkedLetter) → ((x : MarkedLetter) → UsesLetter m x → (y : Bound Pair) × UsesLetter a y × (x ≡ Letter y)) → UsesOnly (all_letters pairs) a → UsesOnly (marked_letters pairs) m
part_only pairs a m letters only x used = let r = letters x used in subst (Contains (marked_letters pairs)) (sym r.2) (letter_among pairs r.0 (only r.0 r.1))

place_only : (pairs : List Pair) (m : Automaton MarkedLetter) → ((x : MarkedLetter) → UsesLetter m x → Contains (Place ∷ []) x) → UsesOnly (marked_letters pairs) m
place_only pairs m one x used =
    elim (Contains-cons_cases Place [] x (one x used)) as (λ _. Contains (marked_letters pairs) x) [
      | inl e ↦ subst (Contains (marked_letters pairs)) e (place_among pairs)
      | inr none ↦ absurd (Contains-nil_cases x none)
    ]

pub both_only : {L : Type 0} (letters : List L) (x y m : Automaton L) → ((l : L) → UsesLetter m l → UsesLetter x l ⊎ UsesLetter y l) → UsesOnly letters x → UsesOnly letters y → UsesOnly letters m
both_only letters x y m used first second l h = elim (used l h) as (λ _. Contains letters l) [ inl a ↦ first l a | inr b ↦ second l b ]

pub marked_only : (a b : Automaton (Bound Pair)) (front place back rest m : Automaton MarkedLetter) → ((x : MarkedLetter) → UsesLetter front x → (y : Bound Pair) × UsesLetter a y × (x ≡ Letter y)) → ((x : MarkedLetter) → UsesLetter place x → Contains (Place ∷ []) x) → ((x : MarkedLetter) → UsesLetter back x → (y : Bound Pair) × UsesLetter b y × (x ≡ Letter y))
    → ((x : MarkedLetter) → UsesLetter rest x → UsesLetter place x ⊎ UsesLetter back x) → ((x : MarkedLetter) → UsesLetter m x → UsesLetter front x ⊎ UsesLetter rest x) → (pairs : List Pair) → UsesOnly (all_letters pairs) a → UsesOnly (all_letters pairs) b → UsesOnly (marked_letters pairs) m
marked_only a b front place back rest m first second third behind whole pairs in_a in_b =
    both_only (marked_letters pairs) front rest m whole (part_only pairs a front first in_a) (both_only (marked_letters pairs) place back rest behind (place_only pairs place second) (part_only pairs b back third in_b))

-- marked strings over some pairs
pub parts_only : (pairs : List Pair) (a b : Automaton (Bound Pair)) (m : Automaton MarkedLetter) → UsesOnly (all_letters pairs) a → UsesOnly (all_letters pairs) b → ((ps : List Pair) → UsesOnly (all_letters ps) a → UsesOnly (all_letters ps) b → UsesOnly (marked_letters ps) m) → UsesOnly (marked_letters pairs) m
parts_only pairs a b m first second whole = whole pairs first second

letter_apart : (x y : Bound Pair) → Letter x ≡ Letter y → x ≡ y
letter_apart x y e = cc

place_new : (pairs : List Pair) → Contains (map Letter (all_letters pairs)) Place → ⊥
place_new pairs h = let r = Contains-map_cases Letter (all_letters pairs) Place h in apart r.0 r.2
  where
    apart : (x : Bound Pair) → Letter x ≡ Place → ⊥
    apart x e = cc

pub marked_distinct : (pairs : List Pair) → IsDistinct pairs → IsDistinct (marked_letters pairs)
marked_distinct pairs distinct = distinct_more Place (map Letter (all_letters pairs)) (place_new pairs) (distinct_map Letter letter_apart (all_letters pairs) (all_distinct pairs distinct))

-- a marked string tells its parts
place_same : (x y : List (Bound Pair)) (r s : List MarkedLetter) → map Letter x ++ (Place ∷ r) ≡ map Letter y ++ (Place ∷ s) → (x ≡ y) × (r ≡ s)
place_same [] [] r s is = let e : Place ∷ r ≡ Place ∷ s = is in (refl, cc)
place_same [] (b ∷ y) r s is = let e : Place ∷ r ≡ Letter b ∷ (map Letter y ++ (Place ∷ s)) = is in absurd (cc)
place_same (a ∷ x) [] r s is = let e : Letter a ∷ (map Letter x ++ (Place ∷ r)) ≡ Place ∷ s = is in absurd (cc)
place_same (a ∷ x) (b ∷ y) r s is =
    let e : Letter a ∷ (map Letter x ++ (Place ∷ r)) ≡ Letter b ∷ (map Letter y ++ (Place ∷ s)) = is in
    let head : a ≡ b = cc in
    let tail : map Letter x ++ (Place ∷ r) ≡ map Letter y ++ (Place ∷ s) = cc in
    let rest = place_same x y r s tail in
    (ap (λ z. z ∷ x) head ∙ ap (λ z. b ∷ z) rest.0, rest.1)

parts_same : (x y : List (Bound Pair)) → map Letter x ≡ map Letter y → x ≡ y
parts_same [] [] is = refl
parts_same [] (b ∷ y) is = let e : [] ≡ Letter b ∷ map Letter y = is in absurd (cc)
parts_same (a ∷ x) [] is = let e : Letter a ∷ map Letter x ≡ [] = is in absurd (cc)
parts_same (a ∷ x) (b ∷ y) is =
    let e : Letter a ∷ map Letter x ≡ Letter b ∷ map Letter y = is in
    let head : a ≡ b = cc in
    let tail : map Letter x ≡ map Letter y = cc in
    ap (λ z. z ∷ x) head ∙ ap (λ z. b ∷ z) (parts_same x y tail)

pub marked_same : (a b x z : List (Bound Pair)) → marked a b ≡ marked x z → (a ≡ x) × (b ≡ z)
marked_same a b x z is = let r = place_same a x (map Letter b) (map Letter z) is in (r.0, parts_same b z r.1)

pub between_same : (a b x z : List Pair) → place_between a b ≡ place_between x z → (a ≡ x) × (b ≡ z)
between_same a b x z is =
    let r = marked_same (Edge ∷ inner a) (inner b ++ Edge ∷ []) (Edge ∷ inner x) (inner z ++ Edge ∷ []) is in
    (inner_same a x (tail r.0), ended_same b z r.1)
  where
    tail : Edge ∷ inner a ≡ Edge ∷ inner x → inner a ≡ inner x
    tail e = cc

-- what is put for marked strings
module _ (pairs : List Pair) (fillings : List (Option Pair)) where
  abbrev EdgesByState : List (MarkedLetter × Option Pair)
  EdgesByState = filled_table pairs fillings

  letter_row_among : (x : Bound Pair) → Contains (all_letters pairs) x → Contains {X = MarkedLetter × Option Pair} EdgesByState (Letter x, inside_of x)
  letter_row_among x h = Contains-append_left (map letter_row (all_letters pairs)) (map place_row fillings) (letter_row x) (Contains-map letter_row (all_letters pairs) x h)

  place_row_among : (o : Option Pair) → Contains fillings o → Contains {X = MarkedLetter × Option Pair} EdgesByState (Place, o)
  place_row_among o h = Contains-append_right (map letter_row (all_letters pairs)) (map place_row fillings) (place_row o) (Contains-map place_row fillings o h)

  letter_row_is : (x : Bound Pair) (o : Option Pair) → Contains {X = MarkedLetter × Option Pair} EdgesByState (Letter x, o) → o ≡ inside_of x
  letter_row_is x o h =
      elim (Contains-append_cases (map letter_row (all_letters pairs)) (map place_row fillings) (Letter x, o) h) as (λ _. o ≡ inside_of x) [
        | inl a ↦ let r = Contains-map_cases letter_row (all_letters pairs) (Letter x, o) a in from r.0 r.2
        | inr b ↦ let r = Contains-map_cases place_row fillings (Letter x, o) b in absurd (other r.0 r.2)
      ]
    where
      from : (y : Bound Pair) → letter_row y ≡ (Letter x, o) → o ≡ inside_of x
      from y e =
          let key : Letter y ≡ Letter x = ap (λ (p : MarkedLetter × Option Pair). p.0) e in
          sym (ap (λ (p : MarkedLetter × Option Pair). p.1) e) ∙ ap inside_of (letter_apart y x key)

      other : (f : Option Pair) → place_row f ≡ (Letter x, o) → ⊥
      other f e = let key : Place ≡ Letter x = ap (λ (p : MarkedLetter × Option Pair). p.0) e in cc

  place_row_is : (o : Option Pair) → Contains {X = MarkedLetter × Option Pair} EdgesByState (Place, o) → Contains fillings o
  place_row_is o h =
      elim (Contains-append_cases (map letter_row (all_letters pairs)) (map place_row fillings) (Place, o) h) as (λ _. Contains fillings o) [
        | inl a ↦ let r = Contains-map_cases letter_row (all_letters pairs) (Place, o) a in absurd (other r.0 r.2)
        | inr b ↦ let r = Contains-map_cases place_row fillings (Place, o) b in subst (Contains fillings) (ap (λ (p : MarkedLetter × Option Pair). p.1) r.2) r.1
      ]
    where
      other : (y : Bound Pair) → letter_row y ≡ (Place, o) → ⊥
      other y e = let key : Letter y ≡ Place = ap (λ (p : MarkedLetter × Option Pair). p.0) e in cc

  -- the pairs of a part
  abbrev pairs_in : List (Bound Pair) → List Pair
  pairs_in w = flat_map (λ x. option_to_list (inside_of x)) w

  pairs_inner : (u : List Pair) → pairs_in (inner u) ≡ u
  pairs_inner [] = refl
  pairs_inner (x ∷ u) = ap (λ z. x ∷ z) (pairs_inner u)

  pairs_ended : (u : List Pair) → pairs_in (inner u ++ Edge ∷ []) ≡ u
  pairs_ended [] = refl
  pairs_ended (x ∷ u) = ap (λ z. x ∷ z) (pairs_ended u)

  -- what was put for a part, and what for the rest
  read_part : (w : List (Bound Pair)) (v : List MarkedLetter) (p : List Pair) → Translates EdgesByState (map Letter w ++ v) p → (q : List Pair) × (p ≡ pairs_in w ++ q) × Translates EdgesByState v q
  read_part [] v p t = (p, refl, t)
  read_part (x ∷ w) v p t = by (λ r rest. read_part w v r rest) t refl
    where
      by : ((r : List Pair) → Translates EdgesByState (map Letter w ++ v) r → (q : List Pair) × (r ≡ pairs_in w ++ q) × Translates EdgesByState v q)
          → {u : List MarkedLetter} {p : List Pair} → Translates EdgesByState u p → u ≡ Letter x ∷ (map Letter w ++ v) → (q : List Pair) × (p ≡ pairs_in (x ∷ w) ++ q) × Translates EdgesByState v q
      by behind finish e = absurd (cc)
      by behind (keep {x = a} {y = y} {v = b} {w = r} row rest) e =
          let head : a ≡ Letter x = cc in
          let tail : b ≡ map Letter w ++ v = cc in
          let is : Some y ≡ inside_of x = letter_row_is x (Some y) (subst (λ z. Contains {X = MarkedLetter × Option Pair} EdgesByState (z, Some y)) head row) in
          let more = behind r (subst (λ z. Translates EdgesByState z r) tail rest) in
          (more.0, ap (λ z. y ∷ z) more.1 ∙ ap (λ (o : Option Pair). (option_to_list o ++ pairs_in w) ++ more.0) is, more.2)
      by behind (omit {x = a} {v = b} {w = r} row rest) e =
          let head : a ≡ Letter x = cc in
          let tail : b ≡ map Letter w ++ v = cc in
          let is : None ≡ inside_of x = letter_row_is x None (subst (λ z. Contains {X = MarkedLetter × Option Pair} EdgesByState (z, None)) head row) in
          let more = behind r (subst (λ z. Translates EdgesByState z r) tail rest) in
          (more.0, more.1 ∙ ap (λ (o : Option Pair). (option_to_list o ++ pairs_in w) ++ more.0) is, more.2)

  read_place : (v : List MarkedLetter) (p : List Pair) → Translates EdgesByState (Place ∷ v) p → (o : Option Pair) × (q : List Pair) × Contains fillings o × (p ≡ option_to_list o ++ q) × Translates EdgesByState v q
  read_place v p t = by t refl
    where
      by : {u : List MarkedLetter} {p : List Pair} → Translates EdgesByState u p → u ≡ Place ∷ v → (o : Option Pair) × (q : List Pair) × Contains fillings o × (p ≡ option_to_list o ++ q) × Translates EdgesByState v q
      by finish e = absurd (cc)
      by (keep {x = a} {y = y} {v = b} {w = r} row rest) e =
          let head : a ≡ Place = cc in
          let tail : b ≡ v = cc in
          (Some y, r, place_row_is (Some y) (subst (λ z. Contains {X = MarkedLetter × Option Pair} EdgesByState (z, Some y)) head row), refl, subst (λ z. Translates EdgesByState z r) tail rest)
      by (omit {x = a} {v = b} {w = r} row rest) e =
          let head : a ≡ Place = cc in
          let tail : b ≡ v = cc in
          (None, r, place_row_is None (subst (λ z. Contains {X = MarkedLetter × Option Pair} EdgesByState (z, None)) head row), refl, subst (λ z. Translates EdgesByState z r) tail rest)

  read_end : (p : List Pair) → Translates EdgesByState [] p → p ≡ []
  read_end p t = by t refl
    where
      by : {u : List MarkedLetter} {p : List Pair} → Translates EdgesByState u p → u ≡ [] → p ≡ []
      by finish e = refl
      by (keep row rest) e = absurd (cc)
      by (omit row rest) e = absurd (cc)

  -- the place is filled
  pub filled_back : (x z p : List Pair) → Translates EdgesByState (place_between x z) p → (o : Option Pair) × Contains fillings o × (p ≡ x ++ (option_to_list o ++ z))
  filled_back x z p t =
      let front = read_part (Edge ∷ inner x) (Place ∷ map Letter (inner z ++ Edge ∷ [])) p t in
      let place = read_place (map Letter (inner z ++ Edge ∷ [])) front.0 front.2 in
      let o = place.0 in
      let back = read_part (inner z ++ Edge ∷ []) [] place.1 (subst (λ u. Translates EdgesByState u place.1) (sym (append-nil (map Letter (inner z ++ Edge ∷ [])))) place.4) in
      let behind : place.1 ≡ z = back.1 ∙ ap (λ u. pairs_in (inner z ++ Edge ∷ []) ++ u) (read_end back.0 back.2) ∙ append-nil (pairs_in (inner z ++ Edge ∷ [])) ∙ pairs_ended z in
      (o, place.2, front.1 ∙ ap (λ u. u ++ front.0) (pairs_inner x) ∙ ap (λ u. x ++ u) place.3 ∙ ap (λ u. x ++ (option_to_list o ++ u)) behind)

  put_part : (u : List Pair) (v : List MarkedLetter) (q : List Pair) → IsOver pairs u → Translates EdgesByState v q → Translates EdgesByState (map Letter (inner u) ++ v) (u ++ q)
  put_part [] v q over rest = rest
  put_part (x ∷ u) v q over rest =
      keep (letter_row_among (Inner x) (inside_all pairs (Inner x) (Contains-map Inner pairs x (All-head (Contains pairs) x u over)))) (put_part u v q (All-tail (Contains pairs) x u over) rest)

  put_edge : (v : List MarkedLetter) (q : List Pair) → Translates EdgesByState v q → Translates EdgesByState (Letter Edge ∷ v) q
  put_edge v q rest = omit (letter_row_among Edge (edge_among pairs)) rest

  put_place : (o : Option Pair) (v : List MarkedLetter) (q : List Pair) → Contains fillings o → Translates EdgesByState v q → Translates EdgesByState (Place ∷ v) (option_to_list o ++ q)
  put_place None v q h rest = omit (place_row_among None h) rest
  put_place (Some y) v q h rest = keep (place_row_among (Some y) h) rest

  pub filled : (x z : List Pair) (o : Option Pair) → IsOver pairs x → IsOver pairs z → Contains fillings o → Translates EdgesByState (place_between x z) (x ++ (option_to_list o ++ z))
  filled x z o over_x over_z h =
      let last : Translates EdgesByState (map Letter (inner z) ++ (Letter Edge ∷ [])) (z ++ []) = put_part z (Letter Edge ∷ []) [] over_z (put_edge [] [] finish) in
      let ended : Translates EdgesByState (map Letter (inner z ++ Edge ∷ [])) (z ++ []) = subst (λ v. Translates EdgesByState v (z ++ [])) (sym (map-append Letter (inner z) (Edge ∷ []))) last in
      let behind : Translates EdgesByState (map Letter (inner z ++ Edge ∷ [])) z = subst (λ w. Translates EdgesByState (map Letter (inner z ++ Edge ∷ [])) w) (append-nil z) ended in
      put_edge (map Letter (inner x) ++ (Place ∷ map Letter (inner z ++ Edge ∷ []))) (x ++ (option_to_list o ++ z))
      (put_part x (Place ∷ map Letter (inner z ++ Edge ∷ [])) (option_to_list o ++ z) over_x (put_place o (map Letter (inner z ++ Edge ∷ [])) z h behind))

  -- what is put is a pair
  pub filled_letter : ((x : Pair) → Contains fillings (Some x) → Contains pairs x) → (x : MarkedLetter) (y : Pair) → Contains {X = MarkedLetter × Option Pair} EdgesByState (x, Some y) → Contains pairs y
  filled_letter known x y h =
      elim (Contains-append_cases (map letter_row (all_letters pairs)) (map place_row fillings) (x, Some y) h) as (λ _. Contains pairs y) [
        | inl a ↦ let r = Contains-map_cases letter_row (all_letters pairs) (x, Some y) a in by r.0 (ap (λ (p : MarkedLetter × Option Pair). p.1) r.2) r.1
        | inr b ↦ let r = Contains-map_cases place_row fillings (x, Some y) b in known y (subst (Contains fillings) (ap (λ (p : MarkedLetter × Option Pair). p.1) r.2) r.1)
      ]
    where
      by : (z : Bound Pair) → inside_of z ≡ Some y → Contains (all_letters pairs) z → Contains pairs y
      by Edge e among = let clash : None ≡ Some y = e in absurd (cc)
      by (Inner s) e among =
          let one : Some s ≡ Some y = e in
          let same : s ≡ y = cc in
          elim (Contains-cons_cases Edge (inner pairs) (Inner s) among) as (λ _. Contains pairs y) [
            | inl f ↦ absurd (clash s f)
            | inr t ↦ let r = Contains-map_cases Inner pairs (Inner s) t in subst (Contains pairs) (same_inner r.0 s r.2 ∙ same) r.1
          ]
        where
          clash : (s : Pair) → Edge ≡ Inner s → ⊥
          clash s f = cc

          same_inner : (a b : Pair) → Inner a ≡ Inner b → a ≡ b
          same_inner a b f = cc

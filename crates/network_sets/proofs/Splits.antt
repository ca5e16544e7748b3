-- Split words.
use Rattle.std.proofs.Common.{◌≡◌, ◌↔◌, ◌⊎◌, List, [], ◌∷◌, ◌++◌, Option, Some, None, map, refl, sym, ap, subst, ◌∙◌, inl, inr, append_assoc, append-nil}
use Rattle.std.specs.List.{Contains, flat_map}
use Rattle.std.specs.Option.{option_to_list}
use Rattle.std.proofs.lemmas.List.Concat.{flat_map-append}
use Rattle.std.proofs.lemmas.List.Elements.{All-head, All-tail}
use Rattle.fsm_base.specs.declared.letters.Sym.{Sym}
use Rattle.fsm_base.specs.declared.letters.Bound.{Bound}
use Rattle.fsm_base.specs.declared.letters.Bound.TheVariants.{Edge, Inner}
use Rattle.std.proofs.lemmas.Option.{same_Some}
use Rattle.word_relations.specs.Words.{IsDistinct, IsOver, IsConcatenation, Translates, finish, keep, omit}
use Rattle.word_relations.proofs.Members.{Contains-nil_cases, Contains-head, Contains-tail, Contains-cons_cases, Contains-map, Contains-map_cases}
use Rattle.fsa.specs.Automaton.{Automaton, UsesLetter}
use Rattle.fsa.specs.Language.{Accepts}
use Rattle.expr_meaning.specs.Operators.{inner, WithEdge, HasSuffix, HasPrefix}
use Rattle.network_algebra.specs.Networks.{all_letters, UsesOnly}
use Rattle.network_algebra.specs.Renamed.{IsRenamed}
use Rattle.network_sets.specs.Split.{split, IsSplit, IsBordered, split_letters, IsPlace, kept, kept_table}
use Rattle.network_sets.specs.declared.parts.Split.{Split}
use Rattle.network_sets.specs.declared.parts.Split.TheVariants.{Letter, Border}
use Rattle.network_algebra.proofs.Meanings.{inner_among}
use Rattle.network_sets.proofs.Inside.{over_left, over_right, inside_all, distinct_map, distinct_more, all_distinct}

-- words of letters that all have names
all_named : {X Y : Type 0} (f : X → Y) (w : List X) (v : List Y) → map (λ x. Some (f x)) w ≡ map Some v → v ≡ map f w
all_named f [] [] is = refl
all_named f [] (y ∷ v) is = let e : [] ≡ Some y ∷ map Some v = is in absurd (cc)
all_named f (x ∷ w) [] is = let e : Some (f x) ∷ map (λ x. Some (f x)) w ≡ [] = is in absurd (cc)
all_named f (x ∷ w) (y ∷ v) is =
    let e : Some (f x) ∷ map (λ x. Some (f x)) w ≡ Some y ∷ map Some v = is in
    let head : y ≡ f x = cc in
    let tail : map (λ x. Some (f x)) w ≡ map Some v = cc in
    ap (λ z. z ∷ v) head ∙ ap (λ z. f x ∷ z) (all_named f w v tail)

names_all : {X Y : Type 0} (f : X → Y) (w : List X) → map (λ x. Some (f x)) w ≡ map Some (map f w)
names_all f [] = refl
names_all f (x ∷ w) = ap (λ z. Some (f x) ∷ z) (names_all f w)

pub part_words : (P : List (Bound Sym) → Type 0) (v : List Split) → IsRenamed (λ x. Some (Letter x)) P v ↔ ((w : List (Bound Sym)) × P w × (v ≡ map Letter w))
part_words P v = (
  λ (w, p, is). (w, p, all_named Letter w v is),
  λ (w, p, is). (w, p, names_all Letter w ∙ ap (λ z. map Some z) (sym is)),
)

pub bordered_words : (a : Automaton (Bound Sym)) (part border m : Automaton Split) → ((v : List Split) → Accepts part v ↔ ((w : List (Bound Sym)) × Accepts a w × (v ≡ map Letter w))) → ((v : List Split) → Accepts border v ↔ (v ≡ Border ∷ []))
    → ((v : List Split) → Accepts m v ↔ IsConcatenation (Accepts part) (Accepts border) v) → (v : List Split) → Accepts m v ↔ IsBordered (Accepts a) v
bordered_words a part border m first second language v = (
  λ h.
      let r = (language v).0 h in
      let p = (first r.0).0 r.3 in
      (p.0, p.1, r.2 ∙ ap (λ z. z ++ r.1) p.2 ∙ ap (λ z. map Letter p.0 ++ z) ((second r.1).0 r.4)),
  λ (w, p, is). (language v).1 (map Letter w, Border ∷ [], is, (first (map Letter w)).1 (w, p, refl), (second (Border ∷ [])).1 refl),
)

-- a border between two words
between : (x y : List Split) → (x ++ Border ∷ []) ++ y ≡ x ++ (Border ∷ y)
between x y = append_assoc x (Border ∷ []) y

pub split_words_are : (a b c : Automaton (Bound Sym)) (front middle back rest m : Automaton Split) → ((v : List Split) → Accepts front v ↔ IsBordered (Accepts a) v) → ((v : List Split) → Accepts middle v ↔ IsBordered (Accepts b) v) → ((v : List Split) → Accepts back v ↔ ((w : List (Bound Sym)) × Accepts c w × (v ≡ map Letter w)))
    → ((v : List Split) → Accepts rest v ↔ IsConcatenation (Accepts middle) (Accepts back) v) → ((v : List Split) → Accepts m v ↔ IsConcatenation (Accepts front) (Accepts rest) v) → (v : List Split) → Accepts m v ↔ IsSplit (Accepts a) (Accepts b) (Accepts c) v
split_words_are a b c front middle back rest m first second third behind whole v = (there, upwards)
  where
    there : Accepts m v → IsSplit (Accepts a) (Accepts b) (Accepts c) v
    there h =
        let r = (whole v).0 h in
        let x = (first r.0).0 r.3 in
        let s = (behind r.1).0 r.4 in
        let y = (second s.0).0 s.3 in
        let z = (third s.1).0 s.4 in
        let back_is : r.1 ≡ map Letter y.0 ++ (Border ∷ map Letter z.0) = s.2 ∙ ap (λ u. u ++ s.1) y.2 ∙ ap (λ u. (map Letter y.0 ++ Border ∷ []) ++ u) z.2 ∙ between (map Letter y.0) (map Letter z.0) in
        (x.0, y.0, z.0, r.2 ∙ ap (λ u. u ++ r.1) x.2 ∙ ap (λ u. (map Letter x.0 ++ Border ∷ []) ++ u) back_is ∙ between (map Letter x.0) (map Letter y.0 ++ (Border ∷ map Letter z.0)), x.1, y.1, z.1)

    upwards : IsSplit (Accepts a) (Accepts b) (Accepts c) v → Accepts m v
    upwards (x, y, z, is, p, q, r) =
        let front_word : List Split = map Letter x ++ Border ∷ [] in
        let middle_word : List Split = map Letter y ++ Border ∷ [] in
        (whole v).1 (
          front_word,
          middle_word ++ map Letter z,
          is ∙ sym (between (map Letter x) (map Letter y ++ (Border ∷ map Letter z))) ∙ ap (λ u. front_word ++ u) (sym (between (map Letter y) (map Letter z))),
          (first front_word).1 (x, p, refl),
          (behind (middle_word ++ map Letter z)).1 (middle_word, map Letter z, refl, (second middle_word).1 (y, q, refl), (third (map Letter z)).1 (z, r, refl)),
        )

-- letters
pub border_among : (symbols : List Sym) → Contains (split_letters symbols) Border
border_among symbols = Contains-head Border (map Letter (all_letters symbols))

pub part_among : (symbols : List Sym) (x : Bound Sym) → Contains (all_letters symbols) x → Contains (split_letters symbols) (Letter x)
part_among symbols x h = Contains-tail Border (map Letter (all_letters symbols)) (Letter x) (Contains-map Letter (all_letters symbols) x h)

pub part_only : (symbols : List Sym) (a : Automaton (Bound Sym)) (m : Automaton Split) → ((x : Split) → UsesLetter m x → (y : Bound Sym) × UsesLetter a y × (x ≡ Letter y)) → UsesOnly (all_letters symbols) a → UsesOnly (split_letters symbols) m
part_only symbols a m letters only x used = let r = letters x used in subst (Contains (split_letters symbols)) (sym r.2) (part_among symbols r.0 (only r.0 r.1))

pub bordered_only : (symbols : List Sym) (part border m : Automaton Split) → ((x : Split) → UsesLetter m x → UsesLetter part x ⊎ UsesLetter border x) → UsesOnly (split_letters symbols) part → ((x : Split) → UsesLetter border x → Contains (Border ∷ []) x) → UsesOnly (split_letters symbols) m
bordered_only symbols part border m letters only one x used =
    elim (letters x used) as (λ _. Contains (split_letters symbols) x) [
      | inl h ↦ only x h
      | inr h ↦ let r = one x h in subst (Contains (split_letters symbols)) (is r) (border_among symbols)
    ]
  where
    is : Contains (Border ∷ []) x → Border ≡ x
    is h = elim (Contains-cons_cases Border [] x h) as (λ _. Border ≡ x) [ inl e ↦ e | inr none ↦ absurd (Contains-nil_cases x none) ]

pub bordered_used : (a : Automaton (Bound Sym)) (part border m : Automaton Split) → ((x : Split) → UsesLetter part x → (y : Bound Sym) × UsesLetter a y × (x ≡ Letter y)) → ((x : Split) → UsesLetter border x → Contains (Border ∷ []) x) → ((x : Split) → UsesLetter m x → UsesLetter part x ⊎ UsesLetter border x)
    → (symbols : List Sym) → UsesOnly (all_letters symbols) a → UsesOnly (split_letters symbols) m
bordered_used a part border m first one letters symbols only = bordered_only symbols part border m letters (part_only symbols a part first only) one

pub both_only : {L : Type 0} (letters : List L) (x y m : Automaton L) → ((l : L) → UsesLetter m l → UsesLetter x l ⊎ UsesLetter y l) → UsesOnly letters x → UsesOnly letters y → UsesOnly letters m
both_only letters x y m used first second l h = elim (used l h) as (λ _. Contains letters l) [ inl a ↦ first l a | inr b ↦ second l b ]

-- a split word tells its parts
border_same : (x y : List (Bound Sym)) (r s : List Split) → map Letter x ++ (Border ∷ r) ≡ map Letter y ++ (Border ∷ s) → (x ≡ y) × (r ≡ s)
border_same [] [] r s is = let e : Border ∷ r ≡ Border ∷ s = is in (refl, cc)
border_same [] (b ∷ y) r s is = let e : Border ∷ r ≡ Letter b ∷ (map Letter y ++ (Border ∷ s)) = is in absurd (cc)
border_same (a ∷ x) [] r s is = let e : Letter a ∷ (map Letter x ++ (Border ∷ r)) ≡ Border ∷ s = is in absurd (cc)
border_same (a ∷ x) (b ∷ y) r s is =
    let e : Letter a ∷ (map Letter x ++ (Border ∷ r)) ≡ Letter b ∷ (map Letter y ++ (Border ∷ s)) = is in
    let head : a ≡ b = cc in
    let tail : map Letter x ++ (Border ∷ r) ≡ map Letter y ++ (Border ∷ s) = cc in
    let rest = border_same x y r s tail in
    (ap (λ z. z ∷ x) head ∙ ap (λ z. b ∷ z) rest.0, rest.1)

parts_same : (x y : List (Bound Sym)) → map Letter x ≡ map Letter y → x ≡ y
parts_same [] [] is = refl
parts_same [] (b ∷ y) is = let e : [] ≡ Letter b ∷ map Letter y = is in absurd (cc)
parts_same (a ∷ x) [] is = let e : Letter a ∷ map Letter x ≡ [] = is in absurd (cc)
parts_same (a ∷ x) (b ∷ y) is =
    let e : Letter a ∷ map Letter x ≡ Letter b ∷ map Letter y = is in
    let head : a ≡ b = cc in
    let tail : map Letter x ≡ map Letter y = cc in
    ap (λ z. z ∷ x) head ∙ ap (λ z. b ∷ z) (parts_same x y tail)

pub split_same : (a b c x y z : List (Bound Sym)) → split a b c ≡ split x y z → (a ≡ x) × (b ≡ y) × (c ≡ z)
split_same a b c x y z is =
    let first = border_same a x (map Letter b ++ (Border ∷ map Letter c)) (map Letter y ++ (Border ∷ map Letter z)) is in
    let second = border_same b y (map Letter c) (map Letter z) first.1 in
    (first.0, second.0, parts_same c z second.1)

-- the words in a context
pub context_words : (symbols : List Sym) (left right any before behind : Automaton (Bound Sym)) (m : Automaton Split) → ((w : List (Bound Sym)) → Accepts any w ↔ IsOver (all_letters symbols) w)
    → ((w : List (Bound Sym)) → Accepts before w ↔ IsConcatenation (Accepts any) (Accepts left) w) → ((w : List (Bound Sym)) → Accepts behind w ↔ IsConcatenation (Accepts right) (Accepts any) w)
    → ((v : List Split) → Accepts m v ↔ IsSplit (Accepts before) (Accepts any) (Accepts behind) v)
    → (x y z : List (Bound Sym)) → IsOver (all_letters symbols) x → IsOver (all_letters symbols) y → IsOver (all_letters symbols) z → Accepts m (split x y z) ↔ (HasSuffix (Accepts left) x × HasPrefix (Accepts right) z)
context_words symbols left right any before behind m any_is before_is behind_is language x y z over_x over_y over_z = (there, upwards)
  where
    there : Accepts m (split x y z) → HasSuffix (Accepts left) x × HasPrefix (Accepts right) z
    there h =
        let r = (language (split x y z)).0 h in
        let same = split_same x y z r.0 r.1 r.2 r.3 in
        let first = (before_is r.0).0 r.4 in
        let last = (behind_is r.2).0 r.6 in
        ((first.0, first.1, same.0 ∙ first.2, first.4), (last.0, last.1, same.2 ∙ last.2, last.3))

    upwards : HasSuffix (Accepts left) x × HasPrefix (Accepts right) z → Accepts m (split x y z)
    upwards ((front, back, is, l), (head, tail, e, r)) =
        let over_front : IsOver (all_letters symbols) front = over_left (Contains (all_letters symbols)) front back (subst (IsOver (all_letters symbols)) is over_x) in
        let over_tail : IsOver (all_letters symbols) tail = over_right (Contains (all_letters symbols)) head tail (subst (IsOver (all_letters symbols)) e over_z) in
        (language (split x y z)).1 (
          x,
          y,
          z,
          refl,
          (before_is x).1 (front, back, is, (any_is front).1 over_front, l),
          (any_is y).1 over_y,
          (behind_is z).1 (head, tail, e, r, (any_is tail).1 over_tail),
        )

-- the places of a language
pub place_words : (symbols : List Sym) (centre any edge part before behind : Automaton (Bound Sym)) (m : Automaton Split) → ((w : List (Bound Sym)) → Accepts any w ↔ IsOver (inner symbols) w) → ((w : List (Bound Sym)) → Accepts edge w ↔ (w ≡ Edge ∷ []))
    → ((w : List (Bound Sym)) → Accepts part w ↔ WithEdge (λ u. Accepts centre (inner u)) w)
    → ((w : List (Bound Sym)) → Accepts before w ↔ IsConcatenation (Accepts edge) (Accepts any) w) → ((w : List (Bound Sym)) → Accepts behind w ↔ IsConcatenation (Accepts any) (Accepts edge) w)
    → ((v : List Split) → Accepts m v ↔ IsSplit (Accepts before) (Accepts part) (Accepts behind) v) → (v : List Split) → Accepts m v ↔ IsPlace symbols (Accepts centre) v
place_words symbols centre any edge part before behind m any_is edge_is part_is before_is behind_is language v = (there, upwards)
  where
    there : Accepts m v → IsPlace symbols (Accepts centre) v
    there h =
        let r = (language v).0 h in
        let first = (before_is r.0).0 r.4 in
        let middle = (part_is r.1).0 r.5 in
        let last = (behind_is r.2).0 r.6 in
        let before_word : r.0 ≡ Edge ∷ first.1 = first.2 ∙ ap (λ z. z ++ first.1) ((edge_is first.0).0 first.3) in
        let behind_word : r.2 ≡ last.0 ++ Edge ∷ [] = last.2 ∙ ap (λ z. last.0 ++ z) ((edge_is last.1).0 last.4) in (
          first.1,
          middle.0,
          last.0,
          r.3 ∙ ap (λ z. split z r.1 r.2) before_word ∙ ap (λ z. split (Edge ∷ first.1) z r.2) middle.1 ∙ ap (λ z. split (Edge ∷ first.1) (inner middle.0) z) behind_word,
          (any_is first.1).0 first.4,
          middle.2,
          (any_is last.0).0 last.3,
        )

    upwards : IsPlace symbols (Accepts centre) v → Accepts m v
    upwards (x, y, z, is, over_x, p, over_z) =
        (language v).1 (
          Edge ∷ x,
          inner y,
          z ++ Edge ∷ [],
          is,
          (before_is (Edge ∷ x)).1 (Edge ∷ [], x, refl, (edge_is (Edge ∷ [])).1 refl, (any_is x).1 over_x),
          (part_is (inner y)).1 (y, refl, p),
          (behind_is (z ++ Edge ∷ [])).1 (z, Edge ∷ [], refl, (any_is z).1 over_z, (edge_is (Edge ∷ [])).1 refl),
        )

-- what is left of a split word
abbrev pub left_of : List Split → List (Bound Sym)
left_of v = flat_map (λ x. option_to_list (kept x)) v

left_append : (v w : List Split) → left_of (v ++ w) ≡ left_of v ++ left_of w
left_append v w = flat_map-append (λ x. option_to_list (kept x)) v w

left_inner : (u : List Sym) → left_of (map Letter (inner u)) ≡ inner u
left_inner [] = refl
left_inner (x ∷ u) = ap (λ z. Inner x ∷ z) (left_inner u)

row_is : (letters : List Split) (x : Split) (o : Option (Bound Sym)) → Contains {X = Split × Option (Bound Sym)} (kept_table letters) (x, o) → o ≡ kept x
row_is letters x o h =
    let r = Contains-map_cases (λ (y : Split). (y, kept y)) letters (x, o) h in
    let key : r.0 ≡ x = ap (λ (p : Split × Option (Bound Sym)). p.0) r.2 in
    sym (ap (λ (p : Split × Option (Bound Sym)). p.1) r.2) ∙ ap kept key

pub translated : (letters : List Split) {v : List Split} {w : List (Bound Sym)} → Translates (kept_table letters) v w → w ≡ left_of v
translated letters finish = refl
translated letters (keep {x = x} {y = y} {v = v} {w = w} row rest) =
    let is : Some y ≡ kept x = row_is letters x (Some y) row in
    ap (λ z. y ∷ z) (translated letters rest) ∙ ap (λ (o : Option (Bound Sym)). option_to_list o ++ left_of v) is
translated letters (omit {x = x} {v = v} {w = w} row rest) =
    let is : None ≡ kept x = row_is letters x None row in
    translated letters rest ∙ ap (λ (o : Option (Bound Sym)). option_to_list o ++ left_of v) is

row_among : (letters : List Split) (x : Split) → Contains letters x → Contains {X = Split × Option (Bound Sym)} (kept_table letters) (x, kept x)
row_among letters x h = Contains-map (λ (y : Split). (y, kept y)) letters x h

module _ (symbols : List Sym) where
  abbrev Rows : List (Split × Option (Bound Sym))
  Rows = kept_table (split_letters symbols)

  -- a part without the edge is kept
  keep_part : (x : List (Bound Sym)) (v : List Split) (w : List (Bound Sym)) → IsOver (inner symbols) x → Translates Rows v w → Translates Rows (map Letter x ++ v) (x ++ w)
  keep_part [] v w over rest = rest
  keep_part (Edge ∷ x) v w over rest =
      let r = Contains-map_cases Inner symbols Edge (All-head (Contains (inner symbols)) Edge x over) in
      let e : Inner r.0 ≡ Edge = r.2 in absurd (cc)
  keep_part (Inner s ∷ x) v w over rest =
      let among : Contains (split_letters symbols) (Letter (Inner s)) = part_among symbols (Inner s) (inside_all symbols (Inner s) (All-head (Contains (inner symbols)) (Inner s) x over)) in
      keep (row_among (split_letters symbols) (Letter (Inner s)) among) (keep_part x v w (All-tail (Contains (inner symbols)) (Inner s) x over) rest)

  omit_border : (v : List Split) (w : List (Bound Sym)) → Translates Rows v w → Translates Rows (Border ∷ v) w
  omit_border v w rest = omit (row_among (split_letters symbols) Border (border_among symbols)) rest

  omit_edge : (v : List Split) (w : List (Bound Sym)) → Translates Rows v w → Translates Rows (Letter Edge ∷ v) w
  omit_edge v w rest = omit (row_among (split_letters symbols) (Letter Edge) (part_among symbols Edge (Contains-head Edge (inner symbols)))) rest

  edge_behind : (z : List (Bound Sym)) → map Letter (z ++ Edge ∷ []) ≡ map Letter z ++ (Letter Edge ∷ [])
  edge_behind [] = refl
  edge_behind (x ∷ z) = ap (λ v. Letter x ∷ v) (edge_behind z)

  -- dropping borders and edges joins the parts
  pub place_kept : (x y z : List (Bound Sym)) → IsOver (inner symbols) x → IsOver (inner symbols) y → IsOver (inner symbols) z → Translates Rows (split (Edge ∷ x) y (z ++ Edge ∷ [])) (x ++ (y ++ z))
  place_kept x y z over_x over_y over_z =
      let none : Translates Rows (Letter Edge ∷ []) [] = omit_edge [] [] finish in
      let last : Translates Rows (map Letter z ++ (Letter Edge ∷ [])) (z ++ []) = keep_part z (Letter Edge ∷ []) [] over_z none in
      let third : Translates Rows (map Letter (z ++ Edge ∷ [])) z = subst (λ v. Translates Rows v z) (sym (edge_behind z)) (subst (λ w. Translates Rows (map Letter z ++ (Letter Edge ∷ [])) w) (append-nil z) last) in
      let second : Translates Rows (map Letter y ++ (Border ∷ map Letter (z ++ Edge ∷ []))) (y ++ z) = keep_part y (Border ∷ map Letter (z ++ Edge ∷ [])) z over_y (omit_border (map Letter (z ++ Edge ∷ [])) z third) in
      let first : Translates Rows (map Letter x ++ (Border ∷ (map Letter y ++ (Border ∷ map Letter (z ++ Edge ∷ []))))) (x ++ (y ++ z)) =
      keep_part x (Border ∷ (map Letter y ++ (Border ∷ map Letter (z ++ Edge ∷ [])))) (y ++ z) over_x (omit_border (map Letter y ++ (Border ∷ map Letter (z ++ Edge ∷ []))) (y ++ z) second) in
      omit_edge (map Letter x ++ (Border ∷ (map Letter y ++ (Border ∷ map Letter (z ++ Edge ∷ []))))) (x ++ (y ++ z)) first

  pub place_left : (x y z : List Sym) → left_of (split (Edge ∷ inner x) (inner y) (inner z ++ Edge ∷ [])) ≡ inner x ++ (inner y ++ inner z)
  place_left x y z =
      left_append (map Letter (inner x)) (Border ∷ (map Letter (inner y) ++ (Border ∷ map Letter (inner z ++ Edge ∷ []))))
      ∙ ap (λ (u : List (Bound Sym)). u ++ left_of (map Letter (inner y) ++ (Border ∷ map Letter (inner z ++ Edge ∷ [])))) (left_inner x)
      ∙ ap (λ (u : List (Bound Sym)). inner x ++ u)
      (left_append (map Letter (inner y)) (Border ∷ map Letter (inner z ++ Edge ∷ [])) ∙ ap (λ (u : List (Bound Sym)). u ++ left_of (map Letter (inner z ++ Edge ∷ []))) (left_inner y)
      ∙ ap (λ (u : List (Bound Sym)). inner y ++ u) (ap left_of (edge_behind (inner z)) ∙ left_append (map Letter (inner z)) (Letter Edge ∷ []) ∙ ap (λ (u : List (Bound Sym)). u ++ []) (left_inner z) ∙ append-nil (inner z)))

-- the automata of parts
pub part_used : (a : Automaton (Bound Sym)) (m : Automaton Split) → ((x : Split) → UsesLetter m x → (y : Bound Sym) × UsesLetter a y × (Some (Letter y) ≡ Some x)) → (x : Split) → UsesLetter m x → (y : Bound Sym) × UsesLetter a y × (x ≡ Letter y)
part_used a m letters x used = let r = letters x used in (r.0, r.1, sym (same_Some (Letter r.0) x r.2))

pub part_accepts : (a : Automaton (Bound Sym)) (m : Automaton Split) → ((v : List Split) → Accepts m v ↔ IsRenamed (λ x. Some (Letter x)) (Accepts a) v) → (v : List Split) → Accepts m v ↔ ((w : List (Bound Sym)) × Accepts a w × (v ≡ map Letter w))
part_accepts a m language v = let same = part_words (Accepts a) v in (λ h. same.0 ((language v).0 h), λ h. (language v).1 (same.1 h))

pub split_only : (a b c : Automaton (Bound Sym)) (front middle back rest m : Automaton Split) → ((s : List Sym) → UsesOnly (all_letters s) a → UsesOnly (split_letters s) front) → ((s : List Sym) → UsesOnly (all_letters s) b → UsesOnly (split_letters s) middle) → ((x : Split) → UsesLetter back x → (y : Bound Sym) × UsesLetter c y × (x ≡ Letter y))
    → ((x : Split) → UsesLetter rest x → UsesLetter middle x ⊎ UsesLetter back x) → ((x : Split) → UsesLetter m x → UsesLetter front x ⊎ UsesLetter rest x) → (symbols : List Sym) → UsesOnly (all_letters symbols) a → UsesOnly (all_letters symbols) b → UsesOnly (all_letters symbols) c → UsesOnly (split_letters symbols) m
split_only a b c front middle back rest m first second third behind whole symbols in_a in_b in_c =
    both_only (split_letters symbols) front rest m whole (first symbols in_a) (both_only (split_letters symbols) middle back rest behind (second symbols in_b) (part_only symbols c back third in_c))

-- distinct letters
letter_apart : (x y : Bound Sym) → Letter x ≡ Letter y → x ≡ y
letter_apart x y e = cc

border_new : (symbols : List Sym) → Contains (map Letter (all_letters symbols)) Border → ⊥
border_new symbols h = let r = Contains-map_cases Letter (all_letters symbols) Border h in apart r.0 r.2
  where
    apart : (x : Bound Sym) → Letter x ≡ Border → ⊥
    apart x e = cc

pub split_distinct : (symbols : List Sym) → IsDistinct symbols → IsDistinct (split_letters symbols)
split_distinct symbols distinct = distinct_more Border (map Letter (all_letters symbols)) (border_new symbols) (distinct_map Letter letter_apart (all_letters symbols) (all_distinct symbols distinct))

-- a letter that is kept is one of the alphabet
pub kept_letter : (symbols : List Sym) (x : Split) (y : Bound Sym) → Contains {X = Split × Option (Bound Sym)} (kept_table (split_letters symbols)) (x, Some y) → Contains (inner symbols) y
kept_letter symbols x y h =
    let r = Contains-map_cases (λ (z : Split). (z, kept z)) (split_letters symbols) (x, Some y) h in
    by r.0 (ap (λ (p : Split × Option (Bound Sym)). p.1) r.2) r.1
  where
    inside : (s : Sym) → Contains (split_letters symbols) (Letter (Inner s)) → Contains (inner symbols) (Inner s)
    inside s among =
        elim (Contains-cons_cases Border (map Letter (all_letters symbols)) (Letter (Inner s)) among) as (λ _. Contains (inner symbols) (Inner s)) [
          | inl e ↦ absurd (let clash : Border ≡ Letter (Inner s) = e in cc)
          | inr t ↦
              let r = Contains-map_cases Letter (all_letters symbols) (Letter (Inner s)) t in
              let same : r.0 ≡ Inner s = letter_apart r.0 (Inner s) r.2 in
              let all : Contains (all_letters symbols) (Inner s) = subst (Contains (all_letters symbols)) same r.1 in
              Contains-map Inner symbols s (inner_among symbols s all)
        ]

    by : (z : Split) → kept z ≡ Some y → Contains (split_letters symbols) z → Contains (inner symbols) y
    by Border e among = let clash : None ≡ Some y = e in absurd (cc)
    by (Letter Edge) e among = let clash : None ≡ Some y = e in absurd (cc)
    by (Letter (Inner s)) e among = let one : Some (Inner s) ≡ Some y = e in let same : Inner s ≡ y = cc in subst (Contains (inner symbols)) same (inside s among)

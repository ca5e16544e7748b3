-- An expression is its shape and its leaves: they are put back into the shape one after the other.
use Rattle.std.proofs.Common.{◌≡◌, ◌↔◌, List, [], ◌∷◌, ◌++◌, map, refl, sym, ap, ◌∙◌, append_assoc}
use Rattle.std.specs.List.{flat_map}
use Rattle.regex_ast.specs.Terms.{Term, Terms, Links, Contexts, Steps, Mappings, Groups, empty, any, edge, atom, letters, group, maybe, not_one, cross, suffixed, prefixed, ignore, concat, chain, only, rules, directed, steps, no_term, then_term, no_link, or, and, less, no_context, between, no_step, cross_with, then, no_mapping, plain, markup, insert, no_group, then_group}
use Rattle.expr_leaves.specs.Leaves.{leaf_alone, leaves_in, listed, listed_each, listed_links, listed_contexts, listed_steps, listed_mappings, listed_groups}
use Rattle.expr_leaves.specs.Mapped.{mapped, mapped_each, mapped_links, mapped_contexts, mapped_steps, mapped_mappings, mapped_groups}
use Rattle.name_resolution.proofs.Listed.{listed_is}
use Rattle.name_resolution.proofs.Mapped.{mapped_listed, mapped_twice}

-- S: what stands at the leaves of a shape. A: leaves. R: what is made of the filled tree and of the leaves that are left
abbrev fill_atom : {A R : Type 0} → List A → (Term A → List A → R) → R
fill_atom [] go = go empty []
fill_atom (a ∷ ls) go = go (atom a) ls

module _ {S A R : Type 0} where
  abbrev fill_letters : List S → List A → (List A → List A → R) → R
  fill_letters [] ls go = go [] ls
  fill_letters (s ∷ ss) [] go = go [] []
  fill_letters (s ∷ ss) (a ∷ ls) go = fill_letters ss ls (λ all rest. go (a ∷ all) rest)

  abbrev mutual
    fill : Term S → List A → (Term A → List A → R) → R
    fill empty ls go = go empty ls
    fill any ls go = go any ls
    fill edge ls go = go edge ls
    fill (atom s) ls go = fill_atom ls go
    fill (letters ss) ls go = fill_letters ss ls (λ all rest. go (letters all) rest)
    fill (group e) ls go = fill e ls (λ x rest. go (group x) rest)
    fill (maybe e) ls go = fill e ls (λ x rest. go (maybe x) rest)
    fill (not_one n e) ls go = fill e ls (λ x rest. go (not_one n x) rest)
    fill (cross e d) ls go = fill e ls (λ x more. fill d more (λ y rest. go (cross x y) rest))
    fill (suffixed e all) ls go = fill e ls (λ x rest. go (suffixed x all) rest)
    fill (prefixed all e) ls go = fill e ls (λ x rest. go (prefixed all x) rest)
    fill (ignore es) ls go = fill_each es ls (λ xs rest. go (ignore xs) rest)
    fill (concat es) ls go = fill_each es ls (λ xs rest. go (concat xs) rest)
    fill (chain e links) ls go = fill e ls (λ x more. fill_links links more (λ xs rest. go (chain x xs) rest))
    fill (only e contexts) ls go = fill e ls (λ x more. fill_contexts contexts more (λ xs rest. go (only x xs) rest))
    fill (rules optional groups) ls go = fill_groups groups ls (λ xs rest. go (rules optional xs) rest)
    fill (directed way maps contexts) ls go = fill_mappings maps ls (λ x more. fill_contexts contexts more (λ y rest. go (directed way x y) rest))
    fill (steps e more) ls go = fill e ls (λ x left. fill_steps more left (λ xs rest. go (steps x xs) rest))

    fill_each : Terms S → List A → (Terms A → List A → R) → R
    fill_each no_term ls go = go no_term ls
    fill_each (then_term e es) ls go = fill e ls (λ x more. fill_each es more (λ xs rest. go (then_term x xs) rest))

    fill_links : Links S → List A → (Links A → List A → R) → R
    fill_links no_link ls go = go no_link ls
    fill_links (or e links) ls go = fill e ls (λ x more. fill_links links more (λ xs rest. go (or x xs) rest))
    fill_links (and e links) ls go = fill e ls (λ x more. fill_links links more (λ xs rest. go (and x xs) rest))
    fill_links (less e links) ls go = fill e ls (λ x more. fill_links links more (λ xs rest. go (less x xs) rest))

    fill_contexts : Contexts S → List A → (Contexts A → List A → R) → R
    fill_contexts no_context ls go = go no_context ls
    fill_contexts (between l r contexts) ls go = fill l ls (λ x more. fill r more (λ y left. fill_contexts contexts left (λ xs rest. go (between x y xs) rest)))

    fill_steps : Steps S → List A → (Steps A → List A → R) → R
    fill_steps no_step ls go = go no_step ls
    fill_steps (cross_with e more) ls go = fill e ls (λ x left. fill_steps more left (λ xs rest. go (cross_with x xs) rest))
    fill_steps (then e more) ls go = fill e ls (λ x left. fill_steps more left (λ xs rest. go (then x xs) rest))

    fill_mappings : Mappings S → List A → (Mappings A → List A → R) → R
    fill_mappings no_mapping ls go = go no_mapping ls
    fill_mappings (plain c r maps) ls go = fill c ls (λ x more. fill r more (λ y left. fill_mappings maps left (λ xs rest. go (plain x y xs) rest)))
    fill_mappings (markup c b a maps) ls go =
        fill c ls (λ x more. fill b more (λ y less. fill a less (λ z left. fill_mappings maps left (λ xs rest. go (markup x y z xs) rest))))
    fill_mappings (insert r maps) ls go = fill r ls (λ x left. fill_mappings maps left (λ xs rest. go (insert x xs) rest))

    fill_groups : Groups S → List A → (Groups A → List A → R) → R
    fill_groups no_group ls go = go no_group ls
    fill_groups (then_group maps side contexts groups) ls go =
        fill_mappings maps ls (λ x more. fill_contexts contexts more (λ y left. fill_groups groups left (λ xs rest. go (then_group x side y xs) rest)))

-- a filling takes these leaves, and makes this of them
module _ {A R : Type 0} where
  abbrev Fills : {X : Type 0} → (List A → (X → List A → R) → R) → X → List A → Type 0
  Fills {X} by x ls = (rest : List A) (go : X → List A → R) → by (ls ++ rest) go ≡ go x rest

  two : {X Y : Type 0} (f : List A → (X → List A → R) → R) (g : List A → (Y → List A → R) → R) (x : X) (y : Y) (ls ms : List A) → Fills f x ls → Fills g y ms
      → (rest : List A) (go : X → Y → List A → R) → f ((ls ++ ms) ++ rest) (λ x more. g more (go x)) ≡ go x y rest
  two f g x y ls ms of_f of_g rest go = ap (λ z. f z (λ x more. g more (go x))) (append_assoc ls ms rest) ∙ of_f (ms ++ rest) (λ x more. g more (go x)) ∙ of_g rest (go x)

  three : {X Y Z : Type 0} (f : List A → (X → List A → R) → R) (g : List A → (Y → List A → R) → R) (h : List A → (Z → List A → R) → R) (x : X) (y : Y) (z : Z) (ls ms ns : List A)
      → Fills f x ls → Fills g y ms → Fills h z ns
      → (rest : List A) (go : X → Y → Z → List A → R) → f (((ls ++ ms) ++ ns) ++ rest) (λ x more. g more (λ y left. h left (go x y))) ≡ go x y z rest
  three f g h x y z ls ms ns of_f of_g of_h rest go =
      ap (λ a. f a (λ x more. g more (λ y left. h left (go x y)))) (append_assoc (ls ++ ms) ns rest)
      ∙ two f g x y ls ms of_f of_g (ns ++ rest) (λ x y left. h left (go x y))
      ∙ of_h rest (go x y)

  four : {X Y Z W : Type 0} (f : List A → (X → List A → R) → R) (g : List A → (Y → List A → R) → R) (h : List A → (Z → List A → R) → R) (k : List A → (W → List A → R) → R)
      (x : X) (y : Y) (z : Z) (w : W) (ls ms ns os : List A) → Fills f x ls → Fills g y ms → Fills h z ns → Fills k w os
      → (rest : List A) (go : X → Y → Z → W → List A → R)
      → f ((((ls ++ ms) ++ ns) ++ os) ++ rest) (λ x more. g more (λ y less. h less (λ z left. k left (go x y z)))) ≡ go x y z w rest
  four f g h k x y z w ls ms ns os of_f of_g of_h of_k rest go =
      ap (λ a. f a (λ x more. g more (λ y less. h less (λ z left. k left (go x y z))))) (append_assoc ((ls ++ ms) ++ ns) os rest)
      ∙ three f g h x y z ls ms ns of_f of_g of_h (os ++ rest) (λ x y z left. k left (go x y z))
      ∙ of_k rest (go x y z)

-- an expression without its leaves
abbrev bare : {S A : Type 0} → S → A → S
bare s leaf = s

module _ {S A R : Type 0} (s : S) where
  letters_back : (all : List A) → Fills {R = R} (fill_letters (map (bare s) all)) all (flat_map leaf_alone all)
  letters_back [] rest go = refl
  letters_back (a ∷ all) rest go = letters_back all rest (λ all rest. go (a ∷ all) rest)

  mutual
    back : (e : Term A) → Fills {R = R} (fill (mapped (bare s) e)) e (listed leaf_alone e)
    back empty rest go = refl
    back any rest go = refl
    back edge rest go = refl
    back (atom a) rest go = refl
    back (letters all) rest go = letters_back all rest (λ all rest. go (letters all) rest)
    back (group e) rest go = back e rest (λ x rest. go (group x) rest)
    back (maybe e) rest go = back e rest (λ x rest. go (maybe x) rest)
    back (not_one n e) rest go = back e rest (λ x rest. go (not_one n x) rest)
    back (cross e d) rest go = two (fill (mapped (bare s) e)) (fill (mapped (bare s) d)) e d (listed leaf_alone e) (listed leaf_alone d) (back e) (back d) rest (λ x y rest. go (cross x y) rest)
    back (suffixed e all) rest go = back e rest (λ x rest. go (suffixed x all) rest)
    back (prefixed all e) rest go = back e rest (λ x rest. go (prefixed all x) rest)
    back (ignore es) rest go = each_back es rest (λ xs rest. go (ignore xs) rest)
    back (concat es) rest go = each_back es rest (λ xs rest. go (concat xs) rest)
    back (chain e links) rest go =
        two (fill (mapped (bare s) e)) (fill_links (mapped_links (bare s) links)) e links (listed leaf_alone e) (listed_links leaf_alone links) (back e) (links_back links) rest (λ x xs rest. go (chain x xs) rest)
    back (only e contexts) rest go =
        two (fill (mapped (bare s) e)) (fill_contexts (mapped_contexts (bare s) contexts)) e contexts (listed leaf_alone e) (listed_contexts leaf_alone contexts) (back e) (contexts_back contexts) rest (λ x xs rest. go (only x xs) rest)
    back (rules optional groups) rest go = groups_back groups rest (λ xs rest. go (rules optional xs) rest)
    back (directed way maps contexts) rest go =
        two (fill_mappings (mapped_mappings (bare s) maps)) (fill_contexts (mapped_contexts (bare s) contexts)) maps contexts
        (listed_mappings leaf_alone maps) (listed_contexts leaf_alone contexts) (mappings_back maps) (contexts_back contexts) rest (λ x y rest. go (directed way x y) rest)
    back (steps e more) rest go =
        two (fill (mapped (bare s) e)) (fill_steps (mapped_steps (bare s) more)) e more (listed leaf_alone e) (listed_steps leaf_alone more) (back e) (steps_back more) rest (λ x xs rest. go (steps x xs) rest)

    each_back : (es : Terms A) → Fills {R = R} (fill_each (mapped_each (bare s) es)) es (listed_each leaf_alone es)
    each_back no_term rest go = refl
    each_back (then_term e es) rest go =
        two (fill (mapped (bare s) e)) (fill_each (mapped_each (bare s) es)) e es (listed leaf_alone e) (listed_each leaf_alone es) (back e) (each_back es) rest (λ x xs rest. go (then_term x xs) rest)

    links_back : (links : Links A) → Fills {R = R} (fill_links (mapped_links (bare s) links)) links (listed_links leaf_alone links)
    links_back no_link rest go = refl
    links_back (or e links) rest go =
        two (fill (mapped (bare s) e)) (fill_links (mapped_links (bare s) links)) e links (listed leaf_alone e) (listed_links leaf_alone links) (back e) (links_back links) rest (λ x xs rest. go (or x xs) rest)
    links_back (and e links) rest go =
        two (fill (mapped (bare s) e)) (fill_links (mapped_links (bare s) links)) e links (listed leaf_alone e) (listed_links leaf_alone links) (back e) (links_back links) rest (λ x xs rest. go (and x xs) rest)
    links_back (less e links) rest go =
        two (fill (mapped (bare s) e)) (fill_links (mapped_links (bare s) links)) e links (listed leaf_alone e) (listed_links leaf_alone links) (back e) (links_back links) rest (λ x xs rest. go (less x xs) rest)

    contexts_back : (contexts : Contexts A) → Fills {R = R} (fill_contexts (mapped_contexts (bare s) contexts)) contexts (listed_contexts leaf_alone contexts)
    contexts_back no_context rest go = refl
    contexts_back (between l r contexts) rest go =
        three (fill (mapped (bare s) l)) (fill (mapped (bare s) r)) (fill_contexts (mapped_contexts (bare s) contexts)) l r contexts
        (listed leaf_alone l) (listed leaf_alone r) (listed_contexts leaf_alone contexts) (back l) (back r) (contexts_back contexts) rest (λ x y xs rest. go (between x y xs) rest)

    steps_back : (more : Steps A) → Fills {R = R} (fill_steps (mapped_steps (bare s) more)) more (listed_steps leaf_alone more)
    steps_back no_step rest go = refl
    steps_back (cross_with e more) rest go =
        two (fill (mapped (bare s) e)) (fill_steps (mapped_steps (bare s) more)) e more (listed leaf_alone e) (listed_steps leaf_alone more) (back e) (steps_back more) rest (λ x xs rest. go (cross_with x xs) rest)
    steps_back (then e more) rest go =
        two (fill (mapped (bare s) e)) (fill_steps (mapped_steps (bare s) more)) e more (listed leaf_alone e) (listed_steps leaf_alone more) (back e) (steps_back more) rest (λ x xs rest. go (then x xs) rest)

    mappings_back : (maps : Mappings A) → Fills {R = R} (fill_mappings (mapped_mappings (bare s) maps)) maps (listed_mappings leaf_alone maps)
    mappings_back no_mapping rest go = refl
    mappings_back (plain c r maps) rest go =
        three (fill (mapped (bare s) c)) (fill (mapped (bare s) r)) (fill_mappings (mapped_mappings (bare s) maps)) c r maps
        (listed leaf_alone c) (listed leaf_alone r) (listed_mappings leaf_alone maps) (back c) (back r) (mappings_back maps) rest (λ x y xs rest. go (plain x y xs) rest)
    mappings_back (markup c b a maps) rest go =
        four (fill (mapped (bare s) c)) (fill (mapped (bare s) b)) (fill (mapped (bare s) a)) (fill_mappings (mapped_mappings (bare s) maps)) c b a maps
        (listed leaf_alone c) (listed leaf_alone b) (listed leaf_alone a) (listed_mappings leaf_alone maps) (back c) (back b) (back a) (mappings_back maps) rest (λ x y z xs rest. go (markup x y z xs) rest)
    mappings_back (insert r maps) rest go =
        two (fill (mapped (bare s) r)) (fill_mappings (mapped_mappings (bare s) maps)) r maps (listed leaf_alone r) (listed_mappings leaf_alone maps) (back r) (mappings_back maps) rest (λ x xs rest. go (insert x xs) rest)

    groups_back : (groups : Groups A) → Fills {R = R} (fill_groups (mapped_groups (bare s) groups)) groups (listed_groups leaf_alone groups)
    groups_back no_group rest go = refl
    groups_back (then_group maps side contexts groups) rest go =
        three (fill_mappings (mapped_mappings (bare s) maps)) (fill_contexts (mapped_contexts (bare s) contexts)) (fill_groups (mapped_groups (bare s) groups)) maps contexts groups
        (listed_mappings leaf_alone maps) (listed_contexts leaf_alone contexts) (listed_groups leaf_alone groups) (mappings_back maps) (contexts_back contexts) (groups_back groups) rest
        (λ x y xs rest. go (then_group x side y xs) rest)

-- the tree, whatever is left
abbrev whole : {A : Type 0} → Term A → List A → Term A
whole x rest = x

filled : {S A : Type 0} (s : S) (e : Term A) → fill (mapped (λ (leaf : A). s) e) (leaves_in e ++ []) whole ≡ e
filled s e = back s e [] whole

-- expressions of the same shape and the same leaves are the same
by_leaves : {S A : Type 0} (s : S) (t u : Term A) → mapped (λ (leaf : A). s) t ≡ mapped (λ (leaf : A). s) u → leaves_in t ≡ leaves_in u → t ≡ u
by_leaves {S} {A} s t u shapes leaves =
    sym (filled s t)
    ∙ ap (λ (z : Term S). fill z (leaves_in t ++ []) whole) shapes
    ∙ ap (λ (z : List A). fill (mapped (λ (leaf : A). s) u) (z ++ []) whole) leaves
    ∙ filled s u

-- the leaves of an expression that are replaced
leaves_mapped : {A C : Type 0} (f : A → C) (e : Term A) → leaves_in (mapped f e) ≡ map f (leaves_in e)
leaves_mapped {A} {C} f e = mapped_listed leaf_alone f e ∙ listed_is (λ a. f a ∷ []) e ∙ each (leaves_in e)
  where
    each : (all : List A) → flat_map (λ a. f a ∷ []) all ≡ map f all
    each [] = refl
    each (a ∷ all) = ap (λ (z : List C). f a ∷ z) (each all)

module _ {S A B C : Type 0} (s : S) (f : A → C) (g : B → C) (t : Term A) (u : Term B) where
  shape_t : mapped (λ (leaf : C). s) (mapped f t) ≡ mapped (λ (leaf : A). s) t
  shape_t = mapped_twice (λ (leaf : C). s) f t

  shape_u : mapped (λ (leaf : C). s) (mapped g u) ≡ mapped (λ (leaf : B). s) u
  shape_u = mapped_twice (λ (leaf : C). s) g u

  -- where the shapes are the same, expressions with other leaves are so exactly where these leaves are
  pub same_leaves : mapped (λ (leaf : A). s) t ≡ mapped (λ (leaf : B). s) u → map f (leaves_in t) ≡ map g (leaves_in u) ↔ mapped f t ≡ mapped g u
  same_leaves shapes = (
    λ leaves. by_leaves s (mapped f t) (mapped g u) (shape_t ∙ shapes ∙ sym shape_u) (leaves_mapped f t ∙ leaves ∙ sym (leaves_mapped g u)),
    λ same. sym (leaves_mapped f t) ∙ ap (λ (e : Term C). leaves_in e) same ∙ leaves_mapped g u,
  )

  pub same_shapes : mapped f t ≡ mapped g u → mapped (λ (leaf : A). s) t ≡ mapped (λ (leaf : B). s) u
  same_shapes same = sym shape_t ∙ ap (mapped (λ (leaf : C). s)) same ∙ shape_u

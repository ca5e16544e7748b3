-- Expressions whose leaves are replaced: two replacements that agree on each leaf make the same, and one that leaves each as it is
-- makes the expression itself.
use Rattle.std.proofs.Common.{◌≡◌, ◌&&◌, Bool, true, false, IsTrue, List, [], ◌∷◌, map, refl, ap}
use Rattle.std.specs.List.{list_all}
use Rattle.regex_ast.specs.Terms.{Term, Terms, Links, Contexts, Steps, Mappings, Groups, empty, any, edge, atom, letters, group, maybe, not_one, cross, suffixed, prefixed, ignore, concat, chain, only, rules, directed, steps, no_term, then_term, no_link, or, and, less, no_context, between, no_step, cross_with, then, no_mapping, plain, markup, insert, no_group, then_group}
use Rattle.expr_leaves.specs.Mapped.{mapped, mapped_each, mapped_links, mapped_contexts, mapped_steps, mapped_mappings, mapped_groups}
use Rattle.expr_kinds.specs.Built.{IsBuiltBy, AreBuiltBy, LinksAreBuiltBy, ContextsAreBuiltBy, StepsAreBuiltBy, MappingsAreBuiltBy, GroupsAreBuiltBy}

first_holds : (a b : Bool) → IsTrue (a && b) → IsTrue a
first_holds true b h = refl
first_holds false b h = h

second_holds : (a b : Bool) → IsTrue (a && b) → IsTrue b
second_holds true b h = h
second_holds false b h = let never : false ≡ true = h in cc

module _ {A B : Type 0} (leaf letter : A → Bool) (f g : A → B) (on_leaf : (a : A) → IsTrue (leaf a) → f a ≡ g a) (on_letter : (a : A) → IsTrue (letter a) → f a ≡ g a) where
  letters_alike : (all : List A) → IsTrue (list_all letter all) → map f all ≡ map g all
  letters_alike [] h = refl
  letters_alike (a ∷ all) h =
      let first = on_letter a (first_holds (letter a) (list_all letter all) h) in
      let rest = letters_alike all (second_holds (letter a) (list_all letter all) h) in
      λ i. first i ∷ rest i

  mutual
    pub alike : (e : Term A) → IsBuiltBy leaf letter e → mapped f e ≡ mapped g e
    alike empty h = refl
    alike any h = refl
    alike edge h = refl
    alike (atom a) h = ap atom (on_leaf a h)
    alike (letters all) h = ap letters (letters_alike all h)
    alike (group e) h = ap group (alike e h)
    alike (maybe e) h = ap maybe (alike e h)
    alike (not_one n e) h = ap (not_one n) (alike e h)
    alike (cross e d) h = let p0 = alike e h.0 in let p1 = alike d h.1 in λ i. cross (p0 i) (p1 i)
    alike (suffixed e all) h = ap (λ t. suffixed t all) (alike e h)
    alike (prefixed all e) h = ap (prefixed all) (alike e h)
    alike (ignore es) h = ap ignore (each_alike es h)
    alike (concat es) h = ap concat (each_alike es h)
    alike (chain e links) h = let p0 = alike e h.0 in let p1 = links_alike links h.1 in λ i. chain (p0 i) (p1 i)
    alike (only e contexts) h = let p0 = alike e h.0 in let p1 = contexts_alike contexts h.1 in λ i. only (p0 i) (p1 i)
    alike (rules optional groups) h = ap (rules optional) (groups_alike groups h.1)
    alike (directed way maps contexts) h = let p0 = mappings_alike maps h.1 in let p1 = contexts_alike contexts h.2 in λ i. directed way (p0 i) (p1 i)
    alike (steps e more) h = let p0 = alike e h.0 in let p1 = steps_alike more h.1 in λ i. steps (p0 i) (p1 i)

    each_alike : (es : Terms A) → AreBuiltBy leaf letter es → mapped_each f es ≡ mapped_each g es
    each_alike no_term h = refl
    each_alike (then_term e es) h = let p0 = alike e h.0 in let p1 = each_alike es h.1 in λ i. then_term (p0 i) (p1 i)

    links_alike : (links : Links A) → LinksAreBuiltBy leaf letter links → mapped_links f links ≡ mapped_links g links
    links_alike no_link h = refl
    links_alike (or e links) h = let p0 = alike e h.0 in let p1 = links_alike links h.1 in λ i. or (p0 i) (p1 i)
    links_alike (and e links) h = let p0 = alike e h.0 in let p1 = links_alike links h.1 in λ i. and (p0 i) (p1 i)
    links_alike (less e links) h = let p0 = alike e h.0 in let p1 = links_alike links h.1 in λ i. less (p0 i) (p1 i)

    contexts_alike : (contexts : Contexts A) → ContextsAreBuiltBy leaf letter contexts → mapped_contexts f contexts ≡ mapped_contexts g contexts
    contexts_alike no_context h = refl
    contexts_alike (between l r contexts) h = let p0 = alike l h.0 in let p1 = alike r h.1 in let p2 = contexts_alike contexts h.2 in λ i. between (p0 i) (p1 i) (p2 i)

    steps_alike : (more : Steps A) → StepsAreBuiltBy leaf letter more → mapped_steps f more ≡ mapped_steps g more
    steps_alike no_step h = refl
    steps_alike (cross_with e more) h = let p0 = alike e h.0 in let p1 = steps_alike more h.1 in λ i. cross_with (p0 i) (p1 i)
    steps_alike (then e more) h = let p0 = alike e h.0 in let p1 = steps_alike more h.1 in λ i. then (p0 i) (p1 i)

    mappings_alike : (maps : Mappings A) → MappingsAreBuiltBy leaf letter maps → mapped_mappings f maps ≡ mapped_mappings g maps
    mappings_alike no_mapping h = refl
    mappings_alike (plain c r maps) h = let p0 = alike c h.1 in let p1 = alike r h.2 in let p2 = mappings_alike maps h.3 in λ i. plain (p0 i) (p1 i) (p2 i)
    mappings_alike (markup c b a maps) h = let p0 = alike c h.1 in let p1 = alike b h.2 in let p2 = alike a h.3 in let p3 = mappings_alike maps h.4 in λ i. markup (p0 i) (p1 i) (p2 i) (p3 i)
    mappings_alike (insert r maps) h = let p0 = alike r h.0 in let p1 = mappings_alike maps h.1 in λ i. insert (p0 i) (p1 i)

    groups_alike : (groups : Groups A) → GroupsAreBuiltBy leaf letter groups → mapped_groups f groups ≡ mapped_groups g groups
    groups_alike no_group h = refl
    groups_alike (then_group maps side contexts groups) h = let p0 = mappings_alike maps h.0 in let p1 = contexts_alike contexts h.1 in let p2 = groups_alike groups h.2 in λ i. then_group (p0 i) side (p1 i) (p2 i)

module _ {A : Type 0} where
  letters_same : (all : List A) → map (λ a. a) all ≡ all
  letters_same [] = refl
  letters_same (a ∷ all) = ap (λ (z : List A). a ∷ z) (letters_same all)

  mutual
    pub same : (e : Term A) → mapped (λ a. a) e ≡ e
    same empty = refl
    same any = refl
    same edge = refl
    same (atom a) = refl
    same (letters all) = ap letters (letters_same all)
    same (group e) = ap group (same e)
    same (maybe e) = ap maybe (same e)
    same (not_one n e) = ap (not_one n) (same e)
    same (cross e d) = let p0 = same e in let p1 = same d in λ i. cross (p0 i) (p1 i)
    same (suffixed e all) = ap (λ t. suffixed t all) (same e)
    same (prefixed all e) = ap (prefixed all) (same e)
    same (ignore es) = ap ignore (each_same es)
    same (concat es) = ap concat (each_same es)
    same (chain e links) = let p0 = same e in let p1 = links_same links in λ i. chain (p0 i) (p1 i)
    same (only e contexts) = let p0 = same e in let p1 = contexts_same contexts in λ i. only (p0 i) (p1 i)
    same (rules optional groups) = ap (rules optional) (groups_same groups)
    same (directed way maps contexts) = let p0 = mappings_same maps in let p1 = contexts_same contexts in λ i. directed way (p0 i) (p1 i)
    same (steps e more) = let p0 = same e in let p1 = steps_same more in λ i. steps (p0 i) (p1 i)

    each_same : (es : Terms A) → mapped_each (λ a. a) es ≡ es
    each_same no_term = refl
    each_same (then_term e es) = let p0 = same e in let p1 = each_same es in λ i. then_term (p0 i) (p1 i)

    links_same : (links : Links A) → mapped_links (λ a. a) links ≡ links
    links_same no_link = refl
    links_same (or e links) = let p0 = same e in let p1 = links_same links in λ i. or (p0 i) (p1 i)
    links_same (and e links) = let p0 = same e in let p1 = links_same links in λ i. and (p0 i) (p1 i)
    links_same (less e links) = let p0 = same e in let p1 = links_same links in λ i. less (p0 i) (p1 i)

    contexts_same : (contexts : Contexts A) → mapped_contexts (λ a. a) contexts ≡ contexts
    contexts_same no_context = refl
    contexts_same (between l r contexts) = let p0 = same l in let p1 = same r in let p2 = contexts_same contexts in λ i. between (p0 i) (p1 i) (p2 i)

    steps_same : (more : Steps A) → mapped_steps (λ a. a) more ≡ more
    steps_same no_step = refl
    steps_same (cross_with e more) = let p0 = same e in let p1 = steps_same more in λ i. cross_with (p0 i) (p1 i)
    steps_same (then e more) = let p0 = same e in let p1 = steps_same more in λ i. then (p0 i) (p1 i)

    mappings_same : (maps : Mappings A) → mapped_mappings (λ a. a) maps ≡ maps
    mappings_same no_mapping = refl
    mappings_same (plain c r maps) = let p0 = same c in let p1 = same r in let p2 = mappings_same maps in λ i. plain (p0 i) (p1 i) (p2 i)
    mappings_same (markup c b a maps) = let p0 = same c in let p1 = same b in let p2 = same a in let p3 = mappings_same maps in λ i. markup (p0 i) (p1 i) (p2 i) (p3 i)
    mappings_same (insert r maps) = let p0 = same r in let p1 = mappings_same maps in λ i. insert (p0 i) (p1 i)

    groups_same : (groups : Groups A) → mapped_groups (λ a. a) groups ≡ groups
    groups_same no_group = refl
    groups_same (then_group maps side contexts groups) = let p0 = mappings_same maps in let p1 = contexts_same contexts in let p2 = groups_same groups in λ i. then_group (p0 i) side (p1 i) (p2 i)

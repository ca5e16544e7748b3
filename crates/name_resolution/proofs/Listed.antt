-- What is listed of each leaf of an expression is listed of its leaves.
use Rattle.std.proofs.Common.{◌≡◌, List, [], ◌∷◌, ◌++◌, refl, sym, ap, ◌∙◌, append-nil}
use Rattle.std.proofs.lemmas.Grind.{flat_map-append}
use Rattle.std.specs.List.{flat_map}
use Rattle.regex_ast.specs.Terms.{Term, Terms, Links, Contexts, Steps, Mappings, Groups, empty, any, edge, atom, letters, group, maybe, not_one, cross, suffixed, prefixed, ignore, concat, chain, only, rules, directed, steps, no_term, then_term, no_link, or, and, less, no_context, between, no_step, cross_with, then, no_mapping, plain, markup, insert, no_group, then_group}
use Rattle.expr_leaves.specs.Leaves.{listed, listed_each, listed_links, listed_contexts, listed_steps, listed_mappings, listed_groups}

module _ {A B : Type 0} (of : A → List B) where
  abbrev alone : A → List A
  alone leaf = leaf ∷ []

  two : (xs ys : List A) (us vs : List B) → us ≡ flat_map of xs → vs ≡ flat_map of ys → us ++ vs ≡ flat_map of (xs ++ ys)
  two xs ys us vs e d = ap (λ (u : List B). u ++ vs) e ∙ ap (λ (v : List B). flat_map of xs ++ v) d ∙ sym (flat_map-append of xs ys)

  letters_listed : (all : List A) → flat_map of all ≡ flat_map of (flat_map alone all)
  letters_listed [] = refl
  letters_listed (a ∷ all) = ap (λ (v : List B). of a ++ v) (letters_listed all)

  mutual
    pub listed_is : (e : Term A) → listed of e ≡ flat_map of (listed alone e)
    listed_is empty = refl
    listed_is any = refl
    listed_is edge = refl
    listed_is (atom a) = sym (append-nil (of a))
    listed_is (letters all) = letters_listed all
    listed_is (group e) = listed_is e
    listed_is (maybe e) = listed_is e
    listed_is (not_one n e) = listed_is e
    listed_is (cross e f) = two (listed alone e) (listed alone f) _ _ (listed_is e) (listed_is f)
    listed_is (suffixed e suffixes) = listed_is e
    listed_is (prefixed prefixes e) = listed_is e
    listed_is (ignore es) = each_is es
    listed_is (concat es) = each_is es
    listed_is (chain e links) = two (listed alone e) (listed_links alone links) _ _ (listed_is e) (links_is links)
    listed_is (only e contexts) = two (listed alone e) (listed_contexts alone contexts) _ _ (listed_is e) (contexts_is contexts)
    listed_is (rules optional groups) = groups_is groups
    listed_is (directed way maps contexts) = two (listed_mappings alone maps) (listed_contexts alone contexts) _ _ (mappings_is maps) (contexts_is contexts)
    listed_is (steps e more) = two (listed alone e) (listed_steps alone more) _ _ (listed_is e) (steps_is more)

    each_is : (es : Terms A) → listed_each of es ≡ flat_map of (listed_each alone es)
    each_is no_term = refl
    each_is (then_term e es) = two (listed alone e) (listed_each alone es) _ _ (listed_is e) (each_is es)

    links_is : (links : Links A) → listed_links of links ≡ flat_map of (listed_links alone links)
    links_is no_link = refl
    links_is (or e links) = two (listed alone e) (listed_links alone links) _ _ (listed_is e) (links_is links)
    links_is (and e links) = two (listed alone e) (listed_links alone links) _ _ (listed_is e) (links_is links)
    links_is (less e links) = two (listed alone e) (listed_links alone links) _ _ (listed_is e) (links_is links)

    pub contexts_is : (contexts : Contexts A) → listed_contexts of contexts ≡ flat_map of (listed_contexts alone contexts)
    contexts_is no_context = refl
    contexts_is (between l r contexts) = two (listed alone l ++ listed alone r) (listed_contexts alone contexts) _ _ (two (listed alone l) (listed alone r) _ _ (listed_is l) (listed_is r)) (contexts_is contexts)

    steps_is : (more : Steps A) → listed_steps of more ≡ flat_map of (listed_steps alone more)
    steps_is no_step = refl
    steps_is (cross_with e more) = two (listed alone e) (listed_steps alone more) _ _ (listed_is e) (steps_is more)
    steps_is (then e more) = two (listed alone e) (listed_steps alone more) _ _ (listed_is e) (steps_is more)

    mappings_is : (maps : Mappings A) → listed_mappings of maps ≡ flat_map of (listed_mappings alone maps)
    mappings_is no_mapping = refl
    mappings_is (plain c r maps) = two (listed alone c ++ listed alone r) (listed_mappings alone maps) _ _ (two (listed alone c) (listed alone r) _ _ (listed_is c) (listed_is r)) (mappings_is maps)
    mappings_is (markup c b a maps) =
        two ((listed alone c ++ listed alone b) ++ listed alone a) (listed_mappings alone maps) _ _
        (two (listed alone c ++ listed alone b) (listed alone a) _ _ (two (listed alone c) (listed alone b) _ _ (listed_is c) (listed_is b)) (listed_is a)) (mappings_is maps)
    mappings_is (insert r maps) = two (listed alone r) (listed_mappings alone maps) _ _ (listed_is r) (mappings_is maps)

    groups_is : (groups : Groups A) → listed_groups of groups ≡ flat_map of (listed_groups alone groups)
    groups_is no_group = refl
    groups_is (then_group maps side contexts groups) =
        two (listed_mappings alone maps ++ listed_contexts alone contexts) (listed_groups alone groups) _ _
        (two (listed_mappings alone maps) (listed_contexts alone contexts) _ _ (mappings_is maps) (contexts_is contexts)) (groups_is groups)

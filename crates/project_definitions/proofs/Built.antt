-- Whether an expression is built, before and after its leaves are replaced by others.
use Rattle.std.proofs.Common.{◌≡◌, Bool, true, false, not, ◌&&◌, ◌||◌, IsTrue, List, [], ◌∷◌, ◌++◌, map, All, refl, sym, ap, ◌∙◌}
use Rattle.std.proofs.lemmas.List.Elements.{All-nil, All-cons, All-head, All-tail}
use Rattle.std.specs.List.{flat_map, list_all}
use Rattle.regex_ast.specs.Terms.{Term, Terms, Links, Contexts, Steps, Mappings, Groups, empty, any, edge, atom, letters, group, maybe, not_one, cross, suffixed, prefixed, ignore, concat, chain, only, rules, directed, steps, no_term, then_term, no_link, or, and, less, no_context, between, no_step, cross_with, then, no_mapping, plain, markup, insert, no_group, then_group}
use Rattle.expr_kinds.specs.Built.{holds_insertion, has_no_insertion, is_insertion_alone, is_insertion, inserts_alone, IsBuiltBy, AreBuiltBy, LinksAreBuiltBy, ContextsAreBuiltBy, StepsAreBuiltBy, MappingsAreBuiltBy, GroupsAreBuiltBy}
use Rattle.expr_leaves.specs.Leaves.{listed, listed_each, listed_links, listed_contexts, listed_steps, listed_mappings, listed_groups}
use Rattle.expr_leaves.specs.Mapped.{mapped, mapped_each, mapped_links, mapped_contexts, mapped_steps, mapped_mappings, mapped_groups}

pub All-front : {X : Type 0} (P : X → Type 0) (xs ys : List X) → All P (xs ++ ys) → All P xs
All-front P [] ys h = All-nil P
All-front P (x ∷ xs) ys h = All-cons P x xs (All-head P x (xs ++ ys) h) (All-front P xs ys (All-tail P x (xs ++ ys) h))

pub All-back : {X : Type 0} (P : X → Type 0) (xs ys : List X) → All P (xs ++ ys) → All P ys
All-back P [] ys h = h
All-back P (x ∷ xs) ys h = All-back P xs ys (All-tail P x (xs ++ ys) h)

pub both_hold : (a b : Bool) → IsTrue a → IsTrue b → IsTrue (a && b)
both_hold true b first second = second
both_hold false b first second = first

pub first_holds : (a b : Bool) → IsTrue (a && b) → IsTrue a
first_holds true b h = refl
first_holds false b h = h

pub second_holds : (a b : Bool) → IsTrue (a && b) → IsTrue b
second_holds true b h = h
second_holds false b h = absurd (never h)
  where
    never : IsTrue false → ⊥
    never e = cc

-- leaves that are replaced leave insertions where they are
alone_mapped : {A B : Type 0} (f : A → B) (maps : Mappings A) → is_insertion_alone (mapped_mappings f maps) ≡ is_insertion_alone maps
alone_mapped f no_mapping = refl
alone_mapped f (plain c r maps) = refl
alone_mapped f (markup c b a maps) = refl
alone_mapped f (insert r no_mapping) = refl
alone_mapped f (insert r (plain c d maps)) = refl
alone_mapped f (insert r (markup c b a maps)) = refl
alone_mapped f (insert r (insert d maps)) = refl

holds_mapped : {A B : Type 0} (f : A → B) (maps : Mappings A) → holds_insertion (mapped_mappings f maps) ≡ holds_insertion maps
holds_mapped f no_mapping = refl
holds_mapped f (plain c r maps) = holds_mapped f maps
holds_mapped f (markup c b a maps) = holds_mapped f maps
holds_mapped f (insert r maps) = refl

pub without_mapped : {A B : Type 0} (f : A → B) (maps : Mappings A) → not (holds_insertion (mapped_mappings f maps)) ≡ not (holds_insertion maps)
without_mapped f maps = ap not (holds_mapped f maps)

none_mapped : {A B : Type 0} (f : A → B) (groups : Groups A) → has_no_insertion (mapped_groups f groups) ≡ has_no_insertion groups
none_mapped f no_group = refl
none_mapped f (then_group maps side contexts groups) = let a = holds_mapped f maps in let b = none_mapped f groups in λ i. not (a i) && b i

one_mapped : {A B : Type 0} (f : A → B) (groups : Groups A) → is_insertion (mapped_groups f groups) ≡ is_insertion groups
one_mapped f no_group = refl
one_mapped f (then_group maps side contexts no_group) = alone_mapped f maps
one_mapped f (then_group maps side contexts (then_group more other contexts' groups)) = refl

pub inserts_mapped : {A B : Type 0} (f : A → B) (groups : Groups A) → inserts_alone (mapped_groups f groups) ≡ inserts_alone groups
inserts_mapped f groups = let a = one_mapped f groups in let b = none_mapped f groups in λ i. a i || b i

-- where each leaf, and each symbol in braces, that passes one test passes the other once it is replaced, the whole is built once it is
module _ {A B : Type 0} (f : A → B) (here letter_here : A → Bool) (there letter_there : B → Bool)
    (leaf : (a : A) → IsTrue (here a) → IsTrue (there (f a))) (letter : (a : A) → IsTrue (letter_here a) → IsTrue (letter_there (f a))) where
  letters_there : (all : List A) → IsTrue (list_all letter_here all) → IsTrue (list_all letter_there (map f all))
  letters_there [] h = refl
  letters_there (a ∷ all) h =
      both_hold (letter_there (f a)) (list_all letter_there (map f all)) (letter a (first_holds (letter_here a) (list_all letter_here all) h))
      (letters_there all (second_holds (letter_here a) (list_all letter_here all) h))

  mutual
    pub built_there : (e : Term A) → IsBuiltBy here letter_here e → IsBuiltBy there letter_there (mapped f e)
    built_there empty h = tt
    built_there any h = tt
    built_there edge h = tt
    built_there (atom a) h = leaf a h
    built_there (letters all) h = letters_there all h
    built_there (group e) h = built_there e h
    built_there (maybe e) h = built_there e h
    built_there (not_one n e) h = built_there e h
    built_there (cross e g) h = (built_there e h.0, built_there g h.1)
    built_there (suffixed e suffixes) h = built_there e h
    built_there (prefixed prefixes e) h = built_there e h
    built_there (ignore es) h = each_there es h
    built_there (concat es) h = each_there es h
    built_there (chain e links) h = (built_there e h.0, links_there links h.1)
    built_there (only e contexts) h = (built_there e h.0, contexts_there contexts h.1)
    built_there (rules optional groups) h = (inserts_mapped f groups ∙ h.0, groups_there groups h.1)
    built_there (directed way maps contexts) h = (without_mapped f maps ∙ h.0, mappings_there maps h.1, contexts_there contexts h.2)
    built_there (steps e more) h = (built_there e h.0, steps_there more h.1)

    each_there : (es : Terms A) → AreBuiltBy here letter_here es → AreBuiltBy there letter_there (mapped_each f es)
    each_there no_term h = tt
    each_there (then_term e es) h = (built_there e h.0, each_there es h.1)

    links_there : (links : Links A) → LinksAreBuiltBy here letter_here links → LinksAreBuiltBy there letter_there (mapped_links f links)
    links_there no_link h = tt
    links_there (or e links) h = (built_there e h.0, links_there links h.1)
    links_there (and e links) h = (built_there e h.0, links_there links h.1)
    links_there (less e links) h = (built_there e h.0, links_there links h.1)

    contexts_there : (contexts : Contexts A) → ContextsAreBuiltBy here letter_here contexts → ContextsAreBuiltBy there letter_there (mapped_contexts f contexts)
    contexts_there no_context h = tt
    contexts_there (between l r contexts) h = (built_there l h.0, built_there r h.1, contexts_there contexts h.2)

    steps_there : (more : Steps A) → StepsAreBuiltBy here letter_here more → StepsAreBuiltBy there letter_there (mapped_steps f more)
    steps_there no_step h = tt
    steps_there (cross_with e more) h = (built_there e h.0, steps_there more h.1)
    steps_there (then e more) h = (built_there e h.0, steps_there more h.1)

    mappings_there : (maps : Mappings A) → MappingsAreBuiltBy here letter_here maps → MappingsAreBuiltBy there letter_there (mapped_mappings f maps)
    mappings_there no_mapping h = tt
    mappings_there (plain c r maps) h = (tt, built_there c h.1, built_there r h.2, mappings_there maps h.3)
    mappings_there (markup c b a maps) h = (tt, built_there c h.1, built_there b h.2, built_there a h.3, mappings_there maps h.4)
    mappings_there (insert r maps) h = (built_there r h.0, mappings_there maps h.1)

    groups_there : (groups : Groups A) → GroupsAreBuiltBy here letter_here groups → GroupsAreBuiltBy there letter_there (mapped_groups f groups)
    groups_there no_group h = tt
    groups_there (then_group maps side contexts groups) h = (mappings_there maps h.0, contexts_there contexts h.1, groups_there groups h.2)

-- Where each leaf passes one test, if what is listed of it has a property and what it is replaced by passes another
-- test, the whole is built before if it is built then.
module _ {A B C : Type 0} (f : A → B) (here letter_here : A → Bool) (there letter_there : B → Bool) (of : A → List C) (P : C → Type 0)
    (leaf : (a : A) → All P (of a) → IsTrue (there (f a)) → IsTrue (here a)) (letter : (a : A) → All P (of a) → IsTrue (letter_there (f a)) → IsTrue (letter_here a)) where
  letters_here : (all : List A) → All P (flat_map of all) → IsTrue (list_all letter_there (map f all)) → IsTrue (list_all letter_here all)
  letters_here [] held h = refl
  letters_here (a ∷ all) held h =
      both_hold (letter_here a) (list_all letter_here all)
      (letter a (All-front P (of a) (flat_map of all) held) (first_holds (letter_there (f a)) (list_all letter_there (map f all)) h))
      (letters_here all (All-back P (of a) (flat_map of all) held) (second_holds (letter_there (f a)) (list_all letter_there (map f all)) h))

  mutual
    pub built_here : (e : Term A) → All P (listed of e) → IsBuiltBy there letter_there (mapped f e) → IsBuiltBy here letter_here e
    built_here empty held h = tt
    built_here any held h = tt
    built_here edge held h = tt
    built_here (atom a) held h = leaf a held h
    built_here (letters all) held h = letters_here all held h
    built_here (group e) held h = built_here e held h
    built_here (maybe e) held h = built_here e held h
    built_here (not_one n e) held h = built_here e held h
    built_here (cross e g) held h = (built_here e (All-front P (listed of e) (listed of g) held) h.0, built_here g (All-back P (listed of e) (listed of g) held) h.1)
    built_here (suffixed e suffixes) held h = built_here e held h
    built_here (prefixed prefixes e) held h = built_here e held h
    built_here (ignore es) held h = each_here es held h
    built_here (concat es) held h = each_here es held h
    built_here (chain e links) held h =
        (built_here e (All-front P (listed of e) (listed_links of links) held) h.0, links_here links (All-back P (listed of e) (listed_links of links) held) h.1)
    built_here (only e contexts) held h =
        (built_here e (All-front P (listed of e) (listed_contexts of contexts) held) h.0, contexts_here contexts (All-back P (listed of e) (listed_contexts of contexts) held) h.1)
    built_here (rules optional groups) held h = (sym (inserts_mapped f groups) ∙ h.0, groups_here groups held h.1)
    built_here (directed way maps contexts) held h = (
      sym (without_mapped f maps) ∙ h.0,
      mappings_here maps (All-front P (listed_mappings of maps) (listed_contexts of contexts) held) h.1,
      contexts_here contexts (All-back P (listed_mappings of maps) (listed_contexts of contexts) held) h.2,
    )
    built_here (steps e more) held h =
        (built_here e (All-front P (listed of e) (listed_steps of more) held) h.0, steps_here more (All-back P (listed of e) (listed_steps of more) held) h.1)

    each_here : (es : Terms A) → All P (listed_each of es) → AreBuiltBy there letter_there (mapped_each f es) → AreBuiltBy here letter_here es
    each_here no_term held h = tt
    each_here (then_term e es) held h =
        (built_here e (All-front P (listed of e) (listed_each of es) held) h.0, each_here es (All-back P (listed of e) (listed_each of es) held) h.1)

    links_here : (links : Links A) → All P (listed_links of links) → LinksAreBuiltBy there letter_there (mapped_links f links) → LinksAreBuiltBy here letter_here links
    links_here no_link held h = tt
    links_here (or e links) held h =
        (built_here e (All-front P (listed of e) (listed_links of links) held) h.0, links_here links (All-back P (listed of e) (listed_links of links) held) h.1)
    links_here (and e links) held h =
        (built_here e (All-front P (listed of e) (listed_links of links) held) h.0, links_here links (All-back P (listed of e) (listed_links of links) held) h.1)
    links_here (less e links) held h =
        (built_here e (All-front P (listed of e) (listed_links of links) held) h.0, links_here links (All-back P (listed of e) (listed_links of links) held) h.1)

    contexts_here : (contexts : Contexts A) → All P (listed_contexts of contexts) → ContextsAreBuiltBy there letter_there (mapped_contexts f contexts)
        → ContextsAreBuiltBy here letter_here contexts
    contexts_here no_context held h = tt
    contexts_here (between l r contexts) held h =
        let sides = All-front P (listed of l ++ listed of r) (listed_contexts of contexts) held in (
          built_here l (All-front P (listed of l) (listed of r) sides) h.0,
          built_here r (All-back P (listed of l) (listed of r) sides) h.1,
          contexts_here contexts (All-back P (listed of l ++ listed of r) (listed_contexts of contexts) held) h.2,
        )

    steps_here : (more : Steps A) → All P (listed_steps of more) → StepsAreBuiltBy there letter_there (mapped_steps f more) → StepsAreBuiltBy here letter_here more
    steps_here no_step held h = tt
    steps_here (cross_with e more) held h =
        (built_here e (All-front P (listed of e) (listed_steps of more) held) h.0, steps_here more (All-back P (listed of e) (listed_steps of more) held) h.1)
    steps_here (then e more) held h =
        (built_here e (All-front P (listed of e) (listed_steps of more) held) h.0, steps_here more (All-back P (listed of e) (listed_steps of more) held) h.1)

    mappings_here : (maps : Mappings A) → All P (listed_mappings of maps) → MappingsAreBuiltBy there letter_there (mapped_mappings f maps)
        → MappingsAreBuiltBy here letter_here maps
    mappings_here no_mapping held h = tt
    mappings_here (plain c r maps) held h =
        let parts = All-front P (listed of c ++ listed of r) (listed_mappings of maps) held in (
          tt,
          built_here c (All-front P (listed of c) (listed of r) parts) h.1,
          built_here r (All-back P (listed of c) (listed of r) parts) h.2,
          mappings_here maps (All-back P (listed of c ++ listed of r) (listed_mappings of maps) held) h.3,
        )
    mappings_here (markup c b a maps) held h =
        let parts = All-front P (listed of c ++ listed of b ++ listed of a) (listed_mappings of maps) held in
        let first = All-front P (listed of c ++ listed of b) (listed of a) parts in (
          tt,
          built_here c (All-front P (listed of c) (listed of b) first) h.1,
          built_here b (All-back P (listed of c) (listed of b) first) h.2,
          built_here a (All-back P (listed of c ++ listed of b) (listed of a) parts) h.3,
          mappings_here maps (All-back P (listed of c ++ listed of b ++ listed of a) (listed_mappings of maps) held) h.4,
        )
    mappings_here (insert r maps) held h = (built_here r (All-front P (listed of r) (listed_mappings of maps) held) h.0, mappings_here maps (All-back P (listed of r) (listed_mappings of maps) held) h.1)

    groups_here : (groups : Groups A) → All P (listed_groups of groups) → GroupsAreBuiltBy there letter_there (mapped_groups f groups) → GroupsAreBuiltBy here letter_here groups
    groups_here no_group held h = tt
    groups_here (then_group maps side contexts groups) held h =
        let parts = All-front P (listed_mappings of maps ++ listed_contexts of contexts) (listed_groups of groups) held in (
          mappings_here maps (All-front P (listed_mappings of maps) (listed_contexts of contexts) parts) h.0,
          contexts_here contexts (All-back P (listed_mappings of maps) (listed_contexts of contexts) parts) h.1,
          groups_here groups (All-back P (listed_mappings of maps ++ listed_contexts of contexts) (listed_groups of groups) held) h.2,
        )

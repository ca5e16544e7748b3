-- Expressions whose leaves are replaced: once more, and what is listed of them.
use Rattle.std.proofs.Common.{◌≡◌, List, [], ◌∷◌, ◌++◌, map, refl, ap}
use Rattle.std.proofs.lemmas.Simd.{map-map}
use Rattle.std.specs.List.{flat_map}
use Rattle.regex_ast.specs.Terms.{Term, Terms, Links, Contexts, Steps, Mappings, Groups, empty, any, edge, atom, letters, group, maybe, not_one, cross, suffixed, prefixed, ignore, concat, chain, only, rules, directed, steps, no_term, then_term, no_link, or, and, less, no_context, between, no_step, cross_with, then, no_mapping, plain, markup, insert, no_group, then_group}
use Rattle.expr_leaves.specs.Leaves.{listed, listed_each, listed_links, listed_contexts, listed_steps, listed_mappings, listed_groups}
use Rattle.expr_leaves.specs.Mapped.{mapped, mapped_each, mapped_links, mapped_contexts, mapped_steps, mapped_mappings, mapped_groups}

-- leaves that are replaced twice
module _ {A B C : Type 0} (g : B → C) (f : A → B) where
  mutual
    pub mapped_twice : (e : Term A) → mapped g (mapped f e) ≡ mapped (λ a. g (f a)) e
    mapped_twice empty = refl
    mapped_twice any = refl
    mapped_twice edge = refl
    mapped_twice (atom a) = refl
    mapped_twice (letters all) = ap letters (map-map g f all)
    mapped_twice (group e) = ap group (mapped_twice e)
    mapped_twice (maybe e) = ap maybe (mapped_twice e)
    mapped_twice (not_one n e) = ap (not_one n) (mapped_twice e)
    mapped_twice (cross e d) = let a = mapped_twice e in let b = mapped_twice d in λ i. cross (a i) (b i)
    mapped_twice (suffixed e suffixes) = ap (λ t. suffixed t suffixes) (mapped_twice e)
    mapped_twice (prefixed prefixes e) = ap (prefixed prefixes) (mapped_twice e)
    mapped_twice (ignore es) = ap ignore (each_twice es)
    mapped_twice (concat es) = ap concat (each_twice es)
    mapped_twice (chain e links) = let a = mapped_twice e in let b = links_twice links in λ i. chain (a i) (b i)
    mapped_twice (only e contexts) = let a = mapped_twice e in let b = contexts_twice contexts in λ i. only (a i) (b i)
    mapped_twice (rules optional groups) = ap (rules optional) (groups_twice groups)
    mapped_twice (directed way maps contexts) = let a = mappings_twice maps in let b = contexts_twice contexts in λ i. directed way (a i) (b i)
    mapped_twice (steps e more) = let a = mapped_twice e in let b = steps_twice more in λ i. steps (a i) (b i)

    each_twice : (es : Terms A) → mapped_each g (mapped_each f es) ≡ mapped_each (λ a. g (f a)) es
    each_twice no_term = refl
    each_twice (then_term e es) = let a = mapped_twice e in let b = each_twice es in λ i. then_term (a i) (b i)

    links_twice : (links : Links A) → mapped_links g (mapped_links f links) ≡ mapped_links (λ a. g (f a)) links
    links_twice no_link = refl
    links_twice (or e links) = let a = mapped_twice e in let b = links_twice links in λ i. or (a i) (b i)
    links_twice (and e links) = let a = mapped_twice e in let b = links_twice links in λ i. and (a i) (b i)
    links_twice (less e links) = let a = mapped_twice e in let b = links_twice links in λ i. less (a i) (b i)

    pub contexts_twice : (contexts : Contexts A) → mapped_contexts g (mapped_contexts f contexts) ≡ mapped_contexts (λ a. g (f a)) contexts
    contexts_twice no_context = refl
    contexts_twice (between l r contexts) = let a = mapped_twice l in let b = mapped_twice r in let c = contexts_twice contexts in λ i. between (a i) (b i) (c i)

    steps_twice : (more : Steps A) → mapped_steps g (mapped_steps f more) ≡ mapped_steps (λ a. g (f a)) more
    steps_twice no_step = refl
    steps_twice (cross_with e more) = let a = mapped_twice e in let b = steps_twice more in λ i. cross_with (a i) (b i)
    steps_twice (then e more) = let a = mapped_twice e in let b = steps_twice more in λ i. then (a i) (b i)

    mappings_twice : (maps : Mappings A) → mapped_mappings g (mapped_mappings f maps) ≡ mapped_mappings (λ a. g (f a)) maps
    mappings_twice no_mapping = refl
    mappings_twice (plain c r maps) = let a = mapped_twice c in let b = mapped_twice r in let d = mappings_twice maps in λ i. plain (a i) (b i) (d i)
    mappings_twice (markup c b a maps) =
        let x = mapped_twice c in let y = mapped_twice b in let z = mapped_twice a in let d = mappings_twice maps in λ i. markup (x i) (y i) (z i) (d i)
    mappings_twice (insert r maps) = let a = mapped_twice r in let d = mappings_twice maps in λ i. insert (a i) (d i)

    groups_twice : (groups : Groups A) → mapped_groups g (mapped_groups f groups) ≡ mapped_groups (λ a. g (f a)) groups
    groups_twice no_group = refl
    groups_twice (then_group maps side contexts groups) =
        let a = mappings_twice maps in let b = contexts_twice contexts in let c = groups_twice groups in λ i. then_group (a i) side (b i) (c i)

-- what is listed of leaves that are replaced
module _ {A B C : Type 0} (of : B → List C) (f : A → B) where
  letters_listed : (all : List A) → flat_map of (map f all) ≡ flat_map (λ a. of (f a)) all
  letters_listed [] = refl
  letters_listed (a ∷ all) = ap (λ z. of (f a) ++ z) (letters_listed all)

  mutual
    pub mapped_listed : (e : Term A) → listed of (mapped f e) ≡ listed (λ a. of (f a)) e
    mapped_listed empty = refl
    mapped_listed any = refl
    mapped_listed edge = refl
    mapped_listed (atom a) = refl
    mapped_listed (letters all) = letters_listed all
    mapped_listed (group e) = mapped_listed e
    mapped_listed (maybe e) = mapped_listed e
    mapped_listed (not_one n e) = mapped_listed e
    mapped_listed (cross e d) = let a = mapped_listed e in let b = mapped_listed d in λ i. a i ++ b i
    mapped_listed (suffixed e suffixes) = mapped_listed e
    mapped_listed (prefixed prefixes e) = mapped_listed e
    mapped_listed (ignore es) = each_listed es
    mapped_listed (concat es) = each_listed es
    mapped_listed (chain e links) = let a = mapped_listed e in let b = links_listed links in λ i. a i ++ b i
    mapped_listed (only e contexts) = let a = mapped_listed e in let b = contexts_listed contexts in λ i. a i ++ b i
    mapped_listed (rules optional groups) = groups_listed groups
    mapped_listed (directed way maps contexts) = let a = mappings_listed maps in let b = contexts_listed contexts in λ i. a i ++ b i
    mapped_listed (steps e more) = let a = mapped_listed e in let b = steps_listed more in λ i. a i ++ b i

    each_listed : (es : Terms A) → listed_each of (mapped_each f es) ≡ listed_each (λ a. of (f a)) es
    each_listed no_term = refl
    each_listed (then_term e es) = let a = mapped_listed e in let b = each_listed es in λ i. a i ++ b i

    links_listed : (links : Links A) → listed_links of (mapped_links f links) ≡ listed_links (λ a. of (f a)) links
    links_listed no_link = refl
    links_listed (or e links) = let a = mapped_listed e in let b = links_listed links in λ i. a i ++ b i
    links_listed (and e links) = let a = mapped_listed e in let b = links_listed links in λ i. a i ++ b i
    links_listed (less e links) = let a = mapped_listed e in let b = links_listed links in λ i. a i ++ b i

    pub contexts_listed : (contexts : Contexts A) → listed_contexts of (mapped_contexts f contexts) ≡ listed_contexts (λ a. of (f a)) contexts
    contexts_listed no_context = refl
    contexts_listed (between l r contexts) = let a = mapped_listed l in let b = mapped_listed r in let c = contexts_listed contexts in λ i. a i ++ b i ++ c i

    steps_listed : (more : Steps A) → listed_steps of (mapped_steps f more) ≡ listed_steps (λ a. of (f a)) more
    steps_listed no_step = refl
    steps_listed (cross_with e more) = let a = mapped_listed e in let b = steps_listed more in λ i. a i ++ b i
    steps_listed (then e more) = let a = mapped_listed e in let b = steps_listed more in λ i. a i ++ b i

    mappings_listed : (maps : Mappings A) → listed_mappings of (mapped_mappings f maps) ≡ listed_mappings (λ a. of (f a)) maps
    mappings_listed no_mapping = refl
    mappings_listed (plain c r maps) = let a = mapped_listed c in let b = mapped_listed r in let d = mappings_listed maps in λ i. a i ++ b i ++ d i
    mappings_listed (markup c b a maps) =
        let x = mapped_listed c in let y = mapped_listed b in let z = mapped_listed a in let d = mappings_listed maps in λ i. x i ++ y i ++ z i ++ d i
    mappings_listed (insert r maps) = let a = mapped_listed r in let d = mappings_listed maps in λ i. a i ++ d i

    groups_listed : (groups : Groups A) → listed_groups of (mapped_groups f groups) ≡ listed_groups (λ a. of (f a)) groups
    groups_listed no_group = refl
    groups_listed (then_group maps side contexts groups) =
        let a = mappings_listed maps in let b = contexts_listed contexts in let c = groups_listed groups in λ i. a i ++ b i ++ c i

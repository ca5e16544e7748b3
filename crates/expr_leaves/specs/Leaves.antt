-- The leaves that stand in an expression.
use Rattle.std.specs.Prelude.{List, [], ◌∷◌, ◌++◌, map}
use Rattle.std.specs.Borrow.{Bor}
use Rattle.std.specs.List.{flat_map}
use Rattle.regex_ast.specs.Terms.{Term, Terms, Links, Contexts, Steps, Mappings, Groups, atom, letters, group, maybe, not_one, cross, suffixed, prefixed, ignore, concat, chain, only, rules, directed, steps, no_term, then_term, no_link, or, and, less, no_context, between, no_step, cross_with, then, no_mapping, plain, markup, insert, no_group, then_group}

abbrev mutual
  -- what is listed of each leaf of an expression, in the order of their places
  pub listed : {A B : Type 0} → (A → List B) → Term A → List B
  listed of (atom a) = of a
  listed of (letters all) = flat_map of all
  listed of (group e) = listed of e
  listed of (maybe e) = listed of e
  listed of (not_one n e) = listed of e
  listed of (cross e f) = listed of e ++ listed of f
  listed of (suffixed e suffixes) = listed of e
  listed of (prefixed prefixes e) = listed of e
  listed of (ignore es) = listed_each of es
  listed of (concat es) = listed_each of es
  listed of (chain e links) = listed of e ++ listed_links of links
  listed of (only e contexts) = listed of e ++ listed_contexts of contexts
  listed of (rules optional groups) = listed_groups of groups
  listed of (directed way maps contexts) = listed_mappings of maps ++ listed_contexts of contexts
  listed of (steps e more) = listed of e ++ listed_steps of more
  -- the empty string, `?` and `.#.` have no leaves
  listed of _ = []

  pub listed_each : {A B : Type 0} → (A → List B) → Terms A → List B
  listed_each of no_term = []
  listed_each of (then_term e es) = listed of e ++ listed_each of es

  pub listed_links : {A B : Type 0} → (A → List B) → Links A → List B
  listed_links of no_link = []
  listed_links of (or e links) = listed of e ++ listed_links of links
  listed_links of (and e links) = listed of e ++ listed_links of links
  listed_links of (less e links) = listed of e ++ listed_links of links

  pub listed_contexts : {A B : Type 0} → (A → List B) → Contexts A → List B
  listed_contexts of no_context = []
  listed_contexts of (between l r contexts) = listed of l ++ listed of r ++ listed_contexts of contexts

  pub listed_steps : {A B : Type 0} → (A → List B) → Steps A → List B
  listed_steps of no_step = []
  listed_steps of (cross_with e more) = listed of e ++ listed_steps of more
  listed_steps of (then e more) = listed of e ++ listed_steps of more

  pub listed_mappings : {A B : Type 0} → (A → List B) → Mappings A → List B
  listed_mappings of no_mapping = []
  listed_mappings of (plain c r maps) = listed of c ++ listed of r ++ listed_mappings of maps
  listed_mappings of (markup c b a maps) = listed of c ++ listed of b ++ listed of a ++ listed_mappings of maps
  listed_mappings of (insert r maps) = listed of r ++ listed_mappings of maps

  pub listed_groups : {A B : Type 0} → (A → List B) → Groups A → List B
  listed_groups of no_group = []
  listed_groups of (then_group maps side contexts groups) = listed_mappings of maps ++ listed_contexts of contexts ++ listed_groups of groups

-- the leaves that stand in an expression
abbrev pub leaves_in : {A : Type 0} → Term A → List A
leaves_in e = listed (λ leaf. leaf ∷ []) e

-- a leaf, alone
abbrev pub leaf_alone : {A : Type 0} → A → List A
leaf_alone leaf = leaf ∷ []

-- the leaves behind references
abbrev pub seen : {A : Type 0} → List (Bor A) → List A
seen found = map (λ leaf. leaf.now) found

-- the leaves in the parts of a tree
abbrev pub leaves_in_each : {A : Type 0} → Terms A → List A
leaves_in_each es = listed_each leaf_alone es

abbrev pub leaves_in_links : {A : Type 0} → Links A → List A
leaves_in_links links = listed_links leaf_alone links

abbrev pub leaves_in_contexts : {A : Type 0} → Contexts A → List A
leaves_in_contexts contexts = listed_contexts leaf_alone contexts

abbrev pub leaves_in_steps : {A : Type 0} → Steps A → List A
leaves_in_steps more = listed_steps leaf_alone more

abbrev pub leaves_in_mappings : {A : Type 0} → Mappings A → List A
leaves_in_mappings maps = listed_mappings leaf_alone maps

abbrev pub leaves_in_groups : {A : Type 0} → Groups A → List A
leaves_in_groups groups = listed_groups leaf_alone groups

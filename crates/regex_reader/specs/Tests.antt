-- What is tried on an expression that was read: where `.#.` stands, and limits.
use Rattle.std.specs.Prelude.{ℕ, ◌+◌, Bool, true, false, not, ◌&&◌, ◌||◌, nat_lt, List, [], ◌∷◌, ◌++◌}
use Rattle.std.specs.List.{list_any}
use Rattle.regex_ast.specs.declared.expr.Raw.{Raw}
use Rattle.regex_ast.specs.declared.expr.Suffix.{Suffix}
use Rattle.regex_ast.specs.declared.expr.Suffix.TheVariants.{Power}
use Rattle.regex_ast.specs.Terms.{Term, Terms, Links, Contexts, Steps, Mappings, Groups, edge, group, maybe, not_one, cross, suffixed, prefixed, ignore, concat, chain, only, rules, directed, steps, no_term, then_term, no_link, or, and, less, no_context, between, no_step, cross_with, then, no_mapping, plain, markup, insert, no_group, then_group}
use Rattle.regex_reader.specs.Limits.{highest_power, most_in_rules}

-- an expression or a part of one, and whether it stands inside a context
pub record Node : Type 0 where
  pub term : Term Raw
  pub inside : Bool

abbrev pub at : Bool → Term Raw → Node
at inside t = record { term = t; inside = inside }

abbrev mutual
  -- the expression and all its parts
  pub nodes : Bool → Term Raw → List Node
  nodes inside (group e) = at inside (group e) ∷ nodes inside e
  nodes inside (maybe e) = at inside (maybe e) ∷ nodes inside e
  nodes inside (not_one n e) = at inside (not_one n e) ∷ nodes inside e
  nodes inside (cross e f) = at inside (cross e f) ∷ (nodes inside e ++ nodes inside f)
  nodes inside (suffixed e suffixes) = at inside (suffixed e suffixes) ∷ nodes inside e
  nodes inside (prefixed prefixes e) = at inside (prefixed prefixes e) ∷ nodes inside e
  nodes inside (ignore es) = at inside (ignore es) ∷ each_of inside es
  nodes inside (concat es) = at inside (concat es) ∷ each_of inside es
  nodes inside (chain e links) = at inside (chain e links) ∷ (nodes inside e ++ each_link inside links)
  nodes inside (only e contexts) = at inside (only e contexts) ∷ (nodes inside e ++ each_context contexts)
  nodes inside (rules optional groups) = at inside (rules optional groups) ∷ each_group inside groups
  nodes inside (directed way maps contexts) = at inside (directed way maps contexts) ∷ (each_mapping inside maps ++ each_context contexts)
  nodes inside (steps e more) = at inside (steps e more) ∷ (nodes inside e ++ each_step inside more)
  nodes inside t = at inside t ∷ []

  pub each_of : Bool → Terms Raw → List Node
  each_of inside no_term = []
  each_of inside (then_term e es) = nodes inside e ++ each_of inside es

  pub each_link : Bool → Links Raw → List Node
  each_link inside no_link = []
  each_link inside (or e links) = nodes inside e ++ each_link inside links
  each_link inside (and e links) = nodes inside e ++ each_link inside links
  each_link inside (less e links) = nodes inside e ++ each_link inside links

  pub each_context : Contexts Raw → List Node
  each_context no_context = []
  each_context (between l r contexts) = nodes true l ++ (nodes true r ++ each_context contexts)

  pub each_step : Bool → Steps Raw → List Node
  each_step inside no_step = []
  each_step inside (cross_with e more) = nodes inside e ++ each_step inside more
  each_step inside (then e more) = nodes inside e ++ each_step inside more

  pub each_mapping : Bool → Mappings Raw → List Node
  each_mapping inside no_mapping = []
  each_mapping inside (plain c r maps) = nodes inside c ++ (nodes inside r ++ each_mapping inside maps)
  each_mapping inside (markup c b a maps) = nodes inside c ++ (nodes inside b ++ (nodes inside a ++ each_mapping inside maps))
  each_mapping inside (insert r maps) = nodes inside r ++ each_mapping inside maps

  pub each_group : Bool → Groups Raw → List Node
  each_group inside no_group = []
  each_group inside (then_group maps side contexts groups) = each_mapping inside maps ++ (each_context contexts ++ each_group inside groups)

-- how many contexts, mappings
abbrev pub context_count : Contexts Raw → ℕ
context_count no_context = 0
context_count (between l r contexts) = 1 + context_count contexts

abbrev pub mapping_count : Mappings Raw → ℕ
mapping_count no_mapping = 0
mapping_count (plain c r maps) = 1 + mapping_count maps
mapping_count (markup c b a maps) = 1 + mapping_count maps
mapping_count (insert r maps) = 1 + mapping_count maps

-- those of all groups of a set of rules
abbrev pub mappings_in : Groups Raw → ℕ
mappings_in no_group = 0
mappings_in (then_group maps side contexts groups) = mapping_count maps + mappings_in groups

abbrev pub contexts_in : Groups Raw → ℕ
contexts_in no_group = 0
contexts_in (then_group maps side contexts groups) = context_count contexts + contexts_in groups

-- `.#.` outside of contexts
abbrev pub is_misplaced : Node → Bool
is_misplaced node = is_edge node.term && not node.inside
  where
    is_edge : Term Raw → Bool
    is_edge edge = true
    is_edge _ = false

-- `^n` with too high a number
abbrev pub is_high : Suffix → Bool
is_high (Power n) = nat_lt highest_power n
is_high _ = false

abbrev pub has_high_power : Node → Bool
has_high_power node = of_term node.term
  where
    of_term : Term Raw → Bool
    of_term (suffixed e suffixes) = list_any is_high suffixes
    of_term _ = false

-- too many mappings or contexts in one set of rules, or contexts of one `=>`; one inside another counts by itself
abbrev pub has_large_rule : Node → Bool
has_large_rule node = of_term node.term
  where
    of_term : Term Raw → Bool
    of_term (only e contexts) = nat_lt most_in_rules (context_count contexts)
    of_term (rules optional groups) = nat_lt most_in_rules (mappings_in groups) || nat_lt most_in_rules (contexts_in groups)
    of_term (directed way maps contexts) = nat_lt most_in_rules (mapping_count maps) || nat_lt most_in_rules (context_count contexts)
    of_term _ = false

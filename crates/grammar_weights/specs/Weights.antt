-- The weight of a grammar, by which of its leaves are the same symbol.
use Rattle.std.specs.Prelude.{◌+◌, ◌&&◌, ◌==◌, ℕ, Bool, true, false, cond, List, [], ◌∷◌, ◌++◌, map, sum_by, reverse, Option, None, Some}
use Rattle.std.specs.List.{flat_map, list_any}
use Rattle.std.specs.Str.{bytes_eq}
use Rattle.regex_ast.specs.declared.expr.Atom.{Atom}
use Rattle.regex_ast.specs.declared.expr.Atom.TheVariants.{Sym, Name}
use Rattle.expr_leaves.specs.Leaves.{listed, listed_contexts}
use Rattle.expr_kinds.specs.Weights.{weight_of, weight_of_contexts}
use Rattle.project_meaning.specs.Trees.{Side, nothing, one, Pair, Part, pair, called, PairDefinition, Rule, Grammar}

-- two leaves are the same symbol. An empty text has a place among the names in the stead of a number, and is the same as itself alone
abbrev pub is_same_symbol : Atom → Atom → Bool
is_same_symbol (Sym s) (Sym t) = s.0 == t.0
is_same_symbol (Name n) (Name m) = n == m
is_same_symbol _ _ = false

-- an atom weighs 1, and a definition's name what its expression weighs, where the definitions above it stand nearest first
abbrev pub part_weight : {A : Type 0} → List (PairDefinition A) → Part A → ℕ
part_weight above (pair p) = 1
part_weight [] (called name) = 1
part_weight (d ∷ above) (called name) = cond (bytes_eq d.name name) (weight_of (part_weight above) d.term) (part_weight above (called name))

abbrev pub rule_weight : {A : Type 0} → List (PairDefinition A) → Rule A → ℕ
rule_weight above r = weight_of_contexts (part_weight above) r.contexts + 1

-- a pair of leaves, either of which may be nothing
pub record Letter (A : Type 0) : Type 0 where
  pub up : Option A
  pub low : Option A

-- the one leaf, or nothing, that a side names, if it names one
abbrev pub named_side : {A : Type 0} → Side A → List (Option A)
named_side nothing = None ∷ []
named_side (one leaf) = Some leaf ∷ []
named_side _ = []

-- the pair that is written, if both sides name one
abbrev pub written_pair : {A : Type 0} → Pair A → List (Letter A)
written_pair p = flat_map (λ up. map (λ low. record { up = up; low = low }) (named_side p.low)) (named_side p.up)

abbrev pub written_part : {A : Type 0} → Part A → List (Letter A)
written_part (pair p) = written_pair p
written_part (called name) = []

-- the feasible pairs
abbrev pub feasible : {A : Type 0} → Grammar A → List (Letter A)
feasible g =
    flat_map written_pair g.pairs ++ flat_map (λ d. listed written_part d.term) g.definitions
    ++ flat_map (λ r. written_pair r.centre ++ listed_contexts written_part r.contexts) g.rules

module _ {A : Type 0} (same : A → A → Bool) where
  abbrev pub is_same_side : Option A → Option A → Bool
  is_same_side None None = true
  is_same_side (Some a) (Some b) = same a b
  is_same_side _ _ = false

  abbrev pub is_same_letter : Letter A → Letter A → Bool
  is_same_letter x y = is_same_side x.up y.up && is_same_side x.low y.low

  -- how many pairs there are, each counted once
  abbrev pub count_once : List (Letter A) → ℕ
  count_once [] = 0
  count_once (x ∷ xs) = cond (list_any (is_same_letter x) xs) (count_once xs) (count_once xs + 1)

  -- a grammar weighs its feasible pairs, its contexts, and one for each rule
  abbrev pub grammar_weight : Grammar A → ℕ
  grammar_weight g = count_once (feasible g) + sum_by (rule_weight (reverse g.definitions)) g.rules

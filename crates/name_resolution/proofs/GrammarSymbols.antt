-- The symbols that stand in a grammar are those of its leaves.
use Rattle.std.proofs.Common.{◌≡◌, ℕ, List, [], ◌∷◌, ◌++◌, map, refl, sym, ap, ◌∙◌, append-nil, append_assoc}
use Rattle.std.proofs.lemmas.Grind.{flat_map-append}
use Rattle.std.proofs.lemmas.List.Folds.{flat_map-map}
use Rattle.std.specs.List.{flat_map}
use Rattle.expr_leaves.specs.Leaves.{leaf_alone, listed, listed_contexts}
use Rattle.expr_leaves.specs.Mapped.{mapped_contexts}
use Rattle.name_resolution.specs.Leaves.{SymbolsAreOfLeaves, leaves_in_pair, leaves_in_side, pairs_in_definition, pairs_in_part, pairs_in_rule}
use Rattle.name_resolution.proofs.Listed.{contexts_is, listed_is}
use Rattle.name_resolution.proofs.Mapped.{contexts_listed, mapped_listed}
use Rattle.project_meaning.specs.Leaves.{Leaf, pair_symbols, part_symbols, resolved_pair, resolved_pairs, resolved_part, resolved_rule, resolved_set, resolved_side, side_symbols, symbol_in, symbol_of}
use Rattle.project_meaning.specs.Trees.{Side, nothing, anything, one, member, Pair, Part, pair, called, Set, PairDefinition, Rule}
use Rattle.regex_ast.specs.Terms.{Contexts, Term}
use Rattle.regex_ast.specs.declared.expr.Raw.{Raw}

-- what is listed of what is listed
module _ {X A T : Type 0} (symbols : A → List T) (of : X → List A) where
  flat_twice : (xs : List X) → flat_map symbols (flat_map of xs) ≡ flat_map (λ x. flat_map symbols (of x)) xs
  flat_twice [] = refl
  flat_twice (x ∷ xs) = flat_map-append symbols (of x) (flat_map of xs) ∙ ap (λ (ts : List T). flat_map symbols (of x) ++ ts) (flat_twice xs)

  term_twice : (t : Term X) → listed (λ x. flat_map symbols (of x)) t ≡ flat_map symbols (listed of t)
  term_twice t = listed_is (λ x. flat_map symbols (of x)) t ∙ sym (flat_twice (listed leaf_alone t)) ∙ ap (flat_map symbols) (sym (listed_is of t))

  contexts_both : (cs : Contexts X) → listed_contexts (λ x. flat_map symbols (of x)) cs ≡ flat_map symbols (listed_contexts of cs)
  contexts_both cs = contexts_is (λ x. flat_map symbols (of x)) cs ∙ sym (flat_twice (listed_contexts leaf_alone cs)) ∙ ap (flat_map symbols) (sym (contexts_is of cs))

-- what items list once they are changed is what is listed of what stands in them
row : {X Y P T : Type 0} (symbols : P → List T) (of : X → List P) (change : X → Y) (after : Y → List T) → ((x : X) → after (change x) ≡ flat_map symbols (of x))
    → (xs : List X) → flat_map after (map change xs) ≡ flat_map symbols (flat_map of xs)
row symbols of change after same [] = refl
row symbols of change after same (x ∷ xs) =
    let own = same x in
    let rest = row symbols of change after same xs in
    (λ i. own i ++ rest i) ∙ sym (flat_map-append symbols (of x) (flat_map of xs))

abbrev symbol_at : Raw → List (List ℕ)
symbol_at raw = symbol_in (symbol_of raw)

side : (s : Side Raw) → side_symbols (resolved_side s) ≡ flat_map symbol_at (leaves_in_side s)
side nothing = refl
side anything = refl
side (one raw) = sym (append-nil (symbol_at raw))
side (member set) = refl

one_pair : (p : Pair Raw) → pair_symbols (resolved_pair p) ≡ flat_map symbol_at (leaves_in_pair p)
one_pair p =
    let up = side p.up in
    let low = side p.low in
    (λ i. up i ++ low i) ∙ sym (flat_map-append symbol_at (leaves_in_side p.up) (leaves_in_side p.low))

-- the symbols of a pair as it is written
abbrev pair_at : Pair Raw → List (List ℕ)
pair_at p = flat_map symbol_at (leaves_in_pair p)

part : (p : Part Raw) → part_symbols (resolved_part p) ≡ flat_map pair_at (pairs_in_part p)
part (pair p) = one_pair p ∙ sym (append-nil (pair_at p))
part (called name) = refl

one_set : (s : Set Raw) → flat_map symbol_in (resolved_set s).symbols ≡ flat_map symbol_at s.symbols
one_set s = flat_map-map symbol_in symbol_of s.symbols

definition : (d : PairDefinition Raw) → listed part_symbols (resolved_pairs d).term ≡ flat_map pair_at (pairs_in_definition d)
definition d = mapped_listed part_symbols resolved_part d.term ∙ (λ i. listed (λ p. part p i) d.term) ∙ term_twice pair_at pairs_in_part d.term

contexts : (cs : Contexts (Part Raw)) → listed_contexts part_symbols (mapped_contexts resolved_part cs) ≡ flat_map pair_at (listed_contexts pairs_in_part cs)
contexts cs = contexts_listed part_symbols resolved_part cs ∙ (λ i. listed_contexts (λ p. part p i) cs) ∙ contexts_both pair_at pairs_in_part cs

rule : (r : Rule Raw) → pair_symbols (resolved_rule r).centre ++ listed_contexts part_symbols (resolved_rule r).contexts ≡ flat_map pair_at (pairs_in_rule r)
rule r =
    let centre = one_pair r.centre in
    let own = contexts r.contexts in
    λ i. centre i ++ own i

pub symbols_of_leaves : SymbolsAreOfLeaves
symbols_of_leaves g =
    let pairs = row symbol_at leaves_in_pair resolved_pair pair_symbols one_pair g.pairs in
    let sets = row symbol_at (λ (s : Set Raw). s.symbols) resolved_set (λ (s : Set Leaf). flat_map symbol_in s.symbols) one_set g.sets in
    let definitions = row pair_at pairs_in_definition resolved_pairs (λ (d : PairDefinition Leaf). listed part_symbols d.term) definition g.definitions in
    let rules = row pair_at pairs_in_rule resolved_rule (λ (r : Rule Leaf). pair_symbols r.centre ++ listed_contexts part_symbols r.contexts) rule g.rules in
    let p = flat_map leaves_in_pair g.pairs in
    let s = flat_map (λ (s : Set Raw). s.symbols) g.sets in
    let d = flat_map pairs_in_definition g.definitions in
    let r = flat_map pairs_in_rule g.rules in
    (λ i. pairs i ++ sets i ++ definitions i ++ rules i)
    ∙ append_assoc (flat_map symbol_at p ++ flat_map symbol_at s) (flat_map pair_at d) (flat_map pair_at r)
    ∙ ap (λ (z : List (List ℕ)). flat_map symbol_at p ++ flat_map symbol_at s ++ z) (sym (flat_map-append pair_at d r) ∙ sym (flat_twice symbol_at leaves_in_pair (d ++ r)))
    ∙ ap (λ (z : List (List ℕ)). z ++ flat_map symbol_at (flat_map leaves_in_pair (d ++ r))) (sym (flat_map-append symbol_at p s))
    ∙ sym (flat_map-append symbol_at (p ++ s) (flat_map leaves_in_pair (d ++ r)))

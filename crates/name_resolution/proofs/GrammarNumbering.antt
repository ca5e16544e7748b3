-- A grammar by numbers is the resolved grammar, each leaf by its number.
use Rattle.std.proofs.Common.{◌≡◌, ℕ, List, [], ◌∷◌, map, refl, sym, ◌∙◌}
use Rattle.std.proofs.lemmas.Simd.{map-map}
use Rattle.expr_leaves.specs.Mapped.{mapped, mapped_contexts}
use Rattle.grammar_pairs.specs.Mapped.{mapped_definition, mapped_pair, mapped_part, mapped_rule, mapped_set, mapped_side}
use Rattle.name_resolution.specs.NumberedGrammars.{IsResolvedByNumber}
use Rattle.name_resolution.proofs.Mapped.{contexts_twice, mapped_twice}
use Rattle.name_resolution.specs.Numbered.{numbered}
use Rattle.name_resolution.specs.Resolved.{letter_of}
use Rattle.project_meaning.specs.Leaves.{resolved_pair, resolved_pairs, resolved_part, resolved_rule, resolved_set, resolved_side, symbol_of}
use Rattle.project_meaning.specs.Trees.{Side, nothing, anything, one, member, Pair, Part, pair, called, Set, PairDefinition, Rule}
use Rattle.regex_ast.specs.Terms.{Contexts, Term}
use Rattle.regex_ast.specs.declared.expr.Raw.{Raw}

-- functions that are the same on each element
same_map : {X Y Z : Type 0} (direct : X → Z) (second : Y → Z) (first : X → Y) → ((x : X) → direct x ≡ second (first x)) → (xs : List X) → map direct xs ≡ map second (map first xs)
same_map direct second first same [] = refl
same_map direct second first same (x ∷ xs) = let rest = same_map direct second first same xs in λ i. same x i ∷ rest i

module _ (names table : List (List ℕ)) where
  side : (s : Side Raw) → mapped_side (letter_of names table) s ≡ mapped_side (numbered names table) (resolved_side s)
  side nothing = refl
  side anything = refl
  side (one raw) = refl
  side (member set) = refl

  one_pair : (p : Pair Raw) → mapped_pair (letter_of names table) p ≡ mapped_pair (numbered names table) (resolved_pair p)
  one_pair p = let up = side p.up in let low = side p.low in λ i. record { up = up i; low = low i }

  part : (p : Part Raw) → mapped_part (letter_of names table) p ≡ mapped_part (numbered names table) (resolved_part p)
  part (pair p) = let own = one_pair p in λ i. pair (own i)
  part (called name) = refl

  term : (t : Term (Part Raw)) → mapped (mapped_part (letter_of names table)) t ≡ mapped (mapped_part (numbered names table)) (mapped resolved_part t)
  term t = (λ i. mapped (λ p. part p i) t) ∙ sym (mapped_twice (mapped_part (numbered names table)) resolved_part t)

  contexts : (cs : Contexts (Part Raw)) → mapped_contexts (mapped_part (letter_of names table)) cs ≡ mapped_contexts (mapped_part (numbered names table)) (mapped_contexts resolved_part cs)
  contexts cs = (λ i. mapped_contexts (λ p. part p i) cs) ∙ sym (contexts_twice (mapped_part (numbered names table)) resolved_part cs)

  one_set : (s : Set Raw) → mapped_set (letter_of names table) s ≡ mapped_set (numbered names table) (resolved_set s)
  one_set s = let symbols = sym (map-map (numbered names table) symbol_of s.symbols) in λ i. record { name = s.name; symbols = symbols i }

  definition : (d : PairDefinition Raw) → mapped_definition (letter_of names table) d ≡ mapped_definition (numbered names table) (resolved_pairs d)
  definition d = let own = term d.term in λ i. record { name = d.name; term = own i }

  rule : (r : Rule Raw) → mapped_rule (letter_of names table) r ≡ mapped_rule (numbered names table) (resolved_rule r)
  rule r = let centre = one_pair r.centre in let own = contexts r.contexts in λ i. record { name = r.name; centre = centre i; kind = r.kind; contexts = own i }

pub by_number : IsResolvedByNumber
by_number names table g =
    let n = numbered names table in
    let l = letter_of names table in
    let pairs = same_map (mapped_pair l) (mapped_pair n) resolved_pair (one_pair names table) g.pairs in
    let sets = same_map (mapped_set l) (mapped_set n) resolved_set (one_set names table) g.sets in
    let definitions = same_map (mapped_definition l) (mapped_definition n) resolved_pairs (definition names table) g.definitions in
    let rules = same_map (mapped_rule l) (mapped_rule n) resolved_rule (rule names table) g.rules in
    λ i. record { pairs = pairs i; sets = sets i; definitions = definitions i; rules = rules i }

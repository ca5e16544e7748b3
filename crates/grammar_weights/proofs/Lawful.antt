-- The weight of a grammar by other leaves.
use Rattle.std.proofs.Common.{◌≡◌, ◌+◌, ℕ, cond, List, [], ◌∷◌, ◌++◌, All, map, refl, sym, ap, subst, ◌∙◌}
use Rattle.std.specs.Prelude.{reverse, sum_by}
use Rattle.std.specs.List.{flat_map}
use Rattle.std.specs.Str.{bytes_eq}
use Rattle.std.proofs.lemmas.List.{map-append, reverse-append}
use Rattle.std.proofs.lemmas.List.Elements.{All-append}
use Rattle.std.proofs.lemmas.List.Sums.{sum_by-cons}
use Rattle.expr_kinds.specs.Weights.{weight_of, weight_of_contexts}
use Rattle.expr_leaves.specs.Leaves.{listed, listed_contexts}
use Rattle.project_meaning.specs.Grammars.{count_once as count_texts, feasible as feasible_texts, part_weight as text_weight, written_pair as written_texts, written_part as part_texts}
use Rattle.project_meaning.specs.Leaves.{Leaf}
use Rattle.project_meaning.specs.Trees.{Part, pair, called, PairDefinition, Rule, Grammar, Set}
use Rattle.grammar_pairs.specs.Mapped.{mapped_definition, mapped_grammar, mapped_pair, mapped_part, mapped_rule}
use Rattle.name_resolution.specs.Leaves.{leaves_in_pair, pairs_below}
use Rattle.grammar_weights.specs.Laws.{AlikeWeighs, MappedWeighs, MeantWeighs}
use Rattle.grammar_weights.specs.Weights.{Letter, count_once, feasible, part_weight, rule_weight, written_pair, written_part}
use Rattle.grammar_weights.proofs.Letters.{All-back, All-front, LetterHas, count_alike, count_meant, count_pulled, letter_by, pairs_have, text_letter, written_mapped, written_meant}
use Rattle.grammar_weights.proofs.Listed.{contexts_image, contexts_of_image, feasible_is, flat_of_image, row_image, term_image, term_of_image, three}
use Rattle.grammar_weights.proofs.Replaced.{contexts_weight, mapped_weight}

map_reverse : {X Y : Type 0} (f : X → Y) (xs : List X) → reverse (map f xs) ≡ map f (reverse xs)
map_reverse f [] = refl
map_reverse {Y = Y} f (x ∷ xs) =
    reverse-append (f x ∷ []) (map f xs) ∙ ap (λ (z : List Y). z ++ f x ∷ []) (map_reverse f xs)
    ∙ sym (ap (map f) (reverse-append (x ∷ []) xs) ∙ map-append f (reverse xs) (x ∷ []))

sums_alike : {X Y : Type 0} (to : X → Y) (f : Y → ℕ) (g : X → ℕ) → ((x : X) → f (to x) ≡ g x) → (xs : List X) → sum_by f (map to xs) ≡ sum_by g xs
sums_alike to f g alike [] = refl
sums_alike to f g alike (x ∷ xs) =
    let here = alike x in
    let rest = sums_alike to f g alike xs in
    sum_by-cons f (to x) (map to xs) ∙ (λ i. here i + rest i) ∙ sym (sum_by-cons g x xs)

sums_same : {X : Type 0} (f g : X → ℕ) → ((x : X) → f x ≡ g x) → (xs : List X) → sum_by f xs ≡ sum_by g xs
sums_same f g alike [] = refl
sums_same f g alike (x ∷ xs) =
    let here = alike x in
    let rest = sums_same f g alike xs in
    sum_by-cons f x xs ∙ (λ i. here i + rest i) ∙ sym (sum_by-cons g x xs)

-- with other leaves
module _ {A B : Type 0} (f : A → B) where
  part_written : (p : Part A) → written_part (mapped_part f p) ≡ map (letter_by f) (written_part p)
  part_written (pair p) = written_mapped f p
  part_written (called name) = refl

  definition_written : (d : PairDefinition A) → listed written_part (mapped_definition f d).term ≡ map (letter_by f) (listed written_part d.term)
  definition_written d = term_image (mapped_part f) written_part written_part (letter_by f) part_written d.term

  rule_written : (r : Rule A) → written_pair (mapped_rule f r).centre ++ listed_contexts written_part (mapped_rule f r).contexts ≡ map (letter_by f) (written_pair r.centre ++ listed_contexts written_part r.contexts)
  rule_written r =
      let centre = written_mapped f r.centre in
      let contexts = contexts_image (mapped_part f) written_part written_part (letter_by f) part_written r.contexts in
      (λ i. centre i ++ contexts i) ∙ sym (map-append (letter_by f) (written_pair r.centre) (listed_contexts written_part r.contexts))

  abbrev of_definition : {C : Type 0} → PairDefinition C → List (Letter C)
  of_definition d = listed written_part d.term

  abbrev of_rule : {C : Type 0} → Rule C → List (Letter C)
  of_rule r = written_pair r.centre ++ listed_contexts written_part r.contexts

  feasible_mapped : (g : Grammar A) → feasible (mapped_grammar f g) ≡ map (letter_by f) (feasible g)
  feasible_mapped g =
      let G = mapped_grammar f g in
      three (letter_by f) (flat_map written_pair G.pairs) (flat_map of_definition G.definitions) (flat_map of_rule G.rules) (flat_map written_pair g.pairs) (flat_map of_definition g.definitions) (flat_map of_rule g.rules)
      (row_image (mapped_pair f) written_pair written_pair (letter_by f) (written_mapped f) g.pairs)
      (row_image (mapped_definition f) of_definition of_definition (letter_by f) definition_written g.definitions)
      (row_image (mapped_rule f) of_rule of_rule (letter_by f) rule_written g.rules)

  part_mapped : (above : List (PairDefinition A)) (p : Part A) → part_weight (map (mapped_definition f) above) (mapped_part f p) ≡ part_weight above p
  part_mapped [] (pair p) = refl
  part_mapped [] (called name) = refl
  part_mapped (d ∷ above) (pair p) = refl
  part_mapped (d ∷ above) (called name) =
      let own = mapped_weight (part_weight (map (mapped_definition f) above)) (mapped_part f) d.term ∙ (λ i. weight_of (λ p. part_mapped above p i) d.term) in
      let rest = part_mapped above (called name) in
      λ i. cond (bytes_eq d.name name) (own i) (rest i)

  rule_mapped : (above : List (PairDefinition A)) (r : Rule A) → rule_weight (map (mapped_definition f) above) (mapped_rule f r) ≡ rule_weight above r
  rule_mapped above r =
      ap (λ (n : ℕ). n + 1) (contexts_weight (part_weight (map (mapped_definition f) above)) (mapped_part f) r.contexts ∙ (λ i. weight_of_contexts (λ p. part_mapped above p i) r.contexts))

  rules_mapped : (g : Grammar A) → sum_by (rule_weight (reverse (map (mapped_definition f) g.definitions))) (map (mapped_rule f) g.rules) ≡ sum_by (rule_weight (reverse g.definitions)) g.rules
  rules_mapped g =
      ap (λ (above : List (PairDefinition B)). sum_by (rule_weight above) (map (mapped_rule f) g.rules)) (map_reverse (mapped_definition f) g.definitions)
      ∙ sums_alike (mapped_rule f) (rule_weight (map (mapped_definition f) (reverse g.definitions))) (rule_weight (reverse g.definitions)) (rule_mapped (reverse g.definitions)) g.rules

pub mapped_weighs : {A B : Type 0} → MappedWeighs A B
mapped_weighs same f g =
    let pairs = ap (count_once same) (feasible_mapped f g) ∙ count_pulled f same (feasible g) in
    let rules = rules_mapped f g in
    λ i. pairs i + rules i

-- by texts
part_meant : (p : Part Leaf) → part_texts p ≡ map text_letter (written_part p)
part_meant (pair p) = written_meant p
part_meant (called name) = refl

rule_meant : (r : Rule Leaf) → written_texts r.centre ++ listed_contexts part_texts r.contexts ≡ map text_letter (written_pair r.centre ++ listed_contexts written_part r.contexts)
rule_meant r =
    let centre = written_meant r.centre in
    let contexts = contexts_of_image part_texts written_part text_letter part_meant r.contexts in
    (λ i. centre i ++ contexts i) ∙ sym (map-append text_letter (written_pair r.centre) (listed_contexts written_part r.contexts))

feasible_meant : (g : Grammar Leaf) → feasible_texts g ≡ map text_letter (feasible g)
feasible_meant g =
    three text_letter (flat_map written_texts g.pairs) (flat_map (λ (d : PairDefinition Leaf). listed part_texts d.term) g.definitions)
    (flat_map (λ (r : Rule Leaf). written_texts r.centre ++ listed_contexts part_texts r.contexts) g.rules)
    (flat_map written_pair g.pairs) (flat_map (λ (d : PairDefinition Leaf). listed written_part d.term) g.definitions)
    (flat_map (λ (r : Rule Leaf). written_pair r.centre ++ listed_contexts written_part r.contexts) g.rules)
    (flat_of_image written_texts written_pair text_letter written_meant g.pairs)
    (flat_of_image (λ (d : PairDefinition Leaf). listed part_texts d.term) (λ (d : PairDefinition Leaf). listed written_part d.term) text_letter (λ d. term_of_image part_texts written_part text_letter part_meant d.term) g.definitions)
    (flat_of_image (λ (r : Rule Leaf). written_texts r.centre ++ listed_contexts part_texts r.contexts) (λ (r : Rule Leaf). written_pair r.centre ++ listed_contexts written_part r.contexts) text_letter rule_meant g.rules)

weight_meant : (above : List (PairDefinition Leaf)) (p : Part Leaf) → text_weight above p ≡ part_weight above p
weight_meant [] (pair p) = refl
weight_meant [] (called name) = refl
weight_meant (d ∷ above) (pair p) = refl
weight_meant (d ∷ above) (called name) =
    let rest = weight_meant above (called name) in
    λ i. cond (bytes_eq d.name name) (weight_of (λ p. weight_meant above p i) d.term) (rest i)

pub meant_weighs : MeantWeighs
meant_weighs g =
    let pairs = ap count_texts (feasible_meant g) ∙ count_meant (feasible g) in
    let above = reverse g.definitions in
    let rules = sums_same (λ (r : Rule Leaf). weight_of_contexts (text_weight above) r.contexts + 1) (rule_weight above) (λ r i. weight_of_contexts (λ p. weight_meant above p i) r.contexts + 1) g.rules in
    λ i. pairs i + rules i

-- by tests that agree
pub alike_weighs : {A : Type 0} (P : A → Type 0) → AlikeWeighs A P
alike_weighs {A} P same other agree g all =
    let alphabet = flat_map leaves_in_pair g.pairs in
    let sets = flat_map (λ (s : Set A). s.symbols) g.sets in
    let below = flat_map leaves_in_pair (pairs_below g) in
    let first = pairs_have P g.pairs (All-front P alphabet sets (All-front P (alphabet ++ sets) below all)) in
    let second = pairs_have P (pairs_below g) (All-back P (alphabet ++ sets) below all) in
    let have : All (LetterHas P) (feasible g) =
    subst (All (LetterHas P)) (sym (feasible_is g)) (All-append (LetterHas P) (flat_map written_pair g.pairs) (flat_map written_pair (pairs_below g)) first second) in
    ap (λ (n : ℕ). n + sum_by (rule_weight (reverse g.definitions)) g.rules) (count_alike P same other agree (feasible g) have)

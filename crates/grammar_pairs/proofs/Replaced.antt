-- Grammars whose leaves are replaced twice.
use Rattle.std.proofs.Common.{◌≡◌, Bool, IsTrue, List, [], ◌∷◌, All, map, refl, ap}
use Rattle.std.proofs.lemmas.Bool.{and_parts}
use Rattle.std.proofs.lemmas.List.Elements.{All-head, All-tail}
use Rattle.regex_ast.specs.Terms.{Term, Terms, Links, Contexts, empty, any, edge, atom, group, maybe, not_one, suffixed, prefixed, ignore, concat, chain, no_term, then_term, no_link, or, and, less, no_context, between}
use Rattle.regex_ast.specs.declared.expr.Raw.{Raw}
use Rattle.expr_kinds.specs.Built.{IsBuilt, AreBuilt, LinksAreBuilt, ContextsAreBuilt}
use Rattle.expr_leaves.specs.Mapped.{mapped, mapped_each, mapped_links, mapped_contexts}
use Rattle.project_meaning.specs.Leaves.{resolved_side, resolved_pair, resolved_part, resolved_set, symbol_of}
use Rattle.project_meaning.specs.Trees.{Side, nothing, anything, one, member, Pair, Part, pair, called, Set, PairDefinition, Rule, Grammar}
use Rattle.grammar_pairs.specs.Laws.{side_passes, pair_passes, part_passes, HasLeaves, GrammarIsInTexts, ResolvedIsMapped}
use Rattle.grammar_pairs.specs.Mapped.{mapped_side, mapped_pair, mapped_part, mapped_set, mapped_definition, mapped_rule, mapped_grammar}
use Rattle.grammar_pairs.specs.Plain.{IsPairForm, ArePairForms, LinksArePairForms, ContextsArePairForms, IsFormed, IsFormedRule}
use Rattle.grammar_pairs.specs.Texts.{in_text}

-- lists whose elements are replaced twice
map_twice : {X Y Z : Type 0} (P : X → Type 0) (h : Y → Z) (f : X → Y) (k : X → Z) → ((x : X) → P x → h (f x) ≡ k x) → (xs : List X) → All P xs → map h (map f xs) ≡ map k xs
map_twice P h f k same [] all = refl
map_twice P h f k same (x ∷ xs) all = let a = same x (All-head P x xs all) in let b = map_twice P h f k same xs (All-tail P x xs all) in λ i. a i ∷ b i

module _ {A B D : Type 0} (f : A → B) (h : B → D) (k : A → D) (passes : A → Bool) (same : (a : A) → IsTrue (passes a) → h (f a) ≡ k a) where
  mutual
    term_twice : (e : Term A) → IsPairForm e → IsBuilt passes e → mapped h (mapped f e) ≡ mapped k e
    term_twice empty form built = refl
    term_twice any form built = refl
    term_twice edge form built = refl
    term_twice (atom a) form built = ap atom (same a built)
    term_twice (group e) form built = ap group (term_twice e form built)
    term_twice (maybe e) form built = ap maybe (term_twice e form built)
    term_twice (not_one n e) form built = ap (not_one n) (term_twice e form built)
    term_twice (suffixed e suffixes) form built = ap (λ t. suffixed t suffixes) (term_twice e form built)
    term_twice (prefixed prefixes e) form built = ap (prefixed prefixes) (term_twice e form built)
    term_twice (ignore es) form built = ap ignore (each_twice es form built)
    term_twice (concat es) form built = ap concat (each_twice es form built)
    term_twice (chain e links) form built = let a = term_twice e form.0 built.0 in let b = links_twice links form.1 built.1 in λ i. chain (a i) (b i)
    term_twice _ form built = absurd form

    each_twice : (es : Terms A) → ArePairForms es → AreBuilt passes es → mapped_each h (mapped_each f es) ≡ mapped_each k es
    each_twice no_term form built = refl
    each_twice (then_term e es) form built = let a = term_twice e form.0 built.0 in let b = each_twice es form.1 built.1 in λ i. then_term (a i) (b i)

    links_twice : (links : Links A) → LinksArePairForms links → LinksAreBuilt passes links → mapped_links h (mapped_links f links) ≡ mapped_links k links
    links_twice no_link form built = refl
    links_twice (or e links) form built = let a = term_twice e form.0 built.0 in let b = links_twice links form.1 built.1 in λ i. or (a i) (b i)
    links_twice (and e links) form built = let a = term_twice e form.0 built.0 in let b = links_twice links form.1 built.1 in λ i. and (a i) (b i)
    links_twice (less e links) form built = let a = term_twice e form.0 built.0 in let b = links_twice links form.1 built.1 in λ i. less (a i) (b i)

  contexts_twice : (cs : Contexts A) → ContextsArePairForms cs → ContextsAreBuilt passes cs → mapped_contexts h (mapped_contexts f cs) ≡ mapped_contexts k cs
  contexts_twice no_context form built = refl
  contexts_twice (between l r cs) form built =
      let a = term_twice l form.0 built.0 in let b = term_twice r form.1 built.1 in let c = contexts_twice cs form.2 built.2 in λ i. between (a i) (b i) (c i)

module _ {A B D : Type 0} (f : A → B) (h : B → D) (k : A → D) (passes : A → Bool) (same : (a : A) → IsTrue (passes a) → h (f a) ≡ k a) where
  side_twice : (s : Side A) → IsTrue (side_passes passes s) → mapped_side h (mapped_side f s) ≡ mapped_side k s
  side_twice nothing pass = refl
  side_twice anything pass = refl
  side_twice (one leaf) pass = ap one (same leaf pass)
  side_twice (member name) pass = refl

  pair_twice : (p : Pair A) → IsTrue (pair_passes passes p) → mapped_pair h (mapped_pair f p) ≡ mapped_pair k p
  pair_twice p pass =
      let both = and_parts (side_passes passes p.up) (side_passes passes p.low) pass in
      let a = side_twice p.up both.0 in
      let b = side_twice p.low both.1 in
      λ i. record { up = a i; low = b i }

  part_twice : (p : Part A) → IsTrue (part_passes passes p) → mapped_part h (mapped_part f p) ≡ mapped_part k p
  part_twice (pair p) pass = ap pair (pair_twice p pass)
  part_twice (called name) pass = refl

  set_twice : (s : Set A) → All (λ leaf. IsTrue (passes leaf)) s.symbols → mapped_set h (mapped_set f s) ≡ mapped_set k s
  set_twice s pass = ap (λ (z : List D). record { name = s.name; symbols = z }) (map_twice (λ leaf. IsTrue (passes leaf)) h f k same s.symbols pass)

  definition_twice : (d : PairDefinition A) → IsPairForm d.term × IsBuilt (part_passes passes) d.term → mapped_definition h (mapped_definition f d) ≡ mapped_definition k d
  definition_twice d (form, built) =
      ap (λ (z : Term (Part D)). record { name = d.name; term = z }) (term_twice (mapped_part f) (mapped_part h) (mapped_part k) (part_passes passes) part_twice d.term form built)

  rule_twice : (r : Rule A) → IsFormedRule r × (IsTrue (pair_passes passes r.centre) × ContextsAreBuilt (part_passes passes) r.contexts) → mapped_rule h (mapped_rule f r) ≡ mapped_rule k r
  rule_twice r (form, (pass, built)) =
      let a = pair_twice r.centre pass in
      let b = contexts_twice (mapped_part f) (mapped_part h) (mapped_part k) (part_passes passes) part_twice r.contexts form.2 built in
      λ i. record { name = r.name; centre = a i; kind = r.kind; contexts = b i }

  both_all : {X : Type 0} (P Q : X → Type 0) (xs : List X) → All P xs → All Q xs → All (λ x. P x × Q x) xs
  both_all P Q xs first second = λ i d below. (first i d below, second i d below)

  grammar_twice : (g : Grammar A) → IsFormed g → HasLeaves passes g → mapped_grammar h (mapped_grammar f g) ≡ mapped_grammar k g
  grammar_twice g formed has =
      let a = map_twice (λ p. IsTrue (pair_passes passes p)) (mapped_pair h) (mapped_pair f) (mapped_pair k) pair_twice g.pairs has.pairs in
      let b = map_twice (λ s. All (λ leaf. IsTrue (passes leaf)) s.symbols) (mapped_set h) (mapped_set f) (mapped_set k) set_twice g.sets has.sets in
      let c = map_twice (λ d. IsPairForm d.term × IsBuilt (part_passes passes) d.term) (mapped_definition h) (mapped_definition f) (mapped_definition k) definition_twice g.definitions
      (both_all (λ d. IsPairForm d.term) (λ d. IsBuilt (part_passes passes) d.term) g.definitions formed.definitions has.definitions) in
      let d = map_twice (λ r. IsFormedRule r × (IsTrue (pair_passes passes r.centre) × ContextsAreBuilt (part_passes passes) r.contexts)) (mapped_rule h) (mapped_rule f) (mapped_rule k) rule_twice g.rules
      (both_all IsFormedRule (λ r. IsTrue (pair_passes passes r.centre) × ContextsAreBuilt (part_passes passes) r.contexts) g.rules formed.rules has.rules) in
      λ i. record { pairs = a i; sets = b i; definitions = c i; rules = d i }

pub in_texts_mapped : {C : Type 0} → GrammarIsInTexts C
in_texts_mapped text in_symbols leaf_text passes same g formed has = grammar_twice in_symbols (in_text text) leaf_text passes same g formed has

-- a resolved grammar
same_map : {X Y : Type 0} (f g : X → Y) → ((x : X) → f x ≡ g x) → (xs : List X) → map f xs ≡ map g xs
same_map f g same [] = refl
same_map f g same (x ∷ xs) = λ i. same x i ∷ same_map f g same xs i

resolved_same : (s : Side Raw) → resolved_side s ≡ mapped_side symbol_of s
resolved_same nothing = refl
resolved_same anything = refl
resolved_same (one raw) = refl
resolved_same (member set) = refl

resolved_pair_same : (p : Pair Raw) → resolved_pair p ≡ mapped_pair symbol_of p
resolved_pair_same p = let a = resolved_same p.up in let b = resolved_same p.low in λ i. record { up = a i; low = b i }

resolved_part_same : (p : Part Raw) → resolved_part p ≡ mapped_part symbol_of p
resolved_part_same (pair p) = ap pair (resolved_pair_same p)
resolved_part_same (called name) = refl

pub resolved_mapped : ResolvedIsMapped
resolved_mapped g =
    let part_path : resolved_part ≡ mapped_part symbol_of = λ i p. resolved_part_same p i in
    λ i. record {
      pairs = same_map resolved_pair (mapped_pair symbol_of) resolved_pair_same g.pairs i;
      sets = map resolved_set g.sets;
      definitions = map (λ (d : PairDefinition Raw). record { name = d.name; term = mapped (part_path i) d.term }) g.definitions;
      rules = map (λ (r : Rule Raw). record { name = r.name; centre = resolved_pair_same r.centre i; kind = r.kind; contexts = mapped_contexts (part_path i) r.contexts }) g.rules;
    }

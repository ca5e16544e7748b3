-- An expression whose leaves are replaced weighs what it weighs by what they are replaced by.
use Rattle.std.proofs.Common.{◌≡◌, ◌+◌, ◌-◌, ℕ, length, refl, ap}
use Rattle.std.proofs.lemmas.List.{length-map}
use Rattle.regex_ast.specs.Terms.{Term, Terms, Links, Contexts, Steps, Mappings, Groups, empty, any, edge, atom, letters, group, maybe, not_one, cross, suffixed, prefixed, ignore, concat, chain, only, rules, directed, steps, no_term, then_term, no_link, or, and, less, no_context, between, no_step, cross_with, then, no_mapping, plain, markup, insert, no_group, then_group}
use Rattle.expr_kinds.specs.Weights.{weight_of, weight_of_each, weight_of_links, weight_of_steps, weight_of_contexts, weight_of_mappings, weight_of_groups, suffixed_weight, count_of}
use Rattle.expr_leaves.specs.Mapped.{mapped, mapped_each, mapped_links, mapped_contexts, mapped_steps, mapped_mappings, mapped_groups}

module _ {A B : Type 0} (leaf : B → ℕ) (f : A → B) where
  each_counted : (es : Terms A) → count_of (mapped_each f es) ≡ count_of es
  each_counted no_term = refl
  each_counted (then_term e es) = ap (λ n. n + 1) (each_counted es)

  mutual
    pub mapped_weight : (e : Term A) → weight_of leaf (mapped f e) ≡ weight_of (λ a. leaf (f a)) e
    mapped_weight empty = refl
    mapped_weight any = refl
    mapped_weight edge = refl
    mapped_weight (atom a) = refl
    mapped_weight (letters all) = length-map all f
    mapped_weight (group e) = mapped_weight e
    mapped_weight (maybe e) = ap (λ n. n + 1) (mapped_weight e)
    mapped_weight (not_one k e) = ap (λ n. n + k) (mapped_weight e)
    mapped_weight (cross e d) = let a = mapped_weight e in let b = mapped_weight d in λ i. a i + b i + 1
    mapped_weight (suffixed e suffixes) = ap (λ n. suffixed_weight n suffixes) (mapped_weight e)
    mapped_weight (prefixed prefixes e) = ap (λ n. n + length prefixes) (mapped_weight e)
    mapped_weight (ignore es) = let a = each_weight es in let b = each_counted es in λ i. a i + (b i - 1)
    mapped_weight (concat es) = let a = each_weight es in let b = each_counted es in λ i. a i + (b i - 1)
    mapped_weight (chain e links) = let a = mapped_weight e in let b = links_weight links in λ i. a i + b i
    mapped_weight (only e contexts) = let a = mapped_weight e in let b = contexts_weight contexts in λ i. a i + b i + 1
    mapped_weight (rules optional groups) = ap (λ n. n + 1) (groups_weight groups)
    mapped_weight (directed way maps contexts) = let a = mappings_weight maps in let b = contexts_weight contexts in λ i. a i + b i + 1
    mapped_weight (steps e more) = let a = mapped_weight e in let b = steps_weight more in λ i. a i + b i

    each_weight : (es : Terms A) → weight_of_each leaf (mapped_each f es) ≡ weight_of_each (λ a. leaf (f a)) es
    each_weight no_term = refl
    each_weight (then_term e es) = let a = mapped_weight e in let b = each_weight es in λ i. a i + b i

    links_weight : (links : Links A) → weight_of_links leaf (mapped_links f links) ≡ weight_of_links (λ a. leaf (f a)) links
    links_weight no_link = refl
    links_weight (or e links) = let a = mapped_weight e in let b = links_weight links in λ i. a i + 1 + b i
    links_weight (and e links) = let a = mapped_weight e in let b = links_weight links in λ i. a i + 1 + b i
    links_weight (less e links) = let a = mapped_weight e in let b = links_weight links in λ i. a i + 1 + b i

    steps_weight : (more : Steps A) → weight_of_steps leaf (mapped_steps f more) ≡ weight_of_steps (λ a. leaf (f a)) more
    steps_weight no_step = refl
    steps_weight (cross_with e more) = let a = mapped_weight e in let b = steps_weight more in λ i. a i + 1 + b i
    steps_weight (then e more) = let a = mapped_weight e in let b = steps_weight more in λ i. a i + 1 + b i

    pub contexts_weight : (contexts : Contexts A) → weight_of_contexts leaf (mapped_contexts f contexts) ≡ weight_of_contexts (λ a. leaf (f a)) contexts
    contexts_weight no_context = refl
    contexts_weight (between l r contexts) = let a = mapped_weight l in let b = mapped_weight r in let c = contexts_weight contexts in λ i. a i + b i + c i

    mappings_weight : (maps : Mappings A) → weight_of_mappings leaf (mapped_mappings f maps) ≡ weight_of_mappings (λ a. leaf (f a)) maps
    mappings_weight no_mapping = refl
    mappings_weight (plain c r maps) = let a = mapped_weight c in let b = mapped_weight r in let d = mappings_weight maps in λ i. a i + b i + d i
    mappings_weight (markup c b a maps) =
        let x = mapped_weight c in let y = mapped_weight b in let z = mapped_weight a in let d = mappings_weight maps in λ i. x i + y i + z i + d i
    mappings_weight (insert r maps) = let a = mapped_weight r in let d = mappings_weight maps in λ i. a i + d i

    groups_weight : (groups : Groups A) → weight_of_groups leaf (mapped_groups f groups) ≡ weight_of_groups (λ a. leaf (f a)) groups
    groups_weight no_group = refl
    groups_weight (then_group maps side contexts groups) =
        let a = mappings_weight maps in let b = contexts_weight contexts in let c = groups_weight groups in λ i. a i + b i + c i

-- An expression whose leaves are replaced: its weight, whether it is built and whether it fits are told by what its leaves are
-- replaced by.
use Rattle.std.proofs.Common.{◌≡◌, Bool, List, [], ◌∷◌, ◌++◌, map, All, IsTrue, cond, ◌&&◌, refl, ap, ◌∙◌}
use Rattle.std.specs.List.{list_all}
use Rattle.regex_ast.specs.Terms.{Term, Terms, Links, Contexts, Steps, Mappings, Groups, empty, any, edge, atom, letters, group, maybe, not_one, cross, suffixed, prefixed, ignore, concat, chain, only, rules, directed, steps, no_term, then_term, no_link, or, and, less, no_context, between, no_step, cross_with, then, no_mapping, plain, markup, insert, no_group, then_group}
use Rattle.expr_kinds.specs.Built.{IsBuiltBy, AreBuiltBy, LinksAreBuiltBy, ContextsAreBuiltBy, StepsAreBuiltBy, MappingsAreBuiltBy, GroupsAreBuiltBy}
use Rattle.expr_kinds.specs.Kinds.{Leaves, both, half, are_alike, with_suffixes, kind_of, kind_of_each, kind_of_chain, kind_of_steps, kind_of_contexts, Fits, EachFits, EachFitsAsLanguage, ChainFits, StepsFit, ContextsFit, MappingsFit, GroupsFit}
use Rattle.expr_kinds.specs.declared.half.Half.{Half}
use Rattle.expr_kinds.specs.declared.half.Half.TheVariants.{Nothing, One, Longer}
use Rattle.expr_kinds.specs.declared.form.Kind.{Kind}
use Rattle.expr_kinds.specs.declared.form.Kind.TheVariants.{Language, Relation}
use Rattle.expr_leaves.specs.Leaves.{listed, listed_each, listed_links, listed_contexts, listed_steps, listed_mappings, listed_groups}
use Rattle.expr_leaves.specs.Mapped.{mapped, mapped_each, mapped_links, mapped_contexts, mapped_steps, mapped_mappings, mapped_groups}
use Rattle.project_definitions.proofs.Built.{All-front, All-back, without_mapped, inserts_mapped}

-- whether it is built
module _ {A B : Type 0} (leaf letter : B → Bool) (f : A → B) where
  letters_built : (all : List A) → list_all letter (map f all) ≡ list_all (λ a. letter (f a)) all
  letters_built [] = refl
  letters_built (a ∷ all) = ap (λ z. letter (f a) && z) (letters_built all)

  mutual
    pub mapped_built : (e : Term A) → IsBuiltBy leaf letter (mapped f e) ≡ IsBuiltBy (λ a. leaf (f a)) (λ a. letter (f a)) e
    mapped_built empty = refl
    mapped_built any = refl
    mapped_built edge = refl
    mapped_built (atom a) = refl
    mapped_built (letters all) = ap (λ (b : Bool). IsTrue b) (letters_built all)
    mapped_built (group e) = mapped_built e
    mapped_built (maybe e) = mapped_built e
    mapped_built (not_one n e) = mapped_built e
    mapped_built (cross e d) = let a = mapped_built e in let b = mapped_built d in λ i. a i × b i
    mapped_built (suffixed e suffixes) = mapped_built e
    mapped_built (prefixed prefixes e) = mapped_built e
    mapped_built (ignore es) = each_built es
    mapped_built (concat es) = each_built es
    mapped_built (chain e links) = let a = mapped_built e in let b = links_built links in λ i. a i × b i
    mapped_built (only e contexts) = let a = mapped_built e in let b = contexts_built contexts in λ i. a i × b i
    mapped_built (rules optional groups) = let a = inserts_mapped f groups in let b = groups_built groups in λ i. IsTrue (a i) × b i
    mapped_built (directed way maps contexts) = let a = without_mapped f maps in let b = mappings_built maps in let c = contexts_built contexts in λ i. IsTrue (a i) × b i × c i
    mapped_built (steps e more) = let a = mapped_built e in let b = steps_built more in λ i. a i × b i

    each_built : (es : Terms A) → AreBuiltBy leaf letter (mapped_each f es) ≡ AreBuiltBy (λ a. leaf (f a)) (λ a. letter (f a)) es
    each_built no_term = refl
    each_built (then_term e es) = let a = mapped_built e in let b = each_built es in λ i. a i × b i

    links_built : (links : Links A) → LinksAreBuiltBy leaf letter (mapped_links f links) ≡ LinksAreBuiltBy (λ a. leaf (f a)) (λ a. letter (f a)) links
    links_built no_link = refl
    links_built (or e links) = let a = mapped_built e in let b = links_built links in λ i. a i × b i
    links_built (and e links) = let a = mapped_built e in let b = links_built links in λ i. a i × b i
    links_built (less e links) = let a = mapped_built e in let b = links_built links in λ i. a i × b i

    contexts_built : (contexts : Contexts A) → ContextsAreBuiltBy leaf letter (mapped_contexts f contexts) ≡ ContextsAreBuiltBy (λ a. leaf (f a)) (λ a. letter (f a)) contexts
    contexts_built no_context = refl
    contexts_built (between l r contexts) = let a = mapped_built l in let b = mapped_built r in let c = contexts_built contexts in λ i. a i × b i × c i

    steps_built : (more : Steps A) → StepsAreBuiltBy leaf letter (mapped_steps f more) ≡ StepsAreBuiltBy (λ a. leaf (f a)) (λ a. letter (f a)) more
    steps_built no_step = refl
    steps_built (cross_with e more) = let a = mapped_built e in let b = steps_built more in λ i. a i × b i
    steps_built (then e more) = let a = mapped_built e in let b = steps_built more in λ i. a i × b i

    mappings_built : (maps : Mappings A) → MappingsAreBuiltBy leaf letter (mapped_mappings f maps) ≡ MappingsAreBuiltBy (λ a. leaf (f a)) (λ a. letter (f a)) maps
    mappings_built no_mapping = refl
    mappings_built (plain c r maps) = let a = mapped_built c in let b = mapped_built r in let d = mappings_built maps in λ i. Unit {0} × a i × b i × d i
    mappings_built (markup c b a maps) = let x = mapped_built c in let y = mapped_built b in let z = mapped_built a in let d = mappings_built maps in λ i. Unit {0} × x i × y i × z i × d i
    mappings_built (insert r maps) = let a = mapped_built r in let d = mappings_built maps in λ i. a i × d i

    groups_built : (groups : Groups A) → GroupsAreBuiltBy leaf letter (mapped_groups f groups) ≡ GroupsAreBuiltBy (λ a. leaf (f a)) (λ a. letter (f a)) groups
    groups_built no_group = refl
    groups_built (then_group maps side contexts groups) = let a = mappings_built maps in let b = contexts_built contexts in let c = groups_built groups in λ i. a i × b i × c i

-- the kind, and whether each operand that must be a language is one, where leaves of which what is listed has a property have the
-- kind of what they are replaced by, and are the same if that is
module _ {A B C : Type 0} (f : A → B) (here : Leaves A) (there : Leaves B) (of : A → List C) (P : C → Type 0) (kinds : (a : A) → All P (of a) → there.kind (f a) ≡ here.kind a)
    (same : (a b : A) → All P (of a) → All P (of b) → there.same (f a) (f b) ≡ here.same a b) where
  -- what is known of a half
  abbrev Known : Half A → Type 0
  Known Nothing = Unit {0}
  Known (One a) = All P (of a)
  Known Longer = Unit {0}

  abbrev other_half : Half A → Half B
  other_half Nothing = Nothing
  other_half (One a) = One (f a)
  other_half Longer = Longer

  half_known : (e : Term A) → All P (listed of e) → Known (half e)
  half_known empty held = tt
  half_known any held = tt
  half_known edge held = tt
  half_known (atom a) held = held
  half_known (letters []) held = tt
  half_known (letters (a ∷ [])) held = All-front P (of a) [] held
  half_known (letters (a ∷ b ∷ all)) held = tt
  half_known (group e) held = half_known e held
  half_known (maybe e) held = tt
  half_known (not_one n e) held = tt
  half_known (cross e d) held = tt
  half_known (suffixed e suffixes) held = tt
  half_known (prefixed prefixes e) held = tt
  half_known (ignore es) held = tt
  half_known (concat es) held = tt
  half_known (chain e links) held = tt
  half_known (only e contexts) held = tt
  half_known (rules optional groups) held = tt
  half_known (directed way maps contexts) held = tt
  half_known (steps e more) held = tt

  half_mapped : (e : Term A) → half (mapped f e) ≡ other_half (half e)
  half_mapped empty = refl
  half_mapped any = refl
  half_mapped edge = refl
  half_mapped (atom a) = refl
  half_mapped (letters []) = refl
  half_mapped (letters (a ∷ [])) = refl
  half_mapped (letters (a ∷ b ∷ all)) = refl
  half_mapped (group e) = half_mapped e
  half_mapped (maybe e) = refl
  half_mapped (not_one n e) = refl
  half_mapped (cross e d) = refl
  half_mapped (suffixed e suffixes) = refl
  half_mapped (prefixed prefixes e) = refl
  half_mapped (ignore es) = refl
  half_mapped (concat es) = refl
  half_mapped (chain e links) = refl
  half_mapped (only e contexts) = refl
  half_mapped (rules optional groups) = refl
  half_mapped (directed way maps contexts) = refl
  half_mapped (steps e more) = refl

  alike : (a b : Half A) → Known a → Known b → are_alike there.same (other_half a) (other_half b) ≡ are_alike here.same a b
  alike Nothing Nothing p q = refl
  alike Nothing (One b) p q = refl
  alike Nothing Longer p q = refl
  alike (One a) Nothing p q = refl
  alike (One a) (One b) p q = same a b p q
  alike (One a) Longer p q = refl
  alike Longer Nothing p q = refl
  alike Longer (One b) p q = refl
  alike Longer Longer p q = refl

  abbrev l : Term A → List C
  l e = listed of e

  colon_kind : (e d : Term A) → All P (l e) → All P (l d) → kind_of there (cross (mapped f e) (mapped f d)) ≡ kind_of here (cross e d)
  colon_kind e d p q =
      let a = half_mapped e in
      let b = half_mapped d in
      ap (λ (t : Bool). cond t Language Relation) ((λ i. are_alike there.same (a i) (b i)) ∙ alike (half e) (half d) (half_known e p) (half_known d q))

  mutual
    pub mapped_kind : (e : Term A) → All P (listed of e) → kind_of there (mapped f e) ≡ kind_of here e
    mapped_kind empty held = refl
    mapped_kind any held = refl
    mapped_kind edge held = refl
    mapped_kind (atom a) held = kinds a held
    mapped_kind (letters all) held = refl
    mapped_kind (group e) held = mapped_kind e held
    mapped_kind (maybe e) held = mapped_kind e held
    mapped_kind (not_one n e) held = mapped_kind e held
    mapped_kind (cross e d) held = colon_kind e d (All-front P (l e) (l d) held) (All-back P (l e) (l d) held)
    mapped_kind (suffixed e suffixes) held = ap (λ k. with_suffixes k suffixes) (mapped_kind e held)
    mapped_kind (prefixed prefixes e) held = mapped_kind e held
    mapped_kind (ignore es) held = each_kind es held
    mapped_kind (concat es) held = each_kind es held
    mapped_kind (chain e links) held =
        chain_kind links (All-back P (l e) (listed_links of links) held) (kind_of there (mapped f e)) (kind_of here e) (mapped_kind e (All-front P (l e) (listed_links of links) held))
    mapped_kind (only e contexts) held =
        let a = mapped_kind e (All-front P (l e) (listed_contexts of contexts) held) in
        let b = contexts_kind contexts (All-back P (l e) (listed_contexts of contexts) held) in
        λ i. both (a i) (b i)
    mapped_kind (rules optional groups) held = refl
    mapped_kind (directed way maps contexts) held = refl
    mapped_kind (steps e more) held =
        steps_kind more (All-back P (l e) (listed_steps of more) held) (kind_of there (mapped f e)) (kind_of here e) (mapped_kind e (All-front P (l e) (listed_steps of more) held))

    each_kind : (es : Terms A) → All P (listed_each of es) → kind_of_each there (mapped_each f es) ≡ kind_of_each here es
    each_kind no_term held = refl
    each_kind (then_term e es) held =
        let a = mapped_kind e (All-front P (l e) (listed_each of es) held) in
        let b = each_kind es (All-back P (l e) (listed_each of es) held) in
        λ i. both (a i) (b i)

    chain_kind : (links : Links A) → All P (listed_links of links) → (k j : Kind) → k ≡ j → kind_of_chain there k (mapped_links f links) ≡ kind_of_chain here j links
    chain_kind no_link held k j is = is
    chain_kind (or e links) held k j is =
        let a = mapped_kind e (All-front P (l e) (listed_links of links) held) in
        chain_kind links (All-back P (l e) (listed_links of links) held) (both k (kind_of there (mapped f e))) (both j (kind_of here e)) (λ i. both (is i) (a i))
    chain_kind (and e links) held k j is =
        let a = mapped_kind e (All-front P (l e) (listed_links of links) held) in
        chain_kind links (All-back P (l e) (listed_links of links) held) (both k (kind_of there (mapped f e))) (both j (kind_of here e)) (λ i. both (is i) (a i))
    chain_kind (less e links) held k j is =
        let a = mapped_kind e (All-front P (l e) (listed_links of links) held) in
        chain_kind links (All-back P (l e) (listed_links of links) held) (both k (kind_of there (mapped f e))) (both j (kind_of here e)) (λ i. both (is i) (a i))

    steps_kind : (more : Steps A) → All P (listed_steps of more) → (k j : Kind) → k ≡ j → kind_of_steps there k (mapped_steps f more) ≡ kind_of_steps here j more
    steps_kind no_step held k j is = is
    steps_kind (cross_with e more) held k j is = steps_kind more (All-back P (l e) (listed_steps of more) held) Relation Relation refl
    steps_kind (then e more) held k j is =
        let a = mapped_kind e (All-front P (l e) (listed_steps of more) held) in
        steps_kind more (All-back P (l e) (listed_steps of more) held) (both k (kind_of there (mapped f e))) (both j (kind_of here e)) (λ i. both (is i) (a i))

    contexts_kind : (contexts : Contexts A) → All P (listed_contexts of contexts) → kind_of_contexts there (mapped_contexts f contexts) ≡ kind_of_contexts here contexts
    contexts_kind no_context held = refl
    contexts_kind (between e d contexts) held =
        let pair = All-front P (l e ++ l d) (listed_contexts of contexts) held in
        let a = mapped_kind e (All-front P (l e) (l d) pair) in
        let b = mapped_kind d (All-back P (l e) (l d) pair) in
        let c = contexts_kind contexts (All-back P (l e ++ l d) (listed_contexts of contexts) held) in
        λ i. both (both (a i) (b i)) (c i)

  abbrev Is : Kind → Type 0
  Is kind = kind ≡ Language

  mutual
    pub mapped_fits : (e : Term A) → All P (listed of e) → Fits there (mapped f e) ≡ Fits here e
    mapped_fits empty held = refl
    mapped_fits any held = refl
    mapped_fits edge held = refl
    mapped_fits (atom a) held = refl
    mapped_fits (letters all) held = refl
    mapped_fits (group e) held = mapped_fits e held
    mapped_fits (maybe e) held = mapped_fits e held
    mapped_fits (not_one n e) held = let k = mapped_kind e held in let a = mapped_fits e held in λ i. Is (k i) × a i
    mapped_fits (cross e d) held =
        let p = All-front P (l e) (l d) held in
        let q = All-back P (l e) (l d) held in
        let k = mapped_kind e p in let a = mapped_fits e p in let j = mapped_kind d q in let b = mapped_fits d q in
        λ i. Is (k i) × a i × Is (j i) × b i
    mapped_fits (suffixed e suffixes) held = mapped_fits e held
    mapped_fits (prefixed prefixes e) held = let k = mapped_kind e held in let a = mapped_fits e held in λ i. Is (k i) × a i
    mapped_fits (ignore es) held = languages_fit es held
    mapped_fits (concat es) held = each_fits es held
    mapped_fits (chain e links) held =
        let p = All-front P (l e) (listed_links of links) held in
        let a = mapped_fits e p in
        let b = chain_fits links (All-back P (l e) (listed_links of links) held) (kind_of there (mapped f e)) (kind_of here e) (mapped_kind e p) in
        λ i. a i × b i
    mapped_fits (only e contexts) held =
        let p = All-front P (l e) (listed_contexts of contexts) held in
        let k = mapped_kind e p in let a = mapped_fits e p in let b = contexts_fit contexts (All-back P (l e) (listed_contexts of contexts) held) in
        λ i. Is (k i) × a i × b i
    mapped_fits (rules optional groups) held = groups_fit groups held
    mapped_fits (directed way maps contexts) held =
        let a = mappings_fit maps (All-front P (listed_mappings of maps) (listed_contexts of contexts) held) in
        let b = contexts_fit contexts (All-back P (listed_mappings of maps) (listed_contexts of contexts) held) in
        λ i. a i × b i
    mapped_fits (steps e more) held =
        let p = All-front P (l e) (listed_steps of more) held in
        let a = mapped_fits e p in
        let b = steps_fit more (All-back P (l e) (listed_steps of more) held) (kind_of there (mapped f e)) (kind_of here e) (mapped_kind e p) in
        λ i. a i × b i

    each_fits : (es : Terms A) → All P (listed_each of es) → EachFits there (mapped_each f es) ≡ EachFits here es
    each_fits no_term held = refl
    each_fits (then_term e es) held =
        let a = mapped_fits e (All-front P (l e) (listed_each of es) held) in let b = each_fits es (All-back P (l e) (listed_each of es) held) in λ i. a i × b i

    languages_fit : (es : Terms A) → All P (listed_each of es) → EachFitsAsLanguage there (mapped_each f es) ≡ EachFitsAsLanguage here es
    languages_fit no_term held = refl
    languages_fit (then_term e es) held =
        let p = All-front P (l e) (listed_each of es) held in
        let k = mapped_kind e p in let a = mapped_fits e p in let b = languages_fit es (All-back P (l e) (listed_each of es) held) in
        λ i. Is (k i) × a i × b i

    chain_fits : (links : Links A) → All P (listed_links of links) → (k j : Kind) → k ≡ j → ChainFits there k (mapped_links f links) ≡ ChainFits here j links
    chain_fits no_link held k j is = refl
    chain_fits (or e links) held k j is =
        let p = All-front P (l e) (listed_links of links) held in
        let q = mapped_kind e p in let a = mapped_fits e p in
        let b = chain_fits links (All-back P (l e) (listed_links of links) held) (both k (kind_of there (mapped f e))) (both j (kind_of here e)) (λ i. both (is i) (q i)) in
        λ i. a i × b i
    chain_fits (and e links) held k j is =
        let p = All-front P (l e) (listed_links of links) held in
        let q = mapped_kind e p in let a = mapped_fits e p in
        let b = chain_fits links (All-back P (l e) (listed_links of links) held) (both k (kind_of there (mapped f e))) (both j (kind_of here e)) (λ i. both (is i) (q i)) in
        λ i. Is (is i) × Is (q i) × a i × b i
    chain_fits (less e links) held k j is =
        let p = All-front P (l e) (listed_links of links) held in
        let q = mapped_kind e p in let a = mapped_fits e p in
        let b = chain_fits links (All-back P (l e) (listed_links of links) held) (both k (kind_of there (mapped f e))) (both j (kind_of here e)) (λ i. both (is i) (q i)) in
        λ i. Is (is i) × Is (q i) × a i × b i

    steps_fit : (more : Steps A) → All P (listed_steps of more) → (k j : Kind) → k ≡ j → StepsFit there k (mapped_steps f more) ≡ StepsFit here j more
    steps_fit no_step held k j is = refl
    steps_fit (cross_with e more) held k j is =
        let p = All-front P (l e) (listed_steps of more) held in
        let q = mapped_kind e p in let a = mapped_fits e p in
        let b = steps_fit more (All-back P (l e) (listed_steps of more) held) Relation Relation refl in
        λ i. Is (is i) × Is (q i) × a i × b i
    steps_fit (then e more) held k j is =
        let p = All-front P (l e) (listed_steps of more) held in
        let q = mapped_kind e p in let a = mapped_fits e p in
        let b = steps_fit more (All-back P (l e) (listed_steps of more) held) (both k (kind_of there (mapped f e))) (both j (kind_of here e)) (λ i. both (is i) (q i)) in
        λ i. a i × b i

    contexts_fit : (contexts : Contexts A) → All P (listed_contexts of contexts) → ContextsFit there (mapped_contexts f contexts) ≡ ContextsFit here contexts
    contexts_fit no_context held = refl
    contexts_fit (between e d contexts) held =
        let pair = All-front P (l e ++ l d) (listed_contexts of contexts) held in
        let p = All-front P (l e) (l d) pair in
        let q = All-back P (l e) (l d) pair in
        let k = mapped_kind e p in let a = mapped_fits e p in let j = mapped_kind d q in let b = mapped_fits d q in
        let c = contexts_fit contexts (All-back P (l e ++ l d) (listed_contexts of contexts) held) in
        λ i. Is (k i) × a i × Is (j i) × b i × c i

    mappings_fit : (maps : Mappings A) → All P (listed_mappings of maps) → MappingsFit there (mapped_mappings f maps) ≡ MappingsFit here maps
    mappings_fit no_mapping held = refl
    mappings_fit (plain e d maps) held =
        let pair = All-front P (l e ++ l d) (listed_mappings of maps) held in
        let p = All-front P (l e) (l d) pair in
        let q = All-back P (l e) (l d) pair in
        let k = mapped_kind e p in let a = mapped_fits e p in let j = mapped_kind d q in let b = mapped_fits d q in
        let c = mappings_fit maps (All-back P (l e ++ l d) (listed_mappings of maps) held) in
        λ i. Is (k i) × a i × Is (j i) × b i × c i
    mappings_fit (markup e d g maps) held =
        let three = All-front P (l e ++ l d ++ l g) (listed_mappings of maps) held in
        let pair = All-front P (l e ++ l d) (l g) three in
        let p = All-front P (l e) (l d) pair in
        let q = All-back P (l e) (l d) pair in
        let r = All-back P (l e ++ l d) (l g) three in
        let k = mapped_kind e p in let a = mapped_fits e p in let j = mapped_kind d q in let b = mapped_fits d q in let h = mapped_kind g r in let c = mapped_fits g r in
        let m = mappings_fit maps (All-back P (l e ++ l d ++ l g) (listed_mappings of maps) held) in
        λ i. Is (k i) × a i × Is (j i) × b i × Is (h i) × c i × m i
    mappings_fit (insert e maps) held =
        let p = All-front P (l e) (listed_mappings of maps) held in
        let k = mapped_kind e p in let a = mapped_fits e p in let b = mappings_fit maps (All-back P (l e) (listed_mappings of maps) held) in
        λ i. Is (k i) × a i × b i

    groups_fit : (groups : Groups A) → All P (listed_groups of groups) → GroupsFit there (mapped_groups f groups) ≡ GroupsFit here groups
    groups_fit no_group held = refl
    groups_fit (then_group maps side contexts groups) held =
        let front = All-front P (listed_mappings of maps ++ listed_contexts of contexts) (listed_groups of groups) held in
        let a = mappings_fit maps (All-front P (listed_mappings of maps) (listed_contexts of contexts) front) in
        let b = contexts_fit contexts (All-back P (listed_mappings of maps) (listed_contexts of contexts) front) in
        let c = groups_fit groups (All-back P (listed_mappings of maps ++ listed_contexts of contexts) (listed_groups of groups) held) in
        λ i. a i × b i × c i

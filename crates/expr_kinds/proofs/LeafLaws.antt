-- Kinds and fits are told by what is known of the leaves that stand in an expression.
use Rattle.std.proofs.Common.{◌≡◌, Bool, true, false, ◌&&◌, IsTrue, [], ◌∷◌, cond, refl, ap}
use Rattle.std.specs.List.{list_all}
use Rattle.regex_ast.specs.Terms.{Term, Terms, Links, Contexts, Steps, Mappings, Groups, empty, any, edge, atom, letters, group, maybe, not_one, cross, suffixed, prefixed, ignore, concat, chain, only, rules, directed, steps, no_term, then_term, no_link, or, and, less, no_context, between, no_step, cross_with, then, no_mapping, plain, markup, insert, no_group, then_group}
use Rattle.expr_kinds.specs.Built.{IsBuilt, AreBuilt, LinksAreBuilt, ContextsAreBuilt, StepsAreBuilt, MappingsAreBuilt, GroupsAreBuilt}
use Rattle.expr_kinds.specs.Kinds.{Leaves, both, half, are_alike, with_suffixes, kind_of, kind_of_each, kind_of_chain, kind_of_steps, kind_of_contexts, Fits, EachFits, EachFitsAsLanguage, ChainFits, StepsFit, ContextsFit, MappingsFit, GroupsFit}
use Rattle.expr_kinds.specs.declared.half.Half.{Half}
use Rattle.expr_kinds.specs.declared.half.Half.TheVariants.{Nothing, One, Longer}
use Rattle.expr_kinds.specs.declared.form.Kind.{Kind}
use Rattle.expr_kinds.specs.declared.form.Kind.TheVariants.{Language, Relation}

first_holds : (a b : Bool) → IsTrue (a && b) → IsTrue a
first_holds true b h = refl
first_holds false b h = h

-- where the leaves that pass a test are of the same kinds, and the same symbols, an expression of such leaves is of the same kind,
-- and fits alike
module _ {A : Type 0} (here there : Leaves A) (passes : A → Bool) (kinds : (a : A) → IsTrue (passes a) → there.kind a ≡ here.kind a)
    (same : (a b : A) → IsTrue (passes a) → IsTrue (passes b) → there.same a b ≡ here.same a b) where
  -- what is known of a half
  abbrev Known : Half A → Type 0
  Known Nothing = Unit {0}
  Known (One a) = IsTrue (passes a)
  Known Longer = Unit {0}

  half_known : (e : Term A) → IsBuilt passes e → Known (half e)
  half_known empty h = tt
  half_known any h = tt
  half_known edge h = tt
  half_known (atom a) h = h
  half_known (letters []) h = tt
  half_known (letters (a ∷ [])) h = first_holds (passes a) (list_all passes []) h
  half_known (letters (a ∷ b ∷ all)) h = tt
  half_known (group e) h = half_known e h
  half_known (maybe e) h = tt
  half_known (not_one n e) h = tt
  half_known (cross e d) h = tt
  half_known (suffixed e suffixes) h = tt
  half_known (prefixed prefixes e) h = tt
  half_known (ignore es) h = tt
  half_known (concat es) h = tt
  half_known (chain e links) h = tt
  half_known (only e contexts) h = tt
  half_known (rules optional groups) h = tt
  half_known (directed way maps contexts) h = tt
  half_known (steps e more) h = tt

  halves : (a b : Half A) → Known a → Known b → are_alike there.same a b ≡ are_alike here.same a b
  halves Nothing Nothing p q = refl
  halves Nothing (One b) p q = refl
  halves Nothing Longer p q = refl
  halves (One a) Nothing p q = refl
  halves (One a) (One b) p q = same a b p q
  halves (One a) Longer p q = refl
  halves Longer Nothing p q = refl
  halves Longer (One b) p q = refl
  halves Longer Longer p q = refl

  mutual
    pub kind_alike : (e : Term A) → IsBuilt passes e → kind_of there e ≡ kind_of here e
    kind_alike empty h = refl
    kind_alike any h = refl
    kind_alike edge h = refl
    kind_alike (atom a) h = kinds a h
    kind_alike (letters all) h = refl
    kind_alike (group e) h = kind_alike e h
    kind_alike (maybe e) h = kind_alike e h
    kind_alike (not_one n e) h = kind_alike e h
    kind_alike (cross e d) h = ap (λ (t : Bool). cond t Language Relation) (halves (half e) (half d) (half_known e h.0) (half_known d h.1))
    kind_alike (suffixed e suffixes) h = ap (λ k. with_suffixes k suffixes) (kind_alike e h)
    kind_alike (prefixed prefixes e) h = kind_alike e h
    kind_alike (ignore es) h = each_kind es h
    kind_alike (concat es) h = each_kind es h
    kind_alike (chain e links) h = chain_kind links h.1 (kind_of there e) (kind_of here e) (kind_alike e h.0)
    kind_alike (only e contexts) h = let a = kind_alike e h.0 in let b = contexts_kind contexts h.1 in λ i. both (a i) (b i)
    kind_alike (rules optional groups) h = refl
    kind_alike (directed way maps contexts) h = refl
    kind_alike (steps e more) h = steps_kind more h.1 (kind_of there e) (kind_of here e) (kind_alike e h.0)

    each_kind : (es : Terms A) → AreBuilt passes es → kind_of_each there es ≡ kind_of_each here es
    each_kind no_term h = refl
    each_kind (then_term e es) h = let a = kind_alike e h.0 in let b = each_kind es h.1 in λ i. both (a i) (b i)

    chain_kind : (links : Links A) → LinksAreBuilt passes links → (k j : Kind) → k ≡ j → kind_of_chain there k links ≡ kind_of_chain here j links
    chain_kind no_link h k j is = is
    chain_kind (or e links) h k j is = let a = kind_alike e h.0 in chain_kind links h.1 (both k (kind_of there e)) (both j (kind_of here e)) (λ i. both (is i) (a i))
    chain_kind (and e links) h k j is = let a = kind_alike e h.0 in chain_kind links h.1 (both k (kind_of there e)) (both j (kind_of here e)) (λ i. both (is i) (a i))
    chain_kind (less e links) h k j is = let a = kind_alike e h.0 in chain_kind links h.1 (both k (kind_of there e)) (both j (kind_of here e)) (λ i. both (is i) (a i))

    steps_kind : (more : Steps A) → StepsAreBuilt passes more → (k j : Kind) → k ≡ j → kind_of_steps there k more ≡ kind_of_steps here j more
    steps_kind no_step h k j is = is
    steps_kind (cross_with e more) h k j is = steps_kind more h.1 Relation Relation refl
    steps_kind (then e more) h k j is = let a = kind_alike e h.0 in steps_kind more h.1 (both k (kind_of there e)) (both j (kind_of here e)) (λ i. both (is i) (a i))

    contexts_kind : (contexts : Contexts A) → ContextsAreBuilt passes contexts → kind_of_contexts there contexts ≡ kind_of_contexts here contexts
    contexts_kind no_context h = refl
    contexts_kind (between e d contexts) h =
        let a = kind_alike e h.0 in let b = kind_alike d h.1 in let c = contexts_kind contexts h.2 in
        λ i. both (both (a i) (b i)) (c i)

  abbrev Is : Kind → Type 0
  Is kind = kind ≡ Language

  mutual
    pub fits_alike : (e : Term A) → IsBuilt passes e → Fits there e ≡ Fits here e
    fits_alike empty h = refl
    fits_alike any h = refl
    fits_alike edge h = refl
    fits_alike (atom a) h = refl
    fits_alike (letters all) h = refl
    fits_alike (group e) h = fits_alike e h
    fits_alike (maybe e) h = fits_alike e h
    fits_alike (not_one n e) h = let k = kind_alike e h in let a = fits_alike e h in λ i. Is (k i) × a i
    fits_alike (cross e d) h =
        let k = kind_alike e h.0 in let a = fits_alike e h.0 in let j = kind_alike d h.1 in let b = fits_alike d h.1 in
        λ i. Is (k i) × a i × Is (j i) × b i
    fits_alike (suffixed e suffixes) h = fits_alike e h
    fits_alike (prefixed prefixes e) h = let k = kind_alike e h in let a = fits_alike e h in λ i. Is (k i) × a i
    fits_alike (ignore es) h = languages_fit es h
    fits_alike (concat es) h = each_fits es h
    fits_alike (chain e links) h =
        let a = fits_alike e h.0 in
        let b = chain_fits links h.1 (kind_of there e) (kind_of here e) (kind_alike e h.0) in
        λ i. a i × b i
    fits_alike (only e contexts) h =
        let k = kind_alike e h.0 in let a = fits_alike e h.0 in let b = contexts_fit contexts h.1 in
        λ i. Is (k i) × a i × b i
    fits_alike (rules optional groups) h = groups_fit groups h.1
    fits_alike (directed way maps contexts) h = let a = mappings_fit maps h.1 in let b = contexts_fit contexts h.2 in λ i. a i × b i
    fits_alike (steps e more) h =
        let a = fits_alike e h.0 in
        let b = steps_fit more h.1 (kind_of there e) (kind_of here e) (kind_alike e h.0) in
        λ i. a i × b i

    each_fits : (es : Terms A) → AreBuilt passes es → EachFits there es ≡ EachFits here es
    each_fits no_term h = refl
    each_fits (then_term e es) h = let a = fits_alike e h.0 in let b = each_fits es h.1 in λ i. a i × b i

    languages_fit : (es : Terms A) → AreBuilt passes es → EachFitsAsLanguage there es ≡ EachFitsAsLanguage here es
    languages_fit no_term h = refl
    languages_fit (then_term e es) h =
        let k = kind_alike e h.0 in let a = fits_alike e h.0 in let b = languages_fit es h.1 in
        λ i. Is (k i) × a i × b i

    chain_fits : (links : Links A) → LinksAreBuilt passes links → (k j : Kind) → k ≡ j → ChainFits there k links ≡ ChainFits here j links
    chain_fits no_link h k j is = refl
    chain_fits (or e links) h k j is =
        let q = kind_alike e h.0 in let a = fits_alike e h.0 in
        let b = chain_fits links h.1 (both k (kind_of there e)) (both j (kind_of here e)) (λ i. both (is i) (q i)) in
        λ i. a i × b i
    chain_fits (and e links) h k j is =
        let q = kind_alike e h.0 in let a = fits_alike e h.0 in
        let b = chain_fits links h.1 (both k (kind_of there e)) (both j (kind_of here e)) (λ i. both (is i) (q i)) in
        λ i. Is (is i) × Is (q i) × a i × b i
    chain_fits (less e links) h k j is =
        let q = kind_alike e h.0 in let a = fits_alike e h.0 in
        let b = chain_fits links h.1 (both k (kind_of there e)) (both j (kind_of here e)) (λ i. both (is i) (q i)) in
        λ i. Is (is i) × Is (q i) × a i × b i

    steps_fit : (more : Steps A) → StepsAreBuilt passes more → (k j : Kind) → k ≡ j → StepsFit there k more ≡ StepsFit here j more
    steps_fit no_step h k j is = refl
    steps_fit (cross_with e more) h k j is =
        let q = kind_alike e h.0 in let a = fits_alike e h.0 in
        let b = steps_fit more h.1 Relation Relation refl in
        λ i. Is (is i) × Is (q i) × a i × b i
    steps_fit (then e more) h k j is =
        let q = kind_alike e h.0 in let a = fits_alike e h.0 in
        let b = steps_fit more h.1 (both k (kind_of there e)) (both j (kind_of here e)) (λ i. both (is i) (q i)) in
        λ i. a i × b i

    contexts_fit : (contexts : Contexts A) → ContextsAreBuilt passes contexts → ContextsFit there contexts ≡ ContextsFit here contexts
    contexts_fit no_context h = refl
    contexts_fit (between e d contexts) h =
        let k = kind_alike e h.0 in let a = fits_alike e h.0 in let j = kind_alike d h.1 in let b = fits_alike d h.1 in
        let c = contexts_fit contexts h.2 in
        λ i. Is (k i) × a i × Is (j i) × b i × c i

    mappings_fit : (maps : Mappings A) → MappingsAreBuilt passes maps → MappingsFit there maps ≡ MappingsFit here maps
    mappings_fit no_mapping h = refl
    mappings_fit (plain e d maps) h =
        let k = kind_alike e h.1 in let a = fits_alike e h.1 in let j = kind_alike d h.2 in let b = fits_alike d h.2 in
        let c = mappings_fit maps h.3 in
        λ i. Is (k i) × a i × Is (j i) × b i × c i
    mappings_fit (markup e d f maps) h =
        let k = kind_alike e h.1 in let a = fits_alike e h.1 in let j = kind_alike d h.2 in let b = fits_alike d h.2 in
        let l = kind_alike f h.3 in let c = fits_alike f h.3 in
        let more = mappings_fit maps h.4 in
        λ i. Is (k i) × a i × Is (j i) × b i × Is (l i) × c i × more i
    mappings_fit (insert d maps) h =
        let k = kind_alike d h.0 in let a = fits_alike d h.0 in
        let b = mappings_fit maps h.1 in
        λ i. Is (k i) × a i × b i

    groups_fit : (groups : Groups A) → GroupsAreBuilt passes groups → GroupsFit there groups ≡ GroupsFit here groups
    groups_fit no_group h = refl
    groups_fit (then_group maps side contexts groups) h =
        let a = mappings_fit maps h.0 in let b = contexts_fit contexts h.1 in let c = groups_fit groups h.2 in
        λ i. a i × b i × c i

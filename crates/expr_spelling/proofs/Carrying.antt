-- What an expression means on one side it means on the other, by its form.
use Rattle.std.proofs.Common.{◌≡◌, ◌⊎◌, Bool, IsTrue, List, [], ◌∷◌, map, refl, sym, subst, inl, inr}
use Rattle.std.proofs.Math.Path.{subst₂}
use Rattle.std.specs.List.{list_all}
use Rattle.std.proofs.lemmas.Bool.{and_parts}
use Rattle.fsm_base.specs.declared.letters.Bound.{Bound}
use Rattle.regex_ast.specs.Terms.{Term, Terms, Links, Contexts, Steps, Mappings, Groups, empty, any, edge, atom, letters, group, maybe, not_one, cross, suffixed, prefixed, ignore, concat, chain, only, rules, directed, steps, no_term, then_term, no_link, or, and, less, no_context, between, no_step, cross_with, then, no_mapping, plain, markup, insert, no_group, then_group}
use Rattle.regex_ast.specs.declared.expr.Side.{Side as Reading}
use Rattle.regex_ast.specs.declared.expr.Side.TheVariants.{UpUp}
use Rattle.expr_kinds.specs.Built.{IsBuilt, AreBuilt, LinksAreBuilt, ContextsAreBuilt, StepsAreBuilt, MappingsAreBuilt, GroupsAreBuilt}
use Rattle.expr_meaning.specs.Meaning.{InLeaf, InLeaves, In, InEach, InIgnoring, InChain, InContext, InSteps, IsCentre, IsMapped, Replaces, Applies, IsMatch, Relates, RelatesEach, RelatesChain, RelatesSteps}
use Rattle.expr_meaning.specs.Operators.{inner}
use Rattle.expr_meaning.specs.Replacement.{Piece, read_before, read_behind, IsAround, IsAllowed}
use Rattle.expr_leaves.specs.Mapped.{mapped, mapped_each, mapped_links, mapped_contexts, mapped_steps, mapped_mappings, mapped_groups}
use Rattle.expr_spelling.proofs.Words.{Tells, at}
use Rattle.expr_spelling.proofs.Pairs.{empty_pair, either_pair, concatenation_pairs, composition, fixed}
use Rattle.expr_spelling.proofs.Edges.{bound, inner_spelled, edge_word, with_edge, without_edge, itself, crossed, left_context, right_context, suffixed_sets, suffixed_pairs}
use Rattle.expr_spelling.proofs.Pieces.{piece, reads_before, reads_behind, around_words, around, rewritten}
use Rattle.expr_spelling.proofs.Directions.{directed as directed_rule}
use Rattle.expr_spelling.proofs.Sides.{Side, Meets, Goes, GoesPairs, one_letter, empty_goes, either_goes, concatenation_goes, ignoring_goes, both_go, less_goes, restricted_goes, not_once, with_prefixes}

-- the language and the relation of an expression on a side
abbrev Has : {K C A L : Type 0} → Side K C A L → Term C → List (Bound L) → Type 0
Has s e w = In s.leaf s.alphabet (mapped s.leaf_of e) w

abbrev Pairs : {K C A L : Type 0} → Side K C A L → Term C → List L → List L → Type 0
Pairs s e u w = Relates s.leaf s.alphabet (mapped s.leaf_of e) u w

-- that no context is asked for is so on both sides
none_asked : {A B C : Type 0} (p : C → A) (q : C → B) (contexts : Contexts C) → mapped_contexts p contexts ≡ no_context → mapped_contexts q contexts ≡ no_context
none_asked p q no_context is = refl
none_asked p q (between l r contexts) is = let e : between (mapped p l) (mapped p r) (mapped_contexts p contexts) ≡ no_context = is in absurd (cc)

-- the empty word is spelled so alone
none_spelled : {K L M : Type 0} (f : K → L) (g : K → M) (y : List K) → map f y ≡ [] → map g y ≡ []
none_spelled f g [] is = refl
none_spelled f g (x ∷ y) is = let e : f x ∷ map f y ≡ [] = is in absurd (cc)

module _ {K C A B L M : Type 0} (s : Side K C A L) (t : Side K C B M) where
  -- a word without the edge of a set that goes to the other side, and its spelling
  word_goes : {P : List (Bound L) → Type 0} {Q : List (Bound M) → Type 0} → Goes s t P Q → (c : List L) → P (inner c) → (y : List K) × (c ≡ map s.letter y)
  word_goes a c h = let r = (without_edge s.letter t.letter a).word c h in (r.0, r.1)

  same_goes : {P : List (Bound L) → Type 0} {Q : List (Bound M) → Type 0} → Tells s.letter t.letter → Goes s t P Q → (y : List K) → P (inner (map s.letter y)) → Q (inner (map t.letter y))
  same_goes tells a y h = at s.letter t.letter tells (without_edge s.letter t.letter a) y h

  allowed : (contexts : Contexts C) (N : List (Bound L) → List (Bound L) → Type 0) (N' : List (Bound M) → List (Bound M) → Type 0) (reading : Reading)
      → ((y z : List (Bound K)) → N (map (bound s.letter) y) (map (bound s.letter) z) → N' (map (bound t.letter) y) (map (bound t.letter) z))
      → (before behind : List (Piece K))
      → IsAllowed (mapped_contexts s.leaf_of contexts) N reading (map (piece s.letter) before) (map (piece s.letter) behind)
      → IsAllowed (mapped_contexts t.leaf_of contexts) N' reading (map (piece t.letter) before) (map (piece t.letter) behind)
  allowed contexts N N' reading holds before behind h =
      elim h as (λ _. IsAllowed (mapped_contexts t.leaf_of contexts) N' reading (map (piece t.letter) before) (map (piece t.letter) behind)) [
        | inl none ↦ inl (none_asked s.leaf_of t.leaf_of contexts none)
        | inr here ↦ inr (
            subst₂ N' (sym (reads_before t.letter reading before)) (sym (reads_behind t.letter reading behind))
            (holds (inner (read_before reading before)) (inner (read_behind reading behind)) (subst₂ N (reads_before s.letter reading before) (reads_behind s.letter reading behind) here))
            )
      ]

  -- the same of words: where no context is asked for, or one holds between these
  held : (contexts : Contexts C) (N : List (Bound L) → List (Bound L) → Type 0) (N' : List (Bound M) → List (Bound M) → Type 0)
      → ((y z : List (Bound K)) → N (map (bound s.letter) y) (map (bound s.letter) z) → N' (map (bound t.letter) y) (map (bound t.letter) z)) → (x z : List K)
      → (mapped_contexts s.leaf_of contexts ≡ no_context) ⊎ N (inner (map s.letter x)) (inner (map s.letter z))
      → (mapped_contexts t.leaf_of contexts ≡ no_context) ⊎ N' (inner (map t.letter x)) (inner (map t.letter z))
  held contexts N N' holds x z h = elim h as (λ _. (mapped_contexts t.leaf_of contexts ≡ no_context) ⊎ N' (inner (map t.letter x)) (inner (map t.letter z))) [
    | inl none ↦ inl (none_asked s.leaf_of t.leaf_of contexts none)
    | inr here ↦ inr (
        subst₂ N' (sym (inner_spelled t.letter x)) (sym (inner_spelled t.letter z)) (holds (inner x) (inner z) (subst₂ N (inner_spelled s.letter x) (inner_spelled s.letter z) here))
        )
  ]

module _ {K C : Type 0} (spells : C → Bool) where
  leaf_goes : {A B L M : Type 0} (s : Side K C A L) (t : Side K C B M) → Meets spells s t → (c : C) → IsTrue (spells c)
      → Goes s t (InLeaf s.leaf s.alphabet (s.leaf_of c)) (InLeaf t.leaf t.alphabet (t.leaf_of c))
  leaf_goes s t m c built = with_edge s.letter t.letter (fixed s.letter t.letter m.tells (m.leaves c built))

  leaves_go : {A B L M : Type 0} (s : Side K C A L) (t : Side K C B M) → Meets spells s t → (all : List C) → IsTrue (list_all spells all)
      → Goes s t (InLeaves s.leaf s.alphabet (map s.leaf_of all)) (InLeaves t.leaf t.alphabet (map t.leaf_of all))
  leaves_go s t m [] built = empty_goes s t
  leaves_go s t m (c ∷ all) built =
      let each = and_parts (spells c) (list_all spells all) built in
      concatenation_goes s t (leaf_goes s t m c each.0) (leaves_go s t m all each.1)

  mutual
    pub set_goes : {A B L M : Type 0} (s : Side K C A L) (t : Side K C B M) → Meets spells s t → Meets spells t s → (e : Term C) → IsBuilt spells e
        → Goes s t (Has s e) (Has t e)
    set_goes s t m n empty built = empty_goes s t
    set_goes s t m n any built = one_letter s t
    set_goes s t m n edge built = edge_word s.letter t.letter
    set_goes s t m n (atom c) built = leaf_goes s t m c built
    set_goes s t m n (letters all) built = leaves_go s t m all built
    set_goes s t m n (group e) built = set_goes s t m n e built
    set_goes s t m n (maybe e) built = either_goes s t (empty_goes s t) (set_goes s t m n e built)
    set_goes s t m n (not_one k e) built = not_once s t m.tells n.tells k (set_goes s t m n e built) (set_goes t s n m e built)
    set_goes s t m n (cross e f) built = both_go s t m.tells (set_goes s t m n e built.0) (set_goes s t m n f built.1)
    set_goes s t m n (suffixed e suffixes) built = suffixed_sets s.letter t.letter suffixes (set_goes s t m n e built) (pairs_go s t m n e built)
    set_goes s t m n (prefixed prefixes e) built = with_prefixes s t m.tells n.tells prefixes (set_goes s t m n e built) (set_goes t s n m e built)
    set_goes s t m n (ignore no_term) built = empty_goes s t
    set_goes s t m n (ignore (then_term e es)) built = ignored_goes s t m n es built.1 (set_goes s t m n e built.0)
    set_goes s t m n (concat es) built = each_goes s t m n es built
    set_goes s t m n (chain e links) built = chain_goes s t m n links built.1 (set_goes s t m n e built.0)
    set_goes s t m n (only e contexts) built =
        restricted_goes s t n.tells (set_goes t s n m e built.0) (context_goes s t m n contexts built.1)
    set_goes s t m n (steps e more) built = steps_go s t m n more built.1 (set_goes s t m n e built.0)
    set_goes s t m n (rules optional groups) built = record { word = λ v h. absurd h }
    set_goes s t m n (directed way maps contexts) built = record { word = λ v h. absurd h }

    each_goes : {A B L M : Type 0} (s : Side K C A L) (t : Side K C B M) → Meets spells s t → Meets spells t s → (es : Terms C) → AreBuilt spells es
        → Goes s t (InEach s.leaf s.alphabet (mapped_each s.leaf_of es)) (InEach t.leaf t.alphabet (mapped_each t.leaf_of es))
    each_goes s t m n no_term built = empty_goes s t
    each_goes s t m n (then_term e es) built = concatenation_goes s t (set_goes s t m n e built.0) (each_goes s t m n es built.1)

    ignored_goes : {A B L M : Type 0} (s : Side K C A L) (t : Side K C B M) → Meets spells s t → Meets spells t s → (es : Terms C) → AreBuilt spells es
        → {P : List (Bound L) → Type 0} {Q : List (Bound M) → Type 0} → Goes s t P Q
        → Goes s t (InIgnoring s.leaf s.alphabet P (mapped_each s.leaf_of es)) (InIgnoring t.leaf t.alphabet Q (mapped_each t.leaf_of es))
    ignored_goes s t m n no_term built a = a
    ignored_goes s t m n (then_term e es) built a = ignored_goes s t m n es built.1 (ignoring_goes s t a (set_goes s t m n e built.0))

    chain_goes : {A B L M : Type 0} (s : Side K C A L) (t : Side K C B M) → Meets spells s t → Meets spells t s → (links : Links C) → LinksAreBuilt spells links
        → {P : List (Bound L) → Type 0} {Q : List (Bound M) → Type 0} → Goes s t P Q
        → Goes s t (InChain s.leaf s.alphabet P (mapped_links s.leaf_of links)) (InChain t.leaf t.alphabet Q (mapped_links t.leaf_of links))
    chain_goes s t m n no_link built a = a
    chain_goes s t m n (or e links) built a = chain_goes s t m n links built.1 (either_goes s t a (set_goes s t m n e built.0))
    chain_goes s t m n (and e links) built a =
        chain_goes s t m n links built.1 (both_go s t m.tells a (set_goes s t m n e built.0))
    chain_goes s t m n (less e links) built a =
        chain_goes s t m n links built.1 (less_goes s t n.tells a (set_goes t s n m e built.0))

    context_goes : {A B L M : Type 0} (s : Side K C A L) (t : Side K C B M) → Meets spells s t → Meets spells t s → (contexts : Contexts C) → ContextsAreBuilt spells contexts
        → (y z : List (Bound K)) → InContext s.leaf s.alphabet (mapped_contexts s.leaf_of contexts) (map (bound s.letter) y) (map (bound s.letter) z)
        → InContext t.leaf t.alphabet (mapped_contexts t.leaf_of contexts) (map (bound t.letter) y) (map (bound t.letter) z)
    context_goes s t m n no_context built y z h = h
    context_goes s t m n (between l r contexts) built y z h =
        elim h as (λ _. InContext t.leaf t.alphabet (mapped_contexts t.leaf_of (between l r contexts)) (map (bound t.letter) y) (map (bound t.letter) z)) [
          | inl here ↦ inl (
            left_context s.letter t.letter m.tells (set_goes s t m n l built.0) y here.0,
            right_context s.letter t.letter m.tells (set_goes s t m n r built.1) z here.1,
          )
          | inr later ↦ inr (context_goes s t m n contexts built.2 y z later)
        ]

    steps_go : {A B L M : Type 0} (s : Side K C A L) (t : Side K C B M) → Meets spells s t → Meets spells t s → (more : Steps C) → StepsAreBuilt spells more
        → {P : List (Bound L) → Type 0} {Q : List (Bound M) → Type 0} → Goes s t P Q
        → Goes s t (InSteps s.leaf s.alphabet P (mapped_steps s.leaf_of more)) (InSteps t.leaf t.alphabet Q (mapped_steps t.leaf_of more))
    steps_go s t m n no_step built a = a
    steps_go s t m n (cross_with e more) built a =
        steps_go s t m n more built.1 (both_go s t m.tells a (set_goes s t m n e built.0))
    steps_go s t m n (then e more) built a =
        steps_go s t m n more built.1 (both_go s t m.tells a (set_goes s t m n e built.0))

    pub pairs_go : {A B L M : Type 0} (s : Side K C A L) (t : Side K C B M) → Meets spells s t → Meets spells t s → (e : Term C) → IsBuilt spells e
        → GoesPairs s t (Pairs s e) (Pairs t e)
    pairs_go s t m n empty built = itself s.letter t.letter (empty_goes s t)
    pairs_go s t m n any built = itself s.letter t.letter (one_letter s t)
    pairs_go s t m n edge built = itself s.letter t.letter (edge_word s.letter t.letter)
    pairs_go s t m n (atom c) built = m.leaves c built
    pairs_go s t m n (letters all) built = itself s.letter t.letter (leaves_go s t m all built)
    pairs_go s t m n (group e) built = pairs_go s t m n e built
    pairs_go s t m n (maybe e) built = either_pair s.letter t.letter (empty_pair s.letter t.letter) (pairs_go s t m n e built)
    pairs_go s t m n (not_one k e) built = itself s.letter t.letter (not_once s t m.tells n.tells k (set_goes s t m n e built) (set_goes t s n m e built))
    pairs_go s t m n (cross e f) built = crossed s.letter t.letter (set_goes s t m n e built.0) (set_goes s t m n f built.1)
    pairs_go s t m n (suffixed e suffixes) built = suffixed_pairs s.letter t.letter suffixes (pairs_go s t m n e built)
    pairs_go s t m n (prefixed prefixes e) built = itself s.letter t.letter (with_prefixes s t m.tells n.tells prefixes (set_goes s t m n e built) (set_goes t s n m e built))
    pairs_go s t m n (ignore no_term) built = itself s.letter t.letter (empty_goes s t)
    pairs_go s t m n (ignore (then_term e es)) built = itself s.letter t.letter (ignored_goes s t m n es built.1 (set_goes s t m n e built.0))
    pairs_go s t m n (concat es) built = each_pair_goes s t m n es built
    pairs_go s t m n (chain e links) built = row_goes s t m n links built.1 (set_goes s t m n e built.0) (pairs_go s t m n e built.0)
    pairs_go s t m n (only e contexts) built =
        itself s.letter t.letter (restricted_goes s t n.tells (set_goes t s n m e built.0) (context_goes s t m n contexts built.1))
    pairs_go s t m n (steps e more) built = walk_goes s t m n more built.1 (set_goes s t m n e built.0) (pairs_go s t m n e built.0)
    pairs_go s t m n (rules optional groups) built =
        rewritten s.letter t.letter m.tells s.alphabet t.alphabet
        (record {
          letter = λ x among. let r = s.known x among in (r.0, sym r.1, t.named r.0);
          words = λ before behind c r h. group_words s t m n groups built.1 before behind c r h;
          replaces = λ before behind y z h. group_replaces s t m n groups built.1 before behind y z h;
          applies = λ before behind y h. group_applies t s n m groups built.1 before behind y h;
        })
        optional
    pairs_go s t m n (directed way maps contexts) built =
        directed_rule s.letter t.letter m.tells s.alphabet t.alphabet {N = IsMatch s.leaf s.alphabet (mapped_mappings s.leaf_of maps) (mapped_contexts s.leaf_of contexts)}
        {O = IsMatch t.leaf t.alphabet (mapped_mappings t.leaf_of maps) (mapped_contexts t.leaf_of contexts)}
        (record {
          letter = λ x among. let r = s.known x among in (r.0, sym r.1, t.named r.0);
          words = λ before behind c r h. mapping_words s t m n maps built.1 c r h.0;
          replaces = λ before behind y z h. (
            mapping_goes s t m n maps built.1 y z h.0,
            allowed s t contexts (InContext s.leaf s.alphabet (mapped_contexts s.leaf_of contexts)) (InContext t.leaf t.alphabet (mapped_contexts t.leaf_of contexts)) UpUp (context_goes s t m n contexts built.2) before behind h.1,
          );
          matches = λ x y z h. (
            centre_goes t s n m maps built.1 y h.0,
            held t s contexts (InContext t.leaf t.alphabet (mapped_contexts t.leaf_of contexts)) (InContext s.leaf s.alphabet (mapped_contexts s.leaf_of contexts)) (context_goes t s n m contexts built.2) x z h.1,
          );
        })
        way

    each_pair_goes : {A B L M : Type 0} (s : Side K C A L) (t : Side K C B M) → Meets spells s t → Meets spells t s → (es : Terms C) → AreBuilt spells es
        → GoesPairs s t (RelatesEach s.leaf s.alphabet (mapped_each s.leaf_of es)) (RelatesEach t.leaf t.alphabet (mapped_each t.leaf_of es))
    each_pair_goes s t m n no_term built = empty_pair s.letter t.letter
    each_pair_goes s t m n (then_term e es) built = concatenation_pairs s.letter t.letter (pairs_go s t m n e built.0) (each_pair_goes s t m n es built.1)

    row_goes : {A B L M : Type 0} (s : Side K C A L) (t : Side K C B M) → Meets spells s t → Meets spells t s → (links : Links C) → LinksAreBuilt spells links
        → {P : List (Bound L) → Type 0} {Q : List (Bound M) → Type 0} {R : List L → List L → Type 0} {T : List M → List M → Type 0}
        → Goes s t P Q → GoesPairs s t R T
        → GoesPairs s t (RelatesChain s.leaf s.alphabet P R (mapped_links s.leaf_of links)) (RelatesChain t.leaf t.alphabet Q T (mapped_links t.leaf_of links))
    row_goes s t m n no_link built a b = b
    row_goes s t m n (or e links) built a b =
        row_goes s t m n links built.1 (either_goes s t a (set_goes s t m n e built.0)) (either_pair s.letter t.letter b (pairs_go s t m n e built.0))
    row_goes s t m n (and e links) built a b =
        let now = both_go s t m.tells a (set_goes s t m n e built.0) in
        row_goes s t m n links built.1 now (itself s.letter t.letter now)
    row_goes s t m n (less e links) built a b =
        let now = less_goes s t n.tells a (set_goes t s n m e built.0) in
        row_goes s t m n links built.1 now (itself s.letter t.letter now)

    walk_goes : {A B L M : Type 0} (s : Side K C A L) (t : Side K C B M) → Meets spells s t → Meets spells t s → (more : Steps C) → StepsAreBuilt spells more
        → {P : List (Bound L) → Type 0} {Q : List (Bound M) → Type 0} {R : List L → List L → Type 0} {T : List M → List M → Type 0}
        → Goes s t P Q → GoesPairs s t R T
        → GoesPairs s t (RelatesSteps s.leaf s.alphabet P R (mapped_steps s.leaf_of more)) (RelatesSteps t.leaf t.alphabet Q T (mapped_steps t.leaf_of more))
    walk_goes s t m n no_step built a b = b
    walk_goes s t m n (cross_with e more) built a b =
        walk_goes s t m n more built.1 (both_go s t m.tells a (set_goes s t m n e built.0))
        (crossed s.letter t.letter a (set_goes s t m n e built.0))
    walk_goes s t m n (then e more) built a b =
        walk_goes s t m n more built.1 (both_go s t m.tells a (set_goes s t m n e built.0))
        (composition s.letter t.letter m.tells b (pairs_go s t m n e built.0))

    -- the words that a mapping relates are spelled
    mapping_words : {A B L M : Type 0} (s : Side K C A L) (t : Side K C B M) → Meets spells s t → Meets spells t s → (maps : Mappings C) → MappingsAreBuilt spells maps
        → (c r : List L) → IsMapped s.leaf s.alphabet (mapped_mappings s.leaf_of maps) c r → (y : List K) × (z : List K) × (c ≡ map s.letter y) × (r ≡ map s.letter z)
    mapping_words s t m n no_mapping built c r h = absurd h
    mapping_words s t m n (plain e f maps) built c r h = elim h as (λ _. (y : List K) × (z : List K) × (c ≡ map s.letter y) × (r ≡ map s.letter z)) [
      | inl here ↦
          let y = word_goes s t (set_goes s t m n e built.1) c here.0 in
          let z = word_goes s t (set_goes s t m n f built.2) r here.1 in
          (y.0, z.0, y.1, z.1)
      | inr later ↦ mapping_words s t m n maps built.3 c r later
    ]
    mapping_words s t m n (markup e b a maps) built c r h = elim h as (λ _. (y : List K) × (z : List K) × (c ≡ map s.letter y) × (r ≡ map s.letter z)) [
      | inl here ↦
          let y = word_goes s t (set_goes s t m n e built.1) c here.0 in
          let z = around_words s.letter t.letter m.tells (set_goes s t m n b built.2) (set_goes s t m n a built.3) y.0 r
          (subst (λ (u : List _). IsAround (Has s b) (Has s a) u r) y.1 here.1) in
          (y.0, z.0, y.1, z.1)
      | inr later ↦ mapping_words s t m n maps built.4 c r later
    ]
    mapping_words s t m n (insert f maps) built c r h = elim h as (λ _. (y : List K) × (z : List K) × (c ≡ map s.letter y) × (r ≡ map s.letter z)) [
      | inl here ↦ let z = word_goes s t (set_goes s t m n f built.0) r here.1 in ([], z.0, here.0, z.1)
      | inr later ↦ mapping_words s t m n maps built.1 c r later
    ]

    mapping_goes : {A B L M : Type 0} (s : Side K C A L) (t : Side K C B M) → Meets spells s t → Meets spells t s → (maps : Mappings C) → MappingsAreBuilt spells maps
        → (y z : List K) → IsMapped s.leaf s.alphabet (mapped_mappings s.leaf_of maps) (map s.letter y) (map s.letter z)
        → IsMapped t.leaf t.alphabet (mapped_mappings t.leaf_of maps) (map t.letter y) (map t.letter z)
    mapping_goes s t m n no_mapping built y z h = h
    mapping_goes s t m n (plain e f maps) built y z h =
        elim h as (λ _. IsMapped t.leaf t.alphabet (mapped_mappings t.leaf_of (plain e f maps)) (map t.letter y) (map t.letter z)) [
          | inl here ↦ inl (same_goes s t m.tells (set_goes s t m n e built.1) y here.0, same_goes s t m.tells (set_goes s t m n f built.2) z here.1)
          | inr later ↦ inr (mapping_goes s t m n maps built.3 y z later)
        ]
    mapping_goes s t m n (markup e b a maps) built y z h =
        elim h as (λ _. IsMapped t.leaf t.alphabet (mapped_mappings t.leaf_of (markup e b a maps)) (map t.letter y) (map t.letter z)) [
          | inl here ↦ inl (
            same_goes s t m.tells (set_goes s t m n e built.1) y here.0,
            around s.letter t.letter m.tells (set_goes s t m n b built.2) (set_goes s t m n a built.3) y z here.1,
          )
          | inr later ↦ inr (mapping_goes s t m n maps built.4 y z later)
        ]
    mapping_goes s t m n (insert f maps) built y z h =
        elim h as (λ _. IsMapped t.leaf t.alphabet (mapped_mappings t.leaf_of (insert f maps)) (map t.letter y) (map t.letter z)) [
          | inl here ↦ inl (none_spelled s.letter t.letter y here.0, same_goes s t m.tells (set_goes s t m n f built.0) z here.1)
          | inr later ↦ inr (mapping_goes s t m n maps built.1 y z later)
        ]

    centre_goes : {A B L M : Type 0} (s : Side K C A L) (t : Side K C B M) → Meets spells s t → Meets spells t s → (maps : Mappings C) → MappingsAreBuilt spells maps
        → (y : List K) → IsCentre s.leaf s.alphabet (mapped_mappings s.leaf_of maps) (map s.letter y) → IsCentre t.leaf t.alphabet (mapped_mappings t.leaf_of maps) (map t.letter y)
    centre_goes s t m n no_mapping built y h = h
    centre_goes s t m n (plain e f maps) built y h = elim h as (λ _. IsCentre t.leaf t.alphabet (mapped_mappings t.leaf_of (plain e f maps)) (map t.letter y)) [
      | inl here ↦ inl (same_goes s t m.tells (set_goes s t m n e built.1) y here)
      | inr later ↦ inr (centre_goes s t m n maps built.3 y later)
    ]
    centre_goes s t m n (markup e b a maps) built y h = elim h as (λ _. IsCentre t.leaf t.alphabet (mapped_mappings t.leaf_of (markup e b a maps)) (map t.letter y)) [
      | inl here ↦ inl (same_goes s t m.tells (set_goes s t m n e built.1) y here)
      | inr later ↦ inr (centre_goes s t m n maps built.4 y later)
    ]
    centre_goes s t m n (insert f maps) built y h = elim h as (λ _. IsCentre t.leaf t.alphabet (mapped_mappings t.leaf_of (insert f maps)) (map t.letter y)) [
      | inl here ↦ inl (none_spelled s.letter t.letter y here)
      | inr later ↦ inr (centre_goes s t m n maps built.1 y later)
    ]

    -- the words of a replacement are spelled
    group_words : {A B L M : Type 0} (s : Side K C A L) (t : Side K C B M) → Meets spells s t → Meets spells t s → (groups : Groups C) → GroupsAreBuilt spells groups
        → (before behind : List (Piece L)) (c r : List L) → Replaces s.leaf s.alphabet (mapped_groups s.leaf_of groups) before c r behind
        → (y : List K) × (z : List K) × (c ≡ map s.letter y) × (r ≡ map s.letter z)
    group_words s t m n no_group built before behind c r h = absurd h
    group_words s t m n (then_group maps side contexts groups) built before behind c r h = elim h as (λ _. (y : List K) × (z : List K) × (c ≡ map s.letter y) × (r ≡ map s.letter z)) [
      | inl here ↦ mapping_words s t m n maps built.0 c r here.0
      | inr later ↦ group_words s t m n groups built.2 before behind c r later
    ]

    group_replaces : {A B L M : Type 0} (s : Side K C A L) (t : Side K C B M) → Meets spells s t → Meets spells t s → (groups : Groups C) → GroupsAreBuilt spells groups
        → (before behind : List (Piece K)) (y z : List K)
        → Replaces s.leaf s.alphabet (mapped_groups s.leaf_of groups) (map (piece s.letter) before) (map s.letter y) (map s.letter z) (map (piece s.letter) behind)
        → Replaces t.leaf t.alphabet (mapped_groups t.leaf_of groups) (map (piece t.letter) before) (map t.letter y) (map t.letter z) (map (piece t.letter) behind)
    group_replaces s t m n no_group built before behind y z h = h
    group_replaces s t m n (then_group maps side contexts groups) built before behind y z h =
        elim h as (λ _. Replaces t.leaf t.alphabet (mapped_groups t.leaf_of (then_group maps side contexts groups)) (map (piece t.letter) before) (map t.letter y) (map t.letter z) (map (piece t.letter) behind)) [
          | inl here ↦ inl (mapping_goes s t m n maps built.0 y z here.0, allowed s t contexts (InContext s.leaf s.alphabet (mapped_contexts s.leaf_of contexts)) (InContext t.leaf t.alphabet (mapped_contexts t.leaf_of contexts)) side (context_goes s t m n contexts built.1) before behind here.1)
          | inr later ↦ inr (group_replaces s t m n groups built.2 before behind y z later)
        ]

    group_applies : {A B L M : Type 0} (s : Side K C A L) (t : Side K C B M) → Meets spells s t → Meets spells t s → (groups : Groups C) → GroupsAreBuilt spells groups
        → (before behind : List (Piece K)) (y : List K)
        → Applies s.leaf s.alphabet (mapped_groups s.leaf_of groups) (map (piece s.letter) before) (map s.letter y) (map (piece s.letter) behind)
        → Applies t.leaf t.alphabet (mapped_groups t.leaf_of groups) (map (piece t.letter) before) (map t.letter y) (map (piece t.letter) behind)
    group_applies s t m n no_group built before behind y h = h
    group_applies s t m n (then_group maps side contexts groups) built before behind y h =
        elim h as (λ _. Applies t.leaf t.alphabet (mapped_groups t.leaf_of (then_group maps side contexts groups)) (map (piece t.letter) before) (map t.letter y) (map (piece t.letter) behind)) [
          | inl here ↦ inl (centre_goes s t m n maps built.0 y here.0, allowed s t contexts (InContext s.leaf s.alphabet (mapped_contexts s.leaf_of contexts)) (InContext t.leaf t.alphabet (mapped_contexts t.leaf_of contexts)) side (context_goes s t m n contexts built.1) before behind here.1)
          | inr later ↦ inr (group_applies s t m n groups built.2 before behind y later)
        ]

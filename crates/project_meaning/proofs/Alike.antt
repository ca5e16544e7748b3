-- An expression means the same where the names in it do: by its form, its meanings are one set and one relation.
use Rattle.std.proofs.Common.{◌≡◌, ◌⊎◌, ℕ, List, [], ◌∷◌, ◌++◌, map, codes, IsTrue, Option, Some, None, refl}
use Rattle.std.specs.List.{flat_map, Contains}
use Rattle.fsm_base.specs.declared.letters.Bound.{Bound}
use Rattle.word_relations.specs.Words.{IsConcatenation}
use Rattle.word_relations.specs.Relations.{IsConcatenationOfPairs}
use Rattle.word_relations.proofs.Members.{Contains-head, Contains-map}
use Rattle.word_relations.specs.Operations.{IsIgnoring}
use Rattle.word_relations.specs.Relations.{IsComposition}
use Rattle.regex_ast.specs.Terms.{Term, Terms, Links, Contexts, Steps, Mappings, Groups, empty, any, edge, atom, letters, group, maybe, not_one, cross, suffixed, prefixed, ignore, concat, chain, only, rules, directed, steps, no_term, then_term, no_link, or, and, less, no_context, between, no_step, cross_with, then, no_mapping, plain, markup, insert, no_group, then_group}
use Rattle.expr_leaves.specs.Leaves.{listed, listed_each, listed_links, listed_contexts, listed_steps, listed_mappings, listed_groups}
use Rattle.expr_meaning.specs.Operators.{inner, IsEmpty, IsItself, WithEdge, AreSuffixed, RelateSuffixed, ArePrefixed, IsNotOne, IsRestricted, HoldsLeft, HoldsRight}
use Rattle.expr_meaning.specs.Replacement.{IsAround, IsAllowed, IsRewritten}
use Rattle.expr_meaning.specs.Directed.{IsMatchBy, DirectsBy, IsDirectedBy}
use Rattle.expr_meaning.specs.Meaning.{InLeaves, In, InEach, InIgnoring, InChain, InContext, InSteps, IsCentre, IsMapped, Replaces, Applies, Relates, RelatesEach, RelatesChain, RelatesSteps}
use Rattle.project_meaning.specs.Trees.{Piece, letter, Form, sides, pairs, Entry, Lexicon, Body, xfst, lexc, twolc}
use Rattle.project_meaning.specs.Lexicons.{text_in, letters_of, flags_pass, IsEntryOf, FormAdds, IsPath, LexiconsRelate}
use Rattle.project_meaning.specs.Leaves.{Leaf, symbol, named, name_in, names_in, expressions_in, forms_in}
use Rattle.project_meaning.specs.Meaning.{Word, stands_for, BodyRelates}
use Rattle.project_meaning.proofs.Places.{in_front, in_back, in_flat}

module _ (means other : List ℕ → Word → Word → Type 0) (alphabet : List (List ℕ)) where
  -- these names mean the same
  abbrev Same : List (List ℕ) → Type 1
  Same names = (name : List ℕ) → Contains names name → means name ≡ other name

  front : (xs ys : List (List ℕ)) → Same (xs ++ ys) → Same xs
  front xs ys same name h = same name (in_front xs ys name h)

  back : (xs ys : List (List ℕ)) → Same (xs ++ ys) → Same ys
  back xs ys same name h = same name (in_back xs ys name h)

  same_leaf : (a : Leaf) → Same (name_in a) → stands_for means a ≡ stands_for other a
  same_leaf (symbol text) same = refl
  same_leaf (named name) same = same name (Contains-head name [])

  same_leaves : (all : List Leaf) → Same (flat_map name_in all) → InLeaves (stands_for means) alphabet all ≡ InLeaves (stands_for other) alphabet all
  same_leaves [] same = refl
  same_leaves (a ∷ all) same =
      let here = same_leaf a (front (name_in a) (flat_map name_in all) same) in
      λ i. IsConcatenation (WithEdge (λ u. here i u u)) (same_leaves all (back (name_in a) (flat_map name_in all) same) i)

  mutual
    same_set : (e : Term Leaf) → Same (listed name_in e) → In (stands_for means) alphabet e ≡ In (stands_for other) alphabet e
    same_set empty same = refl
    same_set any same = refl
    same_set edge same = refl
    same_set (atom a) same = λ i. WithEdge (λ u. same_leaf a same i u u)
    same_set (letters all) same = same_leaves all same
    same_set (group e) same = same_set e same
    same_set (maybe e) same = λ i w. IsEmpty w ⊎ same_set e same i w
    same_set (not_one n e) same = λ i. IsNotOne alphabet n (same_set e same i)
    same_set (cross e f) same =
        λ i w. same_set e (front (listed name_in e) (listed name_in f) same) i w × same_set f (back (listed name_in e) (listed name_in f) same) i w
    same_set (suffixed e suffixes) same = λ i. AreSuffixed suffixes (same_set e same i) (same_relation e same i)
    same_set (prefixed prefixes e) same = λ i. ArePrefixed alphabet prefixes (same_set e same i)
    same_set (ignore no_term) same = refl
    same_set (ignore (then_term e es)) same =
        same_ignoring es (back (listed name_in e) (listed_each name_in es) same) (In (stands_for means) alphabet e) (In (stands_for other) alphabet e)
        (same_set e (front (listed name_in e) (listed_each name_in es) same))
    same_set (concat es) same = same_each es same
    same_set (chain e links) same =
        same_chain links (back (listed name_in e) (listed_links name_in links) same) (In (stands_for means) alphabet e) (In (stands_for other) alphabet e)
        (same_set e (front (listed name_in e) (listed_links name_in links) same))
    same_set (only e contexts) same =
        let set = same_set e (front (listed name_in e) (listed_contexts name_in contexts) same) in
        let test = same_context contexts (back (listed name_in e) (listed_contexts name_in contexts) same) in
        λ i. IsRestricted alphabet (set i) (test i)
    same_set (rules optional groups) same = refl
    same_set (directed way maps contexts) same = refl
    same_set (steps e more) same =
        same_steps more (back (listed name_in e) (listed_steps name_in more) same) (In (stands_for means) alphabet e) (In (stands_for other) alphabet e)
        (same_set e (front (listed name_in e) (listed_steps name_in more) same))

    same_each : (es : Terms Leaf) → Same (listed_each name_in es) → InEach (stands_for means) alphabet es ≡ InEach (stands_for other) alphabet es
    same_each no_term same = refl
    same_each (then_term e es) same =
        let first = same_set e (front (listed name_in e) (listed_each name_in es) same) in
        let rest = same_each es (back (listed name_in e) (listed_each name_in es) same) in
        λ i. IsConcatenation (first i) (rest i)

    same_ignoring : (es : Terms Leaf) → Same (listed_each name_in es) → (P Q : List (Bound (List ℕ)) → Type 0) → P ≡ Q
        → InIgnoring (stands_for means) alphabet P es ≡ InIgnoring (stands_for other) alphabet Q es
    same_ignoring no_term same P Q set = set
    same_ignoring (then_term e es) same P Q set =
        let first = same_set e (front (listed name_in e) (listed_each name_in es) same) in
        same_ignoring es (back (listed name_in e) (listed_each name_in es) same) (IsIgnoring P (In (stands_for means) alphabet e)) (IsIgnoring Q (In (stands_for other) alphabet e))
        (λ i. IsIgnoring (set i) (first i))

    same_chain : (links : Links Leaf) → Same (listed_links name_in links) → (P Q : List (Bound (List ℕ)) → Type 0) → P ≡ Q
        → InChain (stands_for means) alphabet P links ≡ InChain (stands_for other) alphabet Q links
    same_chain no_link same P Q set = set
    same_chain (or e links) same P Q set =
        let first = same_set e (front (listed name_in e) (listed_links name_in links) same) in
        same_chain links (back (listed name_in e) (listed_links name_in links) same) (λ v. P v ⊎ In (stands_for means) alphabet e v) (λ v. Q v ⊎ In (stands_for other) alphabet e v)
        (λ i v. set i v ⊎ first i v)
    same_chain (and e links) same P Q set =
        let first = same_set e (front (listed name_in e) (listed_links name_in links) same) in
        same_chain links (back (listed name_in e) (listed_links name_in links) same) (λ v. P v × In (stands_for means) alphabet e v) (λ v. Q v × In (stands_for other) alphabet e v)
        (λ i v. set i v × first i v)
    same_chain (less e links) same P Q set =
        let first = same_set e (front (listed name_in e) (listed_links name_in links) same) in
        same_chain links (back (listed name_in e) (listed_links name_in links) same) (λ v. P v × ¬ In (stands_for means) alphabet e v) (λ v. Q v × ¬ In (stands_for other) alphabet e v)
        (λ i v. set i v × ¬ first i v)

    same_context : (contexts : Contexts Leaf) → Same (listed_contexts name_in contexts) → InContext (stands_for means) alphabet contexts ≡ InContext (stands_for other) alphabet contexts
    same_context no_context same = refl
    same_context (between l r contexts) same =
        let both = front (listed name_in l ++ listed name_in r) (listed_contexts name_in contexts) same in
        let left = same_set l (front (listed name_in l) (listed name_in r) both) in
        let right = same_set r (back (listed name_in l) (listed name_in r) both) in
        let rest = same_context contexts (back (listed name_in l ++ listed name_in r) (listed_contexts name_in contexts) same) in
        λ i x z. (HoldsLeft (left i) x × HoldsRight (right i) z) ⊎ rest i x z

    same_steps : (more : Steps Leaf) → Same (listed_steps name_in more) → (P Q : List (Bound (List ℕ)) → Type 0) → P ≡ Q
        → InSteps (stands_for means) alphabet P more ≡ InSteps (stands_for other) alphabet Q more
    same_steps no_step same P Q set = set
    same_steps (cross_with e more) same P Q set =
        let first = same_set e (front (listed name_in e) (listed_steps name_in more) same) in
        same_steps more (back (listed name_in e) (listed_steps name_in more) same) (λ v. P v × In (stands_for means) alphabet e v) (λ v. Q v × In (stands_for other) alphabet e v)
        (λ i v. set i v × first i v)
    same_steps (then e more) same P Q set =
        let first = same_set e (front (listed name_in e) (listed_steps name_in more) same) in
        same_steps more (back (listed name_in e) (listed_steps name_in more) same) (λ v. P v × In (stands_for means) alphabet e v) (λ v. Q v × In (stands_for other) alphabet e v)
        (λ i v. set i v × first i v)

    same_centre : (maps : Mappings Leaf) → Same (listed_mappings name_in maps) → IsCentre (stands_for means) alphabet maps ≡ IsCentre (stands_for other) alphabet maps
    same_centre no_mapping same = refl
    same_centre (plain c r maps) same =
        let both = front (listed name_in c ++ listed name_in r) (listed_mappings name_in maps) same in
        let centre = same_set c (front (listed name_in c) (listed name_in r) both) in
        let rest = same_centre maps (back (listed name_in c ++ listed name_in r) (listed_mappings name_in maps) same) in
        λ i x. centre i (inner x) ⊎ rest i x
    same_centre (markup c b a maps) same =
        let all = front (listed name_in c ++ listed name_in b ++ listed name_in a) (listed_mappings name_in maps) same in
        let first = front (listed name_in c ++ listed name_in b) (listed name_in a) all in
        let centre = same_set c (front (listed name_in c) (listed name_in b) first) in
        let rest = same_centre maps (back (listed name_in c ++ listed name_in b ++ listed name_in a) (listed_mappings name_in maps) same) in
        λ i x. centre i (inner x) ⊎ rest i x
    same_centre (insert r maps) same = let rest = same_centre maps (back (listed name_in r) (listed_mappings name_in maps) same) in λ i x. (x ≡ []) ⊎ rest i x

    same_mapping : (maps : Mappings Leaf) → Same (listed_mappings name_in maps) → IsMapped (stands_for means) alphabet maps ≡ IsMapped (stands_for other) alphabet maps
    same_mapping no_mapping same = refl
    same_mapping (plain c r maps) same =
        let both = front (listed name_in c ++ listed name_in r) (listed_mappings name_in maps) same in
        let centre = same_set c (front (listed name_in c) (listed name_in r) both) in
        let result = same_set r (back (listed name_in c) (listed name_in r) both) in
        let rest = same_mapping maps (back (listed name_in c ++ listed name_in r) (listed_mappings name_in maps) same) in
        λ i x y. (centre i (inner x) × result i (inner y)) ⊎ rest i x y
    same_mapping (markup c b a maps) same =
        let all = front (listed name_in c ++ listed name_in b ++ listed name_in a) (listed_mappings name_in maps) same in
        let first = front (listed name_in c ++ listed name_in b) (listed name_in a) all in
        let centre = same_set c (front (listed name_in c) (listed name_in b) first) in
        let before = same_set b (back (listed name_in c) (listed name_in b) first) in
        let after = same_set a (back (listed name_in c ++ listed name_in b) (listed name_in a) all) in
        let rest = same_mapping maps (back (listed name_in c ++ listed name_in b ++ listed name_in a) (listed_mappings name_in maps) same) in
        λ i x y. (centre i (inner x) × IsAround (before i) (after i) x y) ⊎ rest i x y
    same_mapping (insert r maps) same =
        let result = same_set r (front (listed name_in r) (listed_mappings name_in maps) same) in
        let rest = same_mapping maps (back (listed name_in r) (listed_mappings name_in maps) same) in
        λ i x y. ((x ≡ []) × result i (inner y)) ⊎ rest i x y

    same_replaces : (groups : Groups Leaf) → Same (listed_groups name_in groups) → Replaces (stands_for means) alphabet groups ≡ Replaces (stands_for other) alphabet groups
    same_replaces no_group same = refl
    same_replaces (then_group maps side contexts groups) same =
        let now = front (listed_mappings name_in maps ++ listed_contexts name_in contexts) (listed_groups name_in groups) same in
        let mapping = same_mapping maps (front (listed_mappings name_in maps) (listed_contexts name_in contexts) now) in
        let test = same_context contexts (back (listed_mappings name_in maps) (listed_contexts name_in contexts) now) in
        let rest = same_replaces groups (back (listed_mappings name_in maps ++ listed_contexts name_in contexts) (listed_groups name_in groups) same) in
        λ i before x y behind. (mapping i x y × IsAllowed contexts (test i) side before behind) ⊎ rest i before x y behind

    same_applies : (groups : Groups Leaf) → Same (listed_groups name_in groups) → Applies (stands_for means) alphabet groups ≡ Applies (stands_for other) alphabet groups
    same_applies no_group same = refl
    same_applies (then_group maps side contexts groups) same =
        let now = front (listed_mappings name_in maps ++ listed_contexts name_in contexts) (listed_groups name_in groups) same in
        let centre = same_centre maps (front (listed_mappings name_in maps) (listed_contexts name_in contexts) now) in
        let test = same_context contexts (back (listed_mappings name_in maps) (listed_contexts name_in contexts) now) in
        let rest = same_applies groups (back (listed_mappings name_in maps ++ listed_contexts name_in contexts) (listed_groups name_in groups) same) in
        λ i before x behind. (centre i x × IsAllowed contexts (test i) side before behind) ⊎ rest i before x behind

    pub same_relation : (e : Term Leaf) → Same (listed name_in e) → Relates (stands_for means) alphabet e ≡ Relates (stands_for other) alphabet e
    same_relation empty same = refl
    same_relation any same = refl
    same_relation edge same = refl
    same_relation (atom a) same = same_leaf a same
    same_relation (letters all) same = λ i. IsItself (same_leaves all same i)
    same_relation (group e) same = same_relation e same
    same_relation (maybe e) same = λ i u w. ((u ≡ []) × (w ≡ [])) ⊎ same_relation e same i u w
    same_relation (not_one n e) same = λ i. IsItself (IsNotOne alphabet n (same_set e same i))
    same_relation (cross e f) same =
        let upper = same_set e (front (listed name_in e) (listed name_in f) same) in
        let lower = same_set f (back (listed name_in e) (listed name_in f) same) in
        λ i u w. upper i (inner u) × lower i (inner w)
    same_relation (suffixed e suffixes) same = λ i. RelateSuffixed suffixes (same_relation e same i)
    same_relation (prefixed prefixes e) same = λ i. IsItself (ArePrefixed alphabet prefixes (same_set e same i))
    same_relation (ignore no_term) same = refl
    same_relation (ignore (then_term e es)) same =
        let set = same_ignoring es (back (listed name_in e) (listed_each name_in es) same) (In (stands_for means) alphabet e) (In (stands_for other) alphabet e)
        (same_set e (front (listed name_in e) (listed_each name_in es) same)) in
        λ i. IsItself (set i)
    same_relation (concat es) same = same_pairs es same
    same_relation (chain e links) same =
        let now = front (listed name_in e) (listed_links name_in links) same in
        same_row links (back (listed name_in e) (listed_links name_in links) same) (In (stands_for means) alphabet e) (In (stands_for other) alphabet e) (same_set e now)
        (Relates (stands_for means) alphabet e) (Relates (stands_for other) alphabet e) (same_relation e now)
    same_relation (only e contexts) same =
        let set = same_set e (front (listed name_in e) (listed_contexts name_in contexts) same) in
        let test = same_context contexts (back (listed name_in e) (listed_contexts name_in contexts) same) in
        λ i. IsItself (IsRestricted alphabet (set i) (test i))
    same_relation (rules optional groups) same =
        let replaces = same_replaces groups same in
        let applies = same_applies groups same in
        λ i. IsRewritten alphabet (replaces i) (applies i) optional
    same_relation (directed way maps contexts) same =
        let now = front (listed_mappings name_in maps) (listed_contexts name_in contexts) same in
        let centre = same_centre maps now in
        let mapping = same_mapping maps now in
        let test = same_context contexts (back (listed_mappings name_in maps) (listed_contexts name_in contexts) same) in
        λ i. IsDirectedBy (IsMatchBy contexts (centre i) (test i)) alphabet (DirectsBy contexts (mapping i) (test i)) way
    same_relation (steps e more) same =
        let now = front (listed name_in e) (listed_steps name_in more) same in
        same_walk more (back (listed name_in e) (listed_steps name_in more) same) (In (stands_for means) alphabet e) (In (stands_for other) alphabet e) (same_set e now)
        (Relates (stands_for means) alphabet e) (Relates (stands_for other) alphabet e) (same_relation e now)

    same_pairs : (es : Terms Leaf) → Same (listed_each name_in es) → RelatesEach (stands_for means) alphabet es ≡ RelatesEach (stands_for other) alphabet es
    same_pairs no_term same = refl
    same_pairs (then_term e es) same =
        let first = same_relation e (front (listed name_in e) (listed_each name_in es) same) in
        let rest = same_pairs es (back (listed name_in e) (listed_each name_in es) same) in
        λ i. IsConcatenationOfPairs (first i) (rest i)

    same_row : (links : Links Leaf) → Same (listed_links name_in links) → (P Q : List (Bound (List ℕ)) → Type 0) → P ≡ Q → (R S : Word → Word → Type 0) → R ≡ S
        → RelatesChain (stands_for means) alphabet P R links ≡ RelatesChain (stands_for other) alphabet Q S links
    same_row no_link same P Q set R S relation = relation
    same_row (or e links) same P Q set R S relation =
        let now = front (listed name_in e) (listed_links name_in links) same in
        let first = same_set e now in
        let pairs = same_relation e now in
        same_row links (back (listed name_in e) (listed_links name_in links) same) (λ v. P v ⊎ In (stands_for means) alphabet e v) (λ v. Q v ⊎ In (stands_for other) alphabet e v) (λ i v. set i v ⊎ first i v)
        (λ u w. R u w ⊎ Relates (stands_for means) alphabet e u w) (λ u w. S u w ⊎ Relates (stands_for other) alphabet e u w) (λ i u w. relation i u w ⊎ pairs i u w)
    same_row (and e links) same P Q set R S relation =
        let first = same_set e (front (listed name_in e) (listed_links name_in links) same) in
        same_row links (back (listed name_in e) (listed_links name_in links) same) (λ v. P v × In (stands_for means) alphabet e v) (λ v. Q v × In (stands_for other) alphabet e v) (λ i v. set i v × first i v)
        (IsItself (λ v. P v × In (stands_for means) alphabet e v)) (IsItself (λ v. Q v × In (stands_for other) alphabet e v)) (λ i. IsItself (λ v. set i v × first i v))
    same_row (less e links) same P Q set R S relation =
        let first = same_set e (front (listed name_in e) (listed_links name_in links) same) in
        same_row links (back (listed name_in e) (listed_links name_in links) same) (λ v. P v × ¬ In (stands_for means) alphabet e v) (λ v. Q v × ¬ In (stands_for other) alphabet e v) (λ i v. set i v × ¬ first i v)
        (IsItself (λ v. P v × ¬ In (stands_for means) alphabet e v)) (IsItself (λ v. Q v × ¬ In (stands_for other) alphabet e v)) (λ i. IsItself (λ v. set i v × ¬ first i v))

    same_walk : (more : Steps Leaf) → Same (listed_steps name_in more) → (P Q : List (Bound (List ℕ)) → Type 0) → P ≡ Q → (R S : Word → Word → Type 0) → R ≡ S
        → RelatesSteps (stands_for means) alphabet P R more ≡ RelatesSteps (stands_for other) alphabet Q S more
    same_walk no_step same P Q set R S relation = relation
    same_walk (cross_with e more) same P Q set R S relation =
        let first = same_set e (front (listed name_in e) (listed_steps name_in more) same) in
        same_walk more (back (listed name_in e) (listed_steps name_in more) same) (λ v. P v × In (stands_for means) alphabet e v) (λ v. Q v × In (stands_for other) alphabet e v) (λ i v. set i v × first i v)
        (λ u w. P (inner u) × In (stands_for means) alphabet e (inner w)) (λ u w. Q (inner u) × In (stands_for other) alphabet e (inner w)) (λ i u w. set i (inner u) × first i (inner w))
    same_walk (then e more) same P Q set R S relation =
        let now = front (listed name_in e) (listed_steps name_in more) same in
        let first = same_set e now in
        let pairs = same_relation e now in
        same_walk more (back (listed name_in e) (listed_steps name_in more) same) (λ v. P v × In (stands_for means) alphabet e v) (λ v. Q v × In (stands_for other) alphabet e v) (λ i v. set i v × first i v)
        (IsComposition R (Relates (stands_for means) alphabet e)) (IsComposition S (Relates (stands_for other) alphabet e)) (λ i. IsComposition (relation i) (pairs i))

  module _ (lexicons : List (Lexicon Leaf)) (same : Same (flat_map (λ (e : Term Leaf). listed name_in e) (flat_map expressions_in (forms_in lexicons)))) where
    same_form : (form : Form Leaf) → ((e : Term Leaf) → Contains (expressions_in form) e → Same (listed name_in e))
        → FormAdds text_in (stands_for means) alphabet lexicons form ≡ FormAdds text_in (stands_for other) alphabet lexicons form
    same_form (sides upper lower) each = refl
    same_form (pairs e) each =
        let relation = same_relation e (each e (Contains-head e [])) in
        λ i x y. (u : Word) × (w : Word) × relation i u w × (x ≡ map letter u) × (y ≡ map letter w)

    same_entry : (name : List ℕ) (entry : Entry Leaf) → IsEntryOf lexicons name entry → FormAdds text_in (stands_for means) alphabet lexicons entry.form ≡ FormAdds text_in (stands_for other) alphabet lexicons entry.form
    same_entry name entry (lexicon, h, is, g) = same_form entry.form (λ e k name r. same name
        (in_flat (λ (e : Term Leaf). listed name_in e) (flat_map expressions_in (forms_in lexicons)) e name
        (in_flat expressions_in (forms_in lexicons) entry.form e
        (in_flat (λ (l : Lexicon Leaf). map (λ (x : Entry Leaf). x.form) l.entries) lexicons lexicon entry.form h (Contains-map (λ (x : Entry Leaf). x.form) lexicon.entries entry g)) k) r))

    same_path : (from : Option (List ℕ)) (entries : List (Entry Leaf)) → IsPath text_in (stands_for means) alphabet lexicons from entries ≡ IsPath text_in (stands_for other) alphabet lexicons from entries
    same_path None [] = refl
    same_path None (entry ∷ entries) = refl
    same_path (Some name) [] = refl
    same_path (Some name) (entry ∷ entries) =
        let rest = same_path entry.next entries in
        λ i x y. (x1 : List (Piece (List ℕ))) × (x2 : List (Piece (List ℕ))) × (y1 : List (Piece (List ℕ))) × (y2 : List (Piece (List ℕ)))
        × (member : IsEntryOf lexicons name entry) × same_entry name entry member i x1 y1 × rest i x2 y2 × (x ≡ x1 ++ x2) × (y ≡ y1 ++ y2)

    same_lexicons : LexiconsRelate text_in (stands_for means) alphabet lexicons ≡ LexiconsRelate text_in (stands_for other) alphabet lexicons
    same_lexicons = λ i u w. (path : List (Entry Leaf)) × (x : List (Piece (List ℕ))) × (y : List (Piece (List ℕ))) × same_path (Some (codes "Root")) path i x y
        × IsTrue (flags_pass x) × IsTrue (flags_pass y) × (u ≡ flat_map letters_of x) × (w ≡ flat_map letters_of y)

  pub same_body : (body : Body Leaf) → Same (names_in body) → BodyRelates means alphabet body ≡ BodyRelates other alphabet body
  same_body (xfst e) same = same_relation e (front (listed name_in e) [] same)
  same_body (lexc lexicons) same = same_lexicons lexicons same
  same_body (twolc grammar) same = refl

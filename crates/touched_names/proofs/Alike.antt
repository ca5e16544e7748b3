-- An expression means the same over alphabets of the same symbols where its leaves relate the same words: by its form.
use Rattle.std.proofs.Common.{List, [], ◌∷◌, inl, inr}
use Rattle.std.specs.List.{Contains}
use Rattle.fsm_base.specs.declared.letters.Bound.{Bound}
use Rattle.regex_ast.specs.Terms.{Term, Terms, Links, Contexts, Steps, Mappings, Groups, empty, any, edge, atom, letters, group, maybe, not_one, cross, suffixed, prefixed, ignore, concat, chain, only, rules, directed, steps, no_term, then_term, no_link, or, and, less, no_context, between, no_step, cross_with, then, no_mapping, plain, markup, insert, no_group, then_group}
use Rattle.regex_ast.specs.declared.expr.Side.TheVariants.{UpUp}
use Rattle.expr_meaning.specs.Replacement.{Piece}
use Rattle.expr_meaning.proofs.Directed.{directed_goes}
use Rattle.expr_meaning.specs.Meaning.{InLeaf, InLeaves, In, InEach, InIgnoring, InChain, InContext, InSteps, IsCentre, IsMapped, Replaces, Applies, IsMatch, Directs, Relates, RelatesEach, RelatesChain, RelatesSteps}
use Rattle.touched_names.proofs.Sets.{Same, SamePairs, same_itself, pairs_themselves, either_same, both_same, less_same, concatenation_same, ignoring_same, edged_same, either_pairs, both_pairs, concatenation_pairs, composition_same, itself_same, inside, centred, resulting, crossed_same, left_same, right_same, around_same, suffixes_same, suffixes_pairs, letter_same, not_one_same, prefixes_same, restricted_same, allowed_same, asked_same, rewritten}

-- what rules do is the same
record SameRules {L : Type 0} (R S : List (Piece L) → List L → List L → List (Piece L) → Type 0) : Type 1 where
  to : (before : List (Piece L)) (c r : List L) (behind : List (Piece L)) → R before c r behind → S before c r behind
  back : (before : List (Piece L)) (c r : List L) (behind : List (Piece L)) → S before c r behind → R before c r behind

-- and so is where they apply
record SamePlaces {L : Type 0} (R S : List (Piece L) → List L → List (Piece L) → Type 0) : Type 1 where
  to : (before : List (Piece L)) (c : List L) (behind : List (Piece L)) → R before c behind → S before c behind
  back : (before : List (Piece L)) (c : List L) (behind : List (Piece L)) → S before c behind → R before c behind

module _ {A L : Type 0} (leaf leaf' : A → List L → List L → Type 0) (alphabet alphabet' : List L)
    (leaves : (a : A) → SamePairs (leaf a) (leaf' a)) (symbols : Same (Contains alphabet) (Contains alphabet')) where
  in_leaf : (a : A) → Same (InLeaf leaf alphabet a) (InLeaf leaf' alphabet' a)
  in_leaf a = edged_same (record { to = λ u h. (leaves a).to u u h; back = λ u h. (leaves a).back u u h })

  in_leaves : (all : List A) → Same (InLeaves leaf alphabet all) (InLeaves leaf' alphabet' all)
  in_leaves [] = same_itself
  in_leaves (a ∷ all) = concatenation_same (in_leaf a) (in_leaves all)

  mutual
    pub same_set : (e : Term A) → Same (In leaf alphabet e) (In leaf' alphabet' e)
    same_set empty = same_itself
    same_set any = letter_same alphabet alphabet' symbols
    same_set edge = same_itself
    same_set (atom a) = in_leaf a
    same_set (letters all) = in_leaves all
    same_set (group e) = same_set e
    same_set (maybe e) = either_same same_itself (same_set e)
    same_set (not_one n e) = not_one_same alphabet alphabet' symbols n (same_set e)
    same_set (cross e f) = both_same (same_set e) (same_set f)
    same_set (suffixed e suffixes) = suffixes_same suffixes (same_set e) (same_relation e)
    same_set (prefixed prefixes e) = prefixes_same alphabet alphabet' symbols prefixes (same_set e)
    same_set (ignore no_term) = same_itself
    same_set (ignore (then_term e es)) = same_ignoring es (same_set e)
    same_set (concat es) = same_each es
    same_set (chain e links) = same_chain links (same_set e)
    same_set (only e contexts) = restricted_same alphabet alphabet' symbols (same_set e) (same_contexts contexts)
    same_set (rules optional groups) = same_itself
    same_set (directed way maps contexts) = same_itself
    same_set (steps e more) = same_steps more (same_set e)

    same_each : (es : Terms A) → Same (InEach leaf alphabet es) (InEach leaf' alphabet' es)
    same_each no_term = same_itself
    same_each (then_term e es) = concatenation_same (same_set e) (same_each es)

    same_ignoring : (es : Terms A) {P Q : List (Bound L) → Type 0} → Same P Q → Same (InIgnoring leaf alphabet P es) (InIgnoring leaf' alphabet' Q es)
    same_ignoring no_term a = a
    same_ignoring (then_term e es) a = same_ignoring es (ignoring_same a (same_set e))

    same_chain : (links : Links A) {P Q : List (Bound L) → Type 0} → Same P Q → Same (InChain leaf alphabet P links) (InChain leaf' alphabet' Q links)
    same_chain no_link a = a
    same_chain (or e links) a = same_chain links (either_same a (same_set e))
    same_chain (and e links) a = same_chain links (both_same a (same_set e))
    same_chain (less e links) a = same_chain links (less_same a (same_set e))

    same_contexts : (contexts : Contexts A) → SamePairs (InContext leaf alphabet contexts) (InContext leaf' alphabet' contexts)
    same_contexts no_context = pairs_themselves
    same_contexts (between l r contexts) =
        let left = left_same (same_set l) in
        let right = right_same (same_set r) in
        let rest = same_contexts contexts in
        record {
          to = λ x z h. elim h as (λ _. InContext leaf' alphabet' (between l r contexts) x z) [ inl here ↦ inl (left.to x here.0, right.to z here.1) | inr later ↦ inr (rest.to x z later) ];
          back = λ x z h. elim h as (λ _. InContext leaf alphabet (between l r contexts) x z) [ inl here ↦ inl (left.back x here.0, right.back z here.1) | inr later ↦ inr (rest.back x z later) ];
        }

    same_steps : (more : Steps A) {P Q : List (Bound L) → Type 0} → Same P Q → Same (InSteps leaf alphabet P more) (InSteps leaf' alphabet' Q more)
    same_steps no_step a = a
    same_steps (cross_with e more) a = same_steps more (both_same a (same_set e))
    same_steps (then e more) a = same_steps more (both_same a (same_set e))

    same_centre : (maps : Mappings A) → Same (IsCentre leaf alphabet maps) (IsCentre leaf' alphabet' maps)
    same_centre no_mapping = same_itself
    same_centre (plain c r maps) = either_same (inside (same_set c)) (same_centre maps)
    same_centre (markup c b a maps) = either_same (inside (same_set c)) (same_centre maps)
    same_centre (insert r maps) = either_same same_itself (same_centre maps)

    same_mapping : (maps : Mappings A) → SamePairs (IsMapped leaf alphabet maps) (IsMapped leaf' alphabet' maps)
    same_mapping no_mapping = pairs_themselves
    same_mapping (plain c r maps) = either_pairs (crossed_same (same_set c) (same_set r)) (same_mapping maps)
    same_mapping (markup c b a maps) = either_pairs (both_pairs (centred (same_set c)) (around_same (same_set b) (same_set a))) (same_mapping maps)
    same_mapping (insert r maps) = either_pairs (both_pairs pairs_themselves (resulting (same_set r))) (same_mapping maps)

    same_replaces : (groups : Groups A) → SameRules (Replaces leaf alphabet groups) (Replaces leaf' alphabet' groups)
    same_replaces no_group = record { to = λ before c r behind h. h; back = λ before c r behind h. h }
    same_replaces (then_group maps side contexts groups) =
        let mapping = same_mapping maps in
        let allowed = allowed_same contexts side (same_contexts contexts) in
        let rest = same_replaces groups in
        record {
          to = λ before c r behind h. elim h as (λ _. Replaces leaf' alphabet' (then_group maps side contexts groups) before c r behind) [
            | inl here ↦ inl (mapping.to c r here.0, allowed.to before behind here.1)
            | inr later ↦ inr (rest.to before c r behind later)
          ];
          back = λ before c r behind h. elim h as (λ _. Replaces leaf alphabet (then_group maps side contexts groups) before c r behind) [
            | inl here ↦ inl (mapping.back c r here.0, allowed.back before behind here.1)
            | inr later ↦ inr (rest.back before c r behind later)
          ];
        }

    same_applies : (groups : Groups A) → SamePlaces (Applies leaf alphabet groups) (Applies leaf' alphabet' groups)
    same_applies no_group = record { to = λ before c behind h. h; back = λ before c behind h. h }
    same_applies (then_group maps side contexts groups) =
        let centre = same_centre maps in
        let allowed = allowed_same contexts side (same_contexts contexts) in
        let rest = same_applies groups in
        record {
          to = λ before c behind h. elim h as (λ _. Applies leaf' alphabet' (then_group maps side contexts groups) before c behind) [
            | inl here ↦ inl (centre.to c here.0, allowed.to before behind here.1)
            | inr later ↦ inr (rest.to before c behind later)
          ];
          back = λ before c behind h. elim h as (λ _. Applies leaf alphabet (then_group maps side contexts groups) before c behind) [
            | inl here ↦ inl (centre.back c here.0, allowed.back before behind here.1)
            | inr later ↦ inr (rest.back before c behind later)
          ];
        }

    pub same_relation : (e : Term A) → SamePairs (Relates leaf alphabet e) (Relates leaf' alphabet' e)
    same_relation empty = pairs_themselves
    same_relation any = itself_same (letter_same alphabet alphabet' symbols)
    same_relation edge = pairs_themselves
    same_relation (atom a) = leaves a
    same_relation (letters all) = itself_same (in_leaves all)
    same_relation (group e) = same_relation e
    same_relation (maybe e) = either_pairs pairs_themselves (same_relation e)
    same_relation (not_one n e) = itself_same (not_one_same alphabet alphabet' symbols n (same_set e))
    same_relation (cross e f) = crossed_same (same_set e) (same_set f)
    same_relation (suffixed e suffixes) = suffixes_pairs suffixes (same_relation e)
    same_relation (prefixed prefixes e) = itself_same (prefixes_same alphabet alphabet' symbols prefixes (same_set e))
    same_relation (ignore no_term) = pairs_themselves
    same_relation (ignore (then_term e es)) = itself_same (same_ignoring es (same_set e))
    same_relation (concat es) = same_pairs es
    same_relation (chain e links) = same_row links (same_set e) (same_relation e)
    same_relation (only e contexts) = itself_same (restricted_same alphabet alphabet' symbols (same_set e) (same_contexts contexts))
    same_relation (rules optional groups) =
        let replaces = same_replaces groups in
        let applies = same_applies groups in
        record {
          to = rewritten alphabet alphabet' symbols.to replaces.to applies.back optional;
          back = rewritten alphabet' alphabet symbols.back replaces.back applies.to optional;
        }
    same_relation (directed way maps contexts) =
        let centre = same_centre maps in
        let mapping = same_mapping maps in
        let test = same_contexts contexts in
        let allowed = allowed_same contexts UpUp test in
        let asked = asked_same contexts test in
        let matches = IsMatch leaf alphabet maps contexts in
        let matches' = IsMatch leaf' alphabet' maps contexts in
        let directs = Directs leaf alphabet maps contexts in
        let directs' = Directs leaf' alphabet' maps contexts in
        record {
          to = directed_goes alphabet alphabet' matches matches' directs directs' symbols.to
              (λ before c r behind h. (mapping.to c r h.0, allowed.to before behind h.1)) (λ x c z h. (centre.back c h.0, asked.back x z h.1)) way;
          back = directed_goes alphabet' alphabet matches' matches directs' directs symbols.back
              (λ before c r behind h. (mapping.back c r h.0, allowed.back before behind h.1)) (λ x c z h. (centre.to c h.0, asked.to x z h.1)) way;
        }
    same_relation (steps e more) = same_walk more (same_set e) (same_relation e)

    same_pairs : (es : Terms A) → SamePairs (RelatesEach leaf alphabet es) (RelatesEach leaf' alphabet' es)
    same_pairs no_term = pairs_themselves
    same_pairs (then_term e es) = concatenation_pairs (same_relation e) (same_pairs es)

    same_row : (links : Links A) {P Q : List (Bound L) → Type 0} {R S : List L → List L → Type 0} → Same P Q → SamePairs R S
        → SamePairs (RelatesChain leaf alphabet P R links) (RelatesChain leaf' alphabet' Q S links)
    same_row no_link a b = b
    same_row (or e links) a b = same_row links (either_same a (same_set e)) (either_pairs b (same_relation e))
    same_row (and e links) a b = let both = both_same a (same_set e) in same_row links both (itself_same both)
    same_row (less e links) a b = let less = less_same a (same_set e) in same_row links less (itself_same less)

    same_walk : (more : Steps A) {P Q : List (Bound L) → Type 0} {R S : List L → List L → Type 0} → Same P Q → SamePairs R S
        → SamePairs (RelatesSteps leaf alphabet P R more) (RelatesSteps leaf' alphabet' Q S more)
    same_walk no_step a b = b
    same_walk (cross_with e more) a b = same_walk more (both_same a (same_set e)) (crossed_same a (same_set e))
    same_walk (then e more) a b = same_walk more (both_same a (same_set e)) (composition_same b (same_relation e))

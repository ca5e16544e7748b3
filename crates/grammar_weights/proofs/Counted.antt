-- A set of feasible pairs has as many as are counted once.
use Rattle.std.proofs.Common.{◌≡◌, ◌↔◌, ◌+◌, ℕ, Bool, true, false, cond, List, [], ◌∷◌, ◌++◌, Option, None, Some, length, map, refl, sym, ap, subst, ◌∙◌, inl, inr, eq-eqb, arith}
use Rattle.std.specs.Prelude.{◌&&◌, ◌||◌}
use Rattle.std.specs.Cmp.{IsEquivalence}
use Rattle.std.specs.List.{Contains, IsDistinct, flat_map, list_any}
use Rattle.std.specs.Option.{option_eq}
use Rattle.std.specs.Set.{distinct_count, is_member, unique_keys}
use Rattle.std.specs.Bool.{Decides}
use Rattle.std.proofs.lemmas.Bool.{and_parts, eqb-true}
use Rattle.std.proofs.lemmas.List.{map-append}
use Rattle.std.proofs.lemmas.Map.Made.{is_member-Decides, length-from_keys}
use Rattle.indexmap.specs.IndexSet.{insert_key}
use Rattle.regex_ast.specs.contracts.expr.AtomPartialEq.TheImpl as atom_eq
use Rattle.regex_ast.specs.declared.expr.Atom.{Atom}
use Rattle.regex_ast.specs.declared.expr.Atom.TheVariants.{Sym, Name}
use Rattle.grammar_pairs.proofs.Growing.{HasMore, inserted, more_twice, nothing_more, one_more}
use Rattle.word_relations.proofs.Members.{Contains-nil_cases}
use Rattle.project_meaning.specs.Trees.{Grammar, Pair}
use Rattle.name_resolution.specs.Leaves.{pairs_below}
use Rattle.grammar_weights.specs.Counting.{all_added, is_one, kept}
use Rattle.grammar_weights.specs.Weights.{Letter, count_once, feasible, is_same_letter, is_same_side, is_same_symbol, written_pair}
use Rattle.grammar_weights.specs.contracts.counting.WrittenPartialEq.TheImpl as written_eq
use Rattle.grammar_weights.specs.declared.counting.Written.{Written}
use Rattle.grammar_weights.proofs.Listed.{feasible_is}

-- what `==` says of leaves and of pairs
leaf_eq : (a b : Atom) → (atom_eq.eq-value).it a b ≡ is_same_symbol a b
leaf_eq (Sym s) (Sym t) = refl
leaf_eq (Sym s) (Name m) = refl
leaf_eq (Name n) (Sym t) = refl
leaf_eq (Name n) (Name m) = refl

pub pair_eq : (written_eq.eq-value).it ≡ is_one
pair_eq = λ i x y. option_eq (λ s t. leaf_eq s t i) x.up y.up && option_eq (λ s t. leaf_eq s t i) x.low y.low

-- leaves and pairs that compare equal are the same
same_leaf : (a b : Atom) → is_same_symbol a b ≡ true → a ≡ b
same_leaf (Sym s) (Sym t) e = ap (λ (n : ℕ). Sym (record { 0 = n })) (eqb-true s.0 t.0 e)
same_leaf (Sym s) (Name m) e = cc
same_leaf (Name n) (Sym t) e = cc
same_leaf (Name n) (Name m) e = ap Name (eqb-true n m e)

own_leaf : (a : Atom) → is_same_symbol a a ≡ true
own_leaf (Sym s) = eq-eqb s.0 s.0 refl
own_leaf (Name n) = eq-eqb n n refl

same_side : (a b : Option Atom) → option_eq is_same_symbol a b ≡ true → a ≡ b
same_side None None e = refl
same_side None (Some t) e = cc
same_side (Some s) None e = cc
same_side (Some s) (Some t) e = ap (λ (x : Atom). Some x) (same_leaf s t e)

own_side : (a : Option Atom) → option_eq is_same_symbol a a ≡ true
own_side None = refl
own_side (Some s) = own_leaf s

both_true : (a b : Bool) → a ≡ true → b ≡ true → a && b ≡ true
both_true true true e d = refl
both_true true false e d = cc
both_true false b e d = cc

pub same_pair : (x y : Written) → is_one x y ≡ true → x ≡ y
same_pair x y e =
    let parts = and_parts (option_eq is_same_symbol x.up y.up) (option_eq is_same_symbol x.low y.low) e in
    let up = same_side x.up y.up parts.0 in
    let low = same_side x.low y.low parts.1 in
    λ i. record { up = up i; low = low i }

own_pair : (x y : Written) → x ≡ y → is_one x y ≡ true
own_pair x y is = subst (λ (z : Written). is_one x z ≡ true) is (both_true (option_eq is_same_symbol x.up x.up) (option_eq is_same_symbol x.low x.low) (own_side x.up) (own_side x.low))

same_truth : (a b : Bool) → (a ≡ true → b ≡ true) → (b ≡ true → a ≡ true) → a ≡ b
same_truth true true f g = refl
same_truth true false f g = sym (f refl)
same_truth false true f g = g refl
same_truth false false f g = refl

laws : IsEquivalence is_one
laws = record {
  refl = λ x. own_pair x x refl;
  symm = λ x y. same_truth (is_one x y) (is_one y x) (λ e. own_pair y x (sym (same_pair x y e))) (λ e. own_pair x y (sym (same_pair y x e)));
  congr = λ x y z e. ap (λ (w : Written). is_one w z) (same_pair x y e);
}

decides : (a b : Written) → Decides (is_one a b) (a ≡ b)
decides a b = (same_pair a b, own_pair a b)

-- a set has what was added to it
all_has : (xs ks : List Written) → HasMore ks (all_added ks xs) xs
all_has [] ks = nothing_more ks
all_has (x ∷ xs) ks =
    more_twice ks (insert_key is_one ks x) (all_added (insert_key is_one ks x) xs) (x ∷ []) xs (one_more ks (insert_key is_one ks x) x (inserted is_one same_pair ks x)) (all_has xs (insert_key is_one ks x))

from_none : (xs : List Written) (q : Written) → Contains (all_added [] xs) q ↔ Contains xs q
from_none xs q = (
  λ c. elim ((all_has xs [] q).0 c) as (λ _. Contains xs q) [ inl none ↦ absurd (Contains-nil_cases q none) | inr c ↦ c ],
  λ c. (all_has xs [] q).1 (inr c),
)

any_kept : (x : Letter Atom) (xs : List (Letter Atom)) → is_member is_one (map kept xs) (kept x) ≡ list_any (is_same_letter is_same_symbol x) xs
any_kept x [] = refl
any_kept x (y ∷ xs) =
    let here = letters x y in
    let rest = any_kept x xs in
    λ i. here i || rest i
  where
    sides : (a b : Option Atom) → option_eq is_same_symbol a b ≡ is_same_side is_same_symbol a b
    sides None None = refl
    sides None (Some t) = refl
    sides (Some s) None = refl
    sides (Some s) (Some t) = refl

    letters : (x y : Letter Atom) → is_one (kept x) (kept y) ≡ is_same_letter is_same_symbol x y
    letters x y = let up = sides x.up y.up in let low = sides x.low y.low in λ i. up i && low i

count_is : (xs : List (Letter Atom)) → distinct_count is_one (map kept xs) ≡ count_once is_same_symbol xs
count_is [] = refl
count_is (x ∷ xs) = by (is_member is_one (map kept xs) (kept x)) (list_any (is_same_letter is_same_symbol x) xs) (any_kept x xs) (count_is xs)
  where
    by : (a b : Bool) → a ≡ b → distinct_count is_one (map kept xs) ≡ count_once is_same_symbol xs
        → length (cond a (unique_keys is_one (map kept xs)) (kept x ∷ unique_keys is_one (map kept xs))) ≡ cond b (count_once is_same_symbol xs) (count_once is_same_symbol xs + 1)
    by true true e rest = rest
    by true false e rest = cc
    by false true e rest = cc
    by false false e rest = omega (arith, rest)

-- the pairs of the alphabet, and then those below
pub added_twice : (xs ys ks : List Written) → all_added (all_added ks xs) ys ≡ all_added ks (xs ++ ys)
added_twice [] ys ks = refl
added_twice (x ∷ xs) ys ks = added_twice xs ys (insert_key is_one ks x)

pub counted : (g : Grammar Atom) (none one all : List Written) → length none ≡ 0 → one ≡ all_added none (map kept (flat_map written_pair g.pairs)) → all ≡ all_added one (map kept (flat_map written_pair (pairs_below g)))
    → IsDistinct is_one all → length all ≡ count_once is_same_symbol (feasible g)
counted g [] one all empty one_is all_is apart =
    let first = map kept (flat_map written_pair g.pairs) in
    let second = map kept (flat_map written_pair (pairs_below g)) in
    let pairs : map kept (feasible g) ≡ first ++ second = ap (map kept) (feasible_is g) ∙ map-append kept (flat_map written_pair g.pairs) (flat_map written_pair (pairs_below g)) in
    let whole : all ≡ all_added [] (map kept (feasible g)) = all_is ∙ ap (λ (z : List Written). all_added z second) one_is ∙ added_twice first second [] ∙ ap (all_added []) (sym pairs) in
    length-from_keys laws all (map kept (feasible g)) apart
    (λ q. same_truth (is_member is_one all q) (is_member is_one (map kept (feasible g)) q)
    (λ h. (is_member-Decides decides (map kept (feasible g)) q).1 ((from_none (map kept (feasible g)) q).0 (subst (λ (z : List Written). Contains z q) whole ((is_member-Decides decides all q).0 h))))
    (λ h. (is_member-Decides decides all q).1 (subst (λ (z : List Written). Contains z q) (sym whole) ((from_none (map kept (feasible g)) q).1 ((is_member-Decides decides (map kept (feasible g)) q).0 h)))))
    ∙ count_is (feasible g)
counted g (x ∷ none) one all empty one_is all_is apart = absurd (let e : length none + 1 ≡ 0 = omega (arith, empty) in omega (arith, e))

-- what the pairs that are left make of a set, one item after another
pub go_on : {X : Type 0} (view : X → Pair Atom) (old new whole : List Written) (xs rest : List X) (x : X) → new ≡ all_added old (map kept (written_pair (view x))) → xs ≡ x ∷ rest
    → all_added old (map kept (flat_map written_pair (map view xs))) ≡ whole → all_added new (map kept (flat_map written_pair (map view rest))) ≡ whole
go_on view old new whole xs rest x new_is is so_far =
    let later = flat_map written_pair (map view rest) in
    ap (λ (z : List Written). all_added z (map kept later)) new_is ∙ added_twice (map kept (written_pair (view x))) (map kept later) old ∙ ap (all_added old) (sym (map-append kept (written_pair (view x)) later))
    ∙ ap (λ z. all_added old (map kept (flat_map written_pair (map view z)))) (sym is) ∙ so_far

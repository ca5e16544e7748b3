-- Loops over the items of a list: what was gathered by then.
use Rattle.std.proofs.Common.{◌≡◌, List, [], ◌∷◌, ◌++◌, refl, sym, ap, ◌∙◌, append_assoc, append-nil, Result, Ok, Err, OnOk}
use Rattle.std.specs.List.{flat_map}

-- what was found, and what is in the rest
pub go_on : {X : Type 0} (found new front rest all whole : List X) → new ≡ found ++ front → all ≡ front ++ rest → found ++ all ≡ whole → new ++ rest ≡ whole
go_on {X} found new front rest all whole new_is all_is so_far =
    ap (λ (n : List X). n ++ rest) new_is ∙ append_assoc found front rest ∙ ap (λ (a : List X). found ++ a) (sym all_is) ∙ so_far

pub finish : {X : Type 0} (found all whole : List X) → all ≡ [] → found ++ all ≡ whole → found ≡ whole
finish {X} found all whole none so_far = sym (append-nil found) ∙ ap (λ (a : List X). found ++ a) (sym none) ∙ so_far

-- what two parts add, one after the other
pub add_both : {X : Type 0} (old mid new first second : List X) → mid ≡ old ++ first → new ≡ mid ++ second → new ≡ old ++ (first ++ second)
add_both {X} old mid new first second mid_is new_is = new_is ∙ ap (λ (m : List X). m ++ second) mid_is ∙ append_assoc old first second

pub add_both_ok : {X E : Type 0} (old mid new : List X) (result : Result (Unit {0}) E) (first second : List X) → mid ≡ old ++ first → OnOk result (new ≡ mid ++ second) → OnOk result (new ≡ old ++ (first ++ second))
add_both_ok old mid new (Ok done) first second mid_is new_is = add_both old mid new first second mid_is new_is
add_both_ok old mid new (Err refused) first second mid_is new_is = new_is

-- each of these alone, one after the other
pub flat_map-alone : {X : Type 0} (xs : List X) → flat_map (λ (x : X). x ∷ []) xs ≡ xs
flat_map-alone [] = refl
flat_map-alone {X} (x ∷ xs) = ap (λ (ys : List X). x ∷ ys) (flat_map-alone xs)

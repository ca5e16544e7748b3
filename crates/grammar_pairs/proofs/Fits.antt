-- The numbers of the pairs that an atom may be, or that are a symbol with itself.
use Rattle.std.proofs.Common.{◌≡◌, ◌↔◌, ◌⊎◌, ◌+◌, ◌<◌, ◌≤◌, ℕ, Bool, IsTrue, List, [], ◌∷◌, ◌++◌, Option, None, Some, MatchOption, length, take, refl, sym, ap, subst, ◌∙◌, inl, inr, arith}
use Rattle.std.proofs.lemmas.Bool.{cases_lt}
use Rattle.std.proofs.lemmas.List.{take_all}
use Rattle.std.proofs.lemmas.Option.{slice_get_within, same_Some}
use Rattle.std.specs.List.{Contains, slice_get}
use Rattle.fsm_base.specs.declared.letters.Pair.{Pair as Letter}
use Rattle.fsm_base.specs.declared.letters.Sym.{Sym}
use Rattle.word_relations.specs.Words.{IsDistinct}
use Rattle.word_relations.proofs.Members.{Contains-nil_cases}
use Rattle.word_relations.proofs.Places.{Contains-from_slice_get, same_at}
use Rattle.regex_ast.specs.declared.expr.Atom.{Atom}
use Rattle.project_meaning.specs.Trees.{Side, nothing, anything, one, member, Pair}
use Rattle.project_meaning.proofs.Places.{in_front, in_back}
use Rattle.grammar_pairs.specs.Feasible.{named_side, written_pair}
use Rattle.grammar_pairs.specs.Fitting.{Fits, IsNumber, IsTwice, IsTwiceOf, MayBe}
use Rattle.grammar_pairs.specs.Plain.{symbol_in}
use Rattle.grammar_pairs.specs.Tables.{under}
use Rattle.grammar_pairs.proofs.Growing.{alone, front_or_back}

-- a side that names a symbol, or nothing, may be that alone
named_may : (sets : List (List ℕ × List Sym)) (side : Side Atom) (a : Option Sym) → named_side side ≡ a ∷ [] → (found : Option Sym) → MayBe sets side found ↔ (found ≡ a)
named_may sets nothing a e found = let is : None ≡ a = cc in (λ h. h ∙ is, λ h. h ∙ sym is)
named_may sets anything a e found = let no : [] ≡ a ∷ [] = e in absurd (cc)
named_may sets (one leaf) a e found = let is : Some (symbol_in leaf) ≡ a = cc in (λ h. h ∙ is, λ h. h ∙ sym is)
named_may sets (member name) a e found = let no : [] ≡ a ∷ [] = e in absurd (cc)

sides_named : (up low : Side Atom) (x : Letter) → written_pair (record { up = up; low = low }) ≡ x ∷ [] → (named_side up ≡ x.up ∷ []) × (named_side low ≡ x.low ∷ [])
sides_named nothing nothing x e = let is : record { up = None; low = None } ≡ x = cc in (ap (λ (z : Letter). z.up ∷ []) is, ap (λ (z : Letter). z.low ∷ []) is)
sides_named nothing anything x e = let no : [] ≡ x ∷ [] = e in absurd (cc)
sides_named nothing (one l) x e = let is : record { up = None; low = Some (symbol_in l) } ≡ x = cc in (ap (λ (z : Letter). z.up ∷ []) is, ap (λ (z : Letter). z.low ∷ []) is)
sides_named nothing (member n) x e = let no : [] ≡ x ∷ [] = e in absurd (cc)
sides_named anything low x e = let no : [] ≡ x ∷ [] = e in absurd (cc)
sides_named (one l) nothing x e = let is : record { up = Some (symbol_in l); low = None } ≡ x = cc in (ap (λ (z : Letter). z.up ∷ []) is, ap (λ (z : Letter). z.low ∷ []) is)
sides_named (one l) anything x e = let no : [] ≡ x ∷ [] = e in absurd (cc)
sides_named (one l) (one m) x e = let is : record { up = Some (symbol_in l); low = Some (symbol_in m) } ≡ x = cc in (ap (λ (z : Letter). z.up ∷ []) is, ap (λ (z : Letter). z.low ∷ []) is)
sides_named (one l) (member n) x e = let no : [] ≡ x ∷ [] = e in absurd (cc)
sides_named (member n) low x e = let no : [] ≡ x ∷ [] = e in absurd (cc)

fits_named : (sets : List (List ℕ × List Sym)) (p : Pair Atom) (pair : Letter) → written_pair p ≡ pair ∷ [] → (x : Letter) → (x ≡ pair) ↔ Fits sets p x
fits_named sets p pair e x =
    let named = sides_named p.up p.low pair e in
    let up = named_may sets p.up pair.up named.0 x.up in
    let low = named_may sets p.low pair.low named.1 x.low in (
      λ is. (up.1 (ap (λ (z : Letter). z.up) is), low.1 (ap (λ (z : Letter). z.low) is)),
      λ fits. let a = up.0 fits.0 in let b = low.0 fits.1 in λ i. record { up = a i; low = b i },
    )

-- numbers of the same pairs
number_same : (pairs : List Letter) (P Q : Letter → Type 0) → ((x : Letter) → P x ↔ Q x) → (n : Sym) → IsNumber pairs P n ↔ IsNumber pairs Q n
number_same pairs P Q same n = (λ (x, at, p). (x, at, (same x).0 p), λ (x, at, q). (x, at, (same x).1 q))

pub fitting_alone : (pairs : List Letter) (sets : List (List ℕ × List Sym)) (p : Pair Atom) (pair : Letter) (numbers : List Sym) → pair ∷ [] ≡ written_pair p
    → ((n : Sym) → Contains numbers n ↔ IsNumber pairs (λ x. x ≡ pair) n) → (n : Sym) → Contains numbers n ↔ IsNumber pairs (Fits sets p) n
fitting_alone pairs sets p pair numbers e has n =
    let same = number_same pairs (λ x. x ≡ pair) (Fits sets p) (fits_named sets p pair (sym e)) n in
    (λ c. same.0 ((has n).0 c), λ h. (has n).1 (same.1 h))

-- the number of a pair that is found
number_found : (pairs : List Letter) → IsDistinct pairs → (pair : Letter) (found : Option Sym) → MatchOption found (¬ Contains pairs pair) (λ number. slice_get pairs number.0 ≡ Some pair)
    → (n : Sym) → (found ≡ Some n) ↔ IsNumber pairs (λ x. x ≡ pair) n
number_found pairs distinct pair None none n = (
  λ e. let no : None ≡ Some n = e in absurd (cc),
  λ (x, at, is). absurd (none (subst (Contains pairs) is (Contains-from_slice_get pairs n.0 x at))),
)
number_found pairs distinct pair (Some k) here n = (
  λ e. let same : k ≡ n = same_Some k n e in (pair, subst (λ (z : Sym). slice_get pairs z.0 ≡ Some pair) same here, refl),
  λ (x, at, is). let place : k.0 ≡ n.0 = distinct k.0 n.0 pair here (at ∙ ap (λ (z : Letter). Some z) is) in λ i. Some (record { 0 = place i }),
)

pub found_alone : (pairs : List Letter) → IsDistinct pairs → (pair : Letter) (found : Option Sym) (old new : List Sym) → old ≡ [] → MatchOption found (¬ Contains pairs pair) (λ number. slice_get pairs number.0 ≡ Some pair)
    → ((n : Sym) → Contains new n ↔ (Contains old n ⊎ (found ≡ Some n))) → (n : Sym) → Contains new n ↔ IsNumber pairs (λ x. x ≡ pair) n
found_alone pairs distinct pair found old new none says added n =
    let f = number_found pairs distinct pair found says n in (
      λ c. elim ((added n).0 c) as (λ _. IsNumber pairs (λ x. x ≡ pair) n) [ inl before ↦ absurd (Contains-nil_cases n (subst (λ (z : List Sym). Contains z n) none before)) | inr is ↦ f.0 is ],
      λ h. (added n).1 (inr (f.1 h)),
    )

-- one pair more that is tried
pub tried_more : (pairs : List Letter) (Q : Letter → Type 0) (old new : List Sym) (i : ℕ) (x : Letter) (found : Option Sym) (fits : Bool) → slice_get pairs i ≡ Some x
    → ((n : Sym) → Contains new n ↔ (Contains old n ⊎ (found ≡ Some n))) → ((n : Sym) → (found ≡ Some n) ↔ (IsTrue fits × (record { 0 = i } ≡ n))) → IsTrue fits ↔ Q x
    → ((n : Sym) → Contains old n ↔ ((n.0 < i) × IsNumber pairs Q n)) → (n : Sym) → Contains new n ↔ ((n.0 < i + 1) × IsNumber pairs Q n)
tried_more pairs Q old new i x found fits at added where_found says so_far n = (there, back)
  where
    there : Contains new n → (n.0 < i + 1) × IsNumber pairs Q n
    there c = elim ((added n).0 c) as (λ _. (n.0 < i + 1) × IsNumber pairs Q n) [
      | inl before ↦ let r = (so_far n).0 before in let low = r.0 in (omega arith, r.1)
      | inr is ↦
          let r = (where_found n).0 is in
          let place : i ≡ n.0 = ap (λ (z : Sym). z.0) r.1 in
          (omega (arith, place), (x, subst (λ (k : ℕ). slice_get pairs k ≡ Some x) place at, says.0 r.0))
    ]

    here : (y : Letter) → n.0 ≡ i → slice_get pairs n.0 ≡ Some y → Q y → Contains new n
    here y place there q =
        let same : y ≡ x = same_at pairs i y x (subst (λ (k : ℕ). slice_get pairs k ≡ Some y) place there) at in
        (added n).1 (inr ((where_found n).1 (says.1 (subst Q same q), λ j. record { 0 = sym place j })))

    back : (n.0 < i + 1) × IsNumber pairs Q n → Contains new n
    back (low, (y, there, q)) = elim (cases_lt n.0 i) as (λ _. Contains new n) [
      | inl before ↦ (added n).1 (inl ((so_far n).1 (before, (y, there, q))))
      | inr past ↦ here y (omega (arith, low, past)) there q
    ]

pub tried_all : (pairs : List Letter) (Q : Letter → Type 0) (numbers : List Sym) (i : ℕ) → length pairs ≤ i → ((n : Sym) → Contains numbers n ↔ ((n.0 < i) × IsNumber pairs Q n)) → (n : Sym) → Contains numbers n ↔ IsNumber pairs Q n
tried_all pairs Q numbers i all has n = (λ c. ((has n).0 c).1, λ (x, at, q). (has n).1 (omega (arith, slice_get_within pairs n.0 x at, all), (x, at, q)))

-- one symbol more
pub twice_more : (pairs : List Letter) → IsDistinct pairs → (symbols : List Sym) (i : ℕ) (s : Sym) (old new : List Sym) (found : Option Sym) → take (i + 1) symbols ≡ take i symbols ++ s ∷ []
    → MatchOption found (¬ Contains pairs (record { up = Some s; low = Some s })) (λ number. slice_get pairs number.0 ≡ Some (record { up = Some s; low = Some s }))
    → ((n : Sym) → Contains new n ↔ (Contains old n ⊎ (found ≡ Some n))) → ((n : Sym) → Contains old n ↔ IsNumber pairs (IsTwiceOf (take i symbols)) n) → (n : Sym) → Contains new n ↔ IsNumber pairs (IsTwiceOf (take (i + 1) symbols)) n
twice_more pairs distinct symbols i s old new found longer says added so_far n =
    subst (λ (z : List Sym). Contains new n ↔ IsNumber pairs (IsTwiceOf z) n) (sym longer) (there, back)
  where
    f : (found ≡ Some n) ↔ IsNumber pairs (λ x. x ≡ record { up = Some s; low = Some s }) n
    f = number_found pairs distinct (record { up = Some s; low = Some s }) found says n

    there : Contains new n → IsNumber pairs (IsTwiceOf (take i symbols ++ s ∷ [])) n
    there c = elim ((added n).0 c) as (λ _. IsNumber pairs (IsTwiceOf (take i symbols ++ s ∷ [])) n) [
      | inl before ↦ let (x, at, (t, among, twice)) = (so_far n).0 before in (x, at, (t, in_front (take i symbols) (s ∷ []) t among, twice))
      | inr now ↦ let (x, at, twice) = f.0 now in (x, at, (s, in_back (take i symbols) (s ∷ []) s ((alone s s).1 refl), twice))
    ]

    back : IsNumber pairs (IsTwiceOf (take i symbols ++ s ∷ [])) n → Contains new n
    back (x, at, (t, among, twice)) = elim (front_or_back (take i symbols) (s ∷ []) t among) as (λ _. Contains new n) [
      | inl before ↦ (added n).1 (inl ((so_far n).1 (x, at, (t, before, twice))))
      | inr last ↦ let same : s ≡ t = (alone s t).0 last in (added n).1 (inr (f.1 (x, at, twice ∙ ap (λ (z : Sym). record { up = Some z; low = Some z }) (sym same))))
    ]

pub twice_all : (pairs : List Letter) (symbols numbers : List Sym) (i : ℕ) → length symbols ≤ i → ((n : Sym) → Contains numbers n ↔ IsNumber pairs (IsTwiceOf (take i symbols)) n) → (n : Sym) → Contains numbers n ↔ IsNumber pairs (IsTwiceOf symbols) n
twice_all pairs symbols numbers i all = subst (λ (z : List Sym). (n : Sym) → Contains numbers n ↔ IsNumber pairs (IsTwiceOf z) n) (take_all i symbols all)

-- the symbols of a name
pub twice_named : (pairs : List Letter) (sets : List (List ℕ × List Sym)) (name : List ℕ) (symbols numbers : List Sym) → Some symbols ≡ under name sets → ((n : Sym) → Contains numbers n ↔ IsNumber pairs (IsTwiceOf symbols) n)
    → (n : Sym) → Contains numbers n ↔ IsNumber pairs (IsTwice sets name) n
twice_named pairs sets name symbols numbers here has n = (
  λ c. let (x, at, (s, among, twice)) = (has n).0 c in (x, at, (s, subst (λ (o : Option (List Sym)). MatchOption o ⊥ (λ z. Contains z s)) here among, twice)),
  λ (x, at, (s, among, twice)). (has n).1 (x, at, (s, subst (λ (o : Option (List Sym)). MatchOption o ⊥ (λ z. Contains z s)) (sym here) among, twice)),
)

pub twice_none : (pairs : List Letter) (sets : List (List ℕ × List Sym)) (name : List ℕ) (numbers : List Sym) → None ≡ under name sets → numbers ≡ [] → (n : Sym) → Contains numbers n ↔ IsNumber pairs (IsTwice sets name) n
twice_none pairs sets name numbers here none n = (
  λ c. absurd (Contains-nil_cases n (subst (λ (z : List Sym). Contains z n) none c)),
  λ (x, at, (s, among, twice)). absurd (subst (λ (o : Option (List Sym)). MatchOption o ⊥ (λ z. Contains z s)) (sym here) among),
)

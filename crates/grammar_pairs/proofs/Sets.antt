-- The sets of a grammar, one after another, and the numbers of pairs.
use Rattle.std.proofs.Common.{◌≡◌, ◌↔◌, ◌⊎◌, ◌+◌, ◌<◌, ℕ, Bool, true, false, cond, List, [], ◌∷◌, ◌++◌, Option, None, Some, MatchOption, length, map, take, get_or, refl, sym, ap, subst, ◌∙◌, inl, inr, true≢false}
use Rattle.std.proofs.lemmas.List.{take_more}
use Rattle.std.proofs.lemmas.List.{map-append}
use Rattle.std.proofs.lemmas.Slice.Eq.{bytes_eq-Decides}
use Rattle.std.specs.List.{Contains}
use Rattle.std.specs.Str.{bytes_eq}
use Rattle.fsm_base.specs.declared.letters.Sym.{Sym}
use Rattle.word_relations.proofs.Members.{Contains-nil_cases}
use Rattle.regex_ast.specs.declared.expr.Atom.{Atom}
use Rattle.regex_ast.specs.declared.twolc.SetOf.{SetOf}
use Rattle.project_meaning.specs.Trees.{Set}
use Rattle.project_meaning.proofs.Places.{in_front, in_back}
use Rattle.grammar_pairs.specs.Plain.{set_of, symbol_in}
use Rattle.grammar_pairs.specs.Tables.{HasSymbol, IsMember, symbols_under, under}
use Rattle.grammar_pairs.proofs.Growing.{HasMore, alone, front_or_back}

cases_of : (b : Bool) → (b ≡ true) ⊎ (b ≡ false)
cases_of true = inl refl
cases_of false = inr refl

-- what a name has
pub has_under : (o : Option (List Sym)) (s : Sym) → MatchOption o ⊥ (λ symbols. Contains symbols s) ↔ Contains (symbols_under o) s
has_under None s = (λ no. absurd no, λ no. absurd (Contains-nil_cases s no))
has_under (Some symbols) s = (λ h. h, λ h. h)

-- no set
pub no_member : (name : List ℕ) (s : Sym) → IsMember [] name s → ⊥
no_member name s (set, among, is, has) = Contains-nil_cases set among

-- a set behind others
pub member_more : (sets : List (Set Atom)) (set : Set Atom) (name : List ℕ) (s : Sym) → IsMember (sets ++ set ∷ []) name s ↔ (IsMember sets name s ⊎ ((set.name ≡ name) × Contains (map symbol_in set.symbols) s))
member_more sets set name s = (
  λ (found, among, is, has). elim (front_or_back sets (set ∷ []) found among) as (λ _. IsMember sets name s ⊎ ((set.name ≡ name) × Contains (map symbol_in set.symbols) s)) [
    | inl before ↦ inl (found, before, is, has)
    | inr last ↦ let same = (alone set found).0 last in inr (ap (λ (z : Set Atom). z.name) same ∙ is, subst (λ (z : Set Atom). Contains (map symbol_in z.symbols) s) (sym same) has)
  ],
  λ h. elim h as (λ _. IsMember (sets ++ set ∷ []) name s) [
    | inl (found, among, is, has) ↦ (found, in_front sets (set ∷ []) found among, is, has)
    | inr (is, has) ↦ (set, in_back sets (set ∷ []) set ((alone set set).1 refl), is, has)
  ],
)

module _ (old without new : List (List ℕ × List Sym)) (sets : List (Set Atom)) (set : Set Atom) (symbols all : List Sym)
    (so_far : (name : List ℕ) (s : Sym) → HasSymbol old name s ↔ IsMember sets name s)
    (taken : symbols ≡ symbols_under (under set.name old))
    (others : (name : List ℕ) → under name without ≡ cond (bytes_eq set.name name) None (under name old))
    (added : HasMore symbols all (map symbol_in set.symbols))
    (put : (name : List ℕ) → under name new ≡ cond (bytes_eq set.name name) (Some all) (under name without)) where
  at_name : (name : List ℕ) (s : Sym) → set.name ≡ name → under name new ≡ Some all → HasSymbol new name s ↔ IsMember (sets ++ set ∷ []) name s
  at_name name s is here = (
    λ h.
        let among : Contains all s = subst (λ (o : Option (List Sym)). MatchOption o ⊥ (λ symbols. Contains symbols s)) here h in
        (member_more sets set name s).1 (elim ((added s).0 among) as (λ _. IsMember sets name s ⊎ ((set.name ≡ name) × Contains (map symbol_in set.symbols) s)) [
          | inl before ↦ inl ((so_far name s).0 (subst (λ (n : List ℕ). HasSymbol old n s) is ((has_under (under set.name old) s).1 (subst (λ (z : List Sym). Contains z s) taken before))))
          | inr more ↦ inr (is, more)
        ]),
    λ h.
        subst (λ (o : Option (List Sym)). MatchOption o ⊥ (λ symbols. Contains symbols s)) (sym here)
        ((added s).1 (elim ((member_more sets set name s).0 h) as (λ _. Contains symbols s ⊎ Contains (map symbol_in set.symbols) s) [
          | inl before ↦ inl (subst (λ (z : List Sym). Contains z s) (sym taken) ((has_under (under set.name old) s).0 (subst (λ (n : List ℕ). HasSymbol old n s) (sym is) ((so_far name s).1 before))))
          | inr more ↦ inr more.1
        ])),
  )

  elsewhere : (name : List ℕ) (s : Sym) → (set.name ≡ name → ⊥) → under name new ≡ under name old → HasSymbol new name s ↔ IsMember (sets ++ set ∷ []) name s
  elsewhere name s differs here = (
    λ h. (member_more sets set name s).1 (inl ((so_far name s).0 (subst (λ (o : Option (List Sym)). MatchOption o ⊥ (λ symbols. Contains symbols s)) here h))),
    λ h.
        subst (λ (o : Option (List Sym)). MatchOption o ⊥ (λ symbols. Contains symbols s)) (sym here)
        (elim ((member_more sets set name s).0 h) as (λ _. HasSymbol old name s) [ inl before ↦ (so_far name s).1 before | inr more ↦ absurd (differs more.0) ]),
  )

  pub set_more : (name : List ℕ) (s : Sym) → HasSymbol new name s ↔ IsMember (sets ++ set ∷ []) name s
  set_more name s = elim (cases_of (bytes_eq set.name name)) as (λ _. HasSymbol new name s ↔ IsMember (sets ++ set ∷ []) name s) [
    | inl e ↦ at_name name s ((bytes_eq-Decides set.name name).0 e) (put name ∙ ap (λ (b : Bool). cond b (Some all) (under name without)) e)
    | inr e ↦ elsewhere name s (λ same. true≢false (sym ((bytes_eq-Decides set.name name).1 same) ∙ e))
        (put name ∙ ap (λ (b : Bool). cond b (Some all) (under name without)) e ∙ others name ∙ ap (λ (b : Bool). cond b None (under name old)) e)
  ]

-- one set more of a list
pub sets_front : (sets : List (SetOf Atom)) (i : ℕ) (x : SetOf Atom) → i < length sets → x ≡ get_or sets i x → map set_of (take (i + 1) sets) ≡ map set_of (take i sets) ++ set_of x ∷ []
sets_front sets i x below is =
    ap (map set_of) (subst (λ (p : SetOf Atom). take (i + 1) sets ≡ take i sets ++ p ∷ []) (sym is) (take_more sets i x below)) ∙ map-append set_of (take i sets) (x ∷ [])

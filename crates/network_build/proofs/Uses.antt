-- The symbols in networks and of single leaves, gathered one by one.
use Rattle.std.proofs.Common.{◌≡◌, ◌<◌, ◌↔◌, ◌⊎◌, ◌+◌, ◌++◌, ℕ, List, [], ◌∷◌, Some, Option, Contains, take, sym, ap, subst, ◌∙◌, inl, inr}
use Rattle.std.proofs.lemmas.List.Elements.{Contains-append_left, Contains-push, Contains-push_cases}
use Rattle.fsm_base.specs.declared.letters.Sym.{Sym as Symbol}
use Rattle.fsm_base.specs.declared.letters.Bound.{Bound}
use Rattle.fsm_base.specs.declared.letters.Bound.TheVariants.{Inner}
use Rattle.fsm_base.specs.declared.letters.Pair.{Pair}
use Rattle.fsa.specs.Automaton.{Automaton}
use Rattle.fsa.specs.declared.automaton.Edge.{Edge}
use Rattle.network_algebra.specs.declared.network.Network.{Network}
use Rattle.network_algebra.specs.declared.network.Network.TheVariants.{Words, Pairs, Flagged}
use Rattle.word_relations.proofs.Members.{Contains-nil_cases}
use Rattle.network_expr.specs.declared.parts.Part.{Part}
use Rattle.network_build.specs.Networks.{IsLetterOn, IsOn, UsesSymbol}
use Rattle.fst_flagged.specs.Conditions.{first}
use Rattle.fst_flagged.specs.Flagged.{FlaggedView}
use Rattle.regex_ast.specs.declared.expr.Atom.{Atom}
use Rattle.regex_ast.specs.declared.expr.Atom.TheVariants.{Sym}

-- the symbols are the old ones and that of the leaf
abbrev pub IsWith : List Symbol → List Symbol → Atom → Type 0
IsWith old new leaf = (s : Symbol) → Contains new s ↔ (Contains old s ⊎ (leaf ≡ Sym s))

same_symbol : (a b : Symbol) → (Sym a ≡ Sym b) → a ≡ b
same_symbol a b e = cc

pub with_symbol : (old new : List Symbol) (leaf : Atom) (symbol : Symbol) → leaf ≡ Sym symbol
    → ((s : Symbol) → Contains new s ↔ (Contains old s ⊎ (symbol ≡ s))) → IsWith old new leaf
with_symbol old new leaf symbol is h s = (
  λ at. elim ((h s).0 at) as (λ _. Contains old s ⊎ (leaf ≡ Sym s)) [ inl o ↦ inl o | inr e ↦ inr (is ∙ ap (λ (x : Symbol). Sym x) e) ],
  λ at. (h s).1 (elim at as (λ _. Contains old s ⊎ (symbol ≡ s)) [ inl o ↦ inl o | inr e ↦ inr (same_symbol symbol s (sym is ∙ e)) ]),
)

-- what is given by one of many items, each giving symbols
module _ {X : Type 0} (Gives : X → Symbol → Type 0) where
  abbrev pub Given : List X → Symbol → Type 0
  Given xs s = (x : X) × Contains xs x × Gives x s

  -- the symbols are the first ones and those that these items give
  abbrev pub AreGiven : List Symbol → List Symbol → List X → Type 0
  AreGiven first now xs = (s : Symbol) → Contains now s ↔ (Contains first s ⊎ Given xs s)

  pub given_none : (first : List Symbol) → AreGiven first first []
  given_none first s = (λ at. inl at, λ h. elim h as (λ _. Contains first s) [ inl at ↦ at | inr (x, among, gives) ↦ absurd (Contains-nil_cases x among) ])

  pub given_more : (first old new : List Symbol) (xs : List X) (i : ℕ) (x : X) → take (i + 1) xs ≡ take i xs ++ x ∷ []
      → ((s : Symbol) → Contains new s ↔ (Contains old s ⊎ Gives x s)) → AreGiven first old (take i xs) → AreGiven first new (take (i + 1) xs)
  given_more first old new xs i x front added so_far s = (
    λ at. elim ((added s).0 at) as (λ _. Contains first s ⊎ Given (take (i + 1) xs) s) [
      | inl o ↦ elim ((so_far s).0 o) as (λ _. Contains first s ⊎ Given (take (i + 1) xs) s) [
        | inl f ↦ inl f
        | inr (y, among, gives) ↦ inr (y, subst (λ (ys : List X). Contains ys y) (sym front) (Contains-append_left (take i xs) (x ∷ []) y among), gives)
      ]
      | inr gives ↦ inr (x, subst (λ (ys : List X). Contains ys x) (sym front) (Contains-push (take i xs) x), gives)
    ],
    λ h. elim h as (λ _. Contains new s) [
      | inl f ↦ (added s).1 (inl ((so_far s).1 (inl f)))
      | inr (y, among, gives) ↦ elim (Contains-push_cases (take i xs) x y (subst (λ (ys : List X). Contains ys y) front among)) as (λ _. Contains new s) [
        | inl before ↦ (added s).1 (inl ((so_far s).1 (inr (y, before, gives))))
        | inr same ↦ (added s).1 (inr (subst (λ (z : X). Gives z s) (sym same) gives))
      ]
    ],
  )

-- what an edge reads
abbrev pub Reads : Edge (Bound Symbol) → Symbol → Type 0
Reads e s = e.letter ≡ Some (Inner s)

abbrev pub Relates : Edge Pair → Symbol → Type 0
Relates e s = (pair : Pair) × (e.letter ≡ Some pair) × IsOn pair s

abbrev pub RelatesLetter : Edge Pair → Symbol → Type 0
RelatesLetter e s = (pair : Pair) × (e.letter ≡ Some pair) × IsLetterOn pair s

abbrev pub PartUses : Part → Symbol → Type 0
PartUses part s = UsesSymbol part.network.now s

-- symbols that are such ones, with further ones
pub given_behind : (old new : List Symbol) (P Q : Symbol → Type 0) → ((s : Symbol) → Contains old s ↔ P s) → ((s : Symbol) → Contains new s ↔ (Contains old s ⊎ Q s))
    → (s : Symbol) → Contains new s ↔ (P s ⊎ Q s)
given_behind old new P Q first more s = (
  λ at. elim ((more s).0 at) as (λ _. P s ⊎ Q s) [ inl o ↦ inl ((first s).0 o) | inr q ↦ inr q ],
  λ h. (more s).1 (elim h as (λ _. Contains old s ⊎ Q s) [ inl p ↦ inl ((first s).1 p) | inr q ↦ inr q ]),
)

-- the same symbols by another description
pub given_as : (old new : List Symbol) (P Q : Symbol → Type 0) → ((s : Symbol) → P s ↔ Q s) → ((s : Symbol) → Contains new s ↔ (Contains old s ⊎ P s)) → (s : Symbol) → Contains new s ↔ (Contains old s ⊎ Q s)
given_as old new P Q same are s = (
  λ at. elim ((are s).0 at) as (λ _. Contains old s ⊎ Q s) [ inl o ↦ inl o | inr p ↦ inr ((same s).0 p) ],
  λ h. (are s).1 (elim h as (λ _. Contains old s ⊎ P s) [ inl o ↦ inl o | inr q ↦ inr ((same s).1 q) ]),
)

-- the symbols of edges are those of the network that they are of
pub words_use : (n : Network) (m : Automaton (Bound Symbol)) (edges : List (Edge (Bound Symbol))) → n ≡ Words m → edges ≡ m.edges → (s : Symbol) → Given Reads edges s ↔ UsesSymbol n s
words_use n m edges is are s = rw (are, is) by
  where
    by : Given Reads m.edges s ↔ UsesSymbol (Words m) s
    by = (λ h. h, λ h. h)

pub pairs_use : (n : Network) (m : Automaton Pair) (edges : List (Edge Pair)) → n ≡ Pairs m → edges ≡ m.edges → (s : Symbol) → Given Relates edges s ↔ UsesSymbol n s
pairs_use n m edges is are s = rw (are, is) by
  where
    by : Given Relates m.edges s ↔ UsesSymbol (Pairs m) s
    by = (λ (e, among, (pair, is, side)). (pair, (e, among, is), side), λ (pair, (e, among, is), side). (e, among, (pair, is, side)))

pub flagged_use : (n : Network) (f : FlaggedView) (edges : List (Edge Pair)) → n ≡ Flagged f → edges ≡ f.net.edges → (s : Symbol) → Given RelatesLetter edges s ↔ UsesSymbol n s
flagged_use n f edges is are s = rw (are, is) by
  where
    by : Given RelatesLetter f.net.edges s ↔ UsesSymbol (Flagged f) s
    by = (λ (e, among, (pair, is, side)). (pair, (e, among, is), side), λ (pair, (e, among, is), side). (e, among, (pair, is, side)))

-- a letter that is a symbol
inner_same : (a b : Symbol) → (Some (Inner a) ≡ Some (Inner b)) → a ≡ b
inner_same a b e = cc

some_same : (a b : Symbol) → (Some a ≡ Some b) → a ≡ b
some_same a b e = cc

pub letter_one : (old new : List Symbol) (letter : Option (Bound Symbol)) (symbol : Symbol) → letter ≡ Some (Inner symbol) → ((s : Symbol) → Contains new s ↔ (Contains old s ⊎ (symbol ≡ s)))
    → (s : Symbol) → Contains new s ↔ (Contains old s ⊎ (letter ≡ Some (Inner s)))
letter_one old new letter symbol is = given_as old new (λ s. symbol ≡ s) (λ s. letter ≡ Some (Inner s)) (λ s. (λ e. is ∙ ap (λ (t : Symbol). Some (Inner t)) e, λ e. inner_same symbol s (sym is ∙ e)))

pub side_one : (old new : List Symbol) (side : Option Symbol) (symbol : Symbol) → side ≡ Some symbol → ((s : Symbol) → Contains new s ↔ (Contains old s ⊎ (symbol ≡ s)))
    → (s : Symbol) → Contains new s ↔ (Contains old s ⊎ (side ≡ Some s))
side_one old new side symbol is = given_as old new (λ s. symbol ≡ s) (λ s. side ≡ Some s) (λ s. (λ e. is ∙ ap (λ (t : Symbol). Some t) e, λ e. some_same symbol s (sym is ∙ e)))

-- both sides of a pair
pair_same : (a b : Pair) → (Some a ≡ Some b) → a ≡ b
pair_same a b e = cc

pub pair_both : (old between new : List Symbol) (letter : Option Pair) (pair : Pair) → letter ≡ Some pair → ((s : Symbol) → Contains between s ↔ (Contains old s ⊎ (pair.up ≡ Some s)))
    → ((s : Symbol) → Contains new s ↔ (Contains between s ⊎ (pair.low ≡ Some s))) → (s : Symbol) → Contains new s ↔ (Contains old s ⊎ ((x : Pair) × (letter ≡ Some x) × IsOn x s))
pair_both old between new letter pair is first second s = (
  λ at. elim ((second s).0 at) as (λ _. Contains old s ⊎ ((x : Pair) × (letter ≡ Some x) × IsOn x s)) [
    | inl b ↦ elim ((first s).0 b) as (λ _. Contains old s ⊎ ((x : Pair) × (letter ≡ Some x) × IsOn x s)) [ inl o ↦ inl o | inr up ↦ inr (pair, is, inl up) ]
    | inr low ↦ inr (pair, is, inr low)
  ],
  λ h. elim h as (λ _. Contains new s) [
    | inl o ↦ (second s).1 (inl ((first s).1 (inl o)))
    | inr (x, e, side) ↦ (let same = pair_same x pair (sym e ∙ is) in
        elim (subst (λ (y : Pair). IsOn y s) same side) as (λ _. Contains new s) [ inl up ↦ (second s).1 (inl ((first s).1 (inr up))) | inr low ↦ (second s).1 (inr low) ])
  ],
)

-- the same, but for a condition
pub letter_added : (old new : List Symbol) (side : Option Symbol) (symbol : Symbol) → side ≡ Some symbol → symbol.0 < first → ((s : Symbol) → Contains new s ↔ (Contains old s ⊎ (symbol ≡ s)))
    → (s : Symbol) → Contains new s ↔ (Contains old s ⊎ ((side ≡ Some s) × (s.0 < first)))
letter_added old new side symbol is small =
    given_as old new (λ s. symbol ≡ s) (λ s. (side ≡ Some s) × (s.0 < first))
    (λ s. (λ e. (is ∙ ap (λ (t : Symbol). Some t) e, subst (λ (t : Symbol). t.0 < first) e small), λ (e, below). some_same symbol s (sym is ∙ e)))

pub no_letter_added : (old : List Symbol) (side : Option Symbol) → ((s : Symbol) → side ≡ Some s → s.0 < first → ⊥) → (s : Symbol) → Contains old s ↔ (Contains old s ⊎ ((side ≡ Some s) × (s.0 < first)))
no_letter_added old side none s = (λ at. inl at, λ h. elim h as (λ _. Contains old s) [ inl at ↦ at | inr (e, below) ↦ absurd (none s e below) ])

pub pair_letters : (old between new : List Symbol) (letter : Option Pair) (pair : Pair) → letter ≡ Some pair → ((s : Symbol) → Contains between s ↔ (Contains old s ⊎ ((pair.up ≡ Some s) × (s.0 < first))))
    → ((s : Symbol) → Contains new s ↔ (Contains between s ⊎ (pair.low ≡ Some s))) → (s : Symbol) → Contains new s ↔ (Contains old s ⊎ ((x : Pair) × (letter ≡ Some x) × IsLetterOn x s))
pair_letters old between new letter pair is first_more second s = (
  λ at. elim ((second s).0 at) as (λ _. Contains old s ⊎ ((x : Pair) × (letter ≡ Some x) × IsLetterOn x s)) [
    | inl b ↦ elim ((first_more s).0 b) as (λ _. Contains old s ⊎ ((x : Pair) × (letter ≡ Some x) × IsLetterOn x s)) [ inl o ↦ inl o | inr up ↦ inr (pair, is, inl up) ]
    | inr low ↦ inr (pair, is, inr low)
  ],
  λ h. elim h as (λ _. Contains new s) [
    | inl o ↦ (second s).1 (inl ((first_more s).1 (inl o)))
    | inr (x, e, side) ↦ (let same = pair_same x pair (sym e ∙ is) in
        elim (subst (λ (y : Pair). IsLetterOn y s) same side) as (λ _. Contains new s) [ inl up ↦ (second s).1 (inl ((first_more s).1 (inr up))) | inr low ↦ (second s).1 (inr low) ])
  ],
)

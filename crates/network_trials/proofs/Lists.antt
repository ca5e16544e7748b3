-- Lists that grow by one item, parts over letters, symbols whose numbers are their places, and the letters of contexts.
use Rattle.std.proofs.Common.{◌≡◌, ◌⊎◌, ◌<◌, ◌≤◌, ℕ, ◌+◌, None, List, [], ◌∷◌, ◌++◌, length, Some, refl, sym, ap, subst, ◌∙◌, inl, inr, arith, zero, suc}
use Rattle.std.specs.Prelude.{All, map}
use Rattle.std.specs.List.{Contains, slice_get}
use Rattle.std.proofs.lemmas.Option.{slice_get_within}
use Rattle.std.proofs.lemmas.List.Elements.{All-contains_itself, All-weaker, Contains-push_cases}
use Rattle.fsm_base.specs.declared.letters.Bound.{Bound}
use Rattle.fsm_base.specs.declared.letters.Bound.TheVariants.{Edge, Inner}
use Rattle.fsm_base.specs.declared.letters.Sym.{Sym}
use Rattle.fsm_base.specs.declared.letters.Pair.{Pair}
use Rattle.word_relations.specs.Words.{IsDistinct, IsOver}
use Rattle.word_relations.proofs.Members.{Contains-nil_cases, Contains-cons_cases, Contains-map_cases}
use Rattle.word_relations.proofs.Places.{slice_get-append_cases, slice_get_from_Contains, Contains-from_slice_get}
use Rattle.fsa.specs.Automaton.{Automaton, UsesLetter}
use Rattle.fsa.specs.Complete.{Complete, Accepts}
use Rattle.expr_meaning.specs.Operators.{inner}
use Rattle.network_algebra.specs.Networks.{UsesOnly, all_letters}
use Rattle.network_sets.proofs.Inside.{distinct_map, distinct_more as distinct_behind}
use Rattle.replace_rules.specs.declared.rules.LangMap.{LangMap}
use Rattle.replace_rules.specs.Rules.{IsMapOver}

-- what holds of each item holds of one more
pub all_more : {X : Type 0} (P : X → Type 0) (xs : List X) (x : X) → ((y : X) → Contains xs y → P y) → P x → (y : X) → Contains (xs ++ x ∷ []) y → P y
all_more P xs x all p y h = elim (Contains-push_cases xs x y h) as (λ _. P y) [ inl a ↦ all y a | inr e ↦ subst P e p ]

pub all_none : {X : Type 0} (P : X → Type 0) (y : X) → Contains [] y → P y
all_none P y h = absurd (Contains-nil_cases y h)

-- an item that is new keeps the list distinct
pub distinct_more : {X : Type 0} (xs : List X) (x : X) → IsDistinct xs → (Contains xs x → ⊥) → IsDistinct (xs ++ x ∷ [])
distinct_more xs x distinct new i j y at other =
    elim (slice_get-append_cases xs (x ∷ []) i y at) as (λ _. i ≡ j) [
      | inl a ↦ elim (slice_get-append_cases xs (x ∷ []) j y other) as (λ _. i ≡ j) [
        | inl b ↦ distinct i j y a b
        | inr b ↦ absurd (new (subst (Contains xs) (sym (last b.0 b.2)) (Contains-from_slice_get xs i y a)))
      ]
      | inr a ↦ elim (slice_get-append_cases xs (x ∷ []) j y other) as (λ _. i ≡ j) [
        | inl b ↦ absurd (new (subst (Contains xs) (sym (last a.0 a.2)) (Contains-from_slice_get xs j y b)))
        | inr b ↦ a.1 ∙ ap (λ k. k + length xs) (place a.0 a.2 ∙ sym (place b.0 b.2)) ∙ sym b.1
      ]
    ]
  where
    last : (k : ℕ) → slice_get (x ∷ []) k ≡ Some y → x ≡ y
    last k e = elim (Contains-cons_cases x [] y (Contains-from_slice_get (x ∷ []) k y e)) as (λ _. x ≡ y) [ inl h ↦ h | inr none ↦ absurd (Contains-nil_cases y none) ]

    place : (k : ℕ) → slice_get (x ∷ []) k ≡ Some y → k ≡ 0
    place zero e = refl
    place (suc k) e = let clash : None ≡ Some y = e in absurd (cc)

-- parts over letters
pub joined_only : {L : Type 0} (letters : List L) (a b m : Automaton L) → ((x : L) → UsesLetter m x → UsesLetter a x ⊎ UsesLetter b x) → UsesOnly letters a → UsesOnly letters b → UsesOnly letters m
joined_only letters a b m used first second x h = elim (used x h) as (λ _. Contains letters x) [ inl p ↦ first x p | inr q ↦ second x q ]

pub found_only : {L : Type 0} (letters found : List L) (m : Automaton L) → ((x : L) → Contains found x → Contains letters x) → ((x : L) → UsesLetter m x → Contains found x) → UsesOnly letters m
found_only letters found m among used x h = among x (used x h)

pub none_used : {L : Type 0} (letters : List L) (m : Automaton L) → ((x : L) → UsesLetter m x → Contains [] x) → UsesOnly letters m
none_used letters m used x h = absurd (Contains-nil_cases x (used x h))

-- the words without the edge of a part are over the symbols
pub inner_only : (symbols : List Sym) (part : Automaton (Bound Sym)) (m : Automaton Sym) → UsesOnly (all_letters symbols) part → ((x : Sym) → UsesLetter m x → UsesLetter part (Inner x)) → (x : Sym) → UsesLetter m x → Contains symbols x
inner_only symbols part m only inside x h = elim (Contains-cons_cases Edge (map Inner symbols) (Inner x) (only (Inner x) (inside x h))) as (λ _. Contains symbols x) [
  | inl e ↦ let clash : Edge ≡ Inner x = e in absurd (cc)
  | inr there ↦ let t = Contains-map_cases Inner symbols (Inner x) there in let e : Inner t.0 ≡ Inner x = t.2 in let same : t.0 ≡ x = cc in subst (Contains symbols) same t.1
]

-- a list is over itself
pub over_itself : (letters symbols : List Sym) → letters ≡ symbols → IsOver symbols letters
over_itself letters symbols e = subst (IsOver symbols) (sym e) (All-contains_itself symbols)

-- mappings whose parts are over the symbols
pub map_over : (symbols : List Sym) (m : LangMap) → m.centre.letters ≡ symbols → m.result.letters ≡ symbols → ((lang : Complete Sym) → m.after ≡ Some lang → lang.letters ≡ symbols) → (Accepts m.centre [] → ⊥) → IsMapOver symbols m
map_over symbols m centre result after none = record {
  centre = over_itself m.centre.letters symbols centre;
  result = over_itself m.result.letters symbols result;
  after = λ lang some. over_itself lang.letters symbols (after lang some);
  no_empty = none;
}

-- symbols whose numbers are their places
abbrev pub AreNumbered : List Sym → Type 0
AreNumbered symbols = (place : ℕ) (x : Sym) → slice_get symbols place ≡ Some x → x.0 ≡ place

pub numbered_distinct : (symbols : List Sym) → AreNumbered symbols → IsDistinct symbols
numbered_distinct symbols numbered i j x at_i at_j = sym (numbered i x at_i) ∙ numbered j x at_j

pub numbered_below : (symbols : List Sym) (bound : ℕ) → AreNumbered symbols → length symbols ≤ bound → All (λ s. s.0 < bound) symbols
numbered_below symbols bound numbered short = All-weaker (Contains symbols) (λ s. s.0 < bound) below symbols (All-contains_itself symbols)
  where
    below : (s : Sym) → Contains symbols s → s.0 < bound
    below s among =
        let n = slice_get_from_Contains symbols s among in
        let within = slice_get_within symbols n.0 s n.1 in
        let number = numbered n.0 s n.1 in
        omega (arith, within, number, short)

pub numbered_more : (symbols : List Sym) (next : Sym) → AreNumbered symbols → next.0 ≡ length symbols → AreNumbered (symbols ++ next ∷ [])
numbered_more symbols next numbered number place x at =
    elim (slice_get-append_cases symbols (next ∷ []) place x at) as (λ _. x.0 ≡ place) [
      | inl front ↦ numbered place x front
      | inr last ↦ last_at last.0 last.1 last.2
    ]
  where
    last_at : (j : ℕ) → place ≡ j + length symbols → slice_get (next ∷ []) j ≡ Some x → x.0 ≡ place
    last_at zero e is = let same : next ≡ x = cc in omega (arith, ap (λ (s : Sym). s.0) same, e, number)
    last_at (suc j) e is = cc

-- the letters of contexts are distinct where the pairs are
all_apart : (x y : Pair) → Inner x ≡ Inner y → x ≡ y
all_apart x y e = cc

no_edge : (pairs : List Pair) → Contains (inner pairs) Edge → ⊥
no_edge pairs h = let r = Contains-map_cases Inner pairs Edge h in apart r.0 r.2
  where
    apart : (x : Pair) → Inner x ≡ Edge → ⊥
    apart x e = cc

pub all_distinct : (pairs : List Pair) → IsDistinct pairs → IsDistinct (all_letters pairs)
all_distinct pairs distinct = distinct_behind Edge (inner pairs) (no_edge pairs) (distinct_map Inner all_apart pairs distinct)

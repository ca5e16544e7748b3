-- The inverse of optional rules: each replacement turned round, and contexts read on the other sides.
use Rattle.std.proofs.Common.{◌≡◌, true, false, List, [], ◌∷◌, ◌++◌, map, refl, sym, subst, ap, ◌∙◌, inl, inr}
use Rattle.std.proofs.Math.Path.{subst₂}
use Rattle.std.proofs.lemmas.List.{map-append}
use Rattle.fsm_base.specs.declared.letters.Sym.{Sym}
use Rattle.regex_ast.specs.declared.expr.Atom.{Atom}
use Rattle.regex_ast.specs.declared.expr.Side.{Side}
use Rattle.regex_ast.specs.declared.expr.Side.TheVariants.{UpUp, LowUp, UpLow, LowLow}
use Rattle.regex_ast.specs.Terms.{Term, Contexts, rules}
use Rattle.expr_meaning.specs.Operators.{inner}
use Rattle.expr_meaning.specs.Replacement.{Piece, copied, replaced, uppers, lowers, read_before, read_behind, IsAllowed, IsPiece, IsDerivation}
use Rattle.expr_meaning.specs.Meaning.{InContext, Replaces, Applies}
use Rattle.expr_meaning.specs.Leaves.{stands_for}
use Rattle.expr_meaning.specs.Laws.{Has, Pairs, turned, one_rule, OptionalRulesTurn}

-- the piece the other way
turn : Piece Sym → Piece Sym
turn (copied symbol) = copied symbol
turn (replaced centre result) = replaced result centre

turns : List (Piece Sym) → List (Piece Sym)
turns pieces = map turn pieces

turn_twice : (p : Piece Sym) → turn (turn p) ≡ p
unfolding turn
turn_twice (copied symbol) = refl
turn_twice (replaced centre result) = refl

turns_twice : (pieces : List (Piece Sym)) → turns (turns pieces) ≡ pieces
unfolding turns
turns_twice [] = refl
turns_twice (p ∷ pieces) = ap (λ (q : Piece Sym). q ∷ turns (turns pieces)) (turn_twice p) ∙ ap (λ (ps : List (Piece Sym)). p ∷ ps) (turns_twice pieces)

uppers_turned : (pieces : List (Piece Sym)) → uppers (turns pieces) ≡ lowers pieces
unfolding turns turn
uppers_turned [] = refl
uppers_turned (copied symbol ∷ pieces) = ap (λ (w : List Sym). symbol ∷ w) (uppers_turned pieces)
uppers_turned (replaced centre result ∷ pieces) = ap (λ (w : List Sym). result ++ w) (uppers_turned pieces)

lowers_turned : (pieces : List (Piece Sym)) → lowers (turns pieces) ≡ uppers pieces
unfolding turns turn
lowers_turned [] = refl
lowers_turned (copied symbol ∷ pieces) = ap (λ (w : List Sym). symbol ∷ w) (lowers_turned pieces)
lowers_turned (replaced centre result ∷ pieces) = ap (λ (w : List Sym). centre ++ w) (lowers_turned pieces)

before_turned : (side : Side) (pieces : List (Piece Sym)) → read_before side (turns pieces) ≡ read_before (turned side) pieces
before_turned UpUp pieces = uppers_turned pieces
before_turned LowUp pieces = lowers_turned pieces
before_turned UpLow pieces = uppers_turned pieces
before_turned LowLow pieces = lowers_turned pieces

behind_turned : (side : Side) (pieces : List (Piece Sym)) → read_behind side (turns pieces) ≡ read_behind (turned side) pieces
behind_turned UpUp pieces = uppers_turned pieces
behind_turned LowUp pieces = uppers_turned pieces
behind_turned UpLow pieces = lowers_turned pieces
behind_turned LowLow pieces = lowers_turned pieces

-- a place in turned pieces is one in the pieces
split_turned : (pieces before : List (Piece Sym)) (p : Piece Sym) (behind : List (Piece Sym)) → turns pieces ≡ before ++ p ∷ behind → pieces ≡ turns before ++ turn p ∷ turns behind
unfolding turns
split_turned pieces before p behind is = sym (turns_twice pieces) ∙ ap turns is ∙ map-append turn before (p ∷ behind)

module _ (alphabet : List Sym) where
  allowed_turned : (contexts : Contexts Atom) (side : Side) (before behind : List (Piece Sym))
      → IsAllowed contexts (InContext stands_for alphabet contexts) side (turns before) (turns behind)
      → IsAllowed contexts (InContext stands_for alphabet contexts) (turned side) before behind
  allowed_turned contexts side before behind h = elim h as (λ _. IsAllowed contexts (InContext stands_for alphabet contexts) (turned side) before behind) [
    | inl none ↦ inl none
    | inr here ↦ inr (subst₂ (λ (x z : List Sym). InContext stands_for alphabet contexts (inner x) (inner z)) (before_turned side before) (behind_turned side behind) here)
  ]

  module _ (a b : Term Atom) (side : Side) (contexts : Contexts Atom) where
    abbrev There : List (Piece Sym) → Type 0
    There pieces = IsDerivation alphabet (Replaces stands_for alphabet (one_rule a b side contexts)) (Applies stands_for alphabet (one_rule a b side contexts)) pieces

    abbrev Back : List (Piece Sym) → Type 0
    Back pieces = IsDerivation alphabet (Replaces stands_for alphabet (one_rule b a (turned side) contexts)) (Applies stands_for alphabet (one_rule b a (turned side) contexts)) pieces

    replaced_turned : (before : List (Piece Sym)) (centre result : List Sym) (behind : List (Piece Sym))
        → Replaces stands_for alphabet (one_rule a b side contexts) (turns before) result centre (turns behind)
        → Replaces stands_for alphabet (one_rule b a (turned side) contexts) before centre result behind
    replaced_turned before centre result behind h =
        elim h as (λ _. Replaces stands_for alphabet (one_rule b a (turned side) contexts) before centre result behind) [
          | inl here ↦ elim here.0 as (λ _. Replaces stands_for alphabet (one_rule b a (turned side) contexts) before centre result behind) [
            | inl both ↦ inl (inl (both.1, both.0), allowed_turned contexts side before behind here.1)
            | inr never ↦ absurd never
          ]
          | inr never ↦ absurd never
        ]

    -- its result isn't the empty word
    has_result : (before : List (Piece Sym)) (centre : List Sym) (behind : List (Piece Sym)) → (Has alphabet b [] → ⊥)
        → Replaces stands_for alphabet (one_rule a b side contexts) before centre [] behind → ⊥
    has_result before centre behind some h =
        elim h as (λ _. ⊥) [
          | inl here ↦ elim here.0 as (λ _. ⊥) [ inl both ↦ some both.1 | inr never ↦ never ]
          | inr never ↦ never
        ]

    derivation_turned : (Has alphabet b [] → ⊥) → (pieces : List (Piece Sym)) → There pieces → Back (turns pieces)
    unfolding turn
    derivation_turned some pieces is = (each, none)
      where
        each : (before : List (Piece Sym)) (p : Piece Sym) (behind : List (Piece Sym)) → turns pieces ≡ before ++ p ∷ behind
            → IsPiece alphabet (Replaces stands_for alphabet (one_rule b a (turned side) contexts)) (Applies stands_for alphabet (one_rule b a (turned side) contexts)) before p behind
        each before (copied symbol) behind split = is.0 (turns before) (copied symbol) (turns behind) (split_turned pieces before (copied symbol) behind split)
        each before (replaced centre result) behind split =
            replaced_turned before centre result behind (is.0 (turns before) (replaced result centre) (turns behind) (split_turned pieces before (replaced centre result) behind split))

        none : (before : List (Piece Sym)) (one two : List Sym) (behind : List (Piece Sym)) → turns pieces ≡ before ++ replaced [] one ∷ replaced [] two ∷ behind → ⊥
        none before one two behind split =
            has_result (turns before) one (turns (replaced [] two ∷ behind)) some
            (is.0 (turns before) (replaced one []) (turns (replaced [] two ∷ behind)) (split_turned pieces before (replaced [] one) (replaced [] two ∷ behind) split))

  -- the same pairs, turned
  pairs_turned : (a b : Term Atom) (side : Side) (contexts : Contexts Atom) → (Has alphabet b [] → ⊥) → (u w : List Sym)
      → Pairs alphabet (rules true (one_rule a b side contexts)) w u → Pairs alphabet (rules true (one_rule b a (turned side) contexts)) u w
  pairs_turned a b side contexts some u w (pieces, is, obliged, upper, lower) =
      (turns pieces, derivation_turned a b side contexts some pieces is, λ never. let e : true ≡ false = never in absurd (cc), lower ∙ sym (uppers_turned pieces), upper ∙ sym (lowers_turned pieces))

turned_twice : (side : Side) → turned (turned side) ≡ side
turned_twice UpUp = refl
turned_twice LowUp = refl
turned_twice UpLow = refl
turned_twice LowLow = refl

pub optional_rules_turn : OptionalRulesTurn
optional_rules_turn alphabet a b side contexts some_a some_b u w = (
  λ there. pairs_turned alphabet a b side contexts some_b u w there,
  λ back. subst (λ (s : Side). Pairs alphabet (rules true (one_rule a b s contexts)) w u) (turned_twice side) (pairs_turned alphabet b a (turned side) contexts some_a w u back),
)

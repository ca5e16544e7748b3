-- The first of tokens that stand somewhere.
use Rattle.std.proofs.Common.{◌≡◌, ◌==◌, ℕ, true, List, [], ◌∷◌, length, sym, ap, ◌∙◌, arith}
use Rattle.std.proofs.lemmas.Bool.Decides.{nat_tests}
use Rattle.twolc_tokens.specs.declared.token.Placed.{Placed}
use Rattle.twolc_tokens.specs.declared.token.Token.{Token}
use Rattle.twolc_grammar.specs.Sections.{tokens_of}

first_same : (a b : Token) (xs ys : List Token) → a ∷ xs ≡ b ∷ ys → a ≡ b
first_same a b xs ys e = cc

pub none_first : (ps : List Placed) (t : Token) (rest : List Token) → length ps ≡ 0 → tokens_of ps ≡ t ∷ rest → ⊥
none_first [] t rest none e = cc
none_first (p ∷ ps) t rest none e = omega (arith, none)

pub other_first : (ps : List Placed) (p : Placed) (more : List Placed) (t : Token) (rest : List Token) → ps ≡ p ∷ more → (p.token ≡ t → ⊥) → tokens_of ps ≡ t ∷ rest → ⊥
other_first ps p more t rest is other e = other (first_same p.token t (tokens_of more) rest (sym (ap tokens_of is) ∙ e))

pub first_is : (ps : List Placed) (p : Placed) (more : List Placed) (t : Token) → ps ≡ p ∷ more → p.token ≡ t → tokens_of ps ≡ t ∷ tokens_of more
first_is ps p more t is same = ap tokens_of is ∙ ap (λ x. x ∷ tokens_of more) same

-- whether any are there
by_zero : (n : ℕ) → true ≡ (n == 0) → n ≡ 0
by_zero n e = let none : (n == 0) ≡ true = sym e in grind (arith, nat_tests)

pub no_items : (p : Placed) (ps : List Placed) → true ≡ (length (p ∷ ps) == 0) → ⊥
no_items p ps e = omega (arith, by_zero (length (p ∷ ps)) e)

-- The first and the last of tokens that stand somewhere.
use Rattle.std.proofs.Common.{◌≡◌, ℕ, true, false, List, [], ◌∷◌, ◌++◌, length, refl, sym, ap, ◌∙◌, arith}
use Rattle.twolc_tokens.specs.declared.token.Operator.TheVariants.{Equals, Semicolon}
use Rattle.twolc_tokens.specs.declared.token.Placed.{Placed}
use Rattle.twolc_tokens.specs.declared.token.Token.{Token}
use Rattle.twolc_tokens.specs.declared.token.Token.TheVariants.{Operator as operator}
use Rattle.twolc_grammar.specs.Sections.{is_semicolon, tokens_of}
use Rattle.twolc_reader.specs.StatementReading.{is_equals}

pub semicolon_is : (t : Token) → is_semicolon t ≡ true → t ≡ operator Semicolon
semicolon_is (operator Semicolon) e = refl
semicolon_is _ e = absurd cc

pub no_semicolon : (t : Token) → is_semicolon t ≡ false → t ≡ operator Semicolon → ⊥
no_semicolon t e is = let clash : true ≡ false = sym (ap is_semicolon is) ∙ e in cc

pub equals_is : (t : Token) → is_equals t ≡ true → t ≡ operator Equals
equals_is (operator Equals) e = refl
equals_is _ e = absurd cc

pub no_equals : (t : Token) → is_equals t ≡ false → t ≡ operator Equals → ⊥
no_equals t e is = let clash : true ≡ false = sym (ap is_equals is) ∙ e in cc

first_same : (a b : Token) (xs ys : List Token) → a ∷ xs ≡ b ∷ ys → a ≡ b
first_same a b xs ys e = cc

pub none_first : (ps : List Placed) (t : Token) (rest : List Token) → length ps ≡ 0 → tokens_of ps ≡ t ∷ rest → ⊥
none_first [] t rest none e = cc
none_first (p ∷ ps) t rest none e = omega (arith, none)

pub other_first : (ps : List Placed) (p : Placed) (more : List Placed) (t : Token) (rest : List Token) → ps ≡ p ∷ more → (p.token ≡ t → ⊥) → tokens_of ps ≡ t ∷ rest → ⊥
other_first ps p more t rest is other e = other (first_same p.token t (tokens_of more) rest (sym (ap tokens_of is) ∙ e))

pub first_is : (ps : List Placed) (p : Placed) (more : List Placed) (t : Token) → ps ≡ p ∷ more → p.token ≡ t → tokens_of ps ≡ t ∷ tokens_of more
first_is ps p more t is same = ap tokens_of is ∙ ap (λ x. x ∷ tokens_of more) same

-- what stands before the last one, and it

last_same : (xs ys : List Token) (a b : Token) → xs ++ a ∷ [] ≡ ys ++ b ∷ [] → a ≡ b
last_same [] [] a b e = cc
last_same [] (y ∷ []) a b e = absurd cc
last_same [] (y ∷ z ∷ ys) a b e = absurd cc
last_same (x ∷ []) [] a b e = absurd cc
last_same (x ∷ z ∷ xs) [] a b e = absurd cc
last_same (x ∷ xs) (y ∷ ys) a b e = last_same xs ys a b cc

tokens_behind : (front : List Placed) (last : Placed) → tokens_of (front ++ last ∷ []) ≡ tokens_of front ++ last.token ∷ []
tokens_behind [] last = refl
tokens_behind (p ∷ front) last = ap (λ ts. p.token ∷ ts) (tokens_behind front last)

pub none_last : (ps : List Placed) (front : List Token) (t : Token) → length ps ≡ 0 → tokens_of ps ≡ front ++ t ∷ [] → ⊥
none_last [] [] t none e = cc
none_last [] (x ∷ front) t none e = cc
none_last (p ∷ ps) front t none e = omega (arith, none)

pub other_last : (ps front : List Placed) (last : Placed) (other : List Token) (t : Token) → ps ≡ front ++ last ∷ [] → (last.token ≡ t → ⊥) → tokens_of ps ≡ other ++ t ∷ [] → ⊥
other_last ps front last other t is not_this e = not_this (last_same (tokens_of front) other last.token t (sym (tokens_behind front last) ∙ (sym (ap tokens_of is) ∙ e)))

pub last_is : (ps front : List Placed) (last : Placed) (t : Token) → ps ≡ front ++ last ∷ [] → last.token ≡ t → tokens_of ps ≡ tokens_of front ++ t ∷ []
last_is ps front last t is same = ap tokens_of is ∙ (tokens_behind front last ∙ ap (λ x. tokens_of front ++ x ∷ []) same)

-- Tokens with their places.
use Rattle.std.proofs.Common.{◌≡◌, ◌-◌, ◌^◌, Option, None, IfSome, ◌<◌, ◌+◌, ℕ, zero, suc, Bool, cond, true, false, ◌||◌, List, [], ◌∷◌, ◌++◌, length, take, drop, get_or, Some, refl, sym, ap, ◌∙◌, arith}
use Rattle.std.specs.List.{list_any, position, position_from}
use Rattle.std.proofs.lemmas.List.Quantifiers.{position-Some}
use Rattle.std.proofs.lemmas.Iterator.Adapters.{position_from-zero}
use Rattle.regex_tokens.specs.declared.token.Operator.TheVariants.{Semicolon}
use Rattle.regex_tokens.specs.declared.token.Place.{Place}
use Rattle.regex_tokens.specs.declared.token.Token.{Token}
use Rattle.regex_tokens.specs.declared.token.Token.TheVariants.{Operator as operator}
use Rattle.regex_reader.specs.Files.{Placed, IsOne, tokens_of, places_of, first_line, is_semicolon}
use Rattle.regex_reader.specs.Verdicts.{placed, line_of}

pub tokens_placed : (ts : List Token) (ps : List Place) → length ts ≡ length ps → tokens_of (placed ts ps) ≡ ts
tokens_placed [] ps same = refl
tokens_placed (t ∷ ts) [] same = absurd (omega arith)
tokens_placed (t ∷ ts) (p ∷ ps) same = ap (λ (more : List Token). t ∷ more) (tokens_placed ts ps (omega arith))

pub places_placed : (ts : List Token) (ps : List Place) → length ts ≡ length ps → places_of (placed ts ps) ≡ ps
places_placed [] [] same = refl
places_placed [] (p ∷ ps) same = absurd (omega arith)
places_placed (t ∷ ts) [] same = absurd (omega arith)
places_placed (t ∷ ts) (p ∷ ps) same = ap (λ (more : List Place). p ∷ more) (places_placed ts ps (omega arith))

pub placed_again : (p : List Placed) → placed (tokens_of p) (places_of p) ≡ p
placed_again [] = refl
placed_again (p ∷ ps) = ap (λ (more : List Placed). p ∷ more) (placed_again ps)

pub placed_split : (n : ℕ) (ts : List Token) (ps : List Place) → length ts ≡ length ps → placed ts ps ≡ placed (take n ts) (take n ps) ++ placed (drop n ts) (drop n ps)
placed_split zero ts ps same = refl
placed_split (suc n) [] ps same = refl
placed_split (suc n) (t ∷ ts) [] same = absurd (omega arith)
placed_split (suc n) (t ∷ ts) (p ∷ ps) same = ap (λ (more : List Placed). record { token = t; place = p } ∷ more) (placed_split n ts ps (omega arith))

pub first_line_placed : (ts : List Token) (ps : List Place) → length ts ≡ length ps → line_of ps ≡ first_line (placed ts ps)
first_line_placed [] [] same = refl
first_line_placed [] (p ∷ ps) same = absurd (omega arith)
first_line_placed (t ∷ ts) [] same = absurd (omega arith)
first_line_placed (t ∷ ts) (p ∷ ps) same = refl

semicolon_is : (t : Token) → is_semicolon t ≡ true → t ≡ operator Semicolon
semicolon_is (operator Semicolon) e = refl
semicolon_is _ e = absurd cc

no_other : (a b : Bool) → a ≡ false → b ≡ false → (a || b) ≡ false
no_other a b p q = rw (p, q) refl

behind_one : (p : Placed) (rest : List Placed) → is_semicolon p.token ≡ false → IsOne rest → IsOne (p ∷ rest)
behind_one p rest none one = record {
  front = p ∷ one.front;
  last = one.last;
  whole = ap (λ (more : List Placed). p ∷ more) one.whole;
  front_is = no_other _ _ none one.front_is;
  last_is = one.last_is;
}

one_at : (d : Token) (ts : List Token) (ps : List Place) (k : ℕ) → length ts ≡ length ps → k < length ts → is_semicolon (get_or ts k d) ≡ true → ((j : ℕ) → j < k → is_semicolon (get_or ts j d) ≡ false) → IsOne (placed (take (suc k) ts) (take (suc k) ps))
one_at d [] ps k same below is before = absurd (omega arith)
one_at d (t ∷ ts) [] k same below is before = absurd (omega arith)
one_at d (t ∷ ts) (p ∷ ps) zero same below is before = record { front = []; last = record { token = t; place = p }; whole = refl; front_is = refl; last_is = semicolon_is t is }
one_at d (t ∷ ts) (p ∷ ps) (suc k) same below is before = behind_one (record { token = t; place = p }) _ (before 0 (omega arith)) (one_at d ts ps k (omega arith) (omega arith) is (λ j h. before (suc j) (omega arith)))

-- the tokens to the first `;`
pub one_statement : (ts : List Token) (ps : List Place) (k : ℕ) → length ts ≡ length ps → Some k ≡ position is_semicolon ts → IsOne (placed (take (k + 1) ts) (take (k + 1) ps))
one_statement ts ps k same first =
    let d : Token = operator Semicolon in
    let found = position-Some is_semicolon ts k d (sym first) in
    let more : k + 1 ≡ suc k = omega arith in
    rw more (one_at d ts ps k same found.0 found.1 found.2)

pub semicolon_below : (ts : List Token) (k : ℕ) → Some k ≡ position is_semicolon ts → k < length ts
semicolon_below ts k first = let d : Token = operator Semicolon in (position-Some is_semicolon ts k d (sym first)).0

none_from : (ts : List Token) (i : ℕ) → position_from is_semicolon i ts ≡ None → list_any is_semicolon ts ≡ false
none_from [] i e = refl
none_from (t ∷ ts) i e = by (is_semicolon t) (none_from ts (i + 1)) e
  where
    by : (b : Bool) → (position_from is_semicolon (i + 1) ts ≡ None → list_any is_semicolon ts ≡ false) → cond b (Some i) (position_from is_semicolon (i + 1) ts) ≡ None → (b || list_any is_semicolon ts) ≡ false
    by true more e = absurd cc
    by false more e = more e

-- where there is none
pub no_semicolon : (ts : List Token) → None ≡ position is_semicolon ts → list_any is_semicolon ts ≡ false
no_semicolon ts none = none_from ts 0 (sym (position_from-zero is_semicolon ts) ∙ sym none)

pub semicolon_within : (n : ℕ) (o : Option ℕ) → n < 2 ^ 64 → IfSome o (λ k. k < n) → IfSome o (λ k. k < 2 ^ 64 - 1)
semicolon_within n None short below = tt
semicolon_within n (Some k) short below = omega arith

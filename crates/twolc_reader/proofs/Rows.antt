-- Rows of tokens, each of which is something, or none.
use Rattle.std.proofs.Common.{◌≡◌, List, [], ◌∷◌, map, Option, None, Some, refl, sym, ap}
use Rattle.std.specs.Option.{option_map, option_and_then}
use Rattle.twolc_tokens.specs.declared.token.Placed.{Placed}
use Rattle.twolc_tokens.specs.declared.token.Token.{Token}
use Rattle.twolc_grammar.specs.Sections.{tokens_of}
use Rattle.twolc_expressions.proofs.Made.{onto}
use Rattle.twolc_reader.specs.StatementReading.{each_found}

abbrev pub before : {Y B : Type 0} → (Y → B) → Y → List B → List B
before view y rest = view y ∷ rest

abbrev pub made : {B : Type 0} → (Token → Option B) → List Placed → Option (List B)
made of placed = each_found of (tokens_of placed)

abbrev pub itself : {B : Type 0} → B → B
itself x = x

pub all_viewed : {Y B : Type 0} (view : Y → B) (found : List Y) → map view found ≡ onto (before view) found []
all_viewed view [] = refl
all_viewed view (y ∷ ys) = ap (λ rest. view y ∷ rest) (all_viewed view ys)

pub all_plain : {B : Type 0} (found : List B) → found ≡ onto (before itself) found []
all_plain [] = refl
all_plain (y ∷ ys) = ap (λ rest. y ∷ rest) (all_plain ys)

pub stands : {Y B : Type 0} (view : Y → B) (of : Token → Option B) (p : Placed) (y : Y) → Some (view y) ≡ of p.token → (rest : List Placed) → made of (p ∷ rest) ≡ option_map (before view y) (made of rest)
stands view of p y e rest = ap (option_and_then (λ x. option_map (λ xs. x ∷ xs) (made of rest))) (sym e)

pub none : {B : Type 0} (of : Token → Option B) (p : Placed) → None ≡ of p.token → (rest : List Placed) → made of (p ∷ rest) ≡ None
none of p e rest = ap (option_and_then (λ x. option_map (λ xs. x ∷ xs) (made of rest))) (sym e)

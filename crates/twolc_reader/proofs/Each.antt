-- Lists of atoms, one after another.
use Rattle.std.proofs.Common.{◌≡◌, ℕ, List, [], ◌∷◌, ◌++◌, map, Option, None, Some, refl, sym, ap, ◌∙◌}
use Rattle.std.specs.Option.{option_map, option_and_then}
use Rattle.twolc_tokens.specs.declared.token.Operator.TheVariants.{Semicolon}
use Rattle.twolc_tokens.specs.declared.token.Token.{Token}
use Rattle.twolc_tokens.specs.declared.token.Token.TheVariants.{Operator as operator, Quoted as quoted, Atom as atom}
use Rattle.twolc_grammar.specs.Statements.{IsList}
use Rattle.twolc_expressions.specs.Reading.{IsFound}
use Rattle.twolc_reader.specs.StatementReading.{each_found, of_atom}

some_same : {A : Type 0} (x y : A) → Some x ≡ Some y → x ≡ y
some_same x y e = cc

heads : {A : Type 0} (x y : A) (xs ys : List A) → x ∷ xs ≡ y ∷ ys → x ≡ y
heads x y xs ys e = cc

tails : {A : Type 0} (x y : A) (xs ys : List A) → x ∷ xs ≡ y ∷ ys → xs ≡ ys
tails x y xs ys e = cc

cons_same : {A : Type 0} (x y : A) (xs ys : List A) → x ≡ y → xs ≡ ys → x ∷ xs ≡ y ∷ ys
cons_same x y xs ys e f = λ i. e i ∷ f i

-- what stands before the last item
pub fronts_same : {A : Type 0} (xs ys : List A) (t : A) → xs ++ t ∷ [] ≡ ys ++ t ∷ [] → xs ≡ ys
fronts_same [] [] t e = refl
fronts_same [] (y ∷ []) t e = absurd cc
fronts_same [] (y ∷ z ∷ ys) t e = absurd cc
fronts_same (x ∷ []) [] t e = absurd cc
fronts_same (x ∷ z ∷ xs) [] t e = absurd cc
fronts_same (x ∷ xs) (y ∷ ys) t e = cons_same x y xs ys (heads x y (xs ++ t ∷ []) (ys ++ t ∷ []) e) (fronts_same xs ys t (tails x y (xs ++ t ∷ []) (ys ++ t ∷ []) e))

-- atoms that are these
abbrev pub AreAtoms : {B : Type 0} → (List ℕ → Option B) → List Token → List B → Type 0
AreAtoms of tokens xs = (atoms : List (List ℕ)) × (tokens ≡ map atom atoms) × (map (λ x. Some x) xs ≡ map of atoms)

put : {B : Type 0} (of : List ℕ → Option B) (text : List ℕ) (ts : List Token) (y : B) (ys xs : List B) → AreAtoms of ts ys → of text ≡ Some y → y ∷ ys ≡ xs → AreAtoms of (atom text ∷ ts) xs
put of text ts y ys xs (atoms, spelled, said) is same =
    (text ∷ atoms, ap (λ more. atom text ∷ more) spelled, ap (map (λ x. Some x)) (sym same) ∙ cons_same (Some y) (of text) (map (λ x. Some x) ys) (map of atoms) (sym is) said)

pub each_takes : {B : Type 0} (of : List ℕ → Option B) (tokens : List Token) (xs : List B) → each_found (of_atom of) tokens ≡ Some xs → AreAtoms of tokens xs
each_takes of [] xs e = ([], refl, ap (map (λ x. Some x)) (sym (some_same [] xs e)))
each_takes of (operator o ∷ ts) xs e = absurd cc
each_takes of (quoted text ∷ ts) xs e = absurd cc
each_takes {B} of (atom text ∷ ts) xs e = by (of text) refl (each_found (of_atom of) ts) (λ ys h. each_takes of ts ys h) e
  where
    by : (o : Option B) → of text ≡ o → (rest : Option (List B)) → ((ys : List B) → rest ≡ Some ys → AreAtoms of ts ys) → option_and_then (λ y. option_map (λ ys. y ∷ ys) rest) o ≡ Some xs → AreAtoms of (atom text ∷ ts) xs
    by None is rest more e = absurd cc
    by (Some y) is None more e = absurd cc
    by (Some y) is (Some ys) more e = put of text ts y ys xs (more ys refl) is (some_same (y ∷ ys) xs e)

pub each_again : {B : Type 0} (of : List ℕ → Option B) (atoms : List (List ℕ)) (xs : List B) → map (λ x. Some x) xs ≡ map of atoms → each_found (of_atom of) (map atom atoms) ≡ Some xs
each_again of [] [] e = refl
each_again of [] (x ∷ xs) e = absurd cc
each_again of (a ∷ atoms) [] e = absurd cc
each_again of (a ∷ atoms) (x ∷ xs) e =
    ap (option_and_then (λ y. option_map (λ ys. y ∷ ys) (each_found (of_atom of) (map atom atoms)))) (sym (heads (Some x) (of a) (map (λ x. Some x) xs) (map of atoms) e))
    ∙ ap (option_map (λ ys. x ∷ ys)) (each_again of atoms xs (tails (Some x) (of a) (map (λ x. Some x) xs) (map of atoms) e))

none_again : {B : Type 0} (of : List ℕ → Option B) (front : List Token) (xs : List B) → None ≡ each_found (of_atom of) front → AreAtoms of front xs → ⊥
none_again of front xs none (atoms, spelled, said) = let clash : None ≡ Some xs = none ∙ ap (each_found (of_atom of)) spelled ∙ each_again of atoms xs said in cc

-- a list with its `;`
abbrev pub Listed : {B : Type 0} → (List ℕ → Option B) → List Token → List B → Type 0
Listed of tokens xs = (atoms : List (List ℕ)) × IsList tokens atoms × (map (λ x. Some x) xs ≡ map of atoms)

listed_front : {B : Type 0} (of : List ℕ → Option B) (tokens front : List Token) (xs : List B) → tokens ≡ front ++ operator Semicolon ∷ [] → Listed of tokens xs → AreAtoms of front xs
listed_front of tokens front xs split (atoms, list, said) = (atoms, fronts_same front (map atom atoms) (operator Semicolon) (sym split ∙ list), said)

pub list_found : {B : Type 0} (of : List ℕ → Option B) (tokens front : List Token) (o : Option (List B)) → tokens ≡ front ++ operator Semicolon ∷ [] → o ≡ each_found (of_atom of) front → IsFound (Listed of tokens) o
list_found of tokens front None split e = λ xs h. none_again of front xs e (listed_front of tokens front xs split h)
list_found of tokens front (Some xs) split e =
    let found = each_takes of front xs (sym e) in (found.0, split ∙ ap (λ f. f ++ operator Semicolon ∷ []) found.1, found.2)

pub list_none : {B : Type 0} (of : List ℕ → Option B) (tokens : List Token) → ((front : List Token) → tokens ≡ front ++ operator Semicolon ∷ [] → ⊥) → IsFound (Listed of tokens) None
list_none of tokens none = λ xs h. none (map atom h.0) h.1

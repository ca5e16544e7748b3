-- Statements by their tokens.
use Rattle.std.proofs.Common.{◌≡◌, ◌≤◌, ◌+◌, ℕ, zero, suc, Bool, true, false, ◌&&◌, not, List, [], ◌∷◌, ◌++◌, length, take, get_or, refl, sym, ap, subst, ◌∙◌, arith, length-append}
use Rattle.std.specs.Prelude.{codes}
use Rattle.std.specs.Str.{bytes_eq}
use Rattle.std.proofs.lemmas.Slice.Eq.{bytes_eq-Decides}
use Rattle.regex_tokens.specs.Bytes.{begins}
use Rattle.regex_tokens.specs.declared.token.Operator.TheVariants.{Semicolon}
use Rattle.regex_tokens.specs.declared.token.Place.{Place}
use Rattle.regex_tokens.specs.declared.token.Token.{Token}
use Rattle.regex_tokens.specs.declared.token.Token.TheVariants.{Operator as operator, Run as run}
use Rattle.regex_reader.specs.Files.{Placed, IsForm, tokens_of, places_of, plain_run, is_name, is_round, is_joined_round}
use Rattle.regex_reader.specs.Verdicts.{placed, fits}
use Rattle.regex_reader.proofs.Placed.{tokens_placed, places_placed}

tokens_append : (p : List Placed) (last : Placed) → tokens_of (p ++ last ∷ []) ≡ tokens_of p ++ last.token ∷ []
tokens_append [] last = refl
tokens_append (p ∷ ps) last = ap (λ (more : List Token). p.token ∷ more) (tokens_append ps last)

-- the tokens of a statement of this form
pub form_tokens : (p : List Placed) (name : List ℕ) (expression : List Placed) → IsForm p name expression → tokens_of p ≡ plain_run (codes "define") ∷ plain_run name ∷ tokens_of expression ++ operator Semicolon ∷ []
form_tokens p name expression form =
    ap tokens_of form.whole ∙ ap (λ (more : List Token). form.command.token ∷ form.name.token ∷ more) (tokens_append expression form.last) ∙ rw (form.command_is, form.name_is, form.last_is) refl

form_places : (p : List Placed) (name : List ℕ) (expression : List Placed) (form : IsForm p name expression) → places_of p ≡ form.command.place ∷ form.name.place ∷ places_of (expression ++ form.last ∷ [])
form_places p name expression form = ap places_of form.whole

abbrev run_of : Token → List ℕ
run_of (run r) = r.text
run_of _ = []

pub run_text : (a b : List ℕ) (r s : List Token) → plain_run a ∷ r ≡ plain_run b ∷ s → a ≡ b
run_text a b r s e = let first : plain_run a ≡ plain_run b = cc in ap run_of first

pub run_rest : (a b : List ℕ) (r s : List Token) → plain_run a ∷ r ≡ plain_run b ∷ s → r ≡ s
run_rest a b r s e = cc

pub fronts_same : (xs ys : List Token) (t : Token) → xs ++ t ∷ [] ≡ ys ++ t ∷ [] → xs ≡ ys
fronts_same [] [] t e = refl
fronts_same [] (y ∷ []) t e = absurd cc
fronts_same [] (y ∷ z ∷ ys) t e = absurd cc
fronts_same (x ∷ []) [] t e = absurd cc
fronts_same (x ∷ z ∷ xs) [] t e = absurd cc
fronts_same (x ∷ xs) (y ∷ ys) t e =
    let more : xs ≡ ys = fronts_same xs ys t cc in
    let first : x ≡ y = cc in
    rw (first, more) refl

-- the tokens of a form, where they stand at these places
found_tokens : (ts : List Token) (ps : List Place) (name : List ℕ) (expression : List Placed) → length ts ≡ length ps → IsForm (placed ts ps) name expression → ts ≡ plain_run (codes "define") ∷ plain_run name ∷ tokens_of expression ++ operator Semicolon ∷ []
found_tokens ts ps name expression same form = sym (tokens_placed ts ps same) ∙ form_tokens (placed ts ps) name expression form

pub no_command : (ts : List Token) (ps : List Place) → length ts ≡ length ps → ((text : List ℕ) (rest : List Token) → ts ≡ plain_run text ∷ rest → ⊥) → (name : List ℕ) (expression : List Placed) → IsForm (placed ts ps) name expression → ⊥
no_command ts ps same none name expression form = none _ _ (found_tokens ts ps name expression same form)

pub no_name : (ts : List Token) (ps : List Place) (command : List ℕ) (rest : List Token) → length ts ≡ length ps → ts ≡ plain_run command ∷ rest → ((text : List ℕ) (more : List Token) → rest ≡ plain_run text ∷ more → ⊥) → (name : List ℕ) (expression : List Placed) → IsForm (placed ts ps) name expression → ⊥
no_name ts ps command rest same first none name expression form = none _ _ (run_rest _ _ _ _ (sym first ∙ found_tokens ts ps name expression same form))

pub no_end : (ts : List Token) (ps : List Place) (command name : List ℕ) (rest more : List Token) → length ts ≡ length ps → ts ≡ plain_run command ∷ rest → rest ≡ plain_run name ∷ more → ((front : List Token) → more ≡ front ++ operator Semicolon ∷ [] → ⊥) → (n : List ℕ) (expression : List Placed) → IsForm (placed ts ps) n expression → ⊥
no_end ts ps command name rest more same first second none n expression form = none _ (run_rest _ _ _ _ (sym second ∙ run_rest _ _ _ _ (sym first ∙ found_tokens ts ps n expression same form)))

no_joined : (expression : List Placed) (last : Placed) (c n d : Place) → begins is_joined_round expression ≡ false → (begins is_round (tokens_of expression) && not (get_or (c ∷ n ∷ places_of (expression ++ last ∷ [])) 2 d).apart) ≡ false
no_joined [] last c n d none = refl
no_joined (p ∷ ps) last c n d none = none

fits_all : (a b c : Bool) → a ≡ true → b ≡ true → c ≡ false → (a && (b && not c)) ≡ true
fits_all a b c p q r = rw (p, q, r) refl

true_false : true ≡ false → ⊥
true_false e = absurd cc

pub no_fit : (ts : List Token) (ps : List Place) (command name : List ℕ) (rest more es : List Token) (d : Place) → length ts ≡ length ps → ts ≡ plain_run command ∷ rest → rest ≡ plain_run name ∷ more → more ≡ es ++ operator Semicolon ∷ [] → fits command name es (get_or ps 2 d).apart ≡ false
    → (n : List ℕ) (expression : List Placed) → IsForm (placed ts ps) n expression → ⊥
no_fit ts ps command name rest more es d same first second third unfit n expression form =
    let one = sym first ∙ found_tokens ts ps n expression same form in
    let two = sym second ∙ run_rest _ _ _ _ one in
    let command_is : command ≡ codes "define" = run_text _ _ _ _ one in
    let name_is : name ≡ n = run_text _ _ _ _ two in
    let expression_is : es ≡ tokens_of expression = fronts_same _ _ _ (sym third ∙ run_rest _ _ _ _ two) in
    let places = sym (places_placed ts ps same) ∙ form_places (placed ts ps) n expression form in
    let fit : fits (codes "define") n (tokens_of expression) (get_or (form.command.place ∷ form.name.place ∷ places_of (expression ++ form.last ∷ [])) 2 d).apart ≡ true =
    fits_all _ _ _ refl form.fine (no_joined expression form.last form.command.place form.name.place d form.no_parameters) in
    true_false (sym (rw (command_is, name_is, expression_is, places) fit) ∙ unfit)

bytes_same : (a b : List ℕ) → bytes_eq a b ≡ true → a ≡ b
bytes_same a b e = (bytes_eq-Decides a b).0 e

placed_last : (es : List Token) (t : Token) (ps : List Place) → length ps ≡ length es + 1 → (q : Place) × (placed (es ++ t ∷ []) ps ≡ placed es (take (length es) ps) ++ record { token = t; place = q } ∷ [])
placed_last es t [] long = absurd (omega arith)
placed_last [] t (q ∷ []) long = (q, refl)
placed_last [] t (q ∷ r ∷ ps) long = absurd (omega arith)
placed_last (e ∷ es) t (p ∷ ps) long = let deeper = placed_last es t ps (omega arith) in (deeper.0, ap (λ (more : List Placed). record { token = e; place = p } ∷ more) deeper.1)

fits_command : (a b c : Bool) → (a && (b && not c)) ≡ true → a ≡ true
fits_command true b c e = refl
fits_command false b c e = absurd cc

fits_name : (a b c : Bool) → (a && (b && not c)) ≡ true → b ≡ true
fits_name true true c e = refl
fits_name true false c e = absurd cc
fits_name false b c e = absurd cc

fits_expression : (a b c : Bool) → (a && (b && not c)) ≡ true → c ≡ false
fits_expression true true false e = refl
fits_expression true true true e = absurd cc
fits_expression true false c e = absurd cc
fits_expression false b c e = absurd cc

not_joined : (es : List Token) (p0 p1 d : Place) (ps : List Place) → length ps ≡ length es + 1 → (begins is_round es && not (get_or (p0 ∷ p1 ∷ ps) 2 d).apart) ≡ false → begins is_joined_round (placed es (take (length es) ps)) ≡ false
not_joined [] p0 p1 d ps long none = refl
not_joined (e ∷ es) p0 p1 d [] long none = absurd (omega arith)
not_joined (e ∷ es) p0 p1 d (p ∷ ps) long none = none

take_front : (n : ℕ) (ps : List Place) → n ≤ length ps → length (take n ps) ≡ n
take_front zero ps h = refl
take_front (suc n) [] h = absurd (omega arith)
take_front (suc n) (p ∷ ps) h = ap suc (take_front n ps (omega arith))

made : (command name : List ℕ) (es : List Token) (d : Place) (ps : List Place) → length (plain_run command ∷ plain_run name ∷ es ++ operator Semicolon ∷ []) ≡ length ps → fits command name es (get_or ps 2 d).apart ≡ true
    → (x : List Placed) × IsForm (placed (plain_run command ∷ plain_run name ∷ es ++ operator Semicolon ∷ []) ps) name x × (tokens_of x ≡ es)
made command name es d [] same fit = absurd (omega (arith, length-append es (operator Semicolon ∷ [])))
made command name es d (p0 ∷ []) same fit = absurd (omega (arith, length-append es (operator Semicolon ∷ [])))
made command name es d (p0 ∷ p1 ∷ ps) same fit =
    let long : length ps ≡ length es + 1 = omega (arith, length-append es (operator Semicolon ∷ [])) in
    let last = placed_last es (operator Semicolon) ps long in (
      placed es (take (length es) ps),
      record {
        command = record { token = plain_run command; place = p0 };
        name = record { token = plain_run name; place = p1 };
        last = record { token = operator Semicolon; place = last.0 };
        whole = ap (λ (more : List Placed). record { token = plain_run command; place = p0 } ∷ record { token = plain_run name; place = p1 } ∷ more) last.1;
        command_is = ap plain_run (bytes_same command (codes "define") (fits_command _ _ _ fit));
        name_is = refl;
        last_is = refl;
        fine = fits_name (bytes_eq command (codes "define")) _ (begins is_round es && not (get_or (p0 ∷ p1 ∷ ps) 2 d).apart) fit;
        no_parameters = not_joined es p0 p1 d ps long (fits_expression (bytes_eq command (codes "define")) (is_name name) _ fit);
      },
      tokens_placed es (take (length es) ps) (sym (take_front (length es) ps (omega arith))),
    )

pub is_form : (ts : List Token) (ps : List Place) (command name : List ℕ) (rest more es : List Token) (d : Place) → length ts ≡ length ps → ts ≡ plain_run command ∷ rest → rest ≡ plain_run name ∷ more → more ≡ es ++ operator Semicolon ∷ [] → fits command name es (get_or ps 2 d).apart ≡ true
    → (x : List Placed) × IsForm (placed ts ps) name x × (tokens_of x ≡ es)
is_form ts ps command name rest more es d same first second third fit =
    let whole : ts ≡ plain_run command ∷ plain_run name ∷ es ++ operator Semicolon ∷ [] = first ∙ ap (λ (r : List Token). plain_run command ∷ r) (second ∙ ap (λ (r : List Token). plain_run name ∷ r) third) in
    subst (λ (v : List Token). (x : List Placed) × IsForm (placed v ps) name x × (tokens_of x ≡ es)) (sym whole) (made command name es d ps (ap length (sym whole) ∙ same) fit)

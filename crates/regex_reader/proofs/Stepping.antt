-- A step of the loop over statements.
use Rattle.std.proofs.Common.{◌≡◌, ◌≢◌, Bool, true, false, ◌||◌, ◌+◌, ℕ, List, [], ◌∷◌, ◌++◌, length, map, take, drop, Some, Ok, Err, refl, sym, ap, subst, ◌∙◌, arith, length-drop}
use Rattle.std.specs.List.{position, list_any}
use Rattle.regex_ast.specs.declared.expr.Define.{Define}
use Rattle.regex_ast.specs.declared.expr.Raw.{Raw}
use Rattle.regex_ast.specs.declared.fault.ReadError.{ReadError}
use Rattle.regex_ast.specs.declared.fault.ReadError.TheVariants.{Fault, Memory}
use Rattle.regex_ast.specs.declared.fault.Why.{Why}
use Rattle.regex_ast.specs.declared.fault.Why.TheVariants as why
use Rattle.regex_tokens.specs.declared.token.Ending.{Ending}
use Rattle.regex_tokens.specs.declared.token.Ending.TheVariants.{Whole, NoToken}
use Rattle.regex_tokens.specs.declared.token.Operator.TheVariants.{Semicolon}
use Rattle.regex_tokens.specs.declared.token.Place.{Place}
use Rattle.regex_tokens.specs.declared.token.Token.{Token}
use Rattle.regex_tokens.specs.declared.token.Token.TheVariants.{Operator as operator}
use Rattle.regex_reader.specs.Files.{Placed, Statement, Says, nothing, no_token, unended, Verdict, IsOne, IsForm, statement_of, is_semicolon, is_too_deep, tokens_of, first_line}
use Rattle.regex_reader.specs.Reads.{IsAnswer}
use Rattle.regex_reader.specs.Verdicts.{placed, line_of, IsVerdict}
use Rattle.regex_reader.proofs.Placed.{one_statement, placed_split, tokens_placed}
use Rattle.regex_reader.proofs.Saying.{SoFar, go_on, refuse}
use Rattle.regex_reader.proofs.Statements.{too_deep, no_form}

statements_pushed : (defines : List (Define Raw)) (d : Define Raw) → map statement_of (defines ++ d ∷ []) ≡ map statement_of defines ++ statement_of d ∷ []
statements_pushed [] d = refl
statements_pushed (x ∷ defines) d = ap (λ (more : List Statement). statement_of x ∷ more) (statements_pushed defines d)

-- the tokens to the first `;`, and what is behind it
front_of : (rest : List Token) (places : List Place) (k : ℕ) (one : List Token) (one_places : List Place) → one ≡ take (k + 1) rest → one_places ≡ take (k + 1) places → Some k ≡ position is_semicolon rest → length rest ≡ length places → IsOne (placed one one_places)
front_of rest places k one one_places front front_places first same = rw (front, front_places) (one_statement rest places k same first)

apart : (rest : List Token) (places : List Place) (k : ℕ) (one behind : List Token) (one_places places_behind : List Place) → one ≡ take (k + 1) rest → one_places ≡ take (k + 1) places → behind ≡ drop (k + 1) rest → places_behind ≡ drop (k + 1) places → length rest ≡ length places
    → placed rest places ≡ placed one one_places ++ placed behind places_behind
apart rest places k one behind one_places places_behind front front_places back back_places same = rw (front, front_places, back, back_places) (placed_split (k + 1) rest places same)

pub step : (ts : List Token) (ps : List Place) (rest : List Token) (places : List Place) (ending : Ending) (defines : List (Define Raw)) (d : Define Raw) (k : ℕ) (one : List Token) (one_places : List Place) (behind : List Token) (places_behind : List Place) (new : List (Define Raw))
    → one ≡ take (k + 1) rest → one_places ≡ take (k + 1) places → behind ≡ drop (k + 1) rest → places_behind ≡ drop (k + 1) places → Some k ≡ position is_semicolon rest → length rest ≡ length places → SoFar (placed ts ps) (placed rest places) ending (map statement_of defines)
    → Verdict (placed one one_places) (Ok (statement_of d)) → new ≡ defines ++ d ∷ [] → (length behind ≡ length places_behind) × SoFar (placed ts ps) (placed behind places_behind) ending (map statement_of new)
step ts ps rest places ending defines d k one one_places behind places_behind new front front_places back back_places first same so_far verdict pushed =
    let split = apart rest places k one behind one_places places_behind front front_places back back_places same in
    let found = go_on (placed ts ps) (placed one one_places) (placed behind places_behind) ending (map statement_of defines) (statement_of d) (front_of rest places k one one_places front front_places first same) verdict (subst (λ (v : List Placed). SoFar (placed ts ps) v ending (map statement_of defines)) split so_far) in
    let said = sym (ap (map statement_of) pushed ∙ statements_pushed defines d) in
    (omega (arith, ap length back, ap length back_places, length-drop (k + 1) rest, length-drop (k + 1) places), subst (λ (v : List Statement). SoFar (placed ts ps) (placed behind places_behind) ending v) said found)

pub stopped : (ts : List Token) (ps : List Place) (rest : List Token) (places : List Place) (ending : Ending) (found : List Statement) (k : ℕ) (one : List Token) (one_places : List Place) (error : ReadError)
    → one ≡ take (k + 1) rest → one_places ≡ take (k + 1) places → Some k ≡ position is_semicolon rest → length rest ≡ length places → SoFar (placed ts ps) (placed rest places) ending found
    → IsVerdict (placed one one_places) (Err error) → IsAnswer (Says (placed ts ps) ending) (Err error)
stopped ts ps rest places ending found k one one_places (Fault line reason) front front_places first same so_far verdict =
    let split = apart rest places k one (drop (k + 1) rest) one_places (drop (k + 1) places) front front_places refl refl same in
    refuse (placed ts ps) (placed one one_places) (placed (drop (k + 1) rest) (drop (k + 1) places)) ending found line reason (front_of rest places k one one_places front front_places first same) verdict (subst (λ (v : List Placed). SoFar (placed ts ps) v ending found) split so_far)
stopped ts ps rest places ending found k one one_places (Memory error) front front_places first same so_far verdict = verdict

-- tokens without a `;` at the end

is_whole : (ending : Ending) → ((line : ℕ) → ending ≡ NoToken line → ⊥) → Whole ≡ ending
is_whole Whole other = refl
is_whole (NoToken line) other = absurd (other line refl)

no_other : (ts : List Token) (ps : List Place) → length ts ≡ length ps → list_any is_semicolon ts ≡ false → list_any is_semicolon (tokens_of (placed ts ps)) ≡ false
no_other ts ps same none = ap (list_any is_semicolon) (tokens_placed ts ps same) ∙ none

pub no_token_there : (ts : List Token) (ps : List Place) (ending : Ending) (line : ℕ) → length ts ≡ length ps → list_any is_semicolon ts ≡ false → ending ≡ NoToken line → Says (placed ts ps) ending (Err (record { line = line; why = why.Token }))
no_token_there ts ps ending line same none is = subst (λ (e : Ending). Says (placed ts ps) e (Err (record { line = line; why = why.Token }))) (sym is) (no_token (placed ts ps) line (no_other ts ps same none))

pub nothing_left : (ts : List Token) (ps : List Place) (ending : Ending) → length ts ≡ 0 → ((line : ℕ) → ending ≡ NoToken line → ⊥) → Says (placed ts ps) ending (Ok [])
nothing_left [] ps ending none other = subst (λ (e : Ending). Says [] e (Ok [])) (is_whole ending other) nothing
nothing_left (t ∷ ts) ps ending none other = absurd (omega arith)

filled : (ts : List Token) (ps : List Place) → length ts ≢ 0 → length ts ≡ length ps → placed ts ps ≢ []
filled [] ps some same = absurd (some refl)
filled (t ∷ ts) [] some same = absurd (omega arith)
filled (t ∷ ts) (p ∷ ps) some same = λ e. absurd cc

unended_there : (ts : List Token) (ps : List Place) (ending : Ending) (line : ℕ) (reason : Why) → length ts ≡ length ps → length ts ≢ 0 → list_any is_semicolon ts ≡ false → ((line : ℕ) → ending ≡ NoToken line → ⊥) → (line ≡ first_line (placed ts ps)) × Verdict (placed ts ps) (Err reason)
    → Says (placed ts ps) ending (Err (record { line = line; why = reason }))
unended_there ts ps ending line reason same some none other (at, verdict) =
    subst (λ (n : ℕ). Says (placed ts ps) ending (Err (record { line = n; why = reason }))) (sym at)
    (subst (λ (e : Ending). Says (placed ts ps) e (Err (record { line = first_line (placed ts ps); why = reason }))) (is_whole ending other) (unended (placed ts ps) reason (filled ts ps some same) (no_other ts ps same none) verdict))

pub deep_at_end : (ts : List Token) (ps : List Place) (ending : Ending) (line : ℕ) (reason : Why) → length ts ≡ length ps → length ts ≢ 0 → list_any is_semicolon ts ≡ false → ((line : ℕ) → ending ≡ NoToken line → ⊥) → line ≡ line_of ps → true ≡ is_too_deep 0 ts → reason ≡ why.LimitNesting
    → Says (placed ts ps) ending (Err (record { line = line; why = reason }))
deep_at_end ts ps ending line reason same some none other at is reason_is =
    subst (λ (v : Why). Says (placed ts ps) ending (Err (record { line = line; why = v }))) (sym reason_is) (unended_there ts ps ending line why.LimitNesting same some none other (too_deep ts ps line same at is))

pub has_semicolon : (xs : List Placed) (last : Placed) → last.token ≡ operator Semicolon → list_any is_semicolon (tokens_of (xs ++ last ∷ [])) ≡ true
has_semicolon [] last is = rw is refl
has_semicolon (x ∷ xs) last is = any_more (is_semicolon x.token) _ (has_semicolon xs last is)
  where
    any_more : (a b : Bool) → b ≡ true → (a || b) ≡ true
    any_more true b e = refl
    any_more false b e = e

true_false : true ≡ false → ⊥
true_false e = absurd cc

formless : (p : List Placed) → list_any is_semicolon (tokens_of p) ≡ false → (name : List ℕ) (expression : List Placed) → IsForm p name expression → ⊥
formless p none name expression form = true_false (sym (has_semicolon (form.command ∷ form.name ∷ expression) form.last form.last_is) ∙ ap (λ (v : List Placed). list_any is_semicolon (tokens_of v)) (sym form.whole) ∙ none)

pub open_at_end : (ts : List Token) (ps : List Place) (ending : Ending) (line : ℕ) (reason : Why) → length ts ≡ length ps → length ts ≢ 0 → list_any is_semicolon ts ≡ false → ((line : ℕ) → ending ≡ NoToken line → ⊥) → line ≡ line_of ps → false ≡ is_too_deep 0 ts → reason ≡ why.Statement
    → Says (placed ts ps) ending (Err (record { line = line; why = reason }))
open_at_end ts ps ending line reason same some none other at is reason_is =
    subst (λ (v : Why). Says (placed ts ps) ending (Err (record { line = line; why = v }))) (sym reason_is)
    (unended_there ts ps ending line why.Statement same some none other (no_form ts ps line same at is (formless (placed ts ps) (no_other ts ps same none))))

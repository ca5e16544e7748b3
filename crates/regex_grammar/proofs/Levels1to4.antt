-- Leaves, brackets, `\`, `:` and suffixes are read exactly.
use Rattle.std.proofs.Common.{◌≡◌, ◌<◌, ◌&&◌, ◌||◌, not, Bool, true, false, cond, Some, None, List, [], ◌∷◌, length, refl, sym, ap, ◌∙◌, arith}
use Rattle.std.specs.Prelude.{⊤}
use Rattle.std.specs.Option.{option_map, option_and_then}
use Rattle.regex_ast.specs.Terms.{Term, empty, any, edge, group, maybe}
use Rattle.regex_ast.specs.declared.expr.Raw.{Raw}
use Rattle.regex_ast.specs.declared.expr.Suffix.{Suffix}
use Rattle.regex_ast.specs.declared.expr.Suffix.TheVariants.{Star as any_number, Plus as one_or_more, Power as times, Upper as upper_side, Lower as lower_side, Inverse as inverse, Reverse as reverse}
use Rattle.regex_tokens.specs.Fronts.{after}
use Rattle.regex_tokens.specs.declared.token.Run.{Run}
use Rattle.regex_tokens.specs.declared.token.Operator.{Operator}
use Rattle.regex_tokens.specs.declared.token.Operator.TheVariants.{OpenSquare, CloseSquare, OpenRound, CloseRound, Backslash, Star, Plus, Caret, Colon, Question, Upper, Lower, Inverse, Reverse, Edge}
use Rattle.regex_tokens.specs.declared.token.Token.{Token}
use Rattle.regex_tokens.specs.declared.token.Token.TheVariants.{Operator as operator, Quoted as quoted_token, Braced as braced_token, Run as run_token}
use Rattle.regex_tokens.proofs.Fronts.{after_takes, after_again}
use Rattle.regex_grammar.specs.Rows.{Reader, begins}
use Rattle.regex_grammar.specs.Grammar.{run, quoted, braced, Primary, leaf, question, boundary, blank, grouped, optional, is_number, power_value, SuffixForm, star, plus, power, upper, lower, inverted, reversed, put_primary, put_backslash, put_negated, put_crossed, put_suffix, put_suffixed, run_term, quoted_term, braced_term, primary_term, with_backslashes, negated_term, with_lower, crossed_term, suffix_of, with_suffixes, suffixed_term}
use Rattle.regex_grammar.specs.Reading.{level, is_level, is_backslash, is_prefix, bracket_at, square_by, square_at, primary_at, backslash_of, negated_at, crossed_at, power_of, power_at, suffix_at, suffixed_at}
use Rattle.regex_grammar.proofs.Cases.{if_cases, map_some, then_some, same_some, either_way}
use Rattle.regex_grammar.proofs.Exact.{Exact, Lead, row_exact, tailed_exact, led_exact}
use Rattle.regex_grammar.proofs.Operators.{goes_on, tighter, follow, no_after, Found, Marks, marks_exact, behind_exact}

-- what begins a level 1, and what begins a level 2
abbrev pub begins_primary : Token → Bool
begins_primary t = is_level 7 t && not (is_backslash t || is_prefix t)

abbrev pub begins_negated : Token → Bool
begins_negated t = is_level 7 t && not (is_prefix t)

-- Level 1.

-- one token that says this
single_found : {E : Type 0} (put : E → List Token → List Token) (says : E → Term Raw) (p : Primary E) (t : Token) (v : Term Raw) (rest : List Token) (x : Term Raw × List Token) → ((us : List Token) → put_primary put p us ≡ t ∷ us) → primary_term says p ≡ v → Some (v, rest) ≡ Some x → Found (put_primary put) (primary_term says) (t ∷ rest) x
single_found put says p t v rest x spelled value e =
    let here : Term Raw × List Token = (v, rest) in
    let same : here ≡ x = same_some here x e in
    (p, ap (λ (z : Term Raw × List Token). t ∷ z.1) same ∙ sym (spelled x.1), value ∙ ap (λ (z : Term Raw × List Token). z.0) same)

bracket_takes : {E : Type 0} {put : E → List Token → List Token} {says : E → Term Raw} {inner : Reader Token (Term Raw)} {starts goes : Token → Bool} (make : Term Raw → Term Raw) (last : Operator) → Exact inner put says starts goes
    → (tokens : List Token) (x : Term Raw × List Token) → bracket_at make last inner tokens ≡ Some x → (e : E) × (tokens ≡ put e (operator last ∷ x.1)) × (make (says e) ≡ x.0)
bracket_takes {E} {put = put} {says = says} {inner = inner} make last h tokens x e = then_some _ (inner tokens) x e (λ y first more. map_some _ (after last y.1) x more (λ rest closes same.
    found y rest (after_takes last y.1 rest closes) same (h.takes tokens y first)))
  where
    found : (y : Term Raw × List Token) (rest : List Token) → y.1 ≡ operator last ∷ rest → (make y.0, rest) ≡ x → (e : E) × (tokens ≡ put e y.1) × (says e ≡ y.0) → (e : E) × (tokens ≡ put e (operator last ∷ x.1)) × (make (says e) ≡ x.0)
    found y rest closes same (e, spelled, value) = (
      e,
      spelled ∙ ap (put e) (closes ∙ ap (λ (z : Term Raw × List Token). operator last ∷ z.1) same),
      ap make value ∙ ap (λ (z : Term Raw × List Token). z.0) same,
    )

bracket_again : {E : Type 0} {put : E → List Token → List Token} {says : E → Term Raw} {inner : Reader Token (Term Raw)} {starts goes : Token → Bool} (make : Term Raw → Term Raw) (last : Operator) → Exact inner put says starts goes
    → goes (operator last) ≡ false → (e : E) (rest : List Token) → bracket_at make last inner (put e (operator last ∷ rest)) ≡ Some (make (says e), rest)
bracket_again {says = says} make last h stop e rest =
    ap (option_and_then (λ (x : Term Raw × List Token). option_map (λ r. (make x.0, r)) (after last x.1))) (h.again e (operator last ∷ rest) stop)
    ∙ ap (option_map (λ r. (make (says e), r))) (after_again last rest)

square_takes : {E : Type 0} {put : E → List Token → List Token} {says : E → Term Raw} {inner : Reader Token (Term Raw)} {starts goes : Token → Bool} → Exact inner put says starts goes
    → (rest : List Token) (x : Term Raw × List Token) → square_at inner rest ≡ Some x → Found (put_primary put) (primary_term says) (operator OpenSquare ∷ rest) x
square_takes {E} {put = put} {says = says} {inner = inner} h rest x e = either_way (after CloseSquare rest)
    (λ none. group_found (bracket_takes group CloseSquare h rest x (sym (ap (λ o. square_by o inner rest) none) ∙ e)))
    (λ behind some. blank_found behind (after_takes CloseSquare rest behind some) (sym (ap (λ o. square_by o inner rest) some) ∙ e))
  where
    group_found : (e : E) × (rest ≡ put e (operator CloseSquare ∷ x.1)) × (group (says e) ≡ x.0) → Found (put_primary put) (primary_term says) (operator OpenSquare ∷ rest) x
    group_found (e, spelled, value) = (grouped e, ap (λ us. operator OpenSquare ∷ us) spelled, value)

    blank_found : (behind : List Token) → rest ≡ operator CloseSquare ∷ behind → Some (empty, behind) ≡ Some x → Found (put_primary put) (primary_term says) (operator OpenSquare ∷ rest) x
    blank_found behind closes e =
        let here : Term Raw × List Token = (empty, behind) in
        let same : here ≡ x = same_some here x e in
        (blank, ap (λ us. operator OpenSquare ∷ us) (closes ∙ ap (λ (z : Term Raw × List Token). operator CloseSquare ∷ z.1) same), ap (λ (z : Term Raw × List Token). z.0) same)

round_takes : {E : Type 0} {put : E → List Token → List Token} {says : E → Term Raw} {inner : Reader Token (Term Raw)} {starts goes : Token → Bool} → Exact inner put says starts goes
    → (rest : List Token) (x : Term Raw × List Token) → bracket_at maybe CloseRound inner rest ≡ Some x → Found (put_primary put) (primary_term says) (operator OpenRound ∷ rest) x
round_takes {E} {put = put} {says = says} h rest x e = found (bracket_takes maybe CloseRound h rest x e)
  where
    found : (e : E) × (rest ≡ put e (operator CloseRound ∷ x.1)) × (maybe (says e) ≡ x.0) → Found (put_primary put) (primary_term says) (operator OpenRound ∷ rest) x
    found (e, spelled, value) = (optional e, ap (λ us. operator OpenRound ∷ us) spelled, value)

primary_takes : {E : Type 0} {put : E → List Token → List Token} {says : E → Term Raw} {inner : Reader Token (Term Raw)} {starts goes : Token → Bool} → Exact inner put says starts goes
    → (tokens : List Token) (x : Term Raw × List Token) → primary_at inner tokens ≡ Some x → Found (put_primary put) (primary_term says) tokens x
primary_takes h [] x e = absurd cc
primary_takes {put = put} {says = says} h (run_token r ∷ rest) x e = single_found put says (leaf (run r)) (run_token r) (run_term r.text r.escaped) rest x (λ us. refl) refl e
primary_takes {put = put} {says = says} h (quoted_token cs ∷ rest) x e = single_found put says (leaf (quoted cs)) (quoted_token cs) (quoted_term cs) rest x (λ us. refl) refl e
primary_takes {put = put} {says = says} h (braced_token cs ∷ rest) x e = single_found put says (leaf (braced cs)) (braced_token cs) (braced_term cs) rest x (λ us. refl) refl e
primary_takes {put = put} {says = says} h (operator Question ∷ rest) x e = single_found put says question (operator Question) any rest x (λ us. refl) refl e
primary_takes {put = put} {says = says} h (operator Edge ∷ rest) x e = single_found put says boundary (operator Edge) edge rest x (λ us. refl) refl e
primary_takes h (operator OpenSquare ∷ rest) x e = square_takes h rest x e
primary_takes h (operator OpenRound ∷ rest) x e = round_takes h rest x e
primary_takes h (operator _ ∷ rest) x e = absurd cc

primary_again : {E : Type 0} {put : E → List Token → List Token} {says : E → Term Raw} {inner : Reader Token (Term Raw)} {starts goes : Token → Bool} → Exact inner put says starts goes
    → starts (operator CloseSquare) ≡ false → goes (operator CloseSquare) ≡ false → goes (operator CloseRound) ≡ false
    → (p : Primary E) (rest : List Token) → primary_at inner (put_primary put p rest) ≡ Some (primary_term says p, rest)
primary_again h closes square round (leaf (run r)) rest = refl
primary_again h closes square round (leaf (quoted cs)) rest = refl
primary_again h closes square round (leaf (braced cs)) rest = refl
primary_again h closes square round question rest = refl
primary_again h closes square round boundary rest = refl
primary_again {inner = inner} h closes square round blank rest = ap (λ o. square_by o inner (operator CloseSquare ∷ rest)) (after_again CloseSquare rest)
primary_again {put = put} {inner = inner} {starts = starts} h closes square round (grouped e) rest =
    ap (λ o. square_by o inner (put e (operator CloseSquare ∷ rest))) (no_after CloseSquare starts closes (put e (operator CloseSquare ∷ rest)) (h.begun e (operator CloseSquare ∷ rest)))
    ∙ bracket_again group CloseSquare h square e rest
primary_again h closes square round (optional e) rest = bracket_again maybe CloseRound h round e rest

primary_begun : {E : Type 0} (put : E → List Token → List Token) (p : Primary E) (rest : List Token) → begins begins_primary (put_primary put p rest) ≡ true
primary_begun put (leaf (run r)) rest = refl
primary_begun put (leaf (quoted cs)) rest = refl
primary_begun put (leaf (braced cs)) rest = refl
primary_begun put question rest = refl
primary_begun put boundary rest = refl
primary_begun put blank rest = refl
primary_begun put (grouped e) rest = refl
primary_begun put (optional e) rest = refl

primary_grows : {E : Type 0} {put : E → List Token → List Token} {says : E → Term Raw} {inner : Reader Token (Term Raw)} {starts goes : Token → Bool} → Exact inner put says starts goes
    → (p : Primary E) (rest : List Token) → length rest < length (put_primary put p rest)
primary_grows h (leaf a) rest = omega arith
primary_grows h question rest = omega arith
primary_grows h boundary rest = omega arith
primary_grows h blank rest = omega arith
primary_grows h (grouped e) rest = omega (arith, h.grows e (operator CloseSquare ∷ rest))
primary_grows h (optional e) rest = omega (arith, h.grows e (operator CloseRound ∷ rest))

-- what stands in brackets is read exactly, doesn't begin with `]`, and doesn't go on at `]` or `)`
pub record Inside {E : Type 0} (inner : Reader Token (Term Raw)) (put : E → List Token → List Token) (says : E → Term Raw) : Type 0 where
  pub starts : Token → Bool
  pub goes : Token → Bool
  pub exact : Exact inner put says starts goes
  pub no_empty : starts (operator CloseSquare) ≡ false
  pub square_ends : goes (operator CloseSquare) ≡ false
  pub round_ends : goes (operator CloseRound) ≡ false

pub primary_exact : {E : Type 0} {inner : Reader Token (Term Raw)} {put : E → List Token → List Token} {says : E → Term Raw} → Inside inner put says → Exact (primary_at inner) (put_primary put) (primary_term says) begins_primary (goes_on 0)
primary_exact {put = put} h = record {
  takes = primary_takes h.exact;
  again = λ p rest _. primary_again h.exact h.no_empty h.square_ends h.round_ends p rest;
  begun = primary_begun put;
  grows = primary_grows h.exact;
}

-- Level 2.

pub backslash_marks : Marks backslash_of put_backslash (λ m. m) is_backslash
backslash_marks = record {
  known = known;
  spelled = λ m. (Backslash, (λ rest. refl), same m, refl);
}
  where
    known : (o : Operator) (t : ⊤) → backslash_of o ≡ Some t → (m : ⊤) × ((rest : List Token) → put_backslash m rest ≡ operator o ∷ rest) × (m ≡ t)
    known Backslash t e = (t, (λ rest. refl), refl)
    known _ t e = absurd cc

    same : (m : ⊤) → Some tt ≡ Some m
    same m = refl

no_mark : (a b c : Bool) → (a && not (b || c)) ≡ true → b ≡ false
no_mark true false false e = refl
no_mark true true c e = absurd cc
no_mark true false true e = absurd cc
no_mark false b c e = absurd cc

no_prefix_either : (a b c : Bool) → (a && not (b || c)) ≡ true → (a && not c) ≡ true
no_prefix_either true false false e = refl
no_prefix_either true true c e = absurd cc
no_prefix_either true false true e = absurd cc
no_prefix_either false b c e = absurd cc

pub level_seven : (a b : Bool) → (a && b) ≡ true → a ≡ true
level_seven true b e = refl
level_seven false b e = absurd cc

backslash_ends : (t : Token) → is_backslash t ≡ true → goes_on 0 t ≡ false
backslash_ends (operator Backslash) e = refl
backslash_ends _ e = absurd cc

backslash_begins : (t : Token) → is_backslash t ≡ true → begins_negated t ≡ true
backslash_begins (operator Backslash) e = refl
backslash_begins _ e = absurd cc

negated_lead : Lead is_backslash (goes_on 0) begins_primary begins_negated
negated_lead = record {
  item_mark = λ t e. no_mark (is_level 7 t) (is_backslash t) (is_prefix t) e;
  item_ends = λ t e. tighter (level t) 0 7 (omega arith) (level_seven (is_level 7 t) _ e);
  mark_ends = backslash_ends;
  mark_starts = backslash_begins;
  item_starts = λ t e. no_prefix_either (is_level 7 t) (is_backslash t) (is_prefix t) e;
}

pub negated_exact : {E : Type 0} {inner : Reader Token (Term Raw)} {put : E → List Token → List Token} {says : E → Term Raw} → Inside inner put says → Exact (negated_at inner) (put_negated put) (negated_term says) begins_negated (goes_on 0)
negated_exact h = led_exact with_backslashes (marks_exact (goes_on 0) backslash_marks) (primary_exact h) negated_lead

-- Level 3.

pub crossed_exact : {E : Type 0} {inner : Reader Token (Term Raw)} {put : E → List Token → List Token} {says : E → Term Raw} → Inside inner put says → Exact (crossed_at inner) (put_crossed put) (crossed_term says) begins_negated (goes_on 3)
crossed_exact h = tailed_exact with_lower (negated_exact h) (behind_exact Colon (is_level 3) (λ t. t) refl (negated_exact h)) (follow 0 0 3 (omega arith) (omega arith))

-- Level 4.

suffix_found : (o : Operator) (form : SuffixForm) (s : Suffix) (rest : List Token) (x : Suffix × List Token) → ((us : List Token) → put_suffix form us ≡ operator o ∷ us) → suffix_of form ≡ s → Some (s, rest) ≡ Some x → Found put_suffix suffix_of (operator o ∷ rest) x
suffix_found o form s rest x spelled value e =
    let here : Suffix × List Token = (s, rest) in
    let same : here ≡ x = same_some here x e in
    (form, ap (λ (z : Suffix × List Token). operator o ∷ z.1) same ∙ sym (spelled x.1), value ∙ ap (λ (z : Suffix × List Token). z.0) same)

power_found : (r : Run) (escaped : Bool) (rest : List Token) (x : Suffix × List Token) → r.escaped ≡ escaped → option_map (λ (s : Suffix). (s, rest)) (power_of r.text escaped) ≡ Some x → Found put_suffix suffix_of (operator Caret ∷ run_token r ∷ rest) x
power_found r true rest x is e = absurd cc
power_found r false rest x is e = map_some _ (power_of r.text false) x e (λ s found same. if_cases (is_number r.text) _ _ _ found
    (λ decimal some. (
      power (record { run = r; plain = is; decimal = decimal }),
      ap (λ (z : Suffix × List Token). operator Caret ∷ run_token r ∷ z.1) same,
      same_some (times (power_value r.text)) s some ∙ ap (λ (z : Suffix × List Token). z.0) same,
    ))
    (λ _ none. absurd cc))

power_takes : (tokens : List Token) (x : Suffix × List Token) → power_at tokens ≡ Some x → Found put_suffix suffix_of (operator Caret ∷ tokens) x
power_takes [] x e = absurd cc
power_takes (run_token r ∷ rest) x e = power_found r r.escaped rest x refl e
power_takes (_ ∷ rest) x e = absurd cc

suffix_takes : (tokens : List Token) (x : Suffix × List Token) → suffix_at tokens ≡ Some x → Found put_suffix suffix_of tokens x
suffix_takes [] x e = absurd cc
suffix_takes (operator Star ∷ rest) x e = suffix_found Star star any_number rest x (λ us. refl) refl e
suffix_takes (operator Plus ∷ rest) x e = suffix_found Plus plus one_or_more rest x (λ us. refl) refl e
suffix_takes (operator Caret ∷ rest) x e = power_takes rest x e
suffix_takes (operator Upper ∷ rest) x e = suffix_found Upper upper upper_side rest x (λ us. refl) refl e
suffix_takes (operator Lower ∷ rest) x e = suffix_found Lower lower lower_side rest x (λ us. refl) refl e
suffix_takes (operator Inverse ∷ rest) x e = suffix_found Inverse inverted inverse rest x (λ us. refl) refl e
suffix_takes (operator Reverse ∷ rest) x e = suffix_found Reverse reversed reverse rest x (λ us. refl) refl e
suffix_takes (_ ∷ rest) x e = absurd cc

suffix_again : (s : SuffixForm) (rest : List Token) → suffix_at (put_suffix s rest) ≡ Some (suffix_of s, rest)
suffix_again star rest = refl
suffix_again plus rest = refl
suffix_again (power n) rest =
    ap (λ b. option_map (λ (s : Suffix). (s, rest)) (power_of n.run.text b)) n.plain
    ∙ ap (λ b. option_map (λ (s : Suffix). (s, rest)) (cond b (Some (times (power_value n.run.text))) None)) n.decimal
suffix_again upper rest = refl
suffix_again lower rest = refl
suffix_again inverted rest = refl
suffix_again reversed rest = refl

suffix_begun : (s : SuffixForm) (rest : List Token) → begins (is_level 4) (put_suffix s rest) ≡ true
suffix_begun star rest = refl
suffix_begun plus rest = refl
suffix_begun (power n) rest = refl
suffix_begun upper rest = refl
suffix_begun lower rest = refl
suffix_begun inverted rest = refl
suffix_begun reversed rest = refl

suffix_grows : (s : SuffixForm) (rest : List Token) → length rest < length (put_suffix s rest)
suffix_grows star rest = omega arith
suffix_grows plus rest = omega arith
suffix_grows (power n) rest = omega arith
suffix_grows upper rest = omega arith
suffix_grows lower rest = omega arith
suffix_grows inverted rest = omega arith
suffix_grows reversed rest = omega arith

pub suffix_exact : Exact suffix_at put_suffix suffix_of (is_level 4) (goes_on 0)
suffix_exact = record { takes = suffix_takes; again = λ s rest _. suffix_again s rest; begun = suffix_begun; grows = suffix_grows }

pub suffixed_exact : {E : Type 0} {inner : Reader Token (Term Raw)} {put : E → List Token → List Token} {says : E → Term Raw} → Inside inner put says → Exact (suffixed_at inner) (put_suffixed put) (suffixed_term says) begins_negated (goes_on 4)
suffixed_exact h = row_exact with_suffixes (crossed_exact h) suffix_exact (follow 3 0 4 (omega arith) (omega arith))

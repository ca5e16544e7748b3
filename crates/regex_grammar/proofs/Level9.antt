-- Contexts, rules and restrictions are read exactly, where level 8 is.
use Rattle.std.proofs.Common.{◌≡◌, ◌<◌, ◌||◌, Bool, true, false, Option, Some, None, List, [], ◌∷◌, length, refl, sym, ap, ◌∙◌, arith}
use Rattle.std.specs.Option.{option_map, option_and_then}
use Rattle.regex_ast.specs.Terms.{Term, empty}
use Rattle.regex_ast.specs.declared.expr.Raw.{Raw}
use Rattle.regex_ast.specs.declared.expr.Side.{Side}
use Rattle.regex_ast.specs.declared.expr.Side.TheVariants.{UpUp as up_up, LowUp as low_up, UpLow as up_low, LowLow as low_low}
use Rattle.regex_ast.specs.declared.expr.Way.{Way}
use Rattle.regex_ast.specs.declared.expr.Way.TheVariants.{LeftLongest as left_longest, LeftShortest as left_shortest, RightLongest as right_longest, RightShortest as right_shortest}
use Rattle.regex_tokens.specs.Fronts.{after}
use Rattle.regex_tokens.specs.declared.token.Operator.{Operator}
use Rattle.regex_tokens.specs.declared.token.Operator.TheVariants.{Optional, Arrow, LeftLongest, LeftShortest, RightLongest, RightShortest, Only, UpUp, LowUp, UpLow, LowLow, GroupComma, Comma, Underscore, Dots, Insertion}
use Rattle.regex_tokens.specs.declared.token.Token.{Token}
use Rattle.regex_tokens.specs.declared.token.Token.TheVariants.{Operator as operator}
use Rattle.regex_tokens.proofs.Fronts.{after_takes, after_again}
use Rattle.regex_grammar.specs.Rows.{Reader, Tailed, put_option, put_row, put_tailed, row_value, tailed_value, begins, option_at, tailed_at}
use Rattle.regex_grammar.specs.Grammar.{ContextForm, ContextRow, Sided, RightSide, result, marks, MappingRow, Ruling, restricted, replaced, directed, Nine, ruled, inserted, put_context, put_contexts, side_operator, put_sided, put_right, arrow_operator, way_operator, put_mapping, put_mapping_row, put_group_tail, put_group, put_ruling, put_nine, part, ContextTerm, context_value, in_a_row, contexts_value, SidedTerm, sided_value, RightTerm, result_term, marks_term, right_value, mapping_by, mapping_value, right_and_more, mapping_row_value, group_tail_by, group_tail_value, group_by, group_value, RulingTerm, restriction, replacement_by, direction_by, ruling_value, with_ruling, insertion_by, nine_term, put_behind}
use Rattle.regex_grammar.specs.Reading.{is_level, is_up_up, is_insertion, context_behind, context_at, contexts_at, side_of, sided_at, dots_at, right_by, right_from, right_at, mapping_at, mapping_row_at, group_tail_at, group_at, replacement_at, directed_at, ruling_at, arrow_of, insertion_at, nine_by, nine_at}
use Rattle.regex_grammar.proofs.Cases.{map_some, then_some, same_some, either_way}
use Rattle.regex_grammar.proofs.Exact.{Exact, Follow, Held, front_fails, front_passes, option_takes, option_again, option_grows, option_begun, row_exact, tailed_exact, mapped_exact}
use Rattle.regex_grammar.proofs.Operators.{goes_on, ends_smaller, starts_none, follow, no_after, stopped_after, Found, Forms, forms_exact, behind_exact, Joins, joins_exact}

-- what begins a context, a right side and a level 9
abbrev pub begins_context : Token → Bool
begins_context t = is_level 7 t || is_level 10 t

abbrev pub begins_right : Token → Bool
begins_right t = is_level 7 t || is_level 9 t

abbrev pub begins_nine : Token → Bool
begins_nine t = is_level 7 t || is_insertion t

or_left : (a b : Bool) → a ≡ true → (a || b) ≡ true
or_left true b e = refl
or_left false b e = absurd cc

-- a reader of level 8
abbrev pub IsEight : {C : Type 0} → Reader Token (Term Raw) → (C → List Token → List Token) → (C → Term Raw) → Type 0
IsEight read put says = Exact read put says (is_level 7) (goes_on 8)

-- Contexts.

context_of : Option (Term Raw) → Option (Term Raw) → ContextTerm Raw
context_of l r = record { left = part l; right = part r }

context_found : {C : Type 0} (put : C → List Token → List Token) (says : C → Term Raw) (tokens rest : List Token) (l r : Option (Term Raw) × List Token) (z : ContextTerm Raw × List Token) → Held put says tokens l → l.1 ≡ operator Underscore ∷ rest → Held put says rest r → (context_of l.0 r.0, r.1) ≡ z → Found (put_context put) (context_value says) tokens z
unfolding context_of
context_found put says tokens rest l r z (o, first, left_value) line (p, second, right_value) same = (
  record { left = o; right = p },
  first ∙ ap (put_option put o) (line ∙ ap (λ us. operator Underscore ∷ us) (second ∙ ap (λ (v : ContextTerm Raw × List Token). put_option put p v.1) same)),
  ap (λ t. context_of t (option_map says p)) left_value ∙ ap (context_of l.0) right_value ∙ ap (λ (v : ContextTerm Raw × List Token). v.0) same,
)

context_takes : {C : Type 0} {read : Reader Token (Term Raw)} {put : C → List Token → List Token} {says : C → Term Raw} → IsEight read put says → (tokens : List Token) (z : ContextTerm Raw × List Token) → context_at read tokens ≡ Some z → Found (put_context put) (context_value says) tokens z
unfolding context_of
context_takes {read = read} {put = put} {says = says} h tokens z e = then_some _ (option_at (is_level 7) read tokens) z e (λ l left more. then_some _ (after Underscore l.1) z more (λ rest line last. map_some _ (option_at (is_level 7) read rest) z last (λ r right same.
    context_found put says tokens rest l r z (option_takes h tokens l left) (after_takes Underscore l.1 rest line) (option_takes h rest r right) same)))

context_again : {C : Type 0} {read : Reader Token (Term Raw)} {put : C → List Token → List Token} {says : C → Term Raw} → IsEight read put says → (c : ContextForm C) (rest : List Token) → begins (goes_on 8) rest ≡ false → context_at read (put_context put c rest) ≡ Some (context_value says c, rest)
context_again {read = read} {put = put} {says = says} h c rest stop =
    ap (option_and_then (λ (l : Option (Term Raw) × List Token). context_behind read (part l.0) l.1)) (option_again (goes_on 8) h (starts_none 7 8 (omega arith)) (λ t e. e) c.left (operator Underscore ∷ put_option put c.right rest) refl)
    ∙ ap (option_and_then (λ us. option_map (λ (r : Option (Term Raw) × List Token). (record { left = part (option_map says c.left); right = part r.0 }, r.1)) (option_at (is_level 7) read us))) (after_again Underscore (put_option put c.right rest))
    ∙ ap (option_map (λ (r : Option (Term Raw) × List Token). (record { left = part (option_map says c.left); right = part r.0 }, r.1))) (option_again (goes_on 8) h (starts_none 7 8 (omega arith)) (λ t e. e) c.right rest stop)

pub context_exact : {C : Type 0} {read : Reader Token (Term Raw)} {put : C → List Token → List Token} {says : C → Term Raw} → IsEight read put says → Exact (context_at read) (put_context put) (context_value says) begins_context (goes_on 8)
context_exact {put = put} h = record {
  takes = context_takes h;
  again = context_again h;
  begun = λ c rest. option_begun begins_context h (λ t e. or_left (is_level 7 t) (is_level 10 t) e) c.left (operator Underscore ∷ put_option put c.right rest) refl;
  grows = λ c rest. omega (arith, option_grows h c.left (operator Underscore ∷ put_option put c.right rest), option_grows h c.right rest);
}

pub contexts_exact : {C : Type 0} {read : Reader Token (Term Raw)} {put : C → List Token → List Token} {says : C → Term Raw} → IsEight read put says → Exact (contexts_at read) (put_contexts put) (contexts_value says) begins_context (goes_on 11)
contexts_exact h = row_exact in_a_row (context_exact h) (behind_exact Comma (is_level 11) (λ c. c) refl (context_exact h)) (follow 8 8 11 (omega arith) (omega arith))

with_side : Side → List (ContextTerm Raw) → SidedTerm Raw
with_side s cs = record { side = s; contexts = cs }

sided_forms : {C : Type 0} (put : C → List Token → List Token) (says : C → Term Raw) → Forms side_of (put_contexts put) (λ s x. with_side s (contexts_value says x)) (put_sided put) (sided_value says) (is_level 12)
unfolding with_side
sided_forms {C} put says = record { known = known; spelled = spelled }
  where
    known : (o : Operator) (s : Side) → side_of o ≡ Some s → (x : ContextRow C) → (f : Sided C) × ((rest : List Token) → put_sided put f rest ≡ operator o ∷ put_contexts put x rest) × (sided_value says f ≡ with_side s (contexts_value says x))
    known UpUp s e x = (record { side = up_up; contexts = x }, (λ rest. refl), ap (λ t. with_side t (contexts_value says x)) (same_some up_up s e))
    known LowUp s e x = (record { side = low_up; contexts = x }, (λ rest. refl), ap (λ t. with_side t (contexts_value says x)) (same_some low_up s e))
    known UpLow s e x = (record { side = up_low; contexts = x }, (λ rest. refl), ap (λ t. with_side t (contexts_value says x)) (same_some up_low s e))
    known LowLow s e x = (record { side = low_low; contexts = x }, (λ rest. refl), ap (λ t. with_side t (contexts_value says x)) (same_some low_low s e))
    known _ s e x = absurd cc

    chosen : (s : Side) → (o : Operator) × (side_of o ≡ Some s) × ((us : List Token) → operator (side_operator s) ∷ us ≡ operator o ∷ us) × (is_level 12 (operator o) ≡ true)
    chosen up_up = (UpUp, refl, (λ us. refl), refl)
    chosen low_up = (LowUp, refl, (λ us. refl), refl)
    chosen up_low = (UpLow, refl, (λ us. refl), refl)
    chosen low_low = (LowLow, refl, (λ us. refl), refl)

    spelled_by : (f : Sided C) → (o : Operator) × (side_of o ≡ Some f.side) × ((us : List Token) → operator (side_operator f.side) ∷ us ≡ operator o ∷ us) × (is_level 12 (operator o) ≡ true)
        → (o : Operator) × (s : Side) × (x : ContextRow C) × (side_of o ≡ Some s) × ((rest : List Token) → put_sided put f rest ≡ operator o ∷ put_contexts put x rest) × (sided_value says f ≡ with_side s (contexts_value says x)) × (is_level 12 (operator o) ≡ true)
    spelled_by f (o, known, same, passes) = (o, f.side, f.contexts, known, (λ rest. same (put_contexts put f.contexts rest)), refl, passes)

    spelled : (f : Sided C) → (o : Operator) × (s : Side) × (x : ContextRow C) × (side_of o ≡ Some s) × ((rest : List Token) → put_sided put f rest ≡ operator o ∷ put_contexts put x rest) × (sided_value says f ≡ with_side s (contexts_value says x)) × (is_level 12 (operator o) ≡ true)
    spelled f = spelled_by f (chosen f.side)

pub sided_exact : {C : Type 0} {read : Reader Token (Term Raw)} {put : C → List Token → List Token} {says : C → Term Raw} → IsEight read put says → Exact (sided_at read) (put_sided put) (sided_value says) (is_level 12) (goes_on 11)
unfolding with_side
sided_exact {put = put} {says = says} h = forms_exact (sided_forms put says) (λ s. mapped_exact (with_side s) (contexts_exact h))

-- Right sides.

dots_found : {C : Type 0} (put : C → List Token → List Token) (says : C → Term Raw) (before : Option C) (t : Term Raw) (tokens rest : List Token) (x : Option (Term Raw) × List Token) (z : RightTerm Raw × List Token) → part (option_map says before) ≡ t → tokens ≡ put_option put before (operator Dots ∷ rest) → Held put says rest x → (marks_term t (part x.0), x.1) ≡ z
    → Found (put_right put) (right_value says) tokens z
dots_found put says before t tokens rest x z value spelled (behind, more, more_value) same = (
  marks before behind,
  spelled ∙ ap (λ us. put_option put before (operator Dots ∷ us)) (more ∙ ap (λ (v : RightTerm Raw × List Token). put_option put behind v.1) same),
  ap (λ u. marks_term u (part (option_map says behind))) value ∙ ap (λ u. marks_term t (part u)) more_value ∙ ap (λ (v : RightTerm Raw × List Token). v.0) same,
)

dots_takes : {C : Type 0} {read : Reader Token (Term Raw)} {put : C → List Token → List Token} {says : C → Term Raw} → IsEight read put says → (before : Option C) (t : Term Raw) (tokens rest : List Token) (z : RightTerm Raw × List Token) → part (option_map says before) ≡ t → tokens ≡ put_option put before (operator Dots ∷ rest) → dots_at read t rest ≡ Some z → Found (put_right put) (right_value says) tokens z
dots_takes {read = read} {put = put} {says = says} h before t tokens rest z value spelled e = map_some _ (option_at (is_level 7) read rest) z e (λ x found same. dots_found put says before t tokens rest x z value spelled (option_takes h rest x found) same)

right_takes : {C : Type 0} {read : Reader Token (Term Raw)} {put : C → List Token → List Token} {says : C → Term Raw} → IsEight read put says → (tokens : List Token) (z : RightTerm Raw × List Token) → right_at read tokens ≡ Some z → Found (put_right put) (right_value says) tokens z
right_takes {C} {read = read} {put = put} {says = says} h tokens z e = either_way (after Dots tokens)
    (λ none. then_some _ (read tokens) z (sym (ap (λ o. right_from read o tokens) none) ∙ e) (λ x first more. behind x (h.takes tokens x first) more))
    (λ rest some. dots_takes h None empty tokens rest z refl (after_takes Dots tokens rest some) (sym (ap (λ o. right_from read o tokens) some) ∙ e))
  where
    plain : (x : Term Raw × List Token) → Found put says tokens x → Some (result_term x.0, x.1) ≡ Some z → Found (put_right put) (right_value says) tokens z
    plain x (c, spelled, value) e =
        let here : RightTerm Raw × List Token = (result_term x.0, x.1) in
        let same : here ≡ z = same_some here z e in
        (result c, spelled ∙ ap (λ (v : RightTerm Raw × List Token). put c v.1) same, ap result_term value ∙ ap (λ (v : RightTerm Raw × List Token). v.0) same)

    dotted : (x : Term Raw × List Token) (rest : List Token) → Found put says tokens x → x.1 ≡ operator Dots ∷ rest → dots_at read x.0 rest ≡ Some z → Found (put_right put) (right_value says) tokens z
    dotted x rest (c, spelled, value) line e = dots_takes h (Some c) x.0 tokens rest z value (spelled ∙ ap (put c) line) e

    behind : (x : Term Raw × List Token) → Found put says tokens x → right_by read x.0 x.1 (after Dots x.1) ≡ Some z → Found (put_right put) (right_value says) tokens z
    behind x found e = either_way (after Dots x.1)
        (λ none. plain x found (sym (ap (right_by read x.0 x.1) none) ∙ e))
        (λ rest some. dotted x rest found (after_takes Dots x.1 rest some) (sym (ap (right_by read x.0 x.1) some) ∙ e))

dots_again : {C : Type 0} {read : Reader Token (Term Raw)} {put : C → List Token → List Token} {says : C → Term Raw} → IsEight read put says → (t : Term Raw) (behind : Option C) (rest : List Token) → begins (goes_on 9) rest ≡ false → dots_at read t (put_option put behind rest) ≡ Some (marks_term t (part (option_map says behind)), rest)
dots_again h t behind rest stop =
    ap (option_map (λ (x : Option (Term Raw) × List Token). (marks_term t (part x.0), x.1))) (option_again (goes_on 9) h (starts_none 7 9 (omega arith)) (ends_smaller 8 9 (omega arith)) behind rest stop)

-- a level 8 at the front is read first
right_first : {C : Type 0} {read : Reader Token (Term Raw)} {put : C → List Token → List Token} {says : C → Term Raw} → IsEight read put says → (c : C) (rest : List Token) → begins (goes_on 8) rest ≡ false → right_at read (put c rest) ≡ right_by read (says c) rest (after Dots rest)
right_first {read = read} {put = put} h c rest stop =
    ap (λ o. right_from read o (put c rest)) (no_after Dots (is_level 7) refl (put c rest) (h.begun c rest))
    ∙ ap (option_and_then (λ (x : Term Raw × List Token). right_by read x.0 x.1 (after Dots x.1))) (h.again c rest stop)

right_again : {C : Type 0} {read : Reader Token (Term Raw)} {put : C → List Token → List Token} {says : C → Term Raw} → IsEight read put says → (r : RightSide C) (rest : List Token) → begins (goes_on 9) rest ≡ false → right_at read (put_right put r rest) ≡ Some (right_value says r, rest)
right_again {read = read} {says = says} h (result c) rest stop =
    right_first h c rest (front_fails (goes_on 9) (goes_on 8) (ends_smaller 8 9 (omega arith)) rest stop) ∙ ap (right_by read (says c) rest) (stopped_after Dots (goes_on 9) refl rest stop)
right_again {read = read} {put = put} h (marks None behind) rest stop =
    ap (λ o. right_from read o (operator Dots ∷ put_option put behind rest)) (after_again Dots (put_option put behind rest)) ∙ dots_again h empty behind rest stop
right_again {read = read} {put = put} {says = says} h (marks (Some c) behind) rest stop =
    right_first h c (operator Dots ∷ put_option put behind rest) refl
    ∙ ap (right_by read (says c) (operator Dots ∷ put_option put behind rest)) (after_again Dots (put_option put behind rest))
    ∙ dots_again h (says c) behind rest stop

right_begun : {C : Type 0} {read : Reader Token (Term Raw)} {put : C → List Token → List Token} {says : C → Term Raw} → IsEight read put says → (r : RightSide C) (rest : List Token) → begins begins_right (put_right put r rest) ≡ true
right_begun {put = put} h (result c) rest = front_passes (is_level 7) begins_right (λ t e. or_left (is_level 7 t) (is_level 9 t) e) (put c rest) (h.begun c rest)
right_begun {put = put} h (marks before behind) rest = option_begun begins_right h (λ t e. or_left (is_level 7 t) (is_level 9 t) e) before (operator Dots ∷ put_option put behind rest) refl

right_grows : {C : Type 0} {read : Reader Token (Term Raw)} {put : C → List Token → List Token} {says : C → Term Raw} → IsEight read put says → (r : RightSide C) (rest : List Token) → length rest < length (put_right put r rest)
right_grows h (result c) rest = h.grows c rest
right_grows {put = put} h (marks before behind) rest = omega (arith, option_grows h before (operator Dots ∷ put_option put behind rest), option_grows h behind rest)

pub right_exact : {C : Type 0} {read : Reader Token (Term Raw)} {put : C → List Token → List Token} {says : C → Term Raw} → IsEight read put says → Exact (right_at read) (put_right put) (right_value says) begins_right (goes_on 9)
right_exact h = record { takes = right_takes h; again = right_again h; begun = right_begun h; grows = right_grows h }

-- Mappings and groups.

-- a level 8 ends at an arrow
arrow_ends : (arrow : Bool) → goes_on 8 (operator (arrow_operator arrow)) ≡ false
arrow_ends true = refl
arrow_ends false = refl

way_ends : (way : Way) → goes_on 8 (operator (way_operator way)) ≡ false
way_ends left_longest = refl
way_ends left_shortest = refl
way_ends right_longest = refl
way_ends right_shortest = refl

mapping_joins : {C : Type 0} (o : Operator) (put : C → List Token → List Token) (says : C → Term Raw) → Joins o put (put_right put) says (right_value says) (λ c r. mapping_by c r) (put_mapping o put) (mapping_value says)
mapping_joins o put says = record {
  joined = λ c r. (record { centre = c; right = r }, (λ rest. refl), refl);
  parts = λ m. (m.centre, m.right, (λ rest. refl), refl);
}

mapping_exact : {C : Type 0} {read : Reader Token (Term Raw)} {put : C → List Token → List Token} {says : C → Term Raw} (o : Operator) → goes_on 8 (operator o) ≡ false → IsEight read put says → Exact (mapping_at o read) (put_mapping o put) (mapping_value says) (is_level 7) (goes_on 9)
mapping_exact {put = put} {says = says} o ends h = joins_exact ends h (right_exact h) (mapping_joins o put says)

mapping_row_exact : {C : Type 0} {read : Reader Token (Term Raw)} {put : C → List Token → List Token} {says : C → Term Raw} (o : Operator) → goes_on 8 (operator o) ≡ false → IsEight read put says → Exact (mapping_row_at o read) (put_mapping_row o put) (mapping_row_value says) begins_right (goes_on 11)
mapping_row_exact o ends h =
    let mapping = behind_exact Comma (is_level 11) (λ m. m) refl (mapping_exact o ends h) in
    row_exact right_and_more (right_exact h) mapping (follow 9 9 11 (omega arith) (omega arith))

pub group_tail_exact : {C : Type 0} {read : Reader Token (Term Raw)} {put : C → List Token → List Token} {says : C → Term Raw} (arrow : Bool) → IsEight read put says → Exact (group_tail_at arrow read) (put_group_tail arrow put) (group_tail_value says) begins_right (goes_on 12)
group_tail_exact arrow h = tailed_exact group_tail_by (mapping_row_exact (arrow_operator arrow) (arrow_ends arrow) h) (sided_exact h) (follow 11 11 12 (omega arith) (omega arith))

group_joins : {C : Type 0} (arrow : Bool) (put : C → List Token → List Token) (says : C → Term Raw) → Joins (arrow_operator arrow) put (put_group_tail arrow put) says (group_tail_value says) (λ c g. group_by c g) (put_group arrow put) (group_value says)
group_joins arrow put says = record {
  joined = λ c t. (record { centre = c; tail = t }, (λ rest. refl), refl);
  parts = λ g. (g.centre, g.tail, (λ rest. refl), refl);
}

pub group_exact : {C : Type 0} {read : Reader Token (Term Raw)} {put : C → List Token → List Token} {says : C → Term Raw} (arrow : Bool) → IsEight read put says → Exact (group_at arrow read) (put_group arrow put) (group_value says) (is_level 7) (goes_on 12)
group_exact {put = put} {says = says} arrow h = joins_exact (arrow_ends arrow) h (group_tail_exact arrow h) (group_joins arrow put says)

pub replacement_exact : {C : Type 0} {read : Reader Token (Term Raw)} {put : C → List Token → List Token} {says : C → Term Raw} (arrow : Bool) → IsEight read put says
    → Exact (replacement_at arrow read) (put_row (put_group_tail arrow put) (put_behind GroupComma (put_group arrow put))) (row_value (replacement_by arrow) (group_tail_value says) (group_value says)) begins_right (goes_on 13)
replacement_exact arrow h = row_exact (replacement_by arrow) (group_tail_exact arrow h) (behind_exact GroupComma (is_level 13) (λ g. g) refl (group_exact arrow h)) (follow 12 12 13 (omega arith) (omega arith))

-- Directed rules.

at_upper : (t : Token) → is_up_up t ≡ true → t ≡ operator UpUp
at_upper (operator UpUp) e = refl
at_upper (operator _) e = absurd cc
at_upper _ e = absurd cc

not_upper : (t : Token) → goes_on 12 t ≡ false → is_up_up t ≡ false
not_upper (operator UpUp) e = absurd cc
not_upper (operator _) e = refl
not_upper _ e = refl

follow_upper : Follow is_up_up (goes_on 11) (goes_on 11) (goes_on 12)
follow_upper = record {
  end_row = not_upper;
  end_first = ends_smaller 11 12 (omega arith);
  end_next = ends_smaller 11 12 (omega arith);
  next_first = λ t e. ap (goes_on 11) (at_upper t e);
  next_next = λ t e. ap (goes_on 11) (at_upper t e);
}

abbrev put_directed : {C : Type 0} → Way → (C → List Token → List Token) → Tailed (MappingRow C) (ContextRow C) → List Token → List Token
put_directed way put x rest = put_tailed (put_mapping_row (way_operator way) put) (put_behind UpUp (put_contexts put)) x rest

abbrev directed_value : {C : Type 0} → Way → (C → Term Raw) → Tailed (MappingRow C) (ContextRow C) → RulingTerm Raw
directed_value way says x = tailed_value (direction_by way) (mapping_row_value says) (contexts_value says) x

directed_exact : {C : Type 0} {read : Reader Token (Term Raw)} {put : C → List Token → List Token} {says : C → Term Raw} (way : Way) → IsEight read put says → Exact (directed_at way read) (put_directed way put) (directed_value way says) begins_right (goes_on 12)
directed_exact way h = tailed_exact (direction_by way) (mapping_row_exact (way_operator way) (way_ends way) h) (behind_exact UpUp is_up_up (λ c. c) refl (contexts_exact h)) follow_upper

-- What stands behind a level 8.

restricted_found : {C : Type 0} (put : C → List Token → List Token) (says : C → Term Raw) (rest : List Token) (z : RulingTerm Raw × List Token) → (x : ContextRow C) × (rest ≡ put_contexts put x z.1) × (restriction (contexts_value says x) ≡ z.0) → Found (put_ruling put) (ruling_value says) (operator Only ∷ rest) z
restricted_found put says rest z (x, spelled, value) = (restricted x, ap (λ us. operator Only ∷ us) spelled, value)

replaced_found : {C : Type 0} (put : C → List Token → List Token) (says : C → Term Raw) (arrow : Bool) (rest : List Token) (z : RulingTerm Raw × List Token)
    → Found (put_row (put_group_tail arrow put) (put_behind GroupComma (put_group arrow put))) (row_value (replacement_by arrow) (group_tail_value says) (group_value says)) rest z → Found (put_ruling put) (ruling_value says) (operator (arrow_operator arrow) ∷ rest) z
replaced_found put says arrow rest z (x, spelled, value) = (replaced arrow x, ap (λ us. operator (arrow_operator arrow) ∷ us) spelled, value)

directed_found : {C : Type 0} (put : C → List Token → List Token) (says : C → Term Raw) (way : Way) (rest : List Token) (z : RulingTerm Raw × List Token)
    → Found (put_directed way put) (directed_value way says) rest z → Found (put_ruling put) (ruling_value says) (operator (way_operator way) ∷ rest) z
directed_found put says way rest z (x, spelled, value) = (directed way x, ap (λ us. operator (way_operator way) ∷ us) spelled, value)

ruling_takes : {C : Type 0} {read : Reader Token (Term Raw)} {put : C → List Token → List Token} {says : C → Term Raw} → IsEight read put says → (tokens : List Token) (z : RulingTerm Raw × List Token) → ruling_at read tokens ≡ Some z → Found (put_ruling put) (ruling_value says) tokens z
ruling_takes h [] z e = absurd cc
ruling_takes {put = put} {says = says} h (operator Only ∷ rest) z e = restricted_found put says rest z ((mapped_exact restriction (contexts_exact h)).takes rest z e)
ruling_takes {put = put} {says = says} h (operator Optional ∷ rest) z e = replaced_found put says true rest z ((replacement_exact true h).takes rest z e)
ruling_takes {put = put} {says = says} h (operator Arrow ∷ rest) z e = replaced_found put says false rest z ((replacement_exact false h).takes rest z e)
ruling_takes {put = put} {says = says} h (operator LeftLongest ∷ rest) z e = directed_found put says left_longest rest z ((directed_exact left_longest h).takes rest z e)
ruling_takes {put = put} {says = says} h (operator LeftShortest ∷ rest) z e = directed_found put says left_shortest rest z ((directed_exact left_shortest h).takes rest z e)
ruling_takes {put = put} {says = says} h (operator RightLongest ∷ rest) z e = directed_found put says right_longest rest z ((directed_exact right_longest h).takes rest z e)
ruling_takes {put = put} {says = says} h (operator RightShortest ∷ rest) z e = directed_found put says right_shortest rest z ((directed_exact right_shortest h).takes rest z e)
ruling_takes h (_ ∷ rest) z e = absurd cc

ruling_again : {C : Type 0} {read : Reader Token (Term Raw)} {put : C → List Token → List Token} {says : C → Term Raw} → IsEight read put says → (r : Ruling C) (rest : List Token) → begins (goes_on 13) rest ≡ false → ruling_at read (put_ruling put r rest) ≡ Some (ruling_value says r, rest)
ruling_again h (restricted x) rest stop = (mapped_exact restriction (contexts_exact h)).again x rest (front_fails (goes_on 13) (goes_on 11) (ends_smaller 11 13 (omega arith)) rest stop)
ruling_again h (replaced true x) rest stop = (replacement_exact true h).again x rest stop
ruling_again h (replaced false x) rest stop = (replacement_exact false h).again x rest stop
ruling_again h (directed left_longest x) rest stop = (directed_exact left_longest h).again x rest (front_fails (goes_on 13) (goes_on 12) (ends_smaller 12 13 (omega arith)) rest stop)
ruling_again h (directed left_shortest x) rest stop = (directed_exact left_shortest h).again x rest (front_fails (goes_on 13) (goes_on 12) (ends_smaller 12 13 (omega arith)) rest stop)
ruling_again h (directed right_longest x) rest stop = (directed_exact right_longest h).again x rest (front_fails (goes_on 13) (goes_on 12) (ends_smaller 12 13 (omega arith)) rest stop)
ruling_again h (directed right_shortest x) rest stop = (directed_exact right_shortest h).again x rest (front_fails (goes_on 13) (goes_on 12) (ends_smaller 12 13 (omega arith)) rest stop)

ruling_begun : {C : Type 0} (put : C → List Token → List Token) (r : Ruling C) (rest : List Token) → begins (is_level 14) (put_ruling put r rest) ≡ true
ruling_begun put (restricted x) rest = refl
ruling_begun put (replaced true x) rest = refl
ruling_begun put (replaced false x) rest = refl
ruling_begun put (directed left_longest x) rest = refl
ruling_begun put (directed left_shortest x) rest = refl
ruling_begun put (directed right_longest x) rest = refl
ruling_begun put (directed right_shortest x) rest = refl

ruling_grows : {C : Type 0} {read : Reader Token (Term Raw)} {put : C → List Token → List Token} {says : C → Term Raw} → IsEight read put says → (r : Ruling C) (rest : List Token) → length rest < length (put_ruling put r rest)
ruling_grows h (restricted x) rest = let item = (contexts_exact h).grows x rest in omega (arith, item)
ruling_grows h (replaced arrow x) rest = let item = (replacement_exact arrow h).grows x rest in omega (arith, item)
ruling_grows h (directed way x) rest = let item = (directed_exact way h).grows x rest in omega (arith, item)

pub ruling_exact : {C : Type 0} {read : Reader Token (Term Raw)} {put : C → List Token → List Token} {says : C → Term Raw} → IsEight read put says → Exact (ruling_at read) (put_ruling put) (ruling_value says) (is_level 14) (goes_on 13)
ruling_exact {put = put} h = record { takes = ruling_takes h; again = ruling_again h; begun = ruling_begun put; grows = ruling_grows h }

-- Insertions: what stands behind `[..]`, by its arrow.

abbrev pub put_insertion : {C : Type 0} → (C → List Token → List Token) → Bool × Tailed C (Sided C) → List Token → List Token
put_insertion put x rest = operator (arrow_operator x.0) ∷ put_tailed put (put_sided put) x.1 rest

abbrev pub insertion_term : {C : Type 0} → (C → Term Raw) → Bool × Tailed C (Sided C) → Term Raw
insertion_term says x = tailed_value (insertion_by x.0) says (sided_value says) x.1

insertion_forms : {C : Type 0} (put : C → List Token → List Token) (says : C → Term Raw) → Forms arrow_of (put_tailed put (put_sided put)) (λ arrow. λ x. tailed_value (insertion_by arrow) says (sided_value says) x) (put_insertion put) (insertion_term says) (is_level 14)
insertion_forms {C} put says = record { known = known; spelled = spelled }
  where
    known : (o : Operator) (arrow : Bool) → arrow_of o ≡ Some arrow → (x : Tailed C (Sided C)) → (f : Bool × Tailed C (Sided C)) × ((rest : List Token) → put_insertion put f rest ≡ operator o ∷ put_tailed put (put_sided put) x rest) × (insertion_term says f ≡ tailed_value (insertion_by arrow) says (sided_value says) x)
    known Optional arrow e x = ((true, x), (λ rest. refl), ap (λ a. tailed_value (insertion_by a) says (sided_value says) x) (same_some true arrow e))
    known Arrow arrow e x = ((false, x), (λ rest. refl), ap (λ a. tailed_value (insertion_by a) says (sided_value says) x) (same_some false arrow e))
    known _ arrow e x = absurd cc

    spelled : (f : Bool × Tailed C (Sided C)) → (o : Operator) × (arrow : Bool) × (x : Tailed C (Sided C)) × (arrow_of o ≡ Some arrow) × ((rest : List Token) → put_insertion put f rest ≡ operator o ∷ put_tailed put (put_sided put) x rest) × (insertion_term says f ≡ tailed_value (insertion_by arrow) says (sided_value says) x) × (is_level 14 (operator o) ≡ true)
    spelled (true, x) = (Optional, true, x, refl, (λ rest. refl), refl, refl)
    spelled (false, x) = (Arrow, false, x, refl, (λ rest. refl), refl, refl)

pub insertion_exact : {C : Type 0} {read : Reader Token (Term Raw)} {put : C → List Token → List Token} {says : C → Term Raw} → IsEight read put says → Exact (insertion_at read) (put_insertion put) (insertion_term says) (is_level 14) (goes_on 12)
insertion_exact {put = put} {says = says} h = forms_exact (insertion_forms put says) (λ arrow. tailed_exact (insertion_by arrow) h (sided_exact h) (follow 8 11 12 (omega arith) (omega arith)))

-- Level 9.

-- a level 8, and what may stand behind it
abbrev pub ruled_at : Reader Token (Term Raw) → Reader Token (Term Raw)
ruled_at read tokens = tailed_at (is_level 14) with_ruling read (ruling_at read) tokens

pub ruled_exact : {C : Type 0} {read : Reader Token (Term Raw)} {put : C → List Token → List Token} {says : C → Term Raw} → IsEight read put says → Exact (ruled_at read) (put_tailed put (put_ruling put)) (tailed_value with_ruling says (ruling_value says)) (is_level 7) (goes_on 14)
ruled_exact h = tailed_exact with_ruling h (ruling_exact h) (follow 8 13 14 (omega arith) (omega arith))

ruled_found : {C : Type 0} (put : C → List Token → List Token) (says : C → Term Raw) (tokens : List Token) (z : Term Raw × List Token) → Found (put_tailed put (put_ruling put)) (tailed_value with_ruling says (ruling_value says)) tokens z → Found (put_nine put) (nine_term says) tokens z
ruled_found put says tokens z (x, spelled, value) = (ruled x, spelled, value)

inserted_found : {C : Type 0} (put : C → List Token → List Token) (says : C → Term Raw) (tokens rest : List Token) (z : Term Raw × List Token) → tokens ≡ operator Insertion ∷ rest → Found (put_insertion put) (insertion_term says) rest z → Found (put_nine put) (nine_term says) tokens z
inserted_found put says tokens rest z first (x, spelled, value) = (inserted x.0 x.1, first ∙ ap (λ us. operator Insertion ∷ us) spelled, value)

nine_takes : {C : Type 0} {read : Reader Token (Term Raw)} {put : C → List Token → List Token} {says : C → Term Raw} → IsEight read put says → (tokens : List Token) (z : Term Raw × List Token) → nine_at read tokens ≡ Some z → Found (put_nine put) (nine_term says) tokens z
nine_takes {read = read} {put = put} {says = says} h tokens z e = either_way (after Insertion tokens)
    (λ none. ruled_found put says tokens z ((ruled_exact h).takes tokens z (sym (ap (λ o. nine_by read o tokens) none) ∙ e)))
    (λ rest some. inserted_found put says tokens rest z (after_takes Insertion tokens rest some) ((insertion_exact h).takes rest z (sym (ap (λ o. nine_by read o tokens) some) ∙ e)))

nine_again : {C : Type 0} {read : Reader Token (Term Raw)} {put : C → List Token → List Token} {says : C → Term Raw} → IsEight read put says → (n : Nine C) (rest : List Token) → begins (goes_on 14) rest ≡ false → nine_at read (put_nine put n rest) ≡ Some (nine_term says n, rest)
nine_again {read = read} {put = put} h (ruled x) rest stop =
    let tokens = put_tailed put (put_ruling put) x rest in
    ap (λ o. nine_by read o tokens) (no_after Insertion (is_level 7) refl tokens ((ruled_exact h).begun x rest)) ∙ (ruled_exact h).again x rest stop
nine_again {read = read} {put = put} h (inserted arrow x) rest stop =
    let tokens = put_insertion put (arrow, x) rest in
    ap (λ o. nine_by read o (operator Insertion ∷ tokens)) (after_again Insertion tokens)
    ∙ (insertion_exact h).again (arrow, x) rest (front_fails (goes_on 14) (goes_on 12) (ends_smaller 12 14 (omega arith)) rest stop)

nine_begun : {C : Type 0} {read : Reader Token (Term Raw)} {put : C → List Token → List Token} {says : C → Term Raw} → IsEight read put says → (n : Nine C) (rest : List Token) → begins begins_nine (put_nine put n rest) ≡ true
nine_begun {put = put} h (ruled x) rest = front_passes (is_level 7) begins_nine (λ t e. or_left (is_level 7 t) (is_insertion t) e) (put_tailed put (put_ruling put) x rest) ((ruled_exact h).begun x rest)
nine_begun h (inserted arrow x) rest = refl

nine_grows : {C : Type 0} {read : Reader Token (Term Raw)} {put : C → List Token → List Token} {says : C → Term Raw} → IsEight read put says → (n : Nine C) (rest : List Token) → length rest < length (put_nine put n rest)
nine_grows h (ruled x) rest = (ruled_exact h).grows x rest
nine_grows h (inserted arrow x) rest = let item = (insertion_exact h).grows (arrow, x) rest in omega (arith, item)

pub nine_exact : {C : Type 0} {read : Reader Token (Term Raw)} {put : C → List Token → List Token} {says : C → Term Raw} → IsEight read put says → Exact (nine_at read) (put_nine put) (nine_term says) begins_nine (goes_on 14)
nine_exact h = record { takes = nine_takes h; again = nine_again h; begun = nine_begun h; grows = nine_grows h }

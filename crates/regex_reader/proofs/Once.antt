-- A text says one thing only.
use Rattle.std.proofs.Common.{◌≡◌, ℕ, Bool, true, false, ◌||◌, List, [], ◌∷◌, ◌++◌, Result, Ok, Err, refl, sym, ap, subst, ◌∙◌}
use Rattle.std.specs.List.{list_any}
use Rattle.regex_ast.specs.Terms.{Term}
use Rattle.regex_ast.specs.declared.expr.Raw.{Raw}
use Rattle.regex_ast.specs.declared.fault.Why.{Why}
use Rattle.regex_ast.specs.declared.fault.Why.TheVariants as why
use Rattle.regex_tokens.specs.declared.token.Ending.{Ending}
use Rattle.regex_tokens.specs.declared.token.Ending.TheVariants.{Whole, NoToken}
use Rattle.regex_tokens.specs.declared.token.Operator.TheVariants.{Semicolon}
use Rattle.regex_tokens.specs.declared.token.Token.{Token}
use Rattle.regex_tokens.specs.declared.token.Token.TheVariants.{Operator as operator}
use Rattle.regex_tokens.proofs.Texts.{cuts_once}
use Rattle.regex_tokens.specs.declared.comments.Comments.TheVariants.{OfDefinitions, OfEntries}
use Rattle.regex_reader.specs.Files.{Placed, Statement, FaultAt, Verdict, deep, unread, power, rule, fine, IsOne, Says, nothing, no_token, unended, read, later, refused, ExpressionSays, IsEntry, tokens_of, places_of, first_line, is_semicolon}
use Rattle.regex_reader.specs.Reads.{OneReading, OneExpression}
use Rattle.regex_reader.specs.Tests.{nodes, has_high_power, has_large_rule}
use Rattle.regex_reader.specs.Verdicts.{placed}
use Rattle.regex_reader.proofs.Placed.{placed_again}
use Rattle.regex_reader.proofs.Readings.{same_term}
use Rattle.regex_reader.proofs.Statements.{one_statement}
use Rattle.regex_reader.proofs.Stepping.{has_semicolon}

true_false : true ≡ false → ⊥
true_false e = absurd cc

-- Verdicts.

high_low : (s t : Statement) → s ≡ t → list_any has_high_power (nodes false s.term) ≡ true → list_any has_high_power (nodes false t.term) ≡ false → ⊥
high_low s t same high low = true_false (sym high ∙ ap (λ (x : Statement). list_any has_high_power (nodes false x.term)) same ∙ low)

large_small : (s t : Statement) → s ≡ t → list_any has_large_rule (nodes false s.term) ≡ true → list_any has_large_rule (nodes false t.term) ≡ false → ⊥
large_small s t same large small = true_false (sym large ∙ ap (λ (x : Statement). list_any has_large_rule (nodes false x.term)) same ∙ small)

one_verdict : (p : List Placed) (a b : Result Statement Why) → Verdict p a → Verdict p b → a ≡ b
one_verdict p a b (deep d1) (deep d2) = refl
one_verdict p a b (deep d1) (unread d2 n2) = absurd (true_false (sym d1 ∙ d2))
one_verdict p a b (deep d1) (power s2 d2 f2 h2) = absurd (true_false (sym d1 ∙ d2))
one_verdict p a b (deep d1) (rule s2 d2 f2 h2 l2) = absurd (true_false (sym d1 ∙ d2))
one_verdict p a b (deep d1) (fine s2 d2 f2 h2 l2) = absurd (true_false (sym d1 ∙ d2))
one_verdict p a b (unread d1 n1) (deep d2) = absurd (true_false (sym d2 ∙ d1))
one_verdict p a b (unread d1 n1) (unread d2 n2) = refl
one_verdict p a b (unread d1 n1) (power s2 d2 f2 h2) = absurd (n1 s2 f2)
one_verdict p a b (unread d1 n1) (rule s2 d2 f2 h2 l2) = absurd (n1 s2 f2)
one_verdict p a b (unread d1 n1) (fine s2 d2 f2 h2 l2) = absurd (n1 s2 f2)
one_verdict p a b (power s1 d1 f1 h1) (deep d2) = absurd (true_false (sym d2 ∙ d1))
one_verdict p a b (power s1 d1 f1 h1) (unread d2 n2) = absurd (n2 s1 f1)
one_verdict p a b (power s1 d1 f1 h1) (power s2 d2 f2 h2) = refl
one_verdict p a b (power s1 d1 f1 h1) (rule s2 d2 f2 h2 l2) = absurd (high_low s1 s2 (one_statement p s1 s2 f1 f2) h1 h2)
one_verdict p a b (power s1 d1 f1 h1) (fine s2 d2 f2 h2 l2) = absurd (high_low s1 s2 (one_statement p s1 s2 f1 f2) h1 h2)
one_verdict p a b (rule s1 d1 f1 h1 l1) (deep d2) = absurd (true_false (sym d2 ∙ d1))
one_verdict p a b (rule s1 d1 f1 h1 l1) (unread d2 n2) = absurd (n2 s1 f1)
one_verdict p a b (rule s1 d1 f1 h1 l1) (power s2 d2 f2 h2) = absurd (high_low s2 s1 (one_statement p s2 s1 f2 f1) h2 h1)
one_verdict p a b (rule s1 d1 f1 h1 l1) (rule s2 d2 f2 h2 l2) = refl
one_verdict p a b (rule s1 d1 f1 h1 l1) (fine s2 d2 f2 h2 l2) = absurd (large_small s1 s2 (one_statement p s1 s2 f1 f2) l1 l2)
one_verdict p a b (fine s1 d1 f1 h1 l1) (deep d2) = absurd (true_false (sym d2 ∙ d1))
one_verdict p a b (fine s1 d1 f1 h1 l1) (unread d2 n2) = absurd (n2 s1 f1)
one_verdict p a b (fine s1 d1 f1 h1 l1) (power s2 d2 f2 h2) = absurd (high_low s2 s1 (one_statement p s2 s1 f2 f1) h2 h1)
one_verdict p a b (fine s1 d1 f1 h1 l1) (rule s2 d2 f2 h2 l2) = absurd (large_small s2 s1 (one_statement p s2 s1 f2 f1) l2 l1)
one_verdict p a b (fine s1 d1 f1 h1 l1) (fine s2 d2 f2 h2 l2) = ap Ok (one_statement p s1 s2 f1 f2)

-- The tokens to the first `;`.

has_more : (xs ys : List Placed) → list_any is_semicolon (tokens_of xs) ≡ true → list_any is_semicolon (tokens_of (xs ++ ys)) ≡ true
has_more [] ys e = absurd cc
has_more (x ∷ xs) ys e = by (is_semicolon x.token) (has_more xs ys) e
  where
    by : (b : Bool) → (list_any is_semicolon (tokens_of xs) ≡ true → list_any is_semicolon (tokens_of (xs ++ ys)) ≡ true) → (b || list_any is_semicolon (tokens_of xs)) ≡ true → (b || list_any is_semicolon (tokens_of (xs ++ ys))) ≡ true
    by true more e = refl
    by false more e = more e

ended : (one rest : List Placed) → IsOne one → list_any is_semicolon (tokens_of (one ++ rest)) ≡ true
ended one rest i = has_more one rest (ap (λ (v : List Placed). list_any is_semicolon (tokens_of v)) i.whole ∙ has_semicolon i.front i.last i.last_is)

not_ended : (p one rest : List Placed) → p ≡ one ++ rest → list_any is_semicolon (tokens_of p) ≡ false → IsOne one → ⊥
not_ended p one rest is none i = true_false (sym (ended one rest i) ∙ ap (λ (v : List Placed). list_any is_semicolon (tokens_of v)) (sym is) ∙ none)

first_none : (a b : Bool) → (a || b) ≡ false → a ≡ false
first_none true b e = e
first_none false b e = refl

others_none : (a b : Bool) → (a || b) ≡ false → b ≡ false
others_none true b e = absurd cc
others_none false b e = e

semicolon_first : (x a : Placed) → a.token ≡ operator Semicolon → a ≡ x → is_semicolon x.token ≡ false → ⊥
semicolon_first x a is same none = true_false (sym (ap is_semicolon is) ∙ ap (λ (p : Placed). is_semicolon p.token) same ∙ none)

split_once : (f g : List Placed) (a b : Placed) (r s : List Placed) → list_any is_semicolon (tokens_of f) ≡ false → list_any is_semicolon (tokens_of g) ≡ false → a.token ≡ operator Semicolon → b.token ≡ operator Semicolon
    → (f ++ a ∷ []) ++ r ≡ (g ++ b ∷ []) ++ s → (f ++ a ∷ [] ≡ g ++ b ∷ []) × (r ≡ s)
split_once [] [] a b r s none none' is is' e =
    let same : a ≡ b = cc in
    (ap (λ (x : Placed). x ∷ []) same, cc)
split_once [] (y ∷ g) a b r s none none' is is' e = let first : a ≡ y = cc in absurd (semicolon_first y a is first (first_none (is_semicolon y.token) _ none'))
split_once (x ∷ f) [] a b r s none none' is is' e = let first : b ≡ x = cc in absurd (semicolon_first x b is' first (first_none (is_semicolon x.token) _ none))
split_once (x ∷ f) (y ∷ g) a b r s none none' is is' e =
    let first : x ≡ y = cc in
    let rest : (f ++ a ∷ []) ++ r ≡ (g ++ b ∷ []) ++ s = cc in
    let more : (f ++ a ∷ [] ≡ g ++ b ∷ []) × (r ≡ s) = split_once f g a b r s (others_none (is_semicolon x.token) _ none) (others_none (is_semicolon y.token) _ none') is is' rest in
    (rw (first, more.0) refl, more.1)

ones_same : (one other rest behind : List Placed) → IsOne one → IsOne other → one ++ rest ≡ other ++ behind → (one ≡ other) × (rest ≡ behind)
ones_same one other rest behind i j e =
    let found = split_once i.front j.front i.last j.last rest behind i.front_is j.front_is i.last_is j.last_is (ap (λ (v : List Placed). v ++ rest) (sym i.whole) ∙ e ∙ ap (λ (v : List Placed). v ++ behind) j.whole) in
    (i.whole ∙ found.0 ∙ sym j.whole, found.1)

verdicts_same : (p q : List Placed) (a b : Result Statement Why) → p ≡ q → Verdict p a → Verdict q b → a ≡ b
verdicts_same p q a b same v w = one_verdict q a b (subst (λ (x : List Placed). Verdict x a) same v) w

-- What tokens say.

fault_same : (k l : ℕ) (v w : Why) → k ≡ l → ◌≡◌ {A = Result Statement Why} (Err v) (Err w) → ◌≡◌ {A = Result (List Statement) FaultAt} (Err (record { line = k; why = v })) (Err (record { line = l; why = w }))
fault_same k l v w at is = let same : v ≡ w = cc in rw (at, same) refl

read_same : (s t : Statement) (more other : List Statement) → ◌≡◌ {A = Result Statement Why} (Ok s) (Ok t) → ◌≡◌ {A = Result (List Statement) FaultAt} (Ok more) (Ok other) → ◌≡◌ {A = Result (List Statement) FaultAt} (Ok (s ∷ more)) (Ok (t ∷ other))
read_same s t more other first rest = let one : s ≡ t = cc in let two : more ≡ other = cc in rw (one, two) refl

ok_err : {T E : Type 0} (t : T) (e : E) → ◌≡◌ {A = Result T E} (Ok t) (Err e) → ⊥
ok_err t e h = absurd cc

whole_not : (line : ℕ) → Whole ≡ NoToken line → ⊥
whole_not line e = absurd cc

no_tokens_same : (k l : ℕ) → NoToken k ≡ NoToken l → ◌≡◌ {A = Result (List Statement) FaultAt} (Err (record { line = k; why = why.Token })) (Err (record { line = l; why = why.Token }))
no_tokens_same k l e = let same : k ≡ l = cc in rw same refl

one_saying : (p q : List Placed) (e d : Ending) (r t : Result (List Statement) FaultAt) → p ≡ q → e ≡ d → Says p e r → Says q d t → r ≡ t
one_saying p q e d r t same end nothing nothing = refl
one_saying p q e d r t same end nothing (no_token p2 l2 n2) = absurd (whole_not l2 end)
one_saying p q e d r t same end nothing (unended p2 w2 m2 n2 v2) = absurd (m2 (sym same))
one_saying p q e d r t same end nothing (read o2 r2 e2 s2 x2 i2 v2 h2) = absurd (not_ended [] o2 r2 same refl i2)
one_saying p q e d r t same end nothing (later o2 r2 e2 s2 x2 i2 v2 h2) = absurd (not_ended [] o2 r2 same refl i2)
one_saying p q e d r t same end nothing (refused o2 r2 e2 w2 i2 v2) = absurd (not_ended [] o2 r2 same refl i2)
one_saying p q e d r t same end (no_token p1 l1 n1) nothing = absurd (whole_not l1 (sym end))
one_saying p q e d r t same end (no_token p1 l1 n1) (no_token p2 l2 n2) = no_tokens_same l1 l2 end
one_saying p q e d r t same end (no_token p1 l1 n1) (unended p2 w2 m2 n2 v2) = absurd (whole_not l1 (sym end))
one_saying p q e d r t same end (no_token p1 l1 n1) (read o2 r2 e2 s2 x2 i2 v2 h2) = absurd (not_ended p1 o2 r2 same n1 i2)
one_saying p q e d r t same end (no_token p1 l1 n1) (later o2 r2 e2 s2 x2 i2 v2 h2) = absurd (not_ended p1 o2 r2 same n1 i2)
one_saying p q e d r t same end (no_token p1 l1 n1) (refused o2 r2 e2 w2 i2 v2) = absurd (not_ended p1 o2 r2 same n1 i2)
one_saying p q e d r t same end (unended p1 w1 m1 n1 v1) nothing = absurd (m1 same)
one_saying p q e d r t same end (unended p1 w1 m1 n1 v1) (no_token p2 l2 n2) = absurd (whole_not l2 end)
one_saying p q e d r t same end (unended p1 w1 m1 n1 v1) (unended p2 w2 m2 n2 v2) = fault_same _ _ w1 w2 (ap first_line same) (verdicts_same p1 p2 (Err w1) (Err w2) same v1 v2)
one_saying p q e d r t same end (unended p1 w1 m1 n1 v1) (read o2 r2 e2 s2 x2 i2 v2 h2) = absurd (not_ended p1 o2 r2 same n1 i2)
one_saying p q e d r t same end (unended p1 w1 m1 n1 v1) (later o2 r2 e2 s2 x2 i2 v2 h2) = absurd (not_ended p1 o2 r2 same n1 i2)
one_saying p q e d r t same end (unended p1 w1 m1 n1 v1) (refused o2 r2 e2 w2 i2 v2) = absurd (not_ended p1 o2 r2 same n1 i2)
one_saying p q e d r t same end (read o1 r1 e1 s1 x1 i1 v1 h1) nothing = absurd (not_ended [] o1 r1 (sym same) refl i1)
one_saying p q e d r t same end (read o1 r1 e1 s1 x1 i1 v1 h1) (no_token p2 l2 n2) = absurd (not_ended p2 o1 r1 (sym same) n2 i1)
one_saying p q e d r t same end (read o1 r1 e1 s1 x1 i1 v1 h1) (unended p2 w2 m2 n2 v2) = absurd (not_ended p2 o1 r1 (sym same) n2 i1)
one_saying p q e d r t same end (read o1 r1 e1 s1 x1 i1 v1 h1) (read o2 r2 e2 s2 x2 i2 v2 h2) = let both = ones_same o1 o2 r1 r2 i1 i2 same in read_same s1 s2 x1 x2 (verdicts_same o1 o2 (Ok s1) (Ok s2) both.0 v1 v2) (one_saying r1 r2 e1 e2 (Ok x1) (Ok x2) both.1 end h1 h2)
one_saying p q e d r t same end (read o1 r1 e1 s1 x1 i1 v1 h1) (later o2 r2 e2 s2 x2 i2 v2 h2) = let both = ones_same o1 o2 r1 r2 i1 i2 same in absurd (ok_err x1 x2 (one_saying r1 r2 e1 e2 (Ok x1) (Err x2) both.1 end h1 h2))
one_saying p q e d r t same end (read o1 r1 e1 s1 x1 i1 v1 h1) (refused o2 r2 e2 w2 i2 v2) = let both = ones_same o1 o2 r1 r2 i1 i2 same in absurd (ok_err s1 w2 (verdicts_same o1 o2 (Ok s1) (Err w2) both.0 v1 v2))
one_saying p q e d r t same end (later o1 r1 e1 s1 x1 i1 v1 h1) nothing = absurd (not_ended [] o1 r1 (sym same) refl i1)
one_saying p q e d r t same end (later o1 r1 e1 s1 x1 i1 v1 h1) (no_token p2 l2 n2) = absurd (not_ended p2 o1 r1 (sym same) n2 i1)
one_saying p q e d r t same end (later o1 r1 e1 s1 x1 i1 v1 h1) (unended p2 w2 m2 n2 v2) = absurd (not_ended p2 o1 r1 (sym same) n2 i1)
one_saying p q e d r t same end (later o1 r1 e1 s1 x1 i1 v1 h1) (read o2 r2 e2 s2 x2 i2 v2 h2) = let both = ones_same o1 o2 r1 r2 i1 i2 same in absurd (ok_err x2 x1 (sym (one_saying r1 r2 e1 e2 (Err x1) (Ok x2) both.1 end h1 h2)))
one_saying p q e d r t same end (later o1 r1 e1 s1 x1 i1 v1 h1) (later o2 r2 e2 s2 x2 i2 v2 h2) = let both = ones_same o1 o2 r1 r2 i1 i2 same in one_saying r1 r2 e1 e2 (Err x1) (Err x2) both.1 end h1 h2
one_saying p q e d r t same end (later o1 r1 e1 s1 x1 i1 v1 h1) (refused o2 r2 e2 w2 i2 v2) = let both = ones_same o1 o2 r1 r2 i1 i2 same in absurd (ok_err s1 w2 (verdicts_same o1 o2 (Ok s1) (Err w2) both.0 v1 v2))
one_saying p q e d r t same end (refused o1 r1 e1 w1 i1 v1) nothing = absurd (not_ended [] o1 r1 (sym same) refl i1)
one_saying p q e d r t same end (refused o1 r1 e1 w1 i1 v1) (no_token p2 l2 n2) = absurd (not_ended p2 o1 r1 (sym same) n2 i1)
one_saying p q e d r t same end (refused o1 r1 e1 w1 i1 v1) (unended p2 w2 m2 n2 v2) = absurd (not_ended p2 o1 r1 (sym same) n2 i1)
one_saying p q e d r t same end (refused o1 r1 e1 w1 i1 v1) (read o2 r2 e2 s2 x2 i2 v2 h2) = let both = ones_same o1 o2 r1 r2 i1 i2 same in absurd (ok_err s2 w1 (sym (verdicts_same o1 o2 (Err w1) (Ok s2) both.0 v1 v2)))
one_saying p q e d r t same end (refused o1 r1 e1 w1 i1 v1) (later o2 r2 e2 s2 x2 i2 v2 h2) = let both = ones_same o1 o2 r1 r2 i1 i2 same in absurd (ok_err s2 w1 (sym (verdicts_same o1 o2 (Err w1) (Ok s2) both.0 v1 v2)))
one_saying p q e d r t same end (refused o1 r1 e1 w1 i1 v1) (refused o2 r2 e2 w2 i2 v2) = let both = ones_same o1 o2 r1 r2 i1 i2 same in fault_same _ _ w1 w2 (ap first_line both.0) (verdicts_same o1 o2 (Err w1) (Err w2) both.0 v1 v2)

placed_same : (p q : List Placed) → tokens_of p ≡ tokens_of q → places_of p ≡ places_of q → p ≡ q
placed_same p q tokens places = sym (placed_again p) ∙ ap (λ (ts : List Token). placed ts (places_of p)) tokens ∙ ap (placed (tokens_of q)) places ∙ placed_again q

pub one_reading : OneReading
one_reading text a b r s =
    let cut = cuts_once OfDefinitions (tokens_of r.placed) 1 text (places_of r.placed) r.ending (tokens_of s.placed) (places_of s.placed) s.ending r.cut s.cut in
    one_saying r.placed s.placed r.ending s.ending a b (placed_same r.placed s.placed cut.0 cut.1) cut.2 r.says s.says

-- Expressions alone.

one_entry : (tokens : List Token) (t u : Term Raw) → IsEntry tokens t → IsEntry tokens u → t ≡ u
one_entry tokens t u e f = same_term tokens t u e.reads f.reads

term_high_low : (t u : Term Raw) → t ≡ u → list_any has_high_power (nodes false t) ≡ true → list_any has_high_power (nodes false u) ≡ false → ⊥
term_high_low t u same high low = true_false (sym high ∙ ap (λ v. list_any has_high_power (nodes false v)) same ∙ low)

entry_tokens_same : (k l : ℕ) → NoToken k ≡ NoToken l → ◌≡◌ {A = Result (Term Raw) FaultAt} (Err (record { line = k; why = why.Token })) (Err (record { line = l; why = why.Token }))
entry_tokens_same k l e = let same : k ≡ l = cc in rw same refl

one_saying_of_entry : (line : ℕ) (tokens : List Token) (e d : Ending) (r t : Result (Term Raw) FaultAt) → e ≡ d → ExpressionSays line tokens e r → ExpressionSays line tokens d t → r ≡ t
one_saying_of_entry line tokens e d r t end (no_token l1) (no_token l2) = entry_tokens_same l1 l2 end
one_saying_of_entry line tokens e d r t end (no_token l1) (deep d2) = absurd (whole_not l1 (sym end))
one_saying_of_entry line tokens e d r t end (no_token l1) (unread d2 n2) = absurd (whole_not l1 (sym end))
one_saying_of_entry line tokens e d r t end (no_token l1) (power t2 d2 f2 h2) = absurd (whole_not l1 (sym end))
one_saying_of_entry line tokens e d r t end (no_token l1) (fine t2 d2 f2 h2) = absurd (whole_not l1 (sym end))
one_saying_of_entry line tokens e d r t end (deep d1) (no_token l2) = absurd (whole_not l2 end)
one_saying_of_entry line tokens e d r t end (deep d1) (deep d2) = refl
one_saying_of_entry line tokens e d r t end (deep d1) (unread d2 n2) = absurd (true_false (sym d1 ∙ d2))
one_saying_of_entry line tokens e d r t end (deep d1) (power t2 d2 f2 h2) = absurd (true_false (sym d1 ∙ d2))
one_saying_of_entry line tokens e d r t end (deep d1) (fine t2 d2 f2 h2) = absurd (true_false (sym d1 ∙ d2))
one_saying_of_entry line tokens e d r t end (unread d1 n1) (no_token l2) = absurd (whole_not l2 end)
one_saying_of_entry line tokens e d r t end (unread d1 n1) (deep d2) = absurd (true_false (sym d2 ∙ d1))
one_saying_of_entry line tokens e d r t end (unread d1 n1) (unread d2 n2) = refl
one_saying_of_entry line tokens e d r t end (unread d1 n1) (power t2 d2 f2 h2) = absurd (n1 t2 f2)
one_saying_of_entry line tokens e d r t end (unread d1 n1) (fine t2 d2 f2 h2) = absurd (n1 t2 f2)
one_saying_of_entry line tokens e d r t end (power t1 d1 f1 h1) (no_token l2) = absurd (whole_not l2 end)
one_saying_of_entry line tokens e d r t end (power t1 d1 f1 h1) (deep d2) = absurd (true_false (sym d2 ∙ d1))
one_saying_of_entry line tokens e d r t end (power t1 d1 f1 h1) (unread d2 n2) = absurd (n2 t1 f1)
one_saying_of_entry line tokens e d r t end (power t1 d1 f1 h1) (power t2 d2 f2 h2) = refl
one_saying_of_entry line tokens e d r t end (power t1 d1 f1 h1) (fine t2 d2 f2 h2) = absurd (term_high_low t1 t2 (one_entry tokens t1 t2 f1 f2) h1 h2)
one_saying_of_entry line tokens e d r t end (fine t1 d1 f1 h1) (no_token l2) = absurd (whole_not l2 end)
one_saying_of_entry line tokens e d r t end (fine t1 d1 f1 h1) (deep d2) = absurd (true_false (sym d2 ∙ d1))
one_saying_of_entry line tokens e d r t end (fine t1 d1 f1 h1) (unread d2 n2) = absurd (n2 t1 f1)
one_saying_of_entry line tokens e d r t end (fine t1 d1 f1 h1) (power t2 d2 f2 h2) = absurd (term_high_low t2 t1 (one_entry tokens t2 t1 f2 f1) h2 h1)
one_saying_of_entry line tokens e d r t end (fine t1 d1 f1 h1) (fine t2 d2 f2 h2) = ap Ok (one_entry tokens t1 t2 f1 f2)

pub one_expression : OneExpression
one_expression text line a b r s =
    let cut = cuts_once OfEntries r.tokens line text r.places r.ending s.tokens s.places s.ending r.cut s.cut in
    one_saying_of_entry line s.tokens r.ending s.ending a b cut.2 (subst (λ (ts : List Token). ExpressionSays line ts r.ending a) cut.0 r.says) s.says

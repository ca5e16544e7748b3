-- A twolc text says one thing only.
use Rattle.std.proofs.Common.{◌≡◌, ◌≢◌, ◌⊎◌, inl, inr, ℕ, Bool, true, false, not, ◌&&◌, ◌||◌, List, [], ◌∷◌, ◌++◌, map, Option, None, Some, is_some, Result, Ok, Err, refl, sym, ap, subst, ◌∙◌, append_assoc}
use Rattle.std.specs.List.{list_all, list_any}
use Rattle.std.specs.Option.{option_map, option_and_then}
use Rattle.regex_ast.specs.Terms.{Term, Contexts, no_context, between}
use Rattle.regex_ast.specs.declared.expr.Raw.{Raw}
use Rattle.regex_ast.specs.declared.fault.Why.{Why}
use Rattle.regex_ast.specs.declared.fault.Why.TheVariants as why
use Rattle.regex_ast.specs.declared.twolc.RuleKind.{RuleKind}
use Rattle.regex_tokens.specs.Bytes.{begins}
use Rattle.regex_tokens.specs.declared.token.Ending.{Ending}
use Rattle.regex_tokens.specs.declared.token.Ending.TheVariants.{Whole, NoToken}
use Rattle.regex_ast.specs.declared.twolc.RuleKind.{RuleKind}
use Rattle.regex_tokens.specs.declared.token.Operator.{Operator as XfstOperator}
use Rattle.regex_tokens.specs.declared.token.Token.{Token as XfstToken}
use Rattle.regex_tokens.specs.declared.token.Token.TheVariants.{Operator as xfst_operator}
use Rattle.regex_tokens.proofs.Lists.{and_true, split_once}
use Rattle.regex_grammar.specs.Whole.{IsReading}
use Rattle.regex_reader.specs.Files.{FaultAt}
use Rattle.regex_reader.proofs.Readings.{same_term}
use Rattle.project_meaning.specs.Trees.{Part, Set, PairDefinition, Rule, Grammar}
use Rattle.twolc_tokens.specs.declared.token.Operator.TheVariants.{Arrow, Semicolon, Underscore, Equals}
use Rattle.twolc_tokens.specs.declared.token.Placed.{Placed}
use Rattle.twolc_tokens.specs.declared.token.Token.{Token}
use Rattle.twolc_tokens.specs.declared.token.Token.TheVariants.{Operator as operator, Quoted as quoted, Atom as atom}
use Rattle.twolc_tokens.proofs.Texts.{cuts_once}
use Rattle.twolc_grammar.specs.Atoms.{Names, symbols_in, one_symbol_in, centre_in}
use Rattle.twolc_grammar.specs.Expressions.{in_xfst, as_token, as_xfst, is_caret, over_pairs, IsExpression, IsPart}
use Rattle.twolc_grammar.specs.Statements.{Statement, alphabet, set, definition, rule, Section, in_alphabet, in_sets, in_definitions, in_rules, IsList, IsNamed, AreContexts, IsStatement, is_large, is_again, Verdict, deep, unread, power, large, again, fine}
use Rattle.twolc_grammar.specs.Sections.{Stage, beginning, within, leads, may_begin, is_quoted, is_semicolon, tokens_of, IsEnded, begins_rule, IsOne, is_open, with_statement, stage_behind, names_of, fault_at, State, nothing_read, at_end, Says, ended, head, strange, no_token, unended, read, refused, OneReading}

some_same : {A : Type 0} (x y : A) → Some x ≡ Some y → x ≡ y
some_same x y e = cc

heads : {A : Type 0} (x y : A) (xs ys : List A) → x ∷ xs ≡ y ∷ ys → x ≡ y
heads x y xs ys e = cc

tails : {A : Type 0} (x y : A) (xs ys : List A) → x ∷ xs ≡ y ∷ ys → xs ≡ ys
tails x y xs ys e = cc

true_false : true ≡ false → ⊥
true_false e = absurd cc

-- Expressions.

expression_once : (names : Names) (tokens : List Token) (t u : Term (Part Raw)) → IsExpression names tokens t → IsExpression names tokens u → t ≡ u
expression_once names tokens t u (xs, ex, s, rs, os) (ys, ey, r, rr, ot) =
    let same : xs ≡ ys = some_same xs ys (sym ex ∙ ey) in
    let said : s ≡ r = same_term ys s r (subst (λ zs. IsReading zs (Some s)) same rs) rr in
    some_same t u (sym os ∙ ap (over_pairs names) said ∙ ot)

-- a token that may stand in an expression
abbrev stands : Token → Bool
stands (operator o) = is_some (in_xfst o)
stands (quoted text) = false
stands (atom text) = true

operator_stands : (o : Option XfstOperator) (x : XfstToken) → option_map xfst_operator o ≡ Some x → is_some o ≡ true
operator_stands None x e = absurd cc
operator_stands (Some o) x e = refl

token_stands : (mark : Bool) (t : Token) (x : XfstToken) → as_token mark t ≡ Some x → stands t ≡ true
token_stands mark (operator o) x e = operator_stands (in_xfst o) x e
token_stands mark (quoted text) x e = absurd cc
token_stands mark (atom text) x e = refl

all_stand : (mark : Bool) (tokens : List Token) (xs : List XfstToken) → as_xfst mark tokens ≡ Some xs → list_all stands tokens ≡ true
all_stand mark [] xs e = refl
all_stand mark (t ∷ ts) xs e = by (as_token mark t) refl (as_xfst (is_caret t) ts) (λ ys h. all_stand (is_caret t) ts ys h) e
  where
    by : (o : Option XfstToken) → as_token mark t ≡ o → (rest : Option (List XfstToken)) → ((ys : List XfstToken) → rest ≡ Some ys → list_all stands ts ≡ true) → option_and_then (λ x. option_map (λ ys. x ∷ ys) rest) o ≡ Some xs → (stands t && list_all stands ts) ≡ true
    by None is rest more e = absurd cc
    by (Some x) is None more e = absurd cc
    by (Some x) is (Some ys) more e = and_true _ _ (token_stands mark t x is) (more ys refl)

expression_stands : (names : Names) (tokens : List Token) (t : Term (Part Raw)) → IsExpression names tokens t → list_all stands tokens ≡ true
expression_stands names tokens t (xs, ex, s, rs, os) = all_stand false tokens xs ex

part_stands : (names : Names) (tokens : List Token) (t : Term (Part Raw)) → IsPart names tokens t → list_all stands tokens ≡ true
part_stands names [] t h = refl
part_stands names (x ∷ tokens) t h = expression_stands names (x ∷ tokens) t h

part_once : (names : Names) (tokens : List Token) (t u : Term (Part Raw)) → IsPart names tokens t → IsPart names tokens u → t ≡ u
part_once names [] t u h g = h ∙ sym g
part_once names (x ∷ tokens) t u h g = expression_once names (x ∷ tokens) t u h g

-- Contexts.

not_empty : {A : Type 0} (xs ys : List A) (y : A) → [] ≡ xs ++ (y ∷ ys) → ⊥
not_empty [] ys y e = cc
not_empty (x ∷ xs) ys y e = cc

contexts_once : (names : Names) (c d : Contexts (Part Raw)) (tokens : List Token) → AreContexts names tokens c → AreContexts names tokens d → c ≡ d
contexts_once names no_context no_context tokens h g = refl
contexts_once names no_context (between k q d) tokens h (left, right, rest, f, jl, jr, jc) = absurd (not_empty left (right ++ (operator Semicolon ∷ rest)) (operator Underscore) (sym h ∙ f))
contexts_once names (between l r c) no_context tokens (left, right, rest, e, il, ir, ic) g = absurd (not_empty left (right ++ (operator Semicolon ∷ rest)) (operator Underscore) (sym g ∙ e))
contexts_once names (between l r c) (between k q d) tokens (left, right, rest, e, il, ir, ic) (left2, right2, rest2, f, jl, jr, jc) =
    let first = split_once stands left left2 (operator Underscore ∷ (right ++ (operator Semicolon ∷ rest))) (operator Underscore ∷ (right2 ++ (operator Semicolon ∷ rest2))) (part_stands names left l il) (part_stands names left2 k jl) refl refl (sym e ∙ f) in
    let second = split_once stands right right2 (operator Semicolon ∷ rest) (operator Semicolon ∷ rest2) (part_stands names right r ir) (part_stands names right2 q jr) refl refl (tails (operator Underscore) (operator Underscore) (right ++ (operator Semicolon ∷ rest)) (right2 ++ (operator Semicolon ∷ rest2)) first.1) in
    let behind : rest ≡ rest2 = tails (operator Semicolon) (operator Semicolon) rest rest2 second.1 in
    let a : l ≡ k = part_once names left2 l k (subst (λ ts. IsPart names ts l) first.0 il) jl in
    let b : r ≡ q = part_once names right2 r q (subst (λ ts. IsPart names ts r) second.0 ir) jr in
    let m : c ≡ d = contexts_once names c d rest2 (subst (λ ts. AreContexts names ts c) behind ic) jc in
    λ i. between (a i) (b i) (m i)

-- Lists of atoms.

abbrev is_atom : Token → Bool
is_atom (atom text) = true
is_atom _ = false

all_atoms : (atoms : List (List ℕ)) → list_all is_atom (map atom atoms) ≡ true
all_atoms [] = refl
all_atoms (a ∷ atoms) = all_atoms atoms

cons_same : {A : Type 0} (x y : A) (xs ys : List A) → x ≡ y → xs ≡ ys → x ∷ xs ≡ y ∷ ys
cons_same x y xs ys e f = λ i. e i ∷ f i

atom_same : (a b : List ℕ) → atom a ≡ atom b → a ≡ b
atom_same a b e = cc

atoms_same : (a b : List (List ℕ)) → map atom a ≡ map atom b → a ≡ b
atoms_same [] [] e = refl
atoms_same [] (y ∷ b) e = absurd cc
atoms_same (x ∷ a) [] e = absurd cc
atoms_same (x ∷ a) (y ∷ b) e = cons_same x y a b (atom_same x y (heads (atom x) (atom y) (map atom a) (map atom b) e)) (atoms_same a b (tails (atom x) (atom y) (map atom a) (map atom b) e))

list_once : (tokens : List Token) (a b : List (List ℕ)) → IsList tokens a → IsList tokens b → a ≡ b
list_once tokens a b e f = atoms_same a b (split_once is_atom (map atom a) (map atom b) (operator Semicolon ∷ []) (operator Semicolon ∷ []) (all_atoms a) (all_atoms b) refl refl (sym e ∙ f)).0

somes_same : {A : Type 0} (xs ys : List A) → map (λ x. Some x) xs ≡ map (λ x. Some x) ys → xs ≡ ys
somes_same [] [] e = refl
somes_same [] (y ∷ ys) e = absurd cc
somes_same (x ∷ xs) [] e = absurd cc
somes_same {A} (x ∷ xs) (y ∷ ys) e = cons_same x y xs ys (some_same x y (heads (Some x) (Some y) (map (λ z. Some z) xs) (map (λ z. Some z) ys) e)) (somes_same xs ys (tails (Some x) (Some y) (map (λ z. Some z) xs) (map (λ z. Some z) ys) e))

-- Statements.

named_once : (tokens : List Token) (n m : List ℕ) (a b : List Token) → IsNamed tokens n a → IsNamed tokens m b → (n ≡ m) × (a ≡ b)
named_once tokens n m a b h g =
    let same : atom n ∷ operator Equals ∷ a ≡ atom m ∷ operator Equals ∷ b = sym h.0 ∙ g.0 in
    (atom_same n m (heads (atom n) (atom m) (operator Equals ∷ a) (operator Equals ∷ b) same), tails (operator Equals) (operator Equals) a b (tails (atom n) (atom m) (operator Equals ∷ a) (operator Equals ∷ b) same))

set_same : (s t : Set Raw) → s.name ≡ t.name → s.symbols ≡ t.symbols → set s ≡ set t
set_same s t name symbols = λ i. set (record { name = name i; symbols = symbols i })

definition_same : (s t : PairDefinition Raw) → s.name ≡ t.name → s.term ≡ t.term → definition s ≡ definition t
definition_same s t name said = λ i. definition (record { name = name i; term = said i })

rule_same : (s t : Rule Raw) → s.name ≡ t.name → s.centre ≡ t.centre → s.kind ≡ t.kind → s.contexts ≡ t.contexts → rule s ≡ rule t
rule_same s t name centre kind contexts = λ i. rule (record { name = name i; centre = centre i; kind = kind i; contexts = contexts i })

quoted_same : (a b : List ℕ) → quoted a ≡ quoted b → a ≡ b
quoted_same a b e = cc

kind_same : (a b : RuleKind) → operator (Arrow a) ≡ operator (Arrow b) → a ≡ b
kind_same a b e = cc

one_statement : (names : Names) (section : Section) (tokens : List Token) (s t : Statement) → IsStatement names section tokens s → IsStatement names section tokens t → s ≡ t
one_statement names in_alphabet tokens (alphabet ps) (alphabet qs) (a, la, ea) (b, lb, eb) = ap alphabet (somes_same ps qs (ea ∙ ap (map symbols_in) (list_once tokens a b la lb) ∙ sym eb))
one_statement names in_sets tokens (set s) (set t) (la, a, na, ia, sa, ea) (lb, b, nb, ib, sb, eb) =
    let named = named_once tokens s.name t.name la lb na nb in
    set_same s t named.0 (somes_same s.symbols t.symbols (ea ∙ ap (map one_symbol_in) (list_once lb a b (subst (λ ts. IsList ts a) named.1 ia) ib) ∙ sym eb))
one_statement names in_definitions tokens (definition s) (definition t) (xa, na, ea, fa) (xb, nb, eb, fb) =
    let named = named_once tokens s.name t.name (xa ++ operator Semicolon ∷ []) (xb ++ operator Semicolon ∷ []) na nb in
    let same = split_once stands xa xb (operator Semicolon ∷ []) (operator Semicolon ∷ []) (expression_stands names xa s.term ea) (expression_stands names xb t.term eb) refl refl named.1 in
    definition_same s t named.0 (expression_once names xb s.term t.term (subst (λ ts. IsExpression names ts s.term) same.0 ea) eb)
one_statement names in_rules tokens (rule s) (rule t) (ca, ra, ea, centre_a, are_a, some_a) (cb, rb, eb, centre_b, are_b, some_b) =
    let same : quoted s.name ∷ atom ca ∷ operator (Arrow s.kind) ∷ ra ≡ quoted t.name ∷ atom cb ∷ operator (Arrow t.kind) ∷ rb = sym ea ∙ eb in
    let name : s.name ≡ t.name = quoted_same s.name t.name (heads (quoted s.name) (quoted t.name) (atom ca ∷ operator (Arrow s.kind) ∷ ra) (atom cb ∷ operator (Arrow t.kind) ∷ rb) same) in
    let behind : atom ca ∷ operator (Arrow s.kind) ∷ ra ≡ atom cb ∷ operator (Arrow t.kind) ∷ rb = tails (quoted s.name) (quoted t.name) (atom ca ∷ operator (Arrow s.kind) ∷ ra) (atom cb ∷ operator (Arrow t.kind) ∷ rb) same in
    let centre : ca ≡ cb = atom_same ca cb (heads (atom ca) (atom cb) (operator (Arrow s.kind) ∷ ra) (operator (Arrow t.kind) ∷ rb) behind) in
    let last : operator (Arrow s.kind) ∷ ra ≡ operator (Arrow t.kind) ∷ rb = tails (atom ca) (atom cb) (operator (Arrow s.kind) ∷ ra) (operator (Arrow t.kind) ∷ rb) behind in
    let kind : s.kind ≡ t.kind = kind_same s.kind t.kind (heads (operator (Arrow s.kind)) (operator (Arrow t.kind)) ra rb last) in
    let rest : ra ≡ rb = tails (operator (Arrow s.kind)) (operator (Arrow t.kind)) ra rb last in
    rule_same s t name (some_same s.centre t.centre (sym centre_a ∙ ap (centre_in names) centre ∙ centre_b)) kind
    (contexts_once names s.contexts t.contexts rb (subst (λ ts. AreContexts names ts s.contexts) rest are_a) are_b)
one_statement names in_alphabet tokens (alphabet s) (set t) h g = absurd g
one_statement names in_alphabet tokens (alphabet s) (definition t) h g = absurd g
one_statement names in_alphabet tokens (alphabet s) (rule t) h g = absurd g
one_statement names in_alphabet tokens (set s) t h g = absurd h
one_statement names in_alphabet tokens (definition s) t h g = absurd h
one_statement names in_alphabet tokens (rule s) t h g = absurd h
one_statement names in_sets tokens (set s) (alphabet t) h g = absurd g
one_statement names in_sets tokens (set s) (definition t) h g = absurd g
one_statement names in_sets tokens (set s) (rule t) h g = absurd g
one_statement names in_sets tokens (alphabet s) t h g = absurd h
one_statement names in_sets tokens (definition s) t h g = absurd h
one_statement names in_sets tokens (rule s) t h g = absurd h
one_statement names in_definitions tokens (definition s) (alphabet t) h g = absurd g
one_statement names in_definitions tokens (definition s) (set t) h g = absurd g
one_statement names in_definitions tokens (definition s) (rule t) h g = absurd g
one_statement names in_definitions tokens (alphabet s) t h g = absurd h
one_statement names in_definitions tokens (set s) t h g = absurd h
one_statement names in_definitions tokens (rule s) t h g = absurd h
one_statement names in_rules tokens (rule s) (alphabet t) h g = absurd g
one_statement names in_rules tokens (rule s) (set t) h g = absurd g
one_statement names in_rules tokens (rule s) (definition t) h g = absurd g
one_statement names in_rules tokens (alphabet s) t h g = absurd h
one_statement names in_rules tokens (set s) t h g = absurd h
one_statement names in_rules tokens (definition s) t h g = absurd h

-- Verdicts.

large_small : (s t : Statement) → s ≡ t → is_large s ≡ true → is_large t ≡ false → ⊥
large_small s t same l k = true_false (sym l ∙ ap is_large same ∙ k)

again_new : (names : Names) (s t : Statement) → s ≡ t → is_again names s ≡ true → is_again names t ≡ false → ⊥
again_new names s t same l k = true_false (sym l ∙ ap (is_again names) same ∙ k)

module _ (names : Names) (section : Section) (tokens : List Token) where
  same_as : (s t : Statement) → IsStatement names section tokens s → IsStatement names section tokens t → s ≡ t
  same_as s t f g = one_statement names section tokens s t f g

  pub one_verdict : (a b : Result Statement Why) → Verdict names section tokens a → Verdict names section tokens b → a ≡ b
  one_verdict a b (deep d1) (deep d2) = refl
  one_verdict a b (deep d1) (unread d2 n2) = absurd (true_false (sym d1 ∙ d2))
  one_verdict a b (deep d1) (power s2 d2 f2 h2) = absurd (true_false (sym d1 ∙ d2))
  one_verdict a b (deep d1) (large s2 d2 f2 h2 l2) = absurd (true_false (sym d1 ∙ d2))
  one_verdict a b (deep d1) (again s2 d2 f2 h2 l2 g2) = absurd (true_false (sym d1 ∙ d2))
  one_verdict a b (deep d1) (fine s2 d2 f2 h2 l2 g2) = absurd (true_false (sym d1 ∙ d2))
  one_verdict a b (unread d1 n1) (deep d2) = absurd (true_false (sym d2 ∙ d1))
  one_verdict a b (unread d1 n1) (unread d2 n2) = refl
  one_verdict a b (unread d1 n1) (power s2 d2 f2 h2) = absurd (n1 s2 f2)
  one_verdict a b (unread d1 n1) (large s2 d2 f2 h2 l2) = absurd (n1 s2 f2)
  one_verdict a b (unread d1 n1) (again s2 d2 f2 h2 l2 g2) = absurd (n1 s2 f2)
  one_verdict a b (unread d1 n1) (fine s2 d2 f2 h2 l2 g2) = absurd (n1 s2 f2)
  one_verdict a b (power s1 d1 f1 h1) (deep d2) = absurd (true_false (sym d2 ∙ d1))
  one_verdict a b (power s1 d1 f1 h1) (unread d2 n2) = absurd (n2 s1 f1)
  one_verdict a b (power s1 d1 f1 h1) (power s2 d2 f2 h2) = refl
  one_verdict a b (power s1 d1 f1 h1) (large s2 d2 f2 h2 l2) = absurd (true_false (sym h1 ∙ h2))
  one_verdict a b (power s1 d1 f1 h1) (again s2 d2 f2 h2 l2 g2) = absurd (true_false (sym h1 ∙ h2))
  one_verdict a b (power s1 d1 f1 h1) (fine s2 d2 f2 h2 l2 g2) = absurd (true_false (sym h1 ∙ h2))
  one_verdict a b (large s1 d1 f1 h1 l1) (deep d2) = absurd (true_false (sym d2 ∙ d1))
  one_verdict a b (large s1 d1 f1 h1 l1) (unread d2 n2) = absurd (n2 s1 f1)
  one_verdict a b (large s1 d1 f1 h1 l1) (power s2 d2 f2 h2) = absurd (true_false (sym h2 ∙ h1))
  one_verdict a b (large s1 d1 f1 h1 l1) (large s2 d2 f2 h2 l2) = refl
  one_verdict a b (large s1 d1 f1 h1 l1) (again s2 d2 f2 h2 l2 g2) = absurd (large_small s1 s2 (same_as s1 s2 f1 f2) l1 l2)
  one_verdict a b (large s1 d1 f1 h1 l1) (fine s2 d2 f2 h2 l2 g2) = absurd (large_small s1 s2 (same_as s1 s2 f1 f2) l1 l2)
  one_verdict a b (again s1 d1 f1 h1 l1 g1) (deep d2) = absurd (true_false (sym d2 ∙ d1))
  one_verdict a b (again s1 d1 f1 h1 l1 g1) (unread d2 n2) = absurd (n2 s1 f1)
  one_verdict a b (again s1 d1 f1 h1 l1 g1) (power s2 d2 f2 h2) = absurd (true_false (sym h2 ∙ h1))
  one_verdict a b (again s1 d1 f1 h1 l1 g1) (large s2 d2 f2 h2 l2) = absurd (large_small s2 s1 (same_as s2 s1 f2 f1) l2 l1)
  one_verdict a b (again s1 d1 f1 h1 l1 g1) (again s2 d2 f2 h2 l2 g2) = refl
  one_verdict a b (again s1 d1 f1 h1 l1 g1) (fine s2 d2 f2 h2 l2 g2) = absurd (again_new names s1 s2 (same_as s1 s2 f1 f2) g1 g2)
  one_verdict a b (fine s1 d1 f1 h1 l1 g1) (deep d2) = absurd (true_false (sym d2 ∙ d1))
  one_verdict a b (fine s1 d1 f1 h1 l1 g1) (unread d2 n2) = absurd (n2 s1 f1)
  one_verdict a b (fine s1 d1 f1 h1 l1 g1) (power s2 d2 f2 h2) = absurd (true_false (sym h2 ∙ h1))
  one_verdict a b (fine s1 d1 f1 h1 l1 g1) (large s2 d2 f2 h2 l2) = absurd (large_small s2 s1 (same_as s2 s1 f2 f1) l2 l1)
  one_verdict a b (fine s1 d1 f1 h1 l1 g1) (again s2 d2 f2 h2 l2 g2) = absurd (again_new names s2 s1 (same_as s2 s1 f2 f1) g2 g1)
  one_verdict a b (fine s1 d1 f1 h1 l1 g1) (fine s2 d2 f2 h2 l2 g2) = ap Ok (same_as s1 s2 f1 f2)

-- The tokens of one statement.

none_all : (f : Token → Bool) (ps : List Placed) → list_any f (tokens_of ps) ≡ false → list_all (λ p. not (f p.token)) ps ≡ true
none_all f [] e = refl
none_all f (p ∷ ps) e = by (f p.token) (none_all f ps) e
  where
    by : (b : Bool) → (list_any f (tokens_of ps) ≡ false → list_all (λ q. not (f q.token)) ps ≡ true) → (b || list_any f (tokens_of ps)) ≡ false → (not b && list_all (λ q. not (f q.token)) ps) ≡ true
    by true more e = absurd (true_false e)
    by false more e = more e

any_front : (f : Token → Bool) (xs ys : List Placed) → list_any f (tokens_of xs) ≡ true → list_any f (tokens_of (xs ++ ys)) ≡ true
any_front f [] ys e = absurd (true_false (sym e))
any_front f (x ∷ xs) ys e = by (f x.token) (any_front f xs ys) e
  where
    by : (b : Bool) → (list_any f (tokens_of xs) ≡ true → list_any f (tokens_of (xs ++ ys)) ≡ true) → (b || list_any f (tokens_of xs)) ≡ true → (b || list_any f (tokens_of (xs ++ ys))) ≡ true
    by true more e = refl
    by false more e = more e

any_here : (f : Token → Bool) (xs : List Placed) (y : Placed) (ys : List Placed) → f y.token ≡ true → list_any f (tokens_of (xs ++ (y ∷ ys))) ≡ true
any_here f [] y ys e = ap (λ b. b || list_any f (tokens_of ys)) e
any_here f (x ∷ xs) y ys e = by (f x.token) (any_here f xs y ys e)
  where
    by : (b : Bool) → list_any f (tokens_of (xs ++ (y ∷ ys))) ≡ true → (b || list_any f (tokens_of (xs ++ (y ∷ ys)))) ≡ true
    by true more = refl
    by false more = more

ended_has : (one rest : List Placed) → IsEnded one → list_any is_semicolon (tokens_of (one ++ rest)) ≡ true
ended_has one rest i = any_front is_semicolon one rest (ap (λ ps. list_any is_semicolon (tokens_of ps)) i.whole ∙ any_here is_semicolon i.front i.last [] (ap is_semicolon i.last_is))

abbrev goes_on : Placed → Bool
goes_on p = not (is_semicolon p.token)

ended_once : (one other rest behind : List Placed) → IsEnded one → IsEnded other → one ++ rest ≡ other ++ behind → (one ≡ other) × (rest ≡ behind)
ended_once one other rest behind i j e =
    let left : i.front ++ (i.last ∷ rest) ≡ one ++ rest = sym (append_assoc i.front (i.last ∷ []) rest) ∙ ap (λ ps. ps ++ rest) (sym i.whole) in
    let right : other ++ behind ≡ j.front ++ (j.last ∷ behind) = ap (λ ps. ps ++ behind) j.whole ∙ append_assoc j.front (j.last ∷ []) behind in
    let parts = split_once goes_on i.front j.front (i.last ∷ rest) (j.last ∷ behind) (none_all is_semicolon i.front i.front_is) (none_all is_semicolon j.front j.front_is) (ap (λ t. not (is_semicolon t)) i.last_is) (ap (λ t. not (is_semicolon t)) j.last_is) (left ∙ e ∙ right) in
    let front : i.front ≡ j.front = parts.0 in
    let last : i.last ≡ j.last = heads i.last j.last rest behind parts.1 in
    let whole : i.front ++ i.last ∷ [] ≡ j.front ++ j.last ∷ [] = λ k. front k ++ last k ∷ [] in
    (i.whole ∙ whole ∙ sym j.whole, tails i.last j.last rest behind parts.1)

abbrev in_rule : Placed → Bool
in_rule p = not (is_quoted p.token)

rule_stops : (rest : List Placed) → begins_rule rest ≡ true → begins in_rule rest ≡ false
rule_stops [] e = refl
rule_stops (p ∷ rest) e = ap not e

ones_once : (section : Section) (p q : Placed) (more other rest behind : List Placed) → IsOne section (p ∷ more) rest → IsOne section (q ∷ other) behind → p ∷ (more ++ rest) ≡ q ∷ (other ++ behind) → (more ≡ other) × (rest ≡ behind)
ones_once in_alphabet p q more other rest behind i j e = let h = ended_once (p ∷ more) (q ∷ other) rest behind i j e in (tails p q more other h.0, h.1)
ones_once in_sets p q more other rest behind i j e = let h = ended_once (p ∷ more) (q ∷ other) rest behind i j e in (tails p q more other h.0, h.1)
ones_once in_definitions p q more other rest behind i j e = let h = ended_once (p ∷ more) (q ∷ other) rest behind i j e in (tails p q more other h.0, h.1)
ones_once in_rules p q more other rest behind i j e =
    split_once in_rule more other rest behind (none_all is_quoted more i.0) (none_all is_quoted other j.0) (rule_stops rest i.1) (rule_stops behind j.1) (tails p q (more ++ rest) (other ++ behind) e)

flip : (b : Bool) → not b ≡ true → b ≡ false
flip true e = absurd (true_false (sym e))
flip false e = refl

-- a whole statement isn't bare to the end
open_ended : (p q : Placed) (all more rest : List Placed) → not (list_any is_semicolon (tokens_of (p ∷ all))) ≡ true → IsEnded (q ∷ more) → p ∷ all ≡ q ∷ (more ++ rest) → ⊥
open_ended p q all more rest bare i e = true_false (sym (ended_has (q ∷ more) rest i) ∙ ap (λ ps. list_any is_semicolon (tokens_of ps)) (sym e) ∙ flip (list_any is_semicolon (tokens_of (p ∷ all))) bare)

open_rule : (all more rest : List Placed) → not (list_any is_quoted (tokens_of all)) ≡ true → begins_rule rest ≡ true → all ≡ more ++ rest → rest ≡ []
open_rule all more [] bare begun e = refl
open_rule all more (r ∷ rest) bare begun e = absurd (true_false (sym (any_here is_quoted more r rest begun) ∙ ap (λ ps. list_any is_quoted (tokens_of ps)) (sym e) ∙ flip (list_any is_quoted (tokens_of all)) bare))

whole_not : (line : ℕ) → Whole ≡ NoToken line → ⊥
whole_not line e = absurd cc

rule_goes_on : (rest : List Placed) (ending : Ending) (line : ℕ) → rest ≡ [] → (rest ≢ []) ⊎ ((ending ≡ Whole) ⊎ (in_rules ≢ in_rules)) → ending ≡ NoToken line → ⊥
rule_goes_on rest ending line none (inl some) at = some none
rule_goes_on rest ending line none (inr (inl ends)) at = whole_not line (sym ends ∙ at)
rule_goes_on rest ending line none (inr (inr other)) at = other refl

stays_open : (section : Section) (p q : Placed) (all more rest : List Placed) (ending : Ending) (line : ℕ) → is_open section p all ≡ true → IsOne section (q ∷ more) rest → p ∷ all ≡ q ∷ (more ++ rest) → (rest ≢ []) ⊎ ((ending ≡ Whole) ⊎ (section ≢ in_rules)) → ending ≡ NoToken line → ⊥
stays_open in_alphabet p q all more rest ending line bare i e goes at = open_ended p q all more rest bare i e
stays_open in_sets p q all more rest ending line bare i e goes at = open_ended p q all more rest bare i e
stays_open in_definitions p q all more rest ending line bare i e goes at = open_ended p q all more rest bare i e
stays_open in_rules p q all more rest ending line bare i e goes at = rule_goes_on rest ending line (open_rule all more rest bare i.1 (tails p q all (more ++ rest) e)) goes at

never_ends : (section : Section) (p q : Placed) (all more rest : List Placed) → section ≢ in_rules → is_open section p all ≡ true → IsOne section (q ∷ more) rest → p ∷ all ≡ q ∷ (more ++ rest) → ⊥
never_ends in_alphabet p q all more rest other bare i e = open_ended p q all more rest bare i e
never_ends in_sets p q all more rest other bare i e = open_ended p q all more rest bare i e
never_ends in_definitions p q all more rest other bare i e = open_ended p q all more rest bare i e
never_ends in_rules p q all more rest other bare i e = other refl

-- What tokens say.

nil_cons : (p : Placed) (ps : List Placed) → [] ≡ p ∷ ps → ⊥
nil_cons p ps e = absurd cc

within_same : (s t : Section) → within s ≡ within t → s ≡ t
within_same s t e = cc

leads_same : (x y : Stage) (p q : Placed) (o r : Option Section) → x ≡ y → p ≡ q → leads x p.token ≡ o → leads y q.token ≡ r → o ≡ r
leads_same x y p q o r e f h g = let same : leads x p.token ≡ leads y q.token = λ i. leads (e i) (f i).token in sym h ∙ same ∙ g

some_none : (s : Section) → Some s ≡ None → ⊥
some_none s e = absurd cc

begins_same : (x y : Stage) (p q : Placed) → x ≡ y → p ≡ q → may_begin x p.token ≡ true → may_begin y q.token ≡ false → ⊥
begins_same x y p q e f h g = let same : may_begin x p.token ≡ may_begin y q.token = λ i. may_begin (e i) (f i).token in true_false (sym h ∙ same ∙ g)

verdicts_same : (g h : Grammar Raw) (s t : Section) (p q : List Placed) (a b : Result Statement Why) → g ≡ h → s ≡ t → p ≡ q → Verdict (names_of g) s (tokens_of p) a → Verdict (names_of h) t (tokens_of q) b → a ≡ b
verdicts_same g h s t p q a b eg es ep v w = one_verdict (names_of h) t (tokens_of q) a b (subst (λ ps. Verdict (names_of h) t (tokens_of ps) a) ep (subst (λ z. Verdict (names_of h) z (tokens_of p) a) es (subst (λ z. Verdict (names_of z) s (tokens_of p) a) eg v))) w

faults_same : (p q : Placed) (a b : Why) → p ≡ q → ◌≡◌ {A = Result Statement Why} (Err a) (Err b) → fault_at p.line a ≡ fault_at q.line b
faults_same p q a b e f = let same : a ≡ b = cc in λ i. fault_at (e i).line (same i)

oks_same : (s t : Statement) → ◌≡◌ {A = Result Statement Why} (Ok s) (Ok t) → s ≡ t
oks_same s t e = cc

ok_err : (s : Statement) (a : Why) → ◌≡◌ {A = Result Statement Why} (Ok s) (Err a) → ⊥
ok_err s a e = absurd cc

lines_same : (k l : ℕ) → NoToken k ≡ NoToken l → fault_at k why.Token ≡ fault_at l why.Token
lines_same k l e = let same : k ≡ l = cc in ap (λ n. fault_at n why.Token) same

-- one statement is found in both, and the rest is the same
record Same (s t : Section) (g h : Grammar Raw) (p q : Placed) (more other rest behind : List Placed) : Type 0 where
  section : s ≡ t
  grammar : g ≡ h
  first : p ≡ q
  others : more ≡ other
  rests : rest ≡ behind

tokens_same : (s t : Section) (g h : Grammar Raw) (p q : Placed) (more other rest behind : List Placed) → Same s t g h p q more other rest behind → p ∷ more ≡ q ∷ other
tokens_same s t g h p q more other rest behind m = cons_same p q more other m.first m.others

same_one : (s t : Section) (g h : Grammar Raw) (p q : Placed) (more other rest behind : List Placed) → within s ≡ within t → g ≡ h → p ∷ (more ++ rest) ≡ q ∷ (other ++ behind) → IsOne s (p ∷ more) rest → IsOne t (q ∷ other) behind → Same s t g h p q more other rest behind
same_one s t g h p q more other rest behind es eg er i j =
    let section : s ≡ t = within_same s t es in
    let both = ones_once t p q more other rest behind (subst (λ z. IsOne z (p ∷ more) rest) section i) j er in
    record { section = section; grammar = eg; first = heads p q (more ++ rest) (other ++ behind) er; others = both.0; rests = both.1 }

one_saying : (x y : State) (a b : Result (Grammar Raw) FaultAt) → x ≡ y → Says x a → Says y b → a ≡ b
one_saying x y a b e (ended s1 g1 n1) (ended s2 g2 n2) = ap (λ (z : State). at_end z.stage z.grammar z.ending) e
one_saying x y a b e (ended s1 g1 n1) (head s2 g2 p2 r2 n2 c2 a2 l2 h2) = absurd (nil_cons p2 (r2) (ap (λ (z : State). z.rest) e))
one_saying x y a b e (ended s1 g1 n1) (strange s2 g2 p2 r2 n2 l2 b2) = absurd (nil_cons p2 (r2) (ap (λ (z : State). z.rest) e))
one_saying x y a b e (ended s1 g1 n1) (no_token c2 g2 p2 m2 k2 l2 b2 o2) = absurd (nil_cons p2 m2 (ap (λ (z : State). z.rest) e))
one_saying x y a b e (ended s1 g1 n1) (unended c2 g2 p2 m2 w2 x2 l2 b2 o2 v2) = absurd (nil_cons p2 m2 (ap (λ (z : State). z.rest) e))
one_saying x y a b e (ended s1 g1 n1) (read c2 g2 p2 m2 r2 n2 s2 a2 l2 b2 i2 y2 v2 h2) = absurd (nil_cons p2 (m2 ++ r2) (ap (λ (z : State). z.rest) e))
one_saying x y a b e (ended s1 g1 n1) (refused c2 g2 p2 m2 r2 n2 w2 l2 b2 i2 y2 v2) = absurd (nil_cons p2 (m2 ++ r2) (ap (λ (z : State). z.rest) e))
one_saying x y a b e (head s1 g1 p1 r1 n1 c1 a1 l1 h1) (ended s2 g2 n2) = absurd (nil_cons p1 (r1) (sym (ap (λ (z : State). z.rest) e)))
one_saying x y a b e (head s1 g1 p1 r1 n1 c1 a1 l1 h1) (head s2 g2 p2 r2 n2 c2 a2 l2 h2) = let section : c1 ≡ c2 = some_same c1 c2 (leads_same s1 s2 p1 p2 (Some c1) (Some c2) (ap (λ (z : State). z.stage) e) (heads p1 p2 (r1) (r2) (ap (λ (z : State). z.rest) e)) l1 l2) in let behind : r1 ≡ r2 = tails p1 p2 r1 r2 (ap (λ (z : State). z.rest) e) in one_saying _ _ a1 a2 (λ i. record { stage = within (section i); grammar = (e i).grammar; rest = behind i; ending = (e i).ending }) h1 h2
one_saying x y a b e (head s1 g1 p1 r1 n1 c1 a1 l1 h1) (strange s2 g2 p2 r2 n2 l2 b2) = absurd (some_none c1 (leads_same s1 s2 p1 p2 (Some c1) None (ap (λ (z : State). z.stage) e) (heads p1 p2 (r1) (r2) (ap (λ (z : State). z.rest) e)) l1 l2))
one_saying x y a b e (head s1 g1 p1 r1 n1 c1 a1 l1 h1) (no_token c2 g2 p2 m2 k2 l2 b2 o2) = absurd (some_none c1 (leads_same s1 (within c2) p1 p2 (Some c1) None (ap (λ (z : State). z.stage) e) (heads p1 p2 (r1) m2 (ap (λ (z : State). z.rest) e)) l1 l2))
one_saying x y a b e (head s1 g1 p1 r1 n1 c1 a1 l1 h1) (unended c2 g2 p2 m2 w2 x2 l2 b2 o2 v2) = absurd (some_none c1 (leads_same s1 (within c2) p1 p2 (Some c1) None (ap (λ (z : State). z.stage) e) (heads p1 p2 (r1) m2 (ap (λ (z : State). z.rest) e)) l1 l2))
one_saying x y a b e (head s1 g1 p1 r1 n1 c1 a1 l1 h1) (read c2 g2 p2 m2 r2 n2 s2 a2 l2 b2 i2 y2 v2 h2) = absurd (some_none c1 (leads_same s1 (within c2) p1 p2 (Some c1) None (ap (λ (z : State). z.stage) e) (heads p1 p2 (r1) (m2 ++ r2) (ap (λ (z : State). z.rest) e)) l1 l2))
one_saying x y a b e (head s1 g1 p1 r1 n1 c1 a1 l1 h1) (refused c2 g2 p2 m2 r2 n2 w2 l2 b2 i2 y2 v2) = absurd (some_none c1 (leads_same s1 (within c2) p1 p2 (Some c1) None (ap (λ (z : State). z.stage) e) (heads p1 p2 (r1) (m2 ++ r2) (ap (λ (z : State). z.rest) e)) l1 l2))
one_saying x y a b e (strange s1 g1 p1 r1 n1 l1 b1) (ended s2 g2 n2) = absurd (nil_cons p1 (r1) (sym (ap (λ (z : State). z.rest) e)))
one_saying x y a b e (strange s1 g1 p1 r1 n1 l1 b1) (head s2 g2 p2 r2 n2 c2 a2 l2 h2) = absurd (some_none c2 (sym (leads_same s1 s2 p1 p2 None (Some c2) (ap (λ (z : State). z.stage) e) (heads p1 p2 (r1) (r2) (ap (λ (z : State). z.rest) e)) l1 l2)))
one_saying x y a b e (strange s1 g1 p1 r1 n1 l1 b1) (strange s2 g2 p2 r2 n2 l2 b2) = ap (λ (p : Placed). fault_at p.line why.Statement) (heads p1 p2 (r1) (r2) (ap (λ (z : State). z.rest) e))
one_saying x y a b e (strange s1 g1 p1 r1 n1 l1 b1) (no_token c2 g2 p2 m2 k2 l2 b2 o2) = absurd (begins_same (within c2) s1 p2 p1 (sym (ap (λ (z : State). z.stage) e)) (sym (heads p1 p2 (r1) m2 (ap (λ (z : State). z.rest) e))) b2 b1)
one_saying x y a b e (strange s1 g1 p1 r1 n1 l1 b1) (unended c2 g2 p2 m2 w2 x2 l2 b2 o2 v2) = absurd (begins_same (within c2) s1 p2 p1 (sym (ap (λ (z : State). z.stage) e)) (sym (heads p1 p2 (r1) m2 (ap (λ (z : State). z.rest) e))) b2 b1)
one_saying x y a b e (strange s1 g1 p1 r1 n1 l1 b1) (read c2 g2 p2 m2 r2 n2 s2 a2 l2 b2 i2 y2 v2 h2) = absurd (begins_same (within c2) s1 p2 p1 (sym (ap (λ (z : State). z.stage) e)) (sym (heads p1 p2 (r1) (m2 ++ r2) (ap (λ (z : State). z.rest) e))) b2 b1)
one_saying x y a b e (strange s1 g1 p1 r1 n1 l1 b1) (refused c2 g2 p2 m2 r2 n2 w2 l2 b2 i2 y2 v2) = absurd (begins_same (within c2) s1 p2 p1 (sym (ap (λ (z : State). z.stage) e)) (sym (heads p1 p2 (r1) (m2 ++ r2) (ap (λ (z : State). z.rest) e))) b2 b1)
one_saying x y a b e (no_token c1 g1 p1 m1 k1 l1 b1 o1) (ended s2 g2 n2) = absurd (nil_cons p1 m1 (sym (ap (λ (z : State). z.rest) e)))
one_saying x y a b e (no_token c1 g1 p1 m1 k1 l1 b1 o1) (head s2 g2 p2 r2 n2 c2 a2 l2 h2) = absurd (some_none c2 (sym (leads_same (within c1) s2 p1 p2 None (Some c2) (ap (λ (z : State). z.stage) e) (heads p1 p2 m1 (r2) (ap (λ (z : State). z.rest) e)) l1 l2)))
one_saying x y a b e (no_token c1 g1 p1 m1 k1 l1 b1 o1) (strange s2 g2 p2 r2 n2 l2 b2) = absurd (begins_same (within c1) s2 p1 p2 (ap (λ (z : State). z.stage) e) (heads p1 p2 m1 (r2) (ap (λ (z : State). z.rest) e)) b1 b2)
one_saying x y a b e (no_token c1 g1 p1 m1 k1 l1 b1 o1) (no_token c2 g2 p2 m2 k2 l2 b2 o2) = lines_same k1 k2 (ap (λ (z : State). z.ending) e)
one_saying x y a b e (no_token c1 g1 p1 m1 k1 l1 b1 o1) (unended c2 g2 p2 m2 w2 x2 l2 b2 o2 v2) = absurd (whole_not k1 (sym (ap (λ (z : State). z.ending) e)))
one_saying x y a b e (no_token c1 g1 p1 m1 k1 l1 b1 o1) (read c2 g2 p2 m2 r2 n2 s2 a2 l2 b2 i2 y2 v2 h2) = absurd (stays_open c2 p1 p2 m1 m2 r2 n2 k1 (subst (λ z. is_open z p1 m1 ≡ true) (within_same c1 c2 (ap (λ (z : State). z.stage) e)) o1) i2 (ap (λ (z : State). z.rest) e) y2 (sym (ap (λ (z : State). z.ending) e)))
one_saying x y a b e (no_token c1 g1 p1 m1 k1 l1 b1 o1) (refused c2 g2 p2 m2 r2 n2 w2 l2 b2 i2 y2 v2) = absurd (stays_open c2 p1 p2 m1 m2 r2 n2 k1 (subst (λ z. is_open z p1 m1 ≡ true) (within_same c1 c2 (ap (λ (z : State). z.stage) e)) o1) i2 (ap (λ (z : State). z.rest) e) y2 (sym (ap (λ (z : State). z.ending) e)))
one_saying x y a b e (unended c1 g1 p1 m1 w1 x1 l1 b1 o1 v1) (ended s2 g2 n2) = absurd (nil_cons p1 m1 (sym (ap (λ (z : State). z.rest) e)))
one_saying x y a b e (unended c1 g1 p1 m1 w1 x1 l1 b1 o1 v1) (head s2 g2 p2 r2 n2 c2 a2 l2 h2) = absurd (some_none c2 (sym (leads_same (within c1) s2 p1 p2 None (Some c2) (ap (λ (z : State). z.stage) e) (heads p1 p2 m1 (r2) (ap (λ (z : State). z.rest) e)) l1 l2)))
one_saying x y a b e (unended c1 g1 p1 m1 w1 x1 l1 b1 o1 v1) (strange s2 g2 p2 r2 n2 l2 b2) = absurd (begins_same (within c1) s2 p1 p2 (ap (λ (z : State). z.stage) e) (heads p1 p2 m1 (r2) (ap (λ (z : State). z.rest) e)) b1 b2)
one_saying x y a b e (unended c1 g1 p1 m1 w1 x1 l1 b1 o1 v1) (no_token c2 g2 p2 m2 k2 l2 b2 o2) = absurd (whole_not k2 (ap (λ (z : State). z.ending) e))
one_saying x y a b e (unended c1 g1 p1 m1 w1 x1 l1 b1 o1 v1) (unended c2 g2 p2 m2 w2 x2 l2 b2 o2 v2) = faults_same p1 p2 w1 w2 (heads p1 p2 m1 m2 (ap (λ (z : State). z.rest) e)) (verdicts_same g1 g2 c1 c2 (p1 ∷ m1) (p2 ∷ m2) (Err w1) (Err w2) (ap (λ (z : State). z.grammar) e) (within_same c1 c2 (ap (λ (z : State). z.stage) e)) (ap (λ (z : State). z.rest) e) v1 v2)
one_saying x y a b e (unended c1 g1 p1 m1 w1 x1 l1 b1 o1 v1) (read c2 g2 p2 m2 r2 n2 s2 a2 l2 b2 i2 y2 v2 h2) = absurd (never_ends c2 p1 p2 m1 m2 r2 (subst (λ z. z ≢ in_rules) (within_same c1 c2 (ap (λ (z : State). z.stage) e)) x1) (subst (λ z. is_open z p1 m1 ≡ true) (within_same c1 c2 (ap (λ (z : State). z.stage) e)) o1) i2 (ap (λ (z : State). z.rest) e))
one_saying x y a b e (unended c1 g1 p1 m1 w1 x1 l1 b1 o1 v1) (refused c2 g2 p2 m2 r2 n2 w2 l2 b2 i2 y2 v2) = absurd (never_ends c2 p1 p2 m1 m2 r2 (subst (λ z. z ≢ in_rules) (within_same c1 c2 (ap (λ (z : State). z.stage) e)) x1) (subst (λ z. is_open z p1 m1 ≡ true) (within_same c1 c2 (ap (λ (z : State). z.stage) e)) o1) i2 (ap (λ (z : State). z.rest) e))
one_saying x y a b e (read c1 g1 p1 m1 r1 n1 s1 a1 l1 b1 i1 y1 v1 h1) (ended s2 g2 n2) = absurd (nil_cons p1 (m1 ++ r1) (sym (ap (λ (z : State). z.rest) e)))
one_saying x y a b e (read c1 g1 p1 m1 r1 n1 s1 a1 l1 b1 i1 y1 v1 h1) (head s2 g2 p2 r2 n2 c2 a2 l2 h2) = absurd (some_none c2 (sym (leads_same (within c1) s2 p1 p2 None (Some c2) (ap (λ (z : State). z.stage) e) (heads p1 p2 (m1 ++ r1) (r2) (ap (λ (z : State). z.rest) e)) l1 l2)))
one_saying x y a b e (read c1 g1 p1 m1 r1 n1 s1 a1 l1 b1 i1 y1 v1 h1) (strange s2 g2 p2 r2 n2 l2 b2) = absurd (begins_same (within c1) s2 p1 p2 (ap (λ (z : State). z.stage) e) (heads p1 p2 (m1 ++ r1) (r2) (ap (λ (z : State). z.rest) e)) b1 b2)
one_saying x y a b e (read c1 g1 p1 m1 r1 n1 s1 a1 l1 b1 i1 y1 v1 h1) (no_token c2 g2 p2 m2 k2 l2 b2 o2) = absurd (stays_open c1 p2 p1 m2 m1 r1 n1 k2 (subst (λ z. is_open z p2 m2 ≡ true) (sym (within_same c1 c2 (ap (λ (z : State). z.stage) e))) o2) i1 (sym (ap (λ (z : State). z.rest) e)) y1 (ap (λ (z : State). z.ending) e))
one_saying x y a b e (read c1 g1 p1 m1 r1 n1 s1 a1 l1 b1 i1 y1 v1 h1) (unended c2 g2 p2 m2 w2 x2 l2 b2 o2 v2) = absurd (never_ends c1 p2 p1 m2 m1 r1 (subst (λ z. z ≢ in_rules) (sym (within_same c1 c2 (ap (λ (z : State). z.stage) e))) x2) (subst (λ z. is_open z p2 m2 ≡ true) (sym (within_same c1 c2 (ap (λ (z : State). z.stage) e))) o2) i1 (sym (ap (λ (z : State). z.rest) e)))
one_saying x y a b e (read c1 g1 p1 m1 r1 n1 s1 a1 l1 b1 i1 y1 v1 h1) (read c2 g2 p2 m2 r2 n2 s2 a2 l2 b2 i2 y2 v2 h2) = let m = same_one c1 c2 g1 g2 p1 p2 m1 m2 r1 r2 (ap (λ (z : State). z.stage) e) (ap (λ (z : State). z.grammar) e) (ap (λ (z : State). z.rest) e) i1 i2 in let tokens : p1 ∷ m1 ≡ p2 ∷ m2 = tokens_same c1 c2 g1 g2 p1 p2 m1 m2 r1 r2 m in let said : s1 ≡ s2 = oks_same s1 s2 (verdicts_same g1 g2 c1 c2 (p1 ∷ m1) (p2 ∷ m2) (Ok s1) (Ok s2) m.grammar m.section tokens v1 v2) in one_saying _ _ a1 a2 (λ i. record { stage = stage_behind (m.section i); grammar = with_statement (m.grammar i) (said i); rest = m.rests i; ending = (e i).ending }) h1 h2
one_saying x y a b e (read c1 g1 p1 m1 r1 n1 s1 a1 l1 b1 i1 y1 v1 h1) (refused c2 g2 p2 m2 r2 n2 w2 l2 b2 i2 y2 v2) = let m = same_one c1 c2 g1 g2 p1 p2 m1 m2 r1 r2 (ap (λ (z : State). z.stage) e) (ap (λ (z : State). z.grammar) e) (ap (λ (z : State). z.rest) e) i1 i2 in let tokens : p1 ∷ m1 ≡ p2 ∷ m2 = tokens_same c1 c2 g1 g2 p1 p2 m1 m2 r1 r2 m in absurd (ok_err s1 w2 (verdicts_same g1 g2 c1 c2 (p1 ∷ m1) (p2 ∷ m2) (Ok s1) (Err w2) m.grammar m.section tokens v1 v2))
one_saying x y a b e (refused c1 g1 p1 m1 r1 n1 w1 l1 b1 i1 y1 v1) (ended s2 g2 n2) = absurd (nil_cons p1 (m1 ++ r1) (sym (ap (λ (z : State). z.rest) e)))
one_saying x y a b e (refused c1 g1 p1 m1 r1 n1 w1 l1 b1 i1 y1 v1) (head s2 g2 p2 r2 n2 c2 a2 l2 h2) = absurd (some_none c2 (sym (leads_same (within c1) s2 p1 p2 None (Some c2) (ap (λ (z : State). z.stage) e) (heads p1 p2 (m1 ++ r1) (r2) (ap (λ (z : State). z.rest) e)) l1 l2)))
one_saying x y a b e (refused c1 g1 p1 m1 r1 n1 w1 l1 b1 i1 y1 v1) (strange s2 g2 p2 r2 n2 l2 b2) = absurd (begins_same (within c1) s2 p1 p2 (ap (λ (z : State). z.stage) e) (heads p1 p2 (m1 ++ r1) (r2) (ap (λ (z : State). z.rest) e)) b1 b2)
one_saying x y a b e (refused c1 g1 p1 m1 r1 n1 w1 l1 b1 i1 y1 v1) (no_token c2 g2 p2 m2 k2 l2 b2 o2) = absurd (stays_open c1 p2 p1 m2 m1 r1 n1 k2 (subst (λ z. is_open z p2 m2 ≡ true) (sym (within_same c1 c2 (ap (λ (z : State). z.stage) e))) o2) i1 (sym (ap (λ (z : State). z.rest) e)) y1 (ap (λ (z : State). z.ending) e))
one_saying x y a b e (refused c1 g1 p1 m1 r1 n1 w1 l1 b1 i1 y1 v1) (unended c2 g2 p2 m2 w2 x2 l2 b2 o2 v2) = absurd (never_ends c1 p2 p1 m2 m1 r1 (subst (λ z. z ≢ in_rules) (sym (within_same c1 c2 (ap (λ (z : State). z.stage) e))) x2) (subst (λ z. is_open z p2 m2 ≡ true) (sym (within_same c1 c2 (ap (λ (z : State). z.stage) e))) o2) i1 (sym (ap (λ (z : State). z.rest) e)))
one_saying x y a b e (refused c1 g1 p1 m1 r1 n1 w1 l1 b1 i1 y1 v1) (read c2 g2 p2 m2 r2 n2 s2 a2 l2 b2 i2 y2 v2 h2) = let m = same_one c1 c2 g1 g2 p1 p2 m1 m2 r1 r2 (ap (λ (z : State). z.stage) e) (ap (λ (z : State). z.grammar) e) (ap (λ (z : State). z.rest) e) i1 i2 in let tokens : p1 ∷ m1 ≡ p2 ∷ m2 = tokens_same c1 c2 g1 g2 p1 p2 m1 m2 r1 r2 m in absurd (ok_err s2 w1 (sym (verdicts_same g1 g2 c1 c2 (p1 ∷ m1) (p2 ∷ m2) (Err w1) (Ok s2) m.grammar m.section tokens v1 v2)))
one_saying x y a b e (refused c1 g1 p1 m1 r1 n1 w1 l1 b1 i1 y1 v1) (refused c2 g2 p2 m2 r2 n2 w2 l2 b2 i2 y2 v2) = let m = same_one c1 c2 g1 g2 p1 p2 m1 m2 r1 r2 (ap (λ (z : State). z.stage) e) (ap (λ (z : State). z.grammar) e) (ap (λ (z : State). z.rest) e) i1 i2 in let tokens : p1 ∷ m1 ≡ p2 ∷ m2 = tokens_same c1 c2 g1 g2 p1 p2 m1 m2 r1 r2 m in faults_same p1 p2 w1 w2 m.first (verdicts_same g1 g2 c1 c2 (p1 ∷ m1) (p2 ∷ m2) (Err w1) (Err w2) m.grammar m.section tokens v1 v2)

pub one_reading : OneReading
one_reading text a b r s =
    let cut = cuts_once 1 text r.placed s.placed r.ending s.ending r.cut s.cut in
    one_saying (record { stage = beginning; grammar = record { pairs = []; sets = []; definitions = []; rules = [] }; rest = r.placed; ending = r.ending }) (record { stage = beginning; grammar = record { pairs = []; sets = []; definitions = []; rules = [] }; rest = s.placed; ending = s.ending }) a b
    (λ i. nothing_read (cut.0 i) (cut.1 i)) r.says s.says

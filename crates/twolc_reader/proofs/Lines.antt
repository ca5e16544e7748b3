-- The names of rules, with their lines.
use Rattle.std.proofs.Common.{◌≡◌, ◌≢◌, ℕ, Bool, true, false, ◌||◌, List, [], ◌∷◌, ◌++◌, map, Option, None, Some, Result, Ok, refl, sym, ap, subst, ◌∙◌, append_assoc, append-nil}
use Rattle.std.specs.List.{list_any}
use Rattle.std.specs.Option.{option_map, option_and_then}
use Rattle.std.proofs.lemmas.Grind.{flat_map-append}
use Rattle.regex_ast.specs.declared.expr.Raw.{Raw}
use Rattle.regex_ast.specs.declared.fault.Why.{Why}
use Rattle.regex_ast.specs.declared.twolc.Grammar.{Grammar}
use Rattle.regex_ast.specs.declared.twolc.TwoLevelRule.{TwoLevelRule}
use Rattle.regex_tokens.specs.declared.token.Token.{Token as XfstToken}
use Rattle.twolc_tokens.specs.declared.token.Operator.TheVariants.{Semicolon}
use Rattle.twolc_tokens.specs.declared.token.Placed.{Placed}
use Rattle.twolc_tokens.specs.declared.token.Token.{Token}
use Rattle.twolc_tokens.specs.declared.token.Token.TheVariants.{Operator as operator, Quoted as quoted, Atom as atom}
use Rattle.twolc_grammar.specs.Atoms.{Names}
use Rattle.twolc_grammar.specs.Expressions.{as_token, as_xfst, is_caret}
use Rattle.twolc_grammar.specs.Sections.{Stage, IsOne, is_quoted, leads, tokens_of}
use Rattle.twolc_grammar.specs.Statements.{Section, in_alphabet, in_sets, in_definitions, in_rules, Statement as Said, alphabet, set, definition, IsStatement, Verdict, deep, unread, power, large, again, fine}
use Rattle.twolc_reader.specs.declared.statement.Statement.{Statement}
use Rattle.twolc_reader.specs.declared.statement.Statement.TheVariants.{Alphabet as Pairs, Set, Definition, Rule}
use Rattle.twolc_reader.specs.Reading.{HasLine, name_in, name_of, names_at, names_of_statement, names_with, statement_view}
use Rattle.twolc_reader.proofs.Steps.{one_begins}

-- Tokens without a quoted text have no name.

no_names : (ps : List Placed) → list_any is_quoted (tokens_of ps) ≡ false → names_at ps ≡ []
no_names [] e = refl
no_names (p ∷ ps) e = by p.token (no_names ps) e
  where
    by : (t : Token) → (list_any is_quoted (tokens_of ps) ≡ false → names_at ps ≡ []) → (is_quoted t || list_any is_quoted (tokens_of ps)) ≡ false → name_in p.line t ++ names_at ps ≡ []
    by (operator o) more e = more e
    by (quoted name) more e = absurd cc
    by (atom text) more e = more e

none_of_atoms : (atoms : List (List ℕ)) → list_any is_quoted (map atom atoms ++ operator Semicolon ∷ []) ≡ false
none_of_atoms [] = refl
none_of_atoms (a ∷ atoms) = none_of_atoms atoms

none_behind : (expression : List Token) → list_any is_quoted expression ≡ false → list_any is_quoted (expression ++ operator Semicolon ∷ []) ≡ false
none_behind [] e = refl
none_behind (t ∷ ts) e = by (is_quoted t) (none_behind ts) e
  where
    by : (b : Bool) → (list_any is_quoted ts ≡ false → list_any is_quoted (ts ++ operator Semicolon ∷ []) ≡ false) → (b || list_any is_quoted ts) ≡ false → (b || list_any is_quoted (ts ++ operator Semicolon ∷ [])) ≡ false
    by true more e = absurd cc
    by false more e = more e

or_false : (a b : Bool) → a ≡ false → b ≡ false → (a || b) ≡ false
or_false a b p q = rw (p, q) refl

plain : (mark : Bool) (t : Token) (x : XfstToken) → as_token mark t ≡ Some x → is_quoted t ≡ false
plain mark (operator o) x e = refl
plain mark (quoted name) x e = absurd cc
plain mark (atom text) x e = refl

none_in_xfst : (mark : Bool) (tokens : List Token) (xs : List XfstToken) → as_xfst mark tokens ≡ Some xs → list_any is_quoted tokens ≡ false
none_in_xfst mark [] xs e = refl
none_in_xfst mark (t ∷ ts) xs e = by (as_token mark t) refl (as_xfst (is_caret t) ts) (λ ys h. none_in_xfst (is_caret t) ts ys h) e
  where
    by : (o : Option XfstToken) → as_token mark t ≡ o → (rest : Option (List XfstToken)) → ((ys : List XfstToken) → rest ≡ Some ys → list_any is_quoted ts ≡ false) → option_and_then (λ x. option_map (λ ys. x ∷ ys) rest) o ≡ Some xs → (is_quoted t || list_any is_quoted ts) ≡ false
    by None is rest more e = absurd cc
    by (Some x) is None more e = absurd cc
    by (Some x) is (Some ys) more e = or_false _ _ (plain mark t x is) (more ys refl)

-- no statement but a rule has one
none_in_statement : (names : Names) (section : Section) (tokens : List Token) (s : Said) → section ≢ in_rules → IsStatement names section tokens s → list_any is_quoted tokens ≡ false
none_in_statement names in_alphabet tokens (alphabet pairs) no_rule h = ap (list_any is_quoted) h.1 ∙ none_of_atoms h.0
none_in_statement names in_sets tokens (set s) no_rule h = ap (list_any is_quoted) h.2.0 ∙ (ap (list_any is_quoted) h.3 ∙ none_of_atoms h.1)
none_in_statement names in_definitions tokens (definition d) no_rule h = ap (list_any is_quoted) h.1.0 ∙ none_behind h.0 (none_in_xfst false h.0 h.2.0 h.2.1)
none_in_statement names in_rules tokens s no_rule h = absurd (no_rule refl)
none_in_statement names section tokens s no_rule h = absurd h

-- The name of a rule is the first of its tokens.

first_same : (a b : Token) (xs ys : List Token) → a ∷ xs ≡ b ∷ ys → a ≡ b
first_same a b xs ys e = cc

rule_names : (p : Placed) (inner : List Placed) (r : TwoLevelRule Raw) (behind : List Token) → tokens_of (p ∷ inner) ≡ quoted r.name ∷ behind → list_any is_quoted (tokens_of inner) ≡ false → r.line ≡ p.line → names_at (p ∷ inner) ≡ name_of r ∷ []
rule_names p inner r behind e none at =
    ap (λ t. name_in p.line t ++ names_at inner) (first_same p.token (quoted r.name) (tokens_of inner) behind e) ∙ (ap (λ ns. (r.name, p.line) ∷ ns) (no_names inner none) ∙ ap (λ line. (r.name, line) ∷ []) (sym at))

statement_names : (names : Names) (section : Section) (p : Placed) (inner rest : List Placed) (s : Statement) → IsStatement names section (tokens_of (p ∷ inner)) (statement_view s) → IsOne section (p ∷ inner) rest → HasLine p.line s → names_at (p ∷ inner) ≡ names_of_statement s
statement_names names in_rules p inner rest (Rule r) h one at = rule_names p inner r _ h.2 one.0 at
statement_names names in_alphabet p inner rest (Pairs pairs) h one at = no_names (p ∷ inner) (none_in_statement names in_alphabet (tokens_of (p ∷ inner)) (statement_view (Pairs pairs)) (λ e. cc) h)
statement_names names in_sets p inner rest (Set s) h one at = no_names (p ∷ inner) (none_in_statement names in_sets (tokens_of (p ∷ inner)) (statement_view (Set s)) (λ e. cc) h)
statement_names names in_definitions p inner rest (Definition d) h one at = no_names (p ∷ inner) (none_in_statement names in_definitions (tokens_of (p ∷ inner)) (statement_view (Definition d)) (λ e. cc) h)
statement_names names section p inner rest s h one at = absurd h

-- what a verdict has read
ok_same : (s t : Said) → ◌≡◌ {A = Result Said Why} (Ok s) (Ok t) → s ≡ t
ok_same s t e = cc

read_of : (names : Names) (section : Section) (tokens : List Token) (r : Result Said Why) (s : Said) → r ≡ Ok s → Verdict names section tokens r → IsStatement names section tokens s
read_of names section tokens r s e (deep d) = absurd cc
read_of names section tokens r s e (unread d n) = absurd cc
read_of names section tokens r s e (power t d i h) = absurd cc
read_of names section tokens r s e (large t d i h l) = absurd cc
read_of names section tokens r s e (again t d i h l a) = absurd cc
read_of names section tokens r s e (fine t d i h l a) = subst (λ x. IsStatement names section tokens x) (ok_same t s e) i

pub one_names : (names : Names) (section : Section) (tokens one behind : List Placed) (p : Placed) (more : List Placed) (s : Statement) → tokens ≡ p ∷ more → (tokens ≡ one ++ behind) × IsOne section one behind → Verdict names section (tokens_of one) (Ok (statement_view s)) → HasLine p.line s → names_at one ≡ names_of_statement s
one_names names section tokens one behind p more s is whole verdict at =
    let begun = one_begins section one behind p more (sym whole.0 ∙ is) whole.1 in
    ap names_at begun.1 ∙ statement_names names section p begun.0 behind s
    (subst (λ ps. IsStatement names section (tokens_of ps) (statement_view s)) begun.1 (read_of names section (tokens_of one) (Ok (statement_view s)) (statement_view s) refl verdict))
    (subst (λ ps. IsOne section ps behind) begun.1 whole.1) at

-- Steps.

pub none_yet : (g : Grammar Raw) (tokens : List Placed) → g.rules.items ≡ [] → names_with g tokens ≡ names_at tokens
none_yet g tokens e = ap (λ (rules : List (TwoLevelRule Raw)). map name_of rules ++ names_at tokens) e

pub all_there : (g : Grammar Raw) (rest tokens : List Placed) → rest ≡ [] → names_with g rest ≡ names_at tokens → map name_of g.rules.items ≡ names_at tokens
all_there g rest tokens none e = sym (append-nil (map name_of g.rules.items)) ∙ (ap (λ ps. map name_of g.rules.items ++ names_at ps) (sym none) ∙ e)

led_nothing : (stage : Stage) (line : ℕ) (t : Token) (section : Section) → leads stage t ≡ Some section → name_in line t ≡ []
led_nothing stage line (atom word) section e = refl
led_nothing stage line (operator o) section e = absurd cc
led_nothing stage line (quoted name) section e = absurd cc

pub head_keeps : (g : Grammar Raw) (stage : Stage) (tokens : List Placed) (p : Placed) (more : List Placed) (section : Section) → tokens ≡ p ∷ more → leads stage p.token ≡ Some section → names_with g more ≡ names_with g tokens
head_keeps g stage tokens p more section is led =
    let here : names_at (p ∷ more) ≡ names_at more = ap (λ ns. ns ++ names_at more) (led_nothing stage p.line p.token section led) in
    ap (λ ns. map name_of g.rules.items ++ ns) (sym here ∙ ap names_at (sym is))

pub statement_keeps : (old new : Grammar Raw) (tokens one behind : List Placed) (s : Statement) → tokens ≡ one ++ behind → names_at one ≡ names_of_statement s → map name_of new.rules.items ≡ map name_of old.rules.items ++ names_of_statement s → names_with new behind ≡ names_with old tokens
statement_keeps old new tokens one behind s split here put =
    ap (λ ns. ns ++ names_at behind) put ∙ (append_assoc (map name_of old.rules.items) (names_of_statement s) (names_at behind)
    ∙ ap (λ ns. map name_of old.rules.items ++ ns) (ap (λ ns. ns ++ names_at behind) (sym here) ∙ (sym (flat_map-append (λ (p : Placed). name_in p.line p.token) one behind) ∙ ap names_at (sym split))))

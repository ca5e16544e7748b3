-- The grammars of twolc texts are compiled: each leaf of theirs is an atom of the text.
use Rattle.std.proofs.Common.{◌≡◌, ℕ, Bool, true, false, cond, IsTrue, codes, List, [], ◌∷◌, ◌++◌, map, All, Option, None, Some, Result, Ok, Err, refl, sym, subst}
use Rattle.std.proofs.lemmas.List.Elements.{All-cons, All-map, All-nil, All-push, All-weaker}
use Rattle.std.specs.Option.{option_map}
use Rattle.std.specs.Str.{bytes_eq}
use Rattle.regex_ast.specs.Terms.{Term, Terms, Links, Contexts, empty, any, edge, atom as leaf, group, maybe, not_one, suffixed, prefixed, ignore, concat, chain, no_term, then_term, no_link, or, and, less, no_context, between}
use Rattle.regex_ast.specs.declared.expr.Raw.{Raw}
use Rattle.regex_ast.specs.declared.expr.Raw.TheVariants.{Run as run_symbol}
use Rattle.regex_ast.specs.declared.fault.Why.{Why}
use Rattle.regex_ast.specs.declared.fault.Why.TheVariants as why
use Rattle.regex_tokens.specs.declared.token.Operator.TheVariants as xfst
use Rattle.regex_tokens.specs.declared.token.Token.{Token as XfstToken}
use Rattle.regex_tokens.specs.declared.token.Token.TheVariants.{Operator as xfst_operator, Quoted as xfst_quoted}
use Rattle.regex_tokens.specs.declared.token.Ending.{Ending}
use Rattle.regex_tokens.specs.declared.token.Ending.TheVariants.{Whole, NoToken}
use Rattle.regex_grammar.specs.Grammar.{run_term, quoted_term}
use Rattle.regex_reader.specs.Files.{FaultAt}
use Rattle.expr_kinds.specs.Built.{IsBuilt as IsBuiltTerm, AreBuilt, LinksAreBuilt, ContextsAreBuilt, AreBuiltBy, LinksAreBuiltBy}
use Rattle.expr_leaves.specs.Mapped.{mapped, mapped_each, mapped_links, mapped_contexts}
use Rattle.grammar_pairs.specs.Laws.{pair_passes, part_passes, HasLeaves}
use Rattle.project_meaning.specs.Leaves.{Leaf, written, symbol_of, resolved_pair, resolved_part, resolved_set, resolved_pairs, resolved_rule, resolved_grammar}
use Rattle.project_meaning.specs.Trees.{Part, Set, PairDefinition, Rule, Grammar}
use Rattle.project_sources.specs.Built.{is_built_letter}
use Rattle.twolc_tokens.specs.Spelling.{Spells}
use Rattle.twolc_tokens.specs.Cuts.{Cuts}
use Rattle.twolc_tokens.specs.declared.token.Operator.TheVariants.{Semicolon, Underscore}
use Rattle.twolc_tokens.specs.declared.token.Placed.{Placed}
use Rattle.twolc_tokens.specs.declared.token.Token.{Token}
use Rattle.twolc_tokens.specs.declared.token.Token.TheVariants.{Operator as operator, Quoted as quoted, Atom as atom}
use Rattle.twolc_grammar.specs.Atoms.{Names, is_escaped, part_in, symbols_in, one_symbol_in}
use Rattle.twolc_grammar.specs.Expressions.{in_xfst, is_any, as_operand, is_caret, as_token, as_xfst, over_pairs, each_over_pairs, links_over_pairs, IsExpression, IsPart}
use Rattle.twolc_grammar.specs.Statements.{Statement, alphabet, set, definition, rule, Section, in_alphabet, in_sets, in_definitions, in_rules, AreContexts, IsStatement, Verdict}
use Rattle.twolc_grammar.specs.Sections.{Stage, beginning, listed, within, tokens_of, is_empty, with_statement, names_of, fault_at, State, nothing_read, whole, at_end, Says, ReadsAs}
use Rattle.project_sources.specs.BuiltLaws.{GrammarsAreBuilt}
use Rattle.project_sources.proofs.Spelled.{Each, IsBuilt, TokenIsBuilt, TokensAreBuilt, reading_built}
use Rattle.project_sources.proofs.Expressions.{ok_same}
use Rattle.project_sources.proofs.Atoms.{some_same, mapped_some, then_some, is_fine, atom_fine, HasText, PairIsFine, part_fine, centre_fine, symbols_fine, one_symbol_fine}

-- Tokens.

abbrev TokenIsFine : Token → Type 0
TokenIsFine (operator o) = Unit {0}
TokenIsFine (quoted text) = Unit {0}
TokenIsFine (atom text) = IsTrue (is_fine text)

abbrev AreFine : List Token → Type 0
AreFine tokens = Each TokenIsFine tokens

token_fine : (t : Token) (bytes : List ℕ) → Spells t bytes → TokenIsFine t
token_fine (operator o) bytes spelled = tt
token_fine (quoted text) bytes spelled = tt
token_fine (atom text) bytes (is, same) = subst (λ z. IsTrue (is_fine z)) (sym same) (atom_fine bytes is)

cut_fine : (line : ℕ) (text : List ℕ) (placed : List Placed) (ending : Ending) → Cuts line text placed ending → AreFine (tokens_of placed)
cut_fine line text [] ending cut = tt
cut_fine line text (p ∷ placed) ending (front, rest, first, line_is, more) = (token_fine p.token front first.longest.spelled, cut_fine p.line rest placed ending more)

front_fine : (front rest : List Token) → AreFine (front ++ rest) → AreFine front × AreFine rest
front_fine [] rest fine = (tt, fine)
front_fine (t ∷ front) rest fine = let more = front_fine front rest fine.1 in ((fine.0, more.0), more.1)

placed_fine : (front rest : List Placed) → AreFine (tokens_of (front ++ rest)) → AreFine (tokens_of front) × AreFine (tokens_of rest)
placed_fine [] rest fine = (tt, fine)
placed_fine (p ∷ front) rest fine = let more = placed_fine front rest fine.1 in ((fine.0, more.0), more.1)

-- Expressions. Each leaf of an xfst expression that the tokens are is an atom.

abbrev same : Raw → Raw
same raw = raw

abbrev is_fine_leaf : Raw → Bool
is_fine_leaf raw = is_fine (written raw)

abbrev no_letter : Raw → Bool
no_letter raw = false

abbrev IsOver : Term Raw → Type 0
IsOver s = IsBuilt same is_fine_leaf no_letter s

quoted_fine : (text : List ℕ) → IsTrue (is_fine text) → IsOver (quoted_term text)
quoted_fine [] fine = tt
quoted_fine (b ∷ bs) fine = fine

run_fine : (text : List ℕ) (escapes : Bool) → IsTrue (is_fine text) → IsOver (run_term text escapes)
run_fine text true fine = fine
run_fine text false fine = by (bytes_eq text (codes "0"))
  where
    by : (zero : Bool) → IsOver (cond zero empty (leaf (run_symbol text)))
    by true = tt
    by false = fine

operand_fine : (power : Bool) (text : List ℕ) → IsTrue (is_fine text) → TokenIsBuilt same is_fine_leaf no_letter (as_operand power text)
operand_fine true text fine = run_fine text (is_escaped text) fine
operand_fine false text fine = by (is_any text)
  where
    by : (anything : Bool) → TokenIsBuilt same is_fine_leaf no_letter (cond anything (xfst_operator xfst.Question) (xfst_quoted text))
    by true = tt
    by false = quoted_fine text fine

as_fine : (power : Bool) (t : Token) (x : XfstToken) → TokenIsFine t → as_token power t ≡ Some x → TokenIsBuilt same is_fine_leaf no_letter x
as_fine power (operator o) x fine e = let (p, is, made) = mapped_some xfst_operator (in_xfst o) x e in subst (TokenIsBuilt same is_fine_leaf no_letter) made tt
as_fine power (quoted text) x fine e = let clash : None ≡ Some x = e in cc
as_fine power (atom text) x fine e = subst (TokenIsBuilt same is_fine_leaf no_letter) (some_same (as_operand power text) x e) (operand_fine power text fine)

all_as_fine : (power : Bool) (tokens : List Token) (xs : List XfstToken) → AreFine tokens → as_xfst power tokens ≡ Some xs → TokensAreBuilt same is_fine_leaf no_letter xs
all_as_fine power [] xs fine e = let none : List XfstToken = [] in subst (TokensAreBuilt same is_fine_leaf no_letter) (some_same none xs e) tt
all_as_fine power (t ∷ tokens) xs fine e =
    let (x, is, then) = then_some (λ x. option_map (λ ys. x ∷ ys) (as_xfst (is_caret t) tokens)) (as_token power t) xs e in
    let (ys, more, made) = mapped_some (λ ys. x ∷ ys) (as_xfst (is_caret t) tokens) xs then in
    subst (TokensAreBuilt same is_fine_leaf no_letter) made (as_fine power t x fine.0 is, all_as_fine (is_caret t) tokens ys fine.1 more)

abbrev passes : Part Leaf → Bool
passes part = part_passes is_built_letter part

abbrev TermIsFine : Term (Part Raw) → Type 0
TermIsFine t = IsBuiltTerm passes (mapped resolved_part t)

abbrev TermsAreFine : Terms (Part Raw) → Type 0
TermsAreFine ts = AreBuilt passes (mapped_each resolved_part ts)

abbrev LinksAreFine : Links (Part Raw) → Type 0
LinksAreFine links = LinksAreBuilt passes (mapped_links resolved_part links)

abbrev ContextsAreFine : Contexts (Part Raw) → Type 0
ContextsAreFine contexts = ContextsAreBuilt passes (mapped_contexts resolved_part contexts)

module _ (names : Names) where
  mutual
    term_fine : (s : Term Raw) (t : Term (Part Raw)) → IsOver s → over_pairs names s ≡ Some t → TermIsFine t
    term_fine empty t over e = subst TermIsFine (some_same empty t e) tt
    term_fine any t over e = subst TermIsFine (some_same any t e) tt
    term_fine edge t over e = subst TermIsFine (some_same edge t e) tt
    term_fine (leaf raw) t over e = let x = mapped_some leaf (part_in names (written raw)) t e in subst TermIsFine x.2 (part_fine names (written raw) x.0 over x.1)
    term_fine (group s) t over e = let x = mapped_some group (over_pairs names s) t e in subst TermIsFine x.2 (term_fine s x.0 over x.1)
    term_fine (maybe s) t over e = let x = mapped_some maybe (over_pairs names s) t e in subst TermIsFine x.2 (term_fine s x.0 over x.1)
    term_fine (not_one n s) t over e = let x = mapped_some (not_one n) (over_pairs names s) t e in subst TermIsFine x.2 (term_fine s x.0 over x.1)
    term_fine (suffixed s suffixes) t over e = let x = mapped_some (λ z. suffixed z suffixes) (over_pairs names s) t e in subst TermIsFine x.2 (term_fine s x.0 over x.1)
    term_fine (prefixed prefixes s) t over e = let x = mapped_some (prefixed prefixes) (over_pairs names s) t e in subst TermIsFine x.2 (term_fine s x.0 over x.1)
    term_fine (ignore ss) t over e = let x = mapped_some ignore (each_over_pairs names ss) t e in subst TermIsFine x.2 (each_fine ss x.0 over x.1)
    term_fine (concat ss) t over e = let x = mapped_some concat (each_over_pairs names ss) t e in subst TermIsFine x.2 (each_fine ss x.0 over x.1)
    term_fine (chain s links) t over e =
        let x = then_some (λ z. option_map (chain z) (links_over_pairs names links)) (over_pairs names s) t e in
        let y = mapped_some (chain x.0) (links_over_pairs names links) t x.2 in
        subst TermIsFine y.2 (term_fine s x.0 over.0 x.1, links_fine links y.0 over.1 y.1)
    term_fine _ t over e = let clash : None ≡ Some t = e in cc

    each_fine : (es : Terms Raw) (ts : Terms (Part Raw)) → AreBuiltBy is_fine_leaf no_letter (mapped_each same es) → each_over_pairs names es ≡ Some ts → TermsAreFine ts
    each_fine no_term ts over e = subst TermsAreFine (some_same no_term ts e) tt
    each_fine (then_term s ss) ts over e =
        let x = then_some (λ z. option_map (then_term z) (each_over_pairs names ss)) (over_pairs names s) ts e in
        let y = mapped_some (then_term x.0) (each_over_pairs names ss) ts x.2 in
        subst TermsAreFine y.2 (term_fine s x.0 over.0 x.1, each_fine ss y.0 over.1 y.1)

    links_fine : (links : Links Raw) (ts : Links (Part Raw)) → LinksAreBuiltBy is_fine_leaf no_letter (mapped_links same links) → links_over_pairs names links ≡ Some ts → LinksAreFine ts
    links_fine no_link ts over e = subst LinksAreFine (some_same no_link ts e) tt
    links_fine (or s links) ts over e =
        let x = then_some (λ z. option_map (or z) (links_over_pairs names links)) (over_pairs names s) ts e in
        let y = mapped_some (or x.0) (links_over_pairs names links) ts x.2 in
        subst LinksAreFine y.2 (term_fine s x.0 over.0 x.1, links_fine links y.0 over.1 y.1)
    links_fine (and s links) ts over e =
        let x = then_some (λ z. option_map (and z) (links_over_pairs names links)) (over_pairs names s) ts e in
        let y = mapped_some (and x.0) (links_over_pairs names links) ts x.2 in
        subst LinksAreFine y.2 (term_fine s x.0 over.0 x.1, links_fine links y.0 over.1 y.1)
    links_fine (less s links) ts over e =
        let x = then_some (λ z. option_map (less z) (links_over_pairs names links)) (over_pairs names s) ts e in
        let y = mapped_some (less x.0) (links_over_pairs names links) ts x.2 in
        subst LinksAreFine y.2 (term_fine s x.0 over.0 x.1, links_fine links y.0 over.1 y.1)

  expression_fine : (tokens : List Token) (t : Term (Part Raw)) → AreFine tokens → IsExpression names tokens t → TermIsFine t
  expression_fine tokens t fine (xs, operands, s, reading, over) =
      term_fine s t (reading_built same is_fine_leaf no_letter xs s (all_as_fine false tokens xs fine operands) reading) over

  part_of_context : (tokens : List Token) (t : Term (Part Raw)) → AreFine tokens → IsPart names tokens t → TermIsFine t
  part_of_context [] t fine is = subst TermIsFine (sym is) tt
  part_of_context (token ∷ tokens) t fine is = expression_fine (token ∷ tokens) t fine is

  contexts_fine : (tokens : List Token) (contexts : Contexts (Part Raw)) → AreFine tokens → AreContexts names tokens contexts → ContextsAreFine contexts
  contexts_fine tokens no_context fine are = tt
  contexts_fine tokens (between l r contexts) fine (left, right, rest, is, l_is, r_is, more) =
      let first = front_fine left (operator Underscore ∷ (right ++ (operator Semicolon ∷ rest))) (subst AreFine is fine) in
      let second = front_fine right (operator Semicolon ∷ rest) first.1.1 in
      (part_of_context left l first.0 l_is, part_of_context right r second.0 r_is, contexts_fine rest contexts second.1.1 more)

-- Lists of atoms.

abbrev AtomsAreFine : List (List ℕ) → Type 0
AtomsAreFine atoms = Each (λ text. IsTrue (is_fine text)) atoms

atoms_fine : (atoms : List (List ℕ)) → AreFine (map atom atoms) → AtomsAreFine atoms
atoms_fine [] fine = tt
atoms_fine (text ∷ atoms) fine = (fine.0, atoms_fine atoms fine.1)

heads : {X : Type 0} (x y : X) (xs ys : List X) → x ∷ xs ≡ y ∷ ys → x ≡ y
heads x y xs ys e = cc

tails : {X : Type 0} (x y : X) (xs ys : List X) → x ∷ xs ≡ y ∷ ys → xs ≡ ys
tails x y xs ys e = cc

-- what the atoms of a list are
list_fine : {X : Type 0} (P : X → Type 0) (read : List ℕ → Option X) → ((text : List ℕ) (x : X) → IsTrue (is_fine text) → read text ≡ Some x → P x)
    → (xs : List X) (atoms : List (List ℕ)) → AtomsAreFine atoms → map (λ x. Some x) xs ≡ map read atoms → All P xs
list_fine P read one [] atoms fine e = All-nil P
list_fine P read one (x ∷ xs) [] fine e = absurd cc
list_fine P read one (x ∷ xs) (text ∷ atoms) fine e =
    All-cons P x xs (one text x fine.0 (sym (heads (Some x) (read text) (map (λ y. Some y) xs) (map read atoms) e)))
    (list_fine P read one xs atoms fine.1 (tails (Some x) (read text) (map (λ y. Some y) xs) (map read atoms) e))

-- Statements.

abbrev DefinitionIsFine : PairDefinition Raw → Type 0
DefinitionIsFine d = TermIsFine d.term

abbrev SetIsFine : Set Raw → Type 0
SetIsFine s = All HasText s.symbols

abbrev RuleIsFine : Rule Raw → Type 0
RuleIsFine r = PairIsFine r.centre × ContextsAreFine r.contexts

abbrev StatementIsFine : Statement → Type 0
StatementIsFine (alphabet pairs) = All PairIsFine pairs
StatementIsFine (set s) = SetIsFine s
StatementIsFine (definition d) = DefinitionIsFine d
StatementIsFine (rule r) = RuleIsFine r

statement_fine : (names : Names) (section : Section) (tokens : List Token) (s : Statement) → AreFine tokens → IsStatement names section tokens s → StatementIsFine s
statement_fine names in_alphabet tokens (alphabet pairs) fine (atoms, is, read) =
    list_fine PairIsFine symbols_in symbols_fine pairs atoms (atoms_fine atoms (front_fine (map atom atoms) (operator Semicolon ∷ []) (subst AreFine is fine)).0) read
statement_fine names in_sets tokens (set s) fine (list, atoms, named, is, some, read) =
    let behind = subst AreFine named.0 fine in
    list_fine HasText one_symbol_in one_symbol_fine s.symbols atoms (atoms_fine atoms (front_fine (map atom atoms) (operator Semicolon ∷ []) (subst AreFine is behind.1.1)).0) read
statement_fine names in_definitions tokens (definition d) fine (expression, named, is, no_edge) =
    let behind = subst AreFine named.0 fine in
    expression_fine names expression d.term (front_fine expression (operator Semicolon ∷ []) behind.1.1).0 is
statement_fine names in_rules tokens (rule r) fine (centre, rest, is, centre_is, contexts_are, some) =
    let all = subst AreFine is fine in
    (centre_fine names centre r.centre all.1.0 centre_is, contexts_fine names rest r.contexts all.1.1.1 contexts_are)
statement_fine names in_alphabet tokens (set s) fine is = absurd is
statement_fine names in_alphabet tokens (definition d) fine is = absurd is
statement_fine names in_alphabet tokens (rule r) fine is = absurd is
statement_fine names in_sets tokens (alphabet pairs) fine is = absurd is
statement_fine names in_sets tokens (definition d) fine is = absurd is
statement_fine names in_sets tokens (rule r) fine is = absurd is
statement_fine names in_definitions tokens (alphabet pairs) fine is = absurd is
statement_fine names in_definitions tokens (set s) fine is = absurd is
statement_fine names in_definitions tokens (rule r) fine is = absurd is
statement_fine names in_rules tokens (alphabet pairs) fine is = absurd is
statement_fine names in_rules tokens (set s) fine is = absurd is
statement_fine names in_rules tokens (definition d) fine is = absurd is

verdict_fine : (names : Names) (section : Section) (tokens : List Token) (answer : Result Statement Why) (s : Statement) → AreFine tokens → Verdict names section tokens answer → answer ≡ Ok s → StatementIsFine s
verdict_fine names section tokens answer s fine (Verdict.deep d) e = let clash : Err why.LimitNesting ≡ Ok s = e in cc
verdict_fine names section tokens answer s fine (Verdict.unread d none) e = let clash : Err why.Statement ≡ Ok s = e in cc
verdict_fine names section tokens answer s fine (Verdict.power t d is high) e = let clash : Err why.LimitPower ≡ Ok s = e in cc
verdict_fine names section tokens answer s fine (Verdict.large t d is low many) e = let clash : Err why.LimitRule ≡ Ok s = e in cc
verdict_fine names section tokens answer s fine (Verdict.again t d is low few known) e = let clash : Err why.Duplicate ≡ Ok s = e in cc
verdict_fine names section tokens answer s fine (Verdict.fine t d is low few new) e = subst StatementIsFine (ok_same t s e) (statement_fine names section tokens t fine is)

-- The grammar so far.

record GrammarIsFine (g : Grammar Raw) : Type 0 where
  pairs : All PairIsFine g.pairs
  sets : All SetIsFine g.sets
  definitions : All DefinitionIsFine g.definitions
  rules : All RuleIsFine g.rules

with_fine : (g : Grammar Raw) (s : Statement) → GrammarIsFine g → StatementIsFine s → GrammarIsFine (with_statement g s)
with_fine g (alphabet pairs) fine here = record { pairs = here; sets = fine.sets; definitions = fine.definitions; rules = fine.rules }
with_fine g (set s) fine here = record { pairs = fine.pairs; sets = All-push SetIsFine g.sets s fine.sets here; definitions = fine.definitions; rules = fine.rules }
with_fine g (definition d) fine here = record { pairs = fine.pairs; sets = fine.sets; definitions = All-push DefinitionIsFine g.definitions d fine.definitions here; rules = fine.rules }
with_fine g (rule r) fine here = record { pairs = fine.pairs; sets = fine.sets; definitions = fine.definitions; rules = All-push RuleIsFine g.rules r fine.rules here }

abbrev AnswerIsFine : Result (Grammar Raw) FaultAt → Type 0
AnswerIsFine (Ok g) = GrammarIsFine g
AnswerIsFine (Err found) = Unit {0}

whole_fine : (stage : Stage) (g : Grammar Raw) → GrammarIsFine g → AnswerIsFine (whole stage g)
whole_fine (within in_rules) g fine = by (is_empty g.rules)
  where
    by : (none : Bool) → AnswerIsFine (cond none (fault_at 0 why.Statement) (Ok g))
    by true = tt
    by false = fine
whole_fine (within in_alphabet) g fine = tt
whole_fine (within in_sets) g fine = tt
whole_fine (within in_definitions) g fine = tt
whole_fine beginning g fine = tt
whole_fine listed g fine = tt

end_fine : (stage : Stage) (g : Grammar Raw) (ending : Ending) → GrammarIsFine g → AnswerIsFine (at_end stage g ending)
end_fine stage g Whole fine = whole_fine stage g fine
end_fine stage g (NoToken line) fine = tt

said_fine : (s : State) (answer : Result (Grammar Raw) FaultAt) → Says s answer → AreFine (tokens_of s.rest) → GrammarIsFine s.grammar → AnswerIsFine answer
said_fine s answer (Says.ended stage g ending) tokens fine = end_fine stage g ending fine
said_fine s answer (Says.head stage g p rest ending section a leads says) tokens fine = said_fine _ a says tokens.1 fine
said_fine s answer (Says.strange stage g p rest ending leads begins) tokens fine = tt
said_fine s answer (Says.no_token section g p more line leads begins unclosed) tokens fine = tt
said_fine s answer (Says.unended section g p more reason other leads begins unclosed verdict) tokens fine = tt
said_fine s answer (Says.read section g p more rest ending t a leads begins is_one ends verdict says) tokens fine =
    let both = placed_fine (p ∷ more) rest tokens in
    said_fine _ a says both.1 (with_fine g t fine (verdict_fine (names_of g) section (tokens_of (p ∷ more)) (Ok t) t both.0 verdict refl))
said_fine s answer (Says.refused section g p more rest ending reason leads begins is_one ends verdict) tokens fine = tt

read_fine : (text : List ℕ) (g : Grammar Raw) → ReadsAs text (Ok g) → GrammarIsFine g
read_fine text g reads =
    said_fine (nothing_read reads.placed reads.ending) (Ok g) reads.says (cut_fine 1 text reads.placed reads.ending reads.cut)
    (record { pairs = All-nil PairIsFine; sets = All-nil SetIsFine; definitions = All-nil DefinitionIsFine; rules = All-nil RuleIsFine })

-- A grammar as it is resolved.

set_built : (s : Set Raw) → SetIsFine s → All (λ x. IsTrue (is_built_letter x)) (resolved_set s).symbols
set_built s fine = All-map (λ x. IsTrue (is_built_letter x)) symbol_of s.symbols fine

grammar_built : (g : Grammar Raw) → GrammarIsFine g → HasLeaves is_built_letter (resolved_grammar g)
grammar_built g fine = record {
  pairs = All-map (λ p. IsTrue (pair_passes is_built_letter p)) resolved_pair g.pairs fine.pairs;
  sets = All-map (λ s. All (λ x. IsTrue (is_built_letter x)) s.symbols) resolved_set g.sets (All-weaker SetIsFine (λ s. All (λ x. IsTrue (is_built_letter x)) (resolved_set s).symbols) set_built g.sets fine.sets);
  definitions = All-map (λ d. IsBuiltTerm passes d.term) resolved_pairs g.definitions fine.definitions;
  rules = All-map (λ r. IsTrue (pair_passes is_built_letter r.centre) × ContextsAreBuilt passes r.contexts) resolved_rule g.rules fine.rules;
}

pub grammars_built : GrammarsAreBuilt
grammars_built text g reads names = grammar_built g (read_fine text g reads)

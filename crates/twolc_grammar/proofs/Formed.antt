-- The grammar of a text has the forms that stand in one.
use Rattle.std.proofs.Common.{◌≡◌, ℕ, Bool, true, false, ◌&&◌, cond, List, [], ◌∷◌, Option, None, Some, Result, Ok, Err, refl, sym, subst}
use Rattle.std.proofs.lemmas.List.Elements.{All-append, All-cons, All-nil}
use Rattle.std.specs.Option.{option_and_then, option_map}
use Rattle.grammar_pairs.specs.Plain.{ArePairForms, ContextsArePairForms, IsFormed, IsFormedRule, IsNamedSide, IsPairForm, LinksArePairForms}
use Rattle.project_meaning.specs.Leaves.{written}
use Rattle.project_meaning.specs.Trees.{Side, nothing, anything, one, member, Pair, Part, pair, called, PairDefinition, Grammar}
use Rattle.regex_ast.specs.Terms.{Term, Terms, Links, Contexts, empty, any, edge, atom, group, maybe, not_one, suffixed, prefixed, ignore, concat, chain, no_term, then_term, no_link, or, and, less, no_context, between}
use Rattle.regex_ast.specs.declared.expr.Raw.{Raw}
use Rattle.regex_ast.specs.declared.fault.Why.{Why}
use Rattle.regex_ast.specs.declared.fault.Why.TheVariants as why
use Rattle.regex_reader.specs.Files.{FaultAt}
use Rattle.regex_tokens.specs.declared.token.Ending.{Ending}
use Rattle.regex_tokens.specs.declared.token.Ending.TheVariants.{Whole, NoToken}
use Rattle.twolc_grammar.specs.Forms.{GrammarsAreFormed}
use Rattle.twolc_grammar.specs.Atoms.{Names, centre_by, is_plain_side, part_in, plain_pair}
use Rattle.twolc_grammar.specs.Expressions.{IsExpression, IsPart, each_over_pairs, links_over_pairs, over_pairs}
use Rattle.twolc_grammar.specs.Sections.{Says, Stage, State, at_end, beginning, ended, fault_at, head, is_empty, listed, names_of, no_token, nothing_read, read, refused, strange, tokens_of, unended, whole, with_statement, within}
use Rattle.twolc_grammar.specs.Statements.{AreContexts, IsStatement, Section, Statement, Verdict, again, alphabet, deep, definition, fine, in_alphabet, in_definitions, in_rules, in_sets, large, power, rule, set, unread}
use Rattle.twolc_tokens.specs.Spelling.{sides_of}
use Rattle.twolc_tokens.specs.declared.token.Token.{Token}

some_same : {X : Type 0} (x y : X) → Some x ≡ Some y → x ≡ y
some_same x y e = cc

ok_same : {X E : Type 0} (x y : X) → ◌≡◌ {A = Result X E} (Ok x) (Ok y) → x ≡ y
ok_same x y e = cc

-- what an option is of which another was made
mapped_some : {X Y : Type 0} (f : X → Y) (o : Option X) (y : Y) → option_map f o ≡ Some y → (x : X) × (o ≡ Some x) × (f x ≡ y)
mapped_some f None y e = let clash : None ≡ Some y = e in cc
mapped_some f (Some x) y e = (x, refl, some_same (f x) y e)

then_some : {X Y : Type 0} (f : X → Option Y) (o : Option X) (y : Y) → option_and_then f o ≡ Some y → (x : X) × (o ≡ Some x) × (f x ≡ Some y)
then_some f None y e = let clash : None ≡ Some y = e in cc
then_some f (Some x) y e = (x, refl, e)

module _ (names : Names) where
  mutual
    term_formed : (e : Term Raw) (t : Term (Part Raw)) → over_pairs names e ≡ Some t → IsPairForm t
    term_formed empty t e = subst IsPairForm (some_same empty t e) tt
    term_formed any t e = subst IsPairForm (some_same any t e) tt
    term_formed edge t e = subst IsPairForm (some_same edge t e) tt
    term_formed (atom raw) t e = let x = mapped_some atom (part_in names (written raw)) t e in subst IsPairForm x.2 tt
    term_formed (group s) t e = let x = mapped_some group (over_pairs names s) t e in subst IsPairForm x.2 (term_formed s x.0 x.1)
    term_formed (maybe s) t e = let x = mapped_some maybe (over_pairs names s) t e in subst IsPairForm x.2 (term_formed s x.0 x.1)
    term_formed (not_one n s) t e = let x = mapped_some (not_one n) (over_pairs names s) t e in subst IsPairForm x.2 (term_formed s x.0 x.1)
    term_formed (suffixed s suffixes) t e = let x = mapped_some (λ z. suffixed z suffixes) (over_pairs names s) t e in subst IsPairForm x.2 (term_formed s x.0 x.1)
    term_formed (prefixed prefixes s) t e = let x = mapped_some (prefixed prefixes) (over_pairs names s) t e in subst IsPairForm x.2 (term_formed s x.0 x.1)
    term_formed (ignore ss) t e = let x = mapped_some ignore (each_over_pairs names ss) t e in subst IsPairForm x.2 (each_formed ss x.0 x.1)
    term_formed (concat ss) t e = let x = mapped_some concat (each_over_pairs names ss) t e in subst IsPairForm x.2 (each_formed ss x.0 x.1)
    term_formed (chain s links) t e =
        let x = then_some (λ z. option_map (chain z) (links_over_pairs names links)) (over_pairs names s) t e in
        let y = mapped_some (chain x.0) (links_over_pairs names links) t x.2 in
        subst IsPairForm y.2 (term_formed s x.0 x.1, links_formed links y.0 y.1)
    term_formed _ t e = let clash : None ≡ Some t = e in cc

    each_formed : (es : Terms Raw) (ts : Terms (Part Raw)) → each_over_pairs names es ≡ Some ts → ArePairForms ts
    each_formed no_term ts e = subst ArePairForms (some_same no_term ts e) tt
    each_formed (then_term s ss) ts e =
        let x = then_some (λ z. option_map (then_term z) (each_over_pairs names ss)) (over_pairs names s) ts e in
        let y = mapped_some (then_term x.0) (each_over_pairs names ss) ts x.2 in
        subst ArePairForms y.2 (term_formed s x.0 x.1, each_formed ss y.0 y.1)

    links_formed : (links : Links Raw) (ts : Links (Part Raw)) → links_over_pairs names links ≡ Some ts → LinksArePairForms ts
    links_formed no_link ts e = subst LinksArePairForms (some_same no_link ts e) tt
    links_formed (or s links) ts e =
        let x = then_some (λ z. option_map (or z) (links_over_pairs names links)) (over_pairs names s) ts e in
        let y = mapped_some (or x.0) (links_over_pairs names links) ts x.2 in
        subst LinksArePairForms y.2 (term_formed s x.0 x.1, links_formed links y.0 y.1)
    links_formed (and s links) ts e =
        let x = then_some (λ z. option_map (and z) (links_over_pairs names links)) (over_pairs names s) ts e in
        let y = mapped_some (and x.0) (links_over_pairs names links) ts x.2 in
        subst LinksArePairForms y.2 (term_formed s x.0 x.1, links_formed links y.0 y.1)
    links_formed (less s links) ts e =
        let x = then_some (λ z. option_map (less z) (links_over_pairs names links)) (over_pairs names s) ts e in
        let y = mapped_some (less x.0) (links_over_pairs names links) ts x.2 in
        subst LinksArePairForms y.2 (term_formed s x.0 x.1, links_formed links y.0 y.1)

  expression_formed : (tokens : List Token) (t : Term (Part Raw)) → IsExpression names tokens t → IsPairForm t
  expression_formed tokens t (xs, operands, s, reading, over) = term_formed s t over

  part_formed : (tokens : List Token) (t : Term (Part Raw)) → IsPart names tokens t → IsPairForm t
  part_formed [] t is = subst IsPairForm (sym is) tt
  part_formed (token ∷ tokens) t is = expression_formed (token ∷ tokens) t is

  contexts_formed : (tokens : List Token) (contexts : Contexts (Part Raw)) → AreContexts names tokens contexts → ContextsArePairForms contexts
  contexts_formed tokens no_context are = tt
  contexts_formed tokens (between l r contexts) (left, right, rest, is, l_is, r_is, more) = (part_formed left l l_is, part_formed right r r_is, contexts_formed rest contexts more)

  side_named : (s : Side Raw) → is_plain_side s ≡ true → IsNamedSide s
  side_named nothing e = tt
  side_named anything e = cc
  side_named (one raw) e = tt
  side_named (member name) e = cc

  abbrev IsPlain : Pair Raw → Type 0
  IsPlain p = IsNamedSide p.up × IsNamedSide p.low

  both_plain : (a b : Bool) (p q : Pair Raw) → is_plain_side p.up ≡ a → is_plain_side p.low ≡ b → cond (a && b) (Some p) None ≡ Some q → IsPlain q
  both_plain true true p q up low e = subst IsPlain (some_same p q e) (side_named p.up up, side_named p.low low)
  both_plain true false p q up low e = let clash : None ≡ Some q = e in cc
  both_plain false b p q up low e = let clash : None ≡ Some q = e in cc

  plain : (part : Part Raw) (q : Pair Raw) → plain_pair part ≡ Some q → IsPlain q
  plain (pair p) q e = both_plain (is_plain_side p.up) (is_plain_side p.low) p q refl refl e
  plain (called name) q e = let clash : None ≡ Some q = e in cc

  centre_named : (run : List ℕ) (sides : Option (List ℕ × List ℕ)) (q : Pair Raw) → centre_by names run sides ≡ Some q → IsPlain q
  centre_named run None q e = let clash : None ≡ Some q = e in cc
  centre_named run (Some sides) q e = let x = then_some plain_pair (part_in names run) q e in plain x.0 q x.2

-- the definitions and rules that a statement says have these forms
abbrev IsFormedStatement : Statement → Type 0
IsFormedStatement (alphabet pairs) = Unit {0}
IsFormedStatement (set s) = Unit {0}
IsFormedStatement (definition d) = IsPairForm d.term
IsFormedStatement (rule r) = IsFormedRule r

statement_formed : (names : Names) (section : Section) (tokens : List Token) (s : Statement) → IsStatement names section tokens s → IsFormedStatement s
statement_formed names in_alphabet tokens (alphabet pairs) is = tt
statement_formed names in_sets tokens (set s) is = tt
statement_formed names in_definitions tokens (definition d) (expression, named, is, no_edge) = expression_formed names expression d.term is
statement_formed names in_rules tokens (rule r) (centre, rest, tokens_are, centre_is, contexts_are, some) =
    let sides = centre_named names centre (sides_of centre) r.centre centre_is in
    (sides.0, sides.1, contexts_formed names rest r.contexts contexts_are)
statement_formed names in_alphabet tokens (set s) is = absurd is
statement_formed names in_alphabet tokens (definition d) is = absurd is
statement_formed names in_alphabet tokens (rule r) is = absurd is
statement_formed names in_sets tokens (alphabet pairs) is = absurd is
statement_formed names in_sets tokens (definition d) is = absurd is
statement_formed names in_sets tokens (rule r) is = absurd is
statement_formed names in_definitions tokens (alphabet pairs) is = absurd is
statement_formed names in_definitions tokens (set s) is = absurd is
statement_formed names in_definitions tokens (rule r) is = absurd is
statement_formed names in_rules tokens (alphabet pairs) is = absurd is
statement_formed names in_rules tokens (set s) is = absurd is
statement_formed names in_rules tokens (definition d) is = absurd is

verdict_formed : (names : Names) (section : Section) (tokens : List Token) (s : Statement) (answer : Result Statement Why) → Verdict names section tokens answer → answer ≡ Ok s → IsFormedStatement s
verdict_formed names section tokens s answer (deep d) e = let clash : Err why.LimitNesting ≡ Ok s = e in cc
verdict_formed names section tokens s answer (unread d none) e = let clash : Err why.Statement ≡ Ok s = e in cc
verdict_formed names section tokens s answer (power t d is high) e = let clash : Err why.LimitPower ≡ Ok s = e in cc
verdict_formed names section tokens s answer (large t d is low many) e = let clash : Err why.LimitRule ≡ Ok s = e in cc
verdict_formed names section tokens s answer (again t d is low few known) e = let clash : Err why.Duplicate ≡ Ok s = e in cc
verdict_formed names section tokens s answer (fine t d is low few new) e = subst IsFormedStatement (ok_same t s e) (statement_formed names section tokens t is)

-- a grammar with what a statement says
with_formed : (g : Grammar Raw) (s : Statement) → IsFormed g → IsFormedStatement s → IsFormed (with_statement g s)
with_formed g (alphabet pairs) formed here = record { definitions = formed.definitions; rules = formed.rules }
with_formed g (set s) formed here = record { definitions = formed.definitions; rules = formed.rules }
with_formed g (definition d) formed here = record {
  definitions = All-append (λ (d : PairDefinition Raw). IsPairForm d.term) g.definitions (d ∷ []) formed.definitions (All-cons (λ (d : PairDefinition Raw). IsPairForm d.term) d [] here (All-nil (λ (d : PairDefinition Raw). IsPairForm d.term)));
  rules = formed.rules;
}
with_formed g (rule r) formed here = record {
  definitions = formed.definitions;
  rules = All-append IsFormedRule g.rules (r ∷ []) formed.rules (All-cons IsFormedRule r [] here (All-nil IsFormedRule));
}

abbrev FormedAnswer : Result (Grammar Raw) FaultAt → Type 0
FormedAnswer (Ok g) = IsFormed g
FormedAnswer (Err found) = Unit {0}

whole_formed : (stage : Stage) (g : Grammar Raw) → IsFormed g → FormedAnswer (whole stage g)
whole_formed (within in_rules) g formed = by (is_empty g.rules)
  where
    by : (b : Bool) → FormedAnswer (cond b (fault_at 0 why.Statement) (Ok g))
    by true = tt
    by false = formed
whole_formed (within in_alphabet) g formed = tt
whole_formed (within in_sets) g formed = tt
whole_formed (within in_definitions) g formed = tt
whole_formed beginning g formed = tt
whole_formed listed g formed = tt

end_formed : (stage : Stage) (g : Grammar Raw) (ending : Ending) → IsFormed g → FormedAnswer (at_end stage g ending)
end_formed stage g Whole formed = whole_formed stage g formed
end_formed stage g (NoToken line) formed = tt

said_formed : (s : State) (answer : Result (Grammar Raw) FaultAt) → Says s answer → IsFormed s.grammar → FormedAnswer answer
said_formed s answer (ended stage g ending) formed = end_formed stage g ending formed
said_formed s answer (head stage g p rest ending section a leads says) formed = said_formed _ a says formed
said_formed s answer (strange stage g p rest ending leads begins) formed = tt
said_formed s answer (no_token section g p more line leads begins unclosed) formed = tt
said_formed s answer (unended section g p more reason other leads begins unclosed verdict) formed = tt
said_formed s answer (read section g p more rest ending t a leads begins is_one ends verdict says) formed =
    said_formed _ a says (with_formed g t formed (verdict_formed (names_of g) section (tokens_of (p ∷ more)) t (Ok t) verdict refl))
said_formed s answer (refused section g p more rest ending reason leads begins is_one ends verdict) formed = tt

pub formed : GrammarsAreFormed
formed text grammar reads =
    said_formed (nothing_read reads.placed reads.ending) (Ok grammar) reads.says (record { definitions = All-nil (λ (d : PairDefinition Raw). IsPairForm d.term); rules = All-nil IsFormedRule })

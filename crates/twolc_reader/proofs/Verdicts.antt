-- What is found in the tokens of one statement.
use Rattle.std.proofs.Common.{◌≡◌, ℕ, Bool, true, false, if◌then◌else◌, nat_lt, List, [], ◌∷◌, map, length, Vec, vec_len, Global, Option, None, Some, Result, Err, IfOk, refl, sym, ap, subst, ◌∙◌, arith}
use Rattle.std.specs.Option.{option_map}
use Rattle.regex_ast.specs.declared.expr.Context.{Context}
use Rattle.regex_ast.specs.declared.expr.Raw.{Raw}
use Rattle.regex_ast.specs.declared.fault.ReadError.{ReadError}
use Rattle.regex_ast.specs.declared.fault.Why.{Why}
use Rattle.regex_ast.specs.declared.fault.Why.TheVariants as why
use Rattle.regex_ast.specs.declared.twolc.PairAtom.{PairAtom}
use Rattle.regex_ast.specs.declared.twolc.PairDefine.{PairDefine}
use Rattle.regex_ast.specs.declared.twolc.PairPart.{PairPart}
use Rattle.regex_ast.specs.declared.twolc.SetOf.{SetOf}
use Rattle.regex_ast.specs.declared.twolc.TwoLevelRule.{TwoLevelRule}
use Rattle.project_meaning.specs.Trees.{Pair}
use Rattle.twolc_tokens.specs.declared.token.Token.{Token}
use Rattle.twolc_expressions.specs.Views.{pair_view}
use Rattle.twolc_grammar.specs.Atoms.{Names, no_names}
use Rattle.twolc_grammar.specs.Expressions.{has_high_power}
use Rattle.twolc_grammar.specs.Statements.{Section as Part, in_alphabet, in_sets, in_definitions, in_rules, Statement as Said, alphabet, set, definition, rule, IsStatement, Verdict, unread, power, large, again, fine, count, is_again, is_large, is_too_deep}
use Rattle.twolc_expressions.specs.Reading.{IsFound}
use Rattle.twolc_reader.specs.StatementReading.{definition_view, set_view}
use Rattle.twolc_reader.specs.RuleReading.{context_views, rule_view}
use Rattle.twolc_reader.specs.declared.stage.Section.{Section}
use Rattle.twolc_reader.specs.declared.stage.Section.TheVariants.{Alphabet, Sets, Definitions, Rules}
use Rattle.twolc_reader.specs.declared.statement.Statement.{Statement}
use Rattle.twolc_reader.specs.declared.statement.Statement.TheVariants.{Rule}
use Rattle.twolc_reader.specs.Reading.{HasLine, IsVerdict, refusal, section_view, statement_view, unless}

-- Tokens that are no statement of their section.

module _ (names : Names) (tokens : List Token) where
  no_other_list : ((pairs : List (Pair Raw)) → IsStatement no_names in_alphabet tokens (alphabet pairs) → ⊥) → (s : Said) → IsStatement names in_alphabet tokens s → ⊥
  no_other_list none (alphabet pairs) h = none pairs h
  no_other_list none (set s) h = absurd h
  no_other_list none (definition d) h = absurd h
  no_other_list none (rule r) h = absurd h

  no_other_set : IsFound (λ s. IsStatement no_names in_sets tokens (set s)) None → (s : Said) → IsStatement names in_sets tokens s → ⊥
  no_other_set none (set s) h = none s h
  no_other_set none (alphabet pairs) h = absurd h
  no_other_set none (definition d) h = absurd h
  no_other_set none (rule r) h = absurd h

  no_other_definition : IsFound (λ d. IsStatement names in_definitions tokens (definition d)) None → (s : Said) → IsStatement names in_definitions tokens s → ⊥
  no_other_definition none (definition d) h = none d h
  no_other_definition none (alphabet pairs) h = absurd h
  no_other_definition none (set s) h = absurd h
  no_other_definition none (rule r) h = absurd h

  no_other_rule : IsFound (λ r. IsStatement names in_rules tokens (rule r)) None → (s : Said) → IsStatement names in_rules tokens s → ⊥
  no_other_rule none (rule r) h = none r h
  no_other_rule none (alphabet pairs) h = absurd h
  no_other_rule none (set s) h = absurd h
  no_other_rule none (definition d) h = absurd h

  abbrev NoneIn : Section → Type 0
  NoneIn section = (s : Said) → IsStatement names (section_view section) tokens s → ⊥

  module _ (section : Section) where
    pub no_list : section ≡ Alphabet → (o : Option (Vec (PairAtom Raw) Global)) → o ≡ None → IsFound (λ pairs. IsStatement no_names in_alphabet tokens (alphabet pairs)) (option_map (λ ps. map pair_view ps.items) o) → NoneIn section
    no_list is o none found = subst (λ s. NoneIn s) (sym is) (no_other_list (subst (λ (x : Option (Vec (PairAtom Raw) Global)). IsFound (λ pairs. IsStatement no_names in_alphabet tokens (alphabet pairs)) (option_map (λ ps. map pair_view ps.items) x)) none found))

    pub no_set : section ≡ Sets → (o : Option (SetOf Raw)) → o ≡ None → IsFound (λ s. IsStatement no_names in_sets tokens (set s)) (option_map set_view o) → NoneIn section
    no_set is o none found = subst (λ s. NoneIn s) (sym is) (no_other_set (subst (λ (x : Option (SetOf Raw)). IsFound (λ s. IsStatement no_names in_sets tokens (set s)) (option_map set_view x)) none found))

    pub no_definition : section ≡ Definitions → (o : Option (PairDefine Raw)) → o ≡ None → IsFound (λ d. IsStatement names in_definitions tokens (definition d)) (option_map definition_view o) → NoneIn section
    no_definition is o none found = subst (λ s. NoneIn s) (sym is) (no_other_definition (subst (λ (x : Option (PairDefine Raw)). IsFound (λ d. IsStatement names in_definitions tokens (definition d)) (option_map definition_view x)) none found))

    pub no_rule : section ≡ Rules → (o : Option (TwoLevelRule Raw)) → o ≡ None → IsFound (λ r. IsStatement names in_rules tokens (rule r)) (option_map rule_view o) → NoneIn section
    no_rule is o none found = subst (λ s. NoneIn s) (sym is) (no_other_rule (subst (λ (x : Option (TwoLevelRule Raw)). IsFound (λ r. IsStatement names in_rules tokens (rule r)) (option_map rule_view x)) none found))

-- How many contexts a rule has.

counted : (cs : List (Context (PairPart Raw))) → count (context_views cs) ≡ length cs
counted [] = refl
counted (c ∷ cs) = omega (arith, counted cs)

pub large_is : (s : Statement) (r : TwoLevelRule Raw) (n : ℕ) → s ≡ Rule r → n ≡ vec_len r.contexts → nat_lt 64 n ≡ is_large (statement_view s)
large_is s r n is long =
    let same : n ≡ count (context_views r.contexts.items) = omega (arith, long, r.contexts.ok.0, counted r.contexts.items) in
    ap (nat_lt 64) same ∙ sym (ap (λ x. is_large (statement_view x)) is)

-- The verdict.

module _ (names : Names) (section : Part) (line : ℕ) (tokens : List Token) where
  pub strange : (o : Option Statement) → false ≡ is_too_deep 0 tokens → o ≡ None → IsFound (IsStatement names section tokens) (option_map statement_view o) → Verdict names section tokens (Err why.Statement)
  strange o flat none found = unread (sym flat) (subst (λ (x : Option Statement). IsFound (IsStatement names section tokens) (option_map statement_view x)) none found)

  module _ (s : Statement) (flat : is_too_deep 0 tokens ≡ false) (is : IsStatement names section tokens (statement_view s)) where
    by : (a : Bool) → has_high_power false tokens ≡ a → (b : Bool) → is_large (statement_view s) ≡ b → (c : Bool) → is_again names (statement_view s) ≡ c
        → IsVerdict names section line tokens (unless s line (if a then Some why.LimitPower else (if b then Some why.LimitRule else (if c then Some why.Duplicate else None))))
    by true p b q c w = (refl, power (statement_view s) flat is p)
    by false p true q c w = (refl, large (statement_view s) flat is p q)
    by false p false q true w = (refl, again (statement_view s) flat is p q w)
    by false p false q false w = fine (statement_view s) flat is p q w

    judged : (r : Option Why) → r ≡ refusal names tokens (statement_view s) → IsVerdict names section line tokens (unless s line r)
    judged r e = subst (λ o. IsVerdict names section line tokens (unless s line o)) (sym e) (by (has_high_power false tokens) refl (is_large (statement_view s)) refl (is_again names (statement_view s)) refl)

  pub found_is : (o : Option Statement) (s : Statement) (r : Option Why) (result : Result Statement ReadError) → false ≡ is_too_deep 0 tokens → o ≡ Some s → IsFound (IsStatement names section tokens) (option_map statement_view o) → r ≡ refusal names tokens (statement_view s) → result ≡ unless s line r → IsVerdict names section line tokens result
  found_is o s r result flat is found e same =
      let said : IsStatement names section tokens (statement_view s) = subst (λ (x : Option Statement). IsFound (IsStatement names section tokens) (option_map statement_view x)) is found in
      subst (λ x. IsVerdict names section line tokens x) (sym same) (judged s (sym flat) said r e)

line_kept : (line : ℕ) (s : Statement) (r : Option Why) → HasLine line s → IfOk (unless s line r) (HasLine line)
line_kept line s None at = at
line_kept line s (Some reason) at = tt

pub line_is : (line : ℕ) (s : Statement) (r : Option Why) (result : Result Statement ReadError) → HasLine line s → result ≡ unless s line r → IfOk result (HasLine line)
line_is line s r result at same = subst (λ x. IfOk x (HasLine line)) (sym same) (line_kept line s r at)

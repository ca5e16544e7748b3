-- The loop over the head words and statements of a text.
use Rattle.std.proofs.Common.{◌≡◌, ◌==◌, ℕ, true, List, [], ◌∷◌, ◌++◌, map, length, None, Result, Ok, Err, IfOk, refl, sym, ap, subst, ◌∙◌, arith}
use Rattle.std.proofs.lemmas.Bool.Decides.{nat_tests}
use Rattle.regex_ast.specs.declared.expr.Raw.{Raw}
use Rattle.regex_ast.specs.declared.fault.ReadError.{ReadError}
use Rattle.regex_ast.specs.declared.fault.ReadError.TheVariants.{Fault, Memory}
use Rattle.regex_ast.specs.declared.twolc.Grammar.{Grammar}
use Rattle.regex_tokens.specs.declared.token.Ending.{Ending}
use Rattle.twolc_tokens.specs.declared.token.Placed.{Placed}
use Rattle.twolc_expressions.specs.Views.{pair_view}
use Rattle.twolc_grammar.specs.Atoms.{Names, no_names}
use Rattle.twolc_grammar.specs.Sections.{within, Says, ended, IsOne, at_end, leads, names_of, nothing_read, tokens_of}
use Rattle.twolc_grammar.specs.Statements.{Section}
use Rattle.twolc_reader.specs.StatementReading.{definition_view, set_view}
use Rattle.twolc_reader.specs.RuleReading.{rule_view}
use Rattle.twolc_reader.specs.declared.stage.Stage.{Stage as Reached}
use Rattle.twolc_reader.specs.declared.stage.Stage.TheVariants.{Beginning}
use Rattle.twolc_reader.specs.Reading.{IsAnswer, IsStep, IsVerdict, LeadsTo, broken_at, grammar_view, may_begin_in, name_of, names_at, names_with, stage_view, state}
use Rattle.twolc_reader.proofs.Lines.{all_there, none_yet}
use Rattle.twolc_reader.proofs.Steps.{SaysError, refused_here, then_leads}

-- what was read, before what is left
pub record SoFar (tokens rest : List Placed) (ending : Ending) (stage : Reached) (g : Grammar Raw) (names : Names) : Type 0 where
  pub known : names ≡ names_of (grammar_view g)
  pub leads : LeadsTo (nothing_read tokens ending) (state stage (grammar_view g) rest ending)
  pub lines : names_with g rest ≡ names_at tokens

nothing_seen : (g : Grammar Raw) → g.pairs.items ≡ [] → g.sets.items ≡ [] → g.definitions.items ≡ [] → g.rules.items ≡ [] → grammar_view g ≡ record { pairs = []; sets = []; definitions = []; rules = [] }
nothing_seen g pairs sets definitions rules = λ i. record { pairs = map pair_view (pairs i); sets = map set_view (sets i); definitions = map definition_view (definitions i); rules = map rule_view (rules i) }

pub begun : (tokens : List Placed) (ending : Ending) (g : Grammar Raw) (names : Names) → g.pairs.items ≡ [] → g.sets.items ≡ [] → g.definitions.items ≡ [] → g.rules.items ≡ [] → names ≡ no_names → SoFar tokens tokens ending Beginning g names
begun tokens ending g names pairs sets definitions rules none =
    let seen = nothing_seen g pairs sets definitions rules in
    record {
      known = none ∙ sym (ap names_of seen);
      leads = λ answer says. subst (λ v. Says (state Beginning v tokens ending) answer) seen says;
      lines = none_yet g tokens rules;
    }

pub went_on : (tokens rest behind : List Placed) (ending : Ending) (stage next : Reached) (old new : Grammar Raw) (names now : Names) → SoFar tokens rest ending stage old names → IsStep stage rest ending old new now (Ok (next, behind)) → names_with new behind ≡ names_with old rest → SoFar tokens behind ending next new now
went_on tokens rest behind ending stage next old new names now so_far step lines = record {
  known = step.2;
  leads = then_leads (nothing_read tokens ending) (state stage (grammar_view old) rest ending) (state next (grammar_view new) behind ending) so_far.leads step.0;
  lines = lines ∙ so_far.lines;
}

-- a fault that a step says
pub says_step : (stage : Reached) (rest : List Placed) (ending : Ending) (old new : Grammar Raw) (now : Names) (error : ReadError) → SaysError (state stage (grammar_view old) rest ending) error → IsStep stage rest ending old new now (Err error)
says_step stage rest ending old new now (Fault line reason) h = h
says_step stage rest ending old new now (Memory error) h = tt

pub refusal_step : (stage : Reached) (section : Section) → stage_view stage ≡ within section → (g : Grammar Raw) (tokens : List Placed) (p : Placed) (more : List Placed) (ending : Ending) → tokens ≡ p ∷ more → None ≡ leads (stage_view stage) p.token → may_begin_in section p.token ≡ true
    → (one behind : List Placed) → (tokens ≡ one ++ behind) × IsOne section one behind → (names : Names) → names ≡ names_of (grammar_view g) → None ≡ broken_at section behind ending → (error : ReadError) → IsVerdict names section p.line (tokens_of one) (Err error) → IsStep stage tokens ending g g names (Err error)
refusal_step stage section here g tokens p more ending is none may one behind whole names known ends (Fault line reason) verdict = refused_here (stage_view stage) section here (grammar_view g) tokens p more ending is none may one behind whole names known ends line reason verdict
refusal_step stage section here g tokens p more ending is none may one behind whole names known ends (Memory error) verdict = tt

pub stopped : (tokens rest : List Placed) (ending : Ending) (stage : Reached) (old new : Grammar Raw) (names now : Names) (error : ReadError) → SoFar tokens rest ending stage old names → IsStep stage rest ending old new now (Err error) → IsAnswer (Says (nothing_read tokens ending)) (Err error)
stopped tokens rest ending stage old new names now (Fault line reason) so_far step = so_far.leads (Err (record { line = line; why = reason })) step
stopped tokens rest ending stage old new names now (Memory error) so_far step = tt

-- The end.

by_zero : (n : ℕ) → true ≡ (n == 0) → n ≡ 0
by_zero n e = let none : (n == 0) ≡ true = sym e in grind (arith, nat_tests)

pub none_left : (rest : List Placed) → true ≡ (length rest == 0) → rest ≡ []
none_left [] e = refl
none_left (p ∷ rest) e = absurd (omega (arith, by_zero (length (p ∷ rest)) e))

module _ (tokens rest : List Placed) (ending : Ending) (stage : Reached) (g : Grammar Raw) (names : Names) (none : rest ≡ []) (so_far : SoFar tokens rest ending stage g names) where
  at_last : Says (nothing_read tokens ending) (at_end (stage_view stage) (grammar_view g) ending)
  at_last = so_far.leads (at_end (stage_view stage) (grammar_view g) ending) (subst (λ ps. Says (state stage (grammar_view g) ps ending) (at_end (stage_view stage) (grammar_view g) ending)) (sym none) (ended (stage_view stage) (grammar_view g) ending))

  pub answered : (result : Result (Grammar Raw) ReadError) → IsAnswer (λ answer. answer ≡ at_end (stage_view stage) (grammar_view g) ending) result → IsAnswer (Says (nothing_read tokens ending)) result
  answered (Ok found) e = subst (λ answer. Says (nothing_read tokens ending) answer) (sym e) at_last
  answered (Err (Fault line reason)) e = subst (λ answer. Says (nothing_read tokens ending) answer) (sym e) at_last
  answered (Err (Memory error)) e = tt

  pub lines_there : (result : Result (Grammar Raw) ReadError) → IfOk result (λ found. found ≡ g) → IfOk result (λ found. map name_of found.rules.items ≡ names_at tokens)
  lines_there (Ok found) same = ap (λ (x : Grammar Raw). map name_of x.rules.items) same ∙ all_there g rest tokens none so_far.lines
  lines_there (Err error) same = tt

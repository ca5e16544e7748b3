use Rattle.std.proofs.Common.{sym, ap, length, arith}
use Rattle.twolc_reader.specs.Reading.{grammar_view, section_view, stage_view, statement_view}
use Rattle.twolc_reader.proofs.Lines.{head_keeps, one_names, statement_keeps}
use Rattle.twolc_reader.proofs.Loops.{refusal_step, says_step}
use Rattle.twolc_reader.proofs.Steps.{head_leads, strange_there, open_at, broken_here, read_here, behind_shorter}
use Rattle.twolc_reader.proofs.reader.step.Goals as goal

pub returns-in-Some-leads-clause-leads : goal.returns-in-Some-leads-clause-leads
returns-in-Some-leads-clause-leads c =
    let is = c.in-Some.ensures.cases.0 in
    (head_leads (stage_view c.args.stage) (grammar_view c.args.grammar.now) c.args.tokens.now c.in-Some.first.now c.in-Some.more.now c.args.ending is (section_view c.in-Some-leads.section) (sym c.in-Some-leads.ensures), omega (arith, ap length is), c.requires.known)

pub returns-in-Some-leads-clause-lines : goal.returns-in-Some-leads-clause-lines
returns-in-Some-leads-clause-lines c =
    head_keeps c.args.grammar.now (stage_view c.args.stage) c.args.tokens.now c.in-Some.first.now c.in-Some.more.now (section_view c.in-Some-leads.section) c.in-Some.ensures.cases.0 (sym c.in-Some-leads.ensures)

pub returns-in_default-begun-clause-leads : goal.returns-in_default-begun-clause-leads
returns-in_default-begun-clause-leads c =
    strange_there (stage_view c.args.stage) (grammar_view c.args.grammar.now) c.args.tokens.now c.in-Some.first.now c.in-Some.more.now c.args.ending c.in-Some.ensures.cases.0 (sym c.in_default-leads.ensures) c.in_default-begun.ensures

pub returns-in_default-split_one-clause-leads : goal.returns-in_default-split_one-clause-leads
returns-in_default-split_one-clause-leads c =
    let said = open_at (stage_view c.args.stage) (section_view c.in-Some-begun.section) c.in-Some-begun.ensures.0 (grammar_view c.args.grammar.now) c.args.tokens.now c.in-Some.first.now c.in-Some.more.now c.args.ending c.in-Some.ensures.cases.0 c.in_default-leads.ensures c.in-Some-begun.ensures.1 c.in_default-split_one.ensures in
    says_step c.args.stage c.args.tokens.now c.args.ending c.args.grammar.now c.args.grammar.now c.args.names.now c.unended.result (rw c.unended.ensures said)

pub returns-in-Some-broken_at-clause-leads : goal.returns-in-Some-broken_at-clause-leads
returns-in-Some-broken_at-clause-leads c =
    broken_here (stage_view c.args.stage) (section_view c.in-Some-begun.section) c.in-Some-begun.ensures.0 (grammar_view c.args.grammar.now) c.args.tokens.now c.in-Some.first.now c.in-Some.more.now c.args.ending c.in-Some.ensures.cases.0 c.in_default-leads.ensures c.in-Some-begun.ensures.1
    c.in-Some-split_one.one.now c.in-Some-split_one.behind.now c.in-Some-split_one.ensures c.in-Some-broken_at.line c.in-Some-broken_at.ensures

pub returns-in-Err-clause-leads : goal.returns-in-Err-clause-leads
returns-in-Err-clause-leads c =
    refusal_step c.args.stage (section_view c.in-Some-begun.section) c.in-Some-begun.ensures.0 c.args.grammar.now c.args.tokens.now c.in-Some.first.now c.in-Some.more.now c.args.ending c.in-Some.ensures.cases.0 c.in_default-leads.ensures c.in-Some-begun.ensures.1
    c.in-Some-split_one.one.now c.in-Some-split_one.behind.now c.in-Some-split_one.ensures c.args.names.now c.requires.known c.in_default-broken_at.ensures c.in-Err.error c.in-Err.ensures.says

pub returns-clause-leads : goal.returns-clause-leads
returns-clause-leads c = (
  read_here (stage_view c.args.stage) (section_view c.in-Some-begun.section) c.in-Some-begun.ensures.0 (grammar_view c.args.grammar.now) c.args.tokens.now c.in-Some.first.now c.in-Some.more.now c.args.ending c.in-Some.ensures.cases.0 c.in_default-leads.ensures c.in-Some-begun.ensures.1
      c.in-Some-split_one.one.now c.in-Some-split_one.behind.now c.in-Some-split_one.ensures c.args.names.now c.requires.known c.in_default-broken_at.ensures
      (statement_view c.in-Ok.found) (stage_view c.behind_statement.result) (grammar_view c.put.new.grammar) c.in-Ok.ensures.says c.behind_statement.ensures c.in_ok-put.ensures.grammar,
  behind_shorter (stage_view c.args.stage) (section_view c.in-Some-begun.section) c.in-Some-begun.ensures.0 (grammar_view c.args.grammar.now) c.args.tokens.now c.in-Some.first.now c.in-Some.more.now c.args.ending c.in-Some.ensures.cases.0 c.in_default-leads.ensures c.in-Some-begun.ensures.1
      c.in-Some-split_one.one.now c.in-Some-split_one.behind.now c.in-Some-split_one.ensures,
  c.in_ok-put.ensures.names,
)

pub returns-clause-lines : goal.returns-clause-lines
returns-clause-lines c =
    statement_keeps c.args.grammar.now c.put.new.grammar c.args.tokens.now c.in-Some-split_one.one.now c.in-Some-split_one.behind.now c.in-Ok.found c.in-Some-split_one.ensures.0
    (one_names c.args.names.now (section_view c.in-Some-begun.section) c.args.tokens.now c.in-Some-split_one.one.now c.in-Some-split_one.behind.now c.in-Some.first.now c.in-Some.more.now c.in-Ok.found c.in-Some.ensures.cases.0 c.in-Some-split_one.ensures c.in-Ok.ensures.says c.in-Ok.ensures.at)
    c.in_ok-put.ensures.lines

use Rattle.std.proofs.Common.{sym, subst}
use Rattle.regex_tokens.specs.Reading.{IsRead}
use Rattle.regex_tokens.proofs.Texts.{first_some, first_refused, first_none}
use Rattle.regex_tokens.proofs.lexer.first.Goals as goal

pub returns-in_default : goal.returns-in_default
returns-in_default c = first_none c.args.text.now (subst (IsRead c.args.text.now) c.in_default.is c.in_ok-token.ensures)

pub returns-then-is_refused : goal.returns-then-is_refused
returns-then-is_refused c = first_refused c.args.text.now c.in-Some.token c.in-Some.len (subst (IsRead c.args.text.now) c.in-Some.is c.in_ok-token.ensures) (sym c.if-is_refused.ensures)

pub returns : goal.returns
returns c = first_some c.args.text.now c.in-Some.token c.in-Some.len (subst (IsRead c.args.text.now) c.in-Some.is c.in_ok-token.ensures) (sym c.if-is_refused.ensures)

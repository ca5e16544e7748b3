use Rattle.std.proofs.Common.{◌≡◌, true, false, sym, subst, ◌∙◌}
use Rattle.twolc_tokens.specs.Reading.{IsRead}
use Rattle.twolc_tokens.proofs.Texts.{first_some, first_refused, first_none}
use Rattle.twolc_tokens.proofs.lexer.first.Goals as goal

true_false : true ≡ false → ⊥
true_false e = cc

pub returns-in_default : goal.returns-in_default
returns-in_default c = first_none c.args.text.now (subst (IsRead c.args.text.now) c.in_default.is c.in_ok-token.ensures)

pub returns-then-branch : goal.returns-then-branch
returns-then-branch c = first_refused c.args.text.now c.in-Some.token c.in-Some.len (subst (IsRead c.args.text.now) c.in-Some.is c.in_ok-token.ensures) (c.in_ok-is_refused.ensures.0 c.if-branch.true)

pub returns : goal.returns
returns c = first_some c.args.text.now c.in-Some.token c.in-Some.len (subst (IsRead c.args.text.now) c.in-Some.is c.in_ok-token.ensures) (λ r. true_false (sym (c.in_ok-is_refused.ensures.1 r) ∙ c.if-branch.false))

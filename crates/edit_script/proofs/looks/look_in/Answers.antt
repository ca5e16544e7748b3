use Rattle.std.proofs.Common.{sym, ◌∙◌}
use Rattle.edit_script.proofs.Lines.{line_asks, no_look, is_rest, same_text, other_text}
use Rattle.edit_script.proofs.looks.look_in.Goals as goal

pub returns-in-Some : goal.returns-in-Some
returns-in-Some c = line_asks c.args.line.now c.in_ok-text.text.now c.in_ok-text.ensures.0 c.in_ok-text.ensures.1 c.in-Some.keyword.now c.in-Some.rest.now c.in-Some.ensures.0 c.in-Some.ensures.1 c.asked.result c.asked.ensures

pub returns-in-None : goal.returns-in-None
returns-in-None c = is_rest c.args.line.now c.in_ok-text.text.now c.in_ok-text.ensures.0 c.in_ok-text.ensures.1 (same_text _ _ (sym c.eq.ensures ∙ c.if-eq.true))

pub returns-in-None-2 : goal.returns-in-None-2
returns-in-None-2 c = no_look c.args.line.now c.in_ok-text.text.now c.in_ok-text.ensures.0 c.in_ok-text.ensures.1 c.in-None.ensures (other_text _ _ (sym c.eq.ensures ∙ c.if-eq.false))

use Rattle.std.proofs.Common.{◌==◌, false, sym, subst, ◌≡◌, ◌∙◌}
use Rattle.regex_tokens.specs.Bytes.{begins}
use Rattle.twolc_tokens.proofs.Atoms.{run_alone, question_alone, two_sides}
use Rattle.twolc_tokens.proofs.lexer.atom_len.Goals as goal

pub returns-in-Some : goal.returns-in-Some
returns-in-Some c = two_sides c.args.text.now c.in-Some.low.now c.side_len-up.result c.side_len.result c.side_len-up.ensures (sym c.split_at.ensures.back ∙ c.in-Some.ensures) c.side_len.ensures

pub returns-then-begins_with : goal.returns-then-begins_with
returns-then-begins_with c = question_alone c.args.text.now c.side_len-up.result c.side_len-up.ensures (subst (λ bs. begins (λ b. b == 58) bs ≡ false) c.split_at.ensures.back c.in_default.ensures) (sym c.begins_with.ensures ∙ c.if-begins_with.true)

pub returns : goal.returns
returns c = run_alone c.args.text.now c.side_len-up.result c.side_len-up.ensures (subst (λ bs. begins (λ b. b == 58) bs ≡ false) c.split_at.ensures.back c.in_default.ensures) (sym c.begins_with.ensures ∙ c.if-begins_with.false)

use Rattle.std.proofs.Common.{sym, ◌∙◌}
use Rattle.regex_reader.proofs.Forms.{no_command, no_name, no_end, no_fit, is_form}
use Rattle.regex_reader.proofs.form.form_of.Goals as goal

pub returns-in_err-command : goal.returns-in_err-command
returns-in_err-command c = rw c.from_residual.ensures (no_command c.args.tokens.now c.args.places.now c.requires c.in_err-command.ensures)

pub returns-in_err-name : goal.returns-in_err-name
returns-in_err-name c = rw c.from_residual-in_err-name.ensures (no_name c.args.tokens.now c.args.places.now c.in_ok-command.command.now c.in_ok-command.rest.now c.requires c.in_ok-command.ensures c.in_err-name.ensures)

pub returns-in_err-expression : goal.returns-in_err-expression
returns-in_err-expression c = rw c.from_residual-in_err-expression.ensures (no_end c.args.tokens.now c.args.places.now c.in_ok-command.command.now c.in_ok-name.name.now c.in_ok-command.rest.now c.in_ok-name.rest.now c.requires c.in_ok-command.ensures c.in_ok-name.ensures c.in_err-expression.ensures)

pub returns-then-not-fits : goal.returns-then-not-fits
returns-then-not-fits c =
    no_fit c.args.tokens.now c.args.places.now c.in_ok-command.command.now c.in_ok-name.name.now c.in_ok-command.rest.now c.in_ok-name.rest.now c.in_ok-expression.expression.now _ c.requires c.in_ok-command.ensures c.in_ok-name.ensures c.in_ok-expression.ensures (sym c.fits.ensures ∙ c.if-not-fits.true)

pub returns : goal.returns
returns c =
    is_form c.args.tokens.now c.args.places.now c.in_ok-command.command.now c.in_ok-name.name.now c.in_ok-command.rest.now c.in_ok-name.rest.now c.in_ok-expression.expression.now _ c.requires c.in_ok-command.ensures c.in_ok-name.ensures c.in_ok-expression.ensures (sym c.fits.ensures ∙ c.if-not-fits.false)

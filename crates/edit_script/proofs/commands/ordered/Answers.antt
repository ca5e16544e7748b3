use Rattle.edit_script.proofs.Keywords.{no_put, no_splice}
use Rattle.edit_script.proofs.commands.ordered.Goals as goal

pub returns-in_err-file-in-put : goal.returns-in_err-file-in-put
returns-in_err-file-in-put c = rw c.from_residual.ensures (no_put c.args.keyword.now c.args.rest.now c.in-put.is c.in_err-file-in-put.ensures)

pub returns-in_err-file-in-splice : goal.returns-in_err-file-in-splice
returns-in_err-file-in-splice c = rw c.from_residual-in_err-file-in-splice.ensures (no_splice c.args.keyword.now c.args.rest.now c.in-splice.is c.in_err-file-in-splice.ensures)

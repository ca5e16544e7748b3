use Rattle.std.proofs.Common.{Some, ap, sym, true≢false, ◌∙◌}
use Rattle.fsm_program.specs.Ends.{for_saved}
use Rattle.fsm_program.proofs.FileNames.{asks_file, asks_no_file}
use Rattle.fsm_program.proofs.Unread.{unread_named}
use Rattle.fsm_program.proofs.words.of_file.Goals as goal

pub returns-then-not-is_file_name : goal.returns-then-not-is_file_name
returns-then-not-is_file_name c = asks_no_file c.args.file.now (λ form. true≢false (sym (c.is_file_name.ensures.1 (rw c.as_bytes.ensures.value form)) ∙ c.if-not-is_file_name.true))

pub returns-in_err-file : goal.returns-in_err-file
returns-in_err-file c = unread_named _ _ _ _ _ c.from_residual.ensures.1 (asks_file c.args.file.now (rw c.as_bytes.ensures.value at (c.is_file_name.ensures.0 c.if-not-is_file_name.false))) tt

pub returns : goal.returns
returns c = asks_file c.args.file.now (rw c.as_bytes.ensures.value at (c.is_file_name.ensures.0 c.if-not-is_file_name.false)) ∙ ap (λ file. Some (for_saved file)) (sym c.in_ok-file.ensures)

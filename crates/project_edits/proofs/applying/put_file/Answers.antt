use Rattle.std.proofs.Common.{◌≡◌, ◌≤◌, true, false, List, ℕ, Some, cond, length, sym, ap, ◌∙◌, arith}
use Rattle.std.specs.Str.{bytes_eq}
use Rattle.fsm_io.specs.Folders.{file_of}
use Rattle.project_sources.specs.Edits.{held_in, put}
use Rattle.project_sources.specs.Limits.{most_bytes}
use Rattle.project_edits.proofs.Rows.{applied_edit, put_possible}
use Rattle.project_edits.proofs.applying.put_file.Goals as goal

pub returns : goal.returns
unfolding most_bytes
returns c =
    let old = c.args.sources.now in
    let file = c.args.file.now in
    let bytes = c.args.bytes.now in
    let small : length c.args.bytes.now ≤ 1048576 = omega arith in
    applied_edit (put file bytes) old _
    (put_possible (held_in old) file bytes (λ many. let both : true ≡ false = sym (c.is_one_too_many.ensures.1 many) ∙ c.if-is_one_too_many.false in cc) small)
    (λ name. c.in_ok-with_file.ensures name ∙ ap (λ (l : List ℕ). cond (bytes_eq c.args.file.now name) (Some l) (file_of name c.args.sources.now)) c.in_ok-bytes.ensures.items)

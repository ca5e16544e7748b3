use Rattle.std.proofs.Common.{ap, sym, ◌∙◌}
use Rattle.regex_tokens.specs.Bytes.{begins, is_blank}
use Rattle.pair_lines.proofs.Splitting.{blank_boundary}
use Rattle.pair_lines.proofs.words.behind_blanks.Goals as goal

pub split_at-requires : goal.split_at-requires
split_at-requires c = blank_boundary c.blanks.rest.now c.blanks.invariant.1 (sym (c.begins_blank.ensures ∙ ap (begins is_blank) c.as_bytes.ensures.value) ∙ c.blanks-test.true)

use Rattle.std.proofs.Common.{ap, subst, sym, ◌∙◌}
use Rattle.std.specs.Str.{IsCharBoundary}
use Rattle.pair_lines.specs.Reading.{word_len}
use Rattle.pair_lines.proofs.Splitting.{word_boundary}
use Rattle.pair_lines.proofs.words.split_word.Goals as goal

pub split_at-requires : goal.split_at-requires
split_at-requires c = subst (IsCharBoundary c.args.text.now) (sym (c.word_len.ensures ∙ ap (λ z. word_len z) c.as_bytes.ensures.value)) (word_boundary c.args.text.now)

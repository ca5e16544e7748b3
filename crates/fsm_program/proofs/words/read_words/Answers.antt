use Rattle.fsm_program.proofs.Unread.{asked_one, asked_three, reads_as}
use Rattle.fsm_program.proofs.words.read_words.Goals as goal

pub returns-in-len1 : goal.returns-in-len1
returns-in-len1 c = reads_as _ _ _ (asked_one c.args.words.now c.word-item.result c.in-len1.len_at_least c.in-len1.len_below c.word-item.is) (rw c.as_str.ensures.value at c.one_word.ensures)

pub returns-in-len3 : goal.returns-in-len3
returns-in-len3 c =
    reads_as _ _ _ (asked_three c.args.words.now c.command-item-then-words-lt4.result c.name-item.result c.in-len3.len_at_least c.in-len3.len_below c.command-item-then-words-lt4.is c.name-item.is)
    (rw (c.as_str-in-len3.ensures.value, c.as_str-in-len3-2.ensures.value) at c.three_words.ensures)

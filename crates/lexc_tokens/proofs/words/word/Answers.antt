use Rattle.std.proofs.Common.{sym, arith}
use Rattle.lexc_tokens.proofs.Letters.{front_size, letter_more, letters_done}
use Rattle.lexc_tokens.proofs.words.word.Goals as goal

pub returns-clause-letters : goal.returns-clause-letters
returns-clause-letters c = letters_done c.args.text.now c.letters.len c.letters.letters.items c.split_at.result.1.now c.split_at.ensures.back (sym c.in_default.ensures) c.letters.invariant.so_far

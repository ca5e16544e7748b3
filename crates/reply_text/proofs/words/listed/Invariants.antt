use Rattle.std.proofs.Common.{◌≡◌, ◌++◌, ◌∷◌, decimal, length, take}
use Rattle.std.specs.List.{flat_map}
use Rattle.std.specs.String.{string_bytes}
use Rattle.reply_meaning.specs.Replies.{headed, line_of}
use Rattle.reply_text.proofs.words.listed.Given as goal

-- the count and the word, and the lines of the texts so far
abbrev pub invariant-texts : goal.invariant-texts
invariant-texts l = string_bytes l.reply ≡ headed l.fn.number (decimal (length l.fn.texts) ++ 32 ∷ l.fn.word) ++ flat_map line_of (take l.text-index l.fn.texts)

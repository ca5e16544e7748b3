use Rattle.std.proofs.Common.{◌≡◌, ◌++◌, decimal, length, take}
use Rattle.std.specs.List.{flat_map}
use Rattle.std.specs.String.{string_bytes}
use Rattle.reply_meaning.specs.Replies.{line_of}
use Rattle.morph_c.proofs.replies.listed.Given as goal

-- the count, and the lines of the texts so far
abbrev pub invariant-texts : goal.invariant-texts
invariant-texts l = string_bytes l.lines ≡ line_of (decimal (length l.texts)) ++ flat_map line_of (take l.text-index l.texts)

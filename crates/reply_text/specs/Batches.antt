-- The replies of batches, each one word.
use Rattle.std.specs.Prelude.{ℕ, List, codes}
use Rattle.reply_meaning.specs.Replies.{line_of}
use Rattle.reply_text.specs.declared.batches.BatchReply.{BatchReply}
use Rattle.reply_text.specs.declared.batches.BatchReply.TheVariants.{Begun, Held, Open, NoBatch, Dropped, Lost, Full}

abbrev pub batch_word : BatchReply → List ℕ
batch_word Begun = codes "begun"
batch_word Held = codes "held"
batch_word Open = codes "open"
batch_word NoBatch = codes "none"
batch_word Dropped = codes "dropped"
batch_word Lost = codes "lost"
batch_word Full = codes "batch-full"

-- the line of the reply
abbrev pub batch_line : BatchReply → List ℕ
batch_line reply = line_of (batch_word reply)

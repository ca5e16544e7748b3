-- The replies of one word.
use Rattle.std.specs.Prelude.{ℕ, List, codes}
use Rattle.reply_text.specs.declared.heads.Head.{Head}
use Rattle.reply_text.specs.declared.heads.Head.TheVariants.{Long, Line, Memory}

abbrev pub head_word : Head → List ℕ
head_word Long = codes "long"
head_word Line = codes "line"
head_word Memory = codes "memory"

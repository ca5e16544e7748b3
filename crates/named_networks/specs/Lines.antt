-- What is told of two languages before a word, and where none is told.
use Rattle.std.specs.Prelude.{ℕ, Bool, List, codes, cond}
use Rattle.named_networks.specs.declared.told.Question.{Question}
use Rattle.named_networks.specs.declared.told.Question.TheVariants.{Equal, Within}

-- what is told where no word stands against it
abbrev pub all_told : Question → List ℕ
all_told Equal = codes "same"
all_told Within = codes "within"

-- what stands before a word that is in the first language alone, and before one that is in the second alone
abbrev pub differ_head : Bool → List ℕ
differ_head first = cond first (codes "differ 1") (codes "differ 2")

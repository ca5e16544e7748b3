-- Parts of the program's expressions over pairs, with other leaves.
use Rattle.regex_ast.specs.declared.twolc.PairPart.{PairPart}
use Rattle.regex_ast.specs.declared.twolc.PairPart.TheVariants.{Atom, Named}
use Rattle.regex_ast.specs.declared.twolc.PairSide.{PairSide}
use Rattle.regex_ast.specs.declared.twolc.PairSide.TheVariants.{Zero, Any, One, Member}

module _ {A B : Type 0} (f : A → B) where
  abbrev pub side_by : PairSide A → PairSide B
  side_by Zero = Zero
  side_by Any = Any
  side_by (One leaf) = One (f leaf)
  side_by (Member set) = Member set

  abbrev pub part_by : PairPart A → PairPart B
  part_by (Atom p) = Atom (record { up = side_by p.up; low = side_by p.low })
  part_by (Named name) = Named name

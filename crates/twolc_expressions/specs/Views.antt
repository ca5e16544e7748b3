-- Pairs, and parts of expressions over them, as the plain trees that definitions speak of.
use Rattle.regex_ast.specs.declared.expr.Raw.{Raw}
use Rattle.regex_ast.specs.declared.twolc.PairAtom.{PairAtom}
use Rattle.regex_ast.specs.declared.twolc.PairPart.{PairPart}
use Rattle.regex_ast.specs.declared.twolc.PairPart.TheVariants.{Atom, Named}
use Rattle.regex_ast.specs.declared.twolc.PairSide.{PairSide}
use Rattle.regex_ast.specs.declared.twolc.PairSide.TheVariants.{Zero, Any, One, Member}
use Rattle.project_meaning.specs.Trees.{Side, nothing, anything, one, member, Pair, Part, pair, called}

abbrev pub side_view : PairSide Raw → Side Raw
side_view Zero = nothing
side_view Any = anything
side_view (One symbol) = one symbol
side_view (Member set) = member set

abbrev pub pair_view : PairAtom Raw → Pair Raw
pair_view p = record { up = side_view p.up; low = side_view p.low }

abbrev pub part_view : PairPart Raw → Part Raw
part_view (Atom p) = pair (pair_view p)
part_view (Named name) = called name

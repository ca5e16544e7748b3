-- The definitions at work: what some atoms are, and how some tokens stand as those of xfst.
use Rattle.std.proofs.Common.{◌≡◌, Some, None, [], ◌∷◌, false, refl}
use Rattle.std.specs.Prelude.{codes}
use Rattle.regex_ast.specs.declared.expr.Raw.TheVariants.{Run, Quoted}
use Rattle.regex_tokens.specs.declared.token.Operator.TheVariants as xfst
use Rattle.regex_tokens.specs.declared.token.Token.TheVariants.{Operator as xfst_operator, Quoted as xfst_quoted, Run as xfst_run}
use Rattle.project_meaning.specs.Trees.{nothing, anything, one, member, pair, called}
use Rattle.twolc_grammar.specs.Atoms.{Names, part_in, symbols_in, centre_in, one_symbol_in}
use Rattle.twolc_grammar.specs.Expressions.{as_xfst}
use Rattle.twolc_tokens.specs.declared.token.Operator.TheVariants.{OpenSquare, Caret, Star, Semicolon}
use Rattle.twolc_tokens.specs.declared.token.Token.TheVariants.{Operator as operator, Atom as atom}

abbrev known : Names
known = record { sets = codes "V" ∷ []; definitions = codes "D" ∷ [] }

alone : part_in known (codes "a") ≡ Some (pair (record { up = one (Run (codes "a")); low = one (Run (codes "a")) }))
alone = refl

two_sides : part_in known (codes "a:b") ≡ Some (pair (record { up = one (Run (codes "a")); low = one (Run (codes "b")) }))
two_sides = refl

inserting : part_in known (codes "0:e") ≡ Some (pair (record { up = nothing; low = one (Run (codes "e")) }))
inserting = refl

upper_alone : part_in known (codes "a:") ≡ Some (pair (record { up = one (Run (codes "a")); low = anything }))
upper_alone = refl

lower_alone : part_in known (codes ":b") ≡ Some (pair (record { up = anything; low = one (Run (codes "b")) }))
lower_alone = refl

of_a_set : part_in known (codes "V:0") ≡ Some (pair (record { up = member (codes "V"); low = nothing }))
of_a_set = refl

set_alone : part_in known (codes "V") ≡ Some (called (codes "V"))
set_alone = refl

definition_alone : part_in known (codes "D") ≡ Some (called (codes "D"))
definition_alone = refl

-- an escaped run is a symbol, be it a name, `0` or with a `:`
escaped_name : part_in known (codes "%V:%0") ≡ Some (pair (record { up = one (Quoted (codes "V")); low = one (Quoted (codes "0")) }))
escaped_name = refl

escaped_colon : part_in known (codes "a%:b") ≡ Some (pair (record { up = one (Quoted (codes "a:b")); low = one (Quoted (codes "a:b")) }))
escaped_colon = refl

-- none of these is an atom
zero_alone : part_in known (codes "0") ≡ None
zero_alone = refl

zeros : part_in known (codes "0:0") ≡ None
zeros = refl

colon_alone : part_in known (codes ":") ≡ None
colon_alone = refl

definition_on_a_side : part_in known (codes "a:D") ≡ None
definition_on_a_side = refl

-- what the alphabet and the centre of a rule have
listed_alone : symbols_in (codes "V") ≡ Some (record { up = one (Run (codes "V")); low = one (Run (codes "V")) })
listed_alone = refl

listed_any : symbols_in (codes "a:") ≡ None
listed_any = refl

centre_alone : centre_in known (codes "a") ≡ None
centre_alone = refl

centre_of_a_set : centre_in known (codes "V:a") ≡ None
centre_of_a_set = refl

symbol_of_a_set : one_symbol_in (codes "a:b") ≡ None
symbol_of_a_set = refl

-- a number behind `^` stands as it is, and another atom as one symbol
power : as_xfst false (atom (codes "a:0") ∷ operator Caret ∷ atom (codes "0") ∷ operator Star ∷ []) ≡ Some (xfst_quoted (codes "a:0") ∷ xfst_operator xfst.Caret ∷ xfst_run (record { text = codes "0"; escaped = false }) ∷ xfst_operator xfst.Star ∷ [])
power = refl

any_side : as_xfst false (atom (codes "?:") ∷ []) ≡ Some (xfst_operator xfst.Question ∷ [])
any_side = refl

no_operand : as_xfst false (operator OpenSquare ∷ operator Semicolon ∷ []) ≡ None
no_operand = refl

-- What suffixes make of networks, and which of them make nothing new behind another.
use Rattle.std.specs.Prelude.{◌≡◌, Option, Some}
use Rattle.regex_ast.specs.declared.expr.Suffix.{Suffix}
use Rattle.regex_ast.specs.declared.expr.Suffix.TheVariants.{Star, Plus, Power, Upper, Lower}
use Rattle.expr_kinds.specs.Kinds.{kind_behind}
use Rattle.expr_meaning.specs.Operators.{IsSuffixed, RelatesSuffixed}
use Rattle.network_algebra.specs.Networks.{IsFor, WordsOf, PairsOf, kind_of_network}
use Rattle.network_algebra.specs.declared.network.Network.{Network}

-- the suffix makes nothing new behind the other, if there is one: a power of one nowhere, repetition of what is repeated, and a side
-- of what is a side already
abbrev pub MakesNothingNew : Option Suffix → Suffix → Type 0
MakesNothingNew last (Power n) = n ≡ 1
MakesNothingNew (Some Star) Star = Unit {0}
MakesNothingNew (Some Star) Plus = Unit {0}
MakesNothingNew (Some Plus) Plus = Unit {0}
MakesNothingNew (Some Upper) Upper = Unit {0}
MakesNothingNew (Some Upper) Lower = Unit {0}
MakesNothingNew (Some Lower) Upper = Unit {0}
MakesNothingNew (Some Lower) Lower = Unit {0}
MakesNothingNew last suffix = ⊥

-- what a suffix makes of a network
abbrev pub IsBehind : Network → Suffix → Network → Type 0
IsBehind n suffix r = IsFor (kind_behind (kind_of_network n) suffix) (IsSuffixed suffix (WordsOf n) (PairsOf n)) (RelatesSuffixed suffix (PairsOf n)) r

-- what makes nothing new behind the last suffix makes the network of itself
abbrev pub IsSettled : Option Suffix → Network → Type 0
IsSettled last n = (suffix : Suffix) → MakesNothingNew last suffix → IsBehind n suffix n

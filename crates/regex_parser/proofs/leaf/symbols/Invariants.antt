use Rattle.std.proofs.Common.{◌≡◌, map, take}
use Rattle.regex_ast.specs.declared.expr.Raw.TheVariants.{Quoted as quoted_symbol}
use Rattle.regex_parser.proofs.leaf.symbols.Given as goal

abbrev pub invariant-symbols : goal.invariant-symbols
invariant-symbols l = l.symbols.items ≡ map quoted_symbol (take l.text-index l.texts)

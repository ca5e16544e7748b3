-- What is found in the parts of an expression.
use Rattle.std.specs.Prelude.{◌||◌, List}
use Rattle.std.specs.List.{list_any}
use Rattle.regex_reader.specs.declared.findings.Findings.{Findings}
use Rattle.regex_reader.specs.Tests.{Node, is_misplaced, has_high_power, has_large_rule}

abbrev pub found_in : List Node → Findings
found_in parts = record { misplaced_edge = list_any is_misplaced parts; high_power = list_any has_high_power parts; large_rule = list_any has_large_rule parts }

-- what one of them finds
abbrev pub either : Findings → Findings → Findings
either a b = record { misplaced_edge = a.misplaced_edge || b.misplaced_edge; high_power = a.high_power || b.high_power; large_rule = a.large_rule || b.large_rule }

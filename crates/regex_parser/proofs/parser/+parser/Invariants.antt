use Rattle.std.proofs.Common.{◌+◌, ◌*◌, length}
use Rattle.regex_parser.proofs.Levels.{IgnoredSoFar, ConcatSoFar, ChainSoFar, StepsSoFar}
use Rattle.regex_parser.proofs.Rules.{ContextsSoFar, MappingsSoFar, GroupsSoFar}
use Rattle.regex_parser.proofs.parser.+parser.Given as goal

-- by the brackets that may be opened, and then by the levels
abbrev pub decreases-expression : goal.decreases-expression
decreases-expression l = 26 * l.depth

abbrev pub decreases-square : goal.decreases-square
decreases-square l = 26 * l.depth + 1

abbrev pub decreases-round : goal.decreases-round
decreases-round l = 26 * l.depth + 1

abbrev pub decreases-primary : goal.decreases-primary
decreases-primary l = 26 * l.depth + 2

abbrev pub decreases-negated : goal.decreases-negated
decreases-negated l = 26 * l.depth + 3

abbrev pub decreases-crossed : goal.decreases-crossed
decreases-crossed l = 26 * l.depth + 4

abbrev pub decreases-suffixed : goal.decreases-suffixed
decreases-suffixed l = 26 * l.depth + 5

abbrev pub decreases-prefixed : goal.decreases-prefixed
decreases-prefixed l = 26 * l.depth + 6

abbrev pub decreases-ignored : goal.decreases-ignored
decreases-ignored l = 26 * l.depth + 7

abbrev pub decreases-concatenation : goal.decreases-concatenation
decreases-concatenation l = 26 * l.depth + 8

abbrev pub decreases-chain : goal.decreases-chain
decreases-chain l = 26 * l.depth + 9

abbrev pub decreases-chain_or_empty : goal.decreases-chain_or_empty
decreases-chain_or_empty l = 26 * l.depth + 10

abbrev pub decreases-context : goal.decreases-context
decreases-context l = 26 * l.depth + 11

abbrev pub decreases-contexts : goal.decreases-contexts
decreases-contexts l = 26 * l.depth + 12

abbrev pub decreases-upper : goal.decreases-upper
decreases-upper l = 26 * l.depth + 13

abbrev pub decreases-sided : goal.decreases-sided
decreases-sided l = 26 * l.depth + 13

abbrev pub decreases-marks : goal.decreases-marks
decreases-marks l = 26 * l.depth + 14

abbrev pub decreases-right_side : goal.decreases-right_side
decreases-right_side l = 26 * l.depth + 15

abbrev pub decreases-mapping : goal.decreases-mapping
decreases-mapping l = 26 * l.depth + 16

abbrev pub decreases-mappings : goal.decreases-mappings
decreases-mappings l = 26 * l.depth + 17

abbrev pub decreases-directed : goal.decreases-directed
decreases-directed l = 26 * l.depth + 18

abbrev pub decreases-group_tail : goal.decreases-group_tail
decreases-group_tail l = 26 * l.depth + 18

abbrev pub decreases-group : goal.decreases-group
decreases-group l = 26 * l.depth + 19

abbrev pub decreases-replacement : goal.decreases-replacement
decreases-replacement l = 26 * l.depth + 20

abbrev pub decreases-restriction : goal.decreases-restriction
decreases-restriction l = 26 * l.depth + 21

abbrev pub decreases-ruling : goal.decreases-ruling
decreases-ruling l = 26 * l.depth + 22

abbrev pub decreases-insertion : goal.decreases-insertion
decreases-insertion l = 26 * l.depth + 23

abbrev pub decreases-nine : goal.decreases-nine
decreases-nine l = 26 * l.depth + 24

abbrev pub decreases-steps : goal.decreases-steps
decreases-steps l = 26 * l.depth + 25

abbrev pub invariant-ignored-operands : goal.invariant-ignored-operands
invariant-ignored-operands l = IgnoredSoFar l.depth l.initial.rest l.initial.first.expr l.first.expr l.more.items l.rest

abbrev pub decreases-ignored-operands : goal.decreases-ignored-operands
decreases-ignored-operands l = length l.rest

abbrev pub invariant-concatenation-operands : goal.invariant-concatenation-operands
invariant-concatenation-operands l = ConcatSoFar l.depth l.initial.rest l.initial.first.expr l.first.expr l.more.items l.rest

abbrev pub decreases-concatenation-operands : goal.decreases-concatenation-operands
decreases-concatenation-operands l = length l.rest

abbrev pub invariant-chain-links : goal.invariant-chain-links
invariant-chain-links l = ChainSoFar l.depth l.initial.rest l.initial.first.expr l.first.expr l.links.items l.rest

abbrev pub decreases-chain-links : goal.decreases-chain-links
decreases-chain-links l = length l.rest

abbrev pub invariant-steps-steps : goal.invariant-steps-steps
invariant-steps-steps l = StepsSoFar l.depth l.initial.rest l.initial.first.expr l.first.expr l.found.items l.rest

abbrev pub decreases-steps-steps : goal.decreases-steps-steps
decreases-steps-steps l = length l.rest

abbrev pub invariant-contexts-contexts : goal.invariant-contexts-contexts
invariant-contexts-contexts l = ContextsSoFar l.depth l.initial.rest l.initial.found.items l.found.items l.rest

abbrev pub decreases-contexts-contexts : goal.decreases-contexts-contexts
decreases-contexts-contexts l = length l.rest

abbrev pub invariant-mappings-mappings : goal.invariant-mappings-mappings
invariant-mappings-mappings l = MappingsSoFar l.depth l.arrow l.initial.rest l.initial.maps.items l.maps.items l.rest

abbrev pub decreases-mappings-mappings : goal.decreases-mappings-mappings
decreases-mappings-mappings l = length l.rest

abbrev pub invariant-replacement-groups : goal.invariant-replacement-groups
invariant-replacement-groups l = GroupsSoFar l.depth l.optional l.initial.rest l.initial.groups.items l.groups.items l.rest

abbrev pub decreases-replacement-groups : goal.decreases-replacement-groups
decreases-replacement-groups l = length l.rest

use Rattle.lookup.specs.Steps.{Steps}
use Rattle.lookup.proofs.Exploring.{explored_more}
use Rattle.lookup.proofs.part.explore.Goals as goal

pub configs-preserved : goal.configs-preserved
configs-preserved c =
    explored_more (Steps c.args.table.now c.args.finals.now c.args.word.now) c.configs.next c.configs.explored c.visit.new.explored c.config-config.result c.configs.invariant c.config-config.ensures c.in_ok-visit.ensures

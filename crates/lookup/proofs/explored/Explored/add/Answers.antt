use Rattle.lookup.proofs.Adding.{AddsSteps-one}
use Rattle.lookup.proofs.explored.Explored.add.Goals as goal

pub returns : goal.returns
returns c =
    rw (← c.self.view_is) (AddsSteps-one (record { configs = c.self.inside.configs.keys; edges = c.self.inside.edges.items }) (record { configs = c.node_of.new.configs.keys; edges = c.push.new.self.items }) c.args.from c.in_ok-to.to c.args.letter c.args.target c.in_ok-to.ensures.kept c.in_ok-to.ensures.node c.in_ok-push.ensures.items)

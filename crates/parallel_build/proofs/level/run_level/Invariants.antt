use Rattle.std.proofs.Common.{◌≡◌, ◌++◌, List, vec_len}
use Rattle.std.specs.List.{AllZip}
use Rattle.parallel_build.proofs.level.run_level.Given as goal

-- the jobs so far have the results so far, and the others are left
abbrev pub invariant-batches : goal.invariant-batches
invariant-batches g l =
    (done : List g.row.J.Denot) × (l.fn.jobs.items ≡ done ++ l.batch.items)
    × AllZip (λ job out. g.J.Job.gives job out × g.G.Gate.left l.gate (g.J.Job.name_of job)) done l.outs.items

abbrev pub decreases-batches : goal.decreases-batches
decreases-batches g l = vec_len l.batch

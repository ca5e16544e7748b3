use Rattle.std.proofs.Common.{sym, subst, arith, slice_index_or}
use Rattle.parallel_build.proofs.Results.{both_ok, AllZip-from_get_or}
use Rattle.parallel_build.proofs.level.run_batch.Goals as goal

pub returns : goal.returns
returns g c =
    both_ok c.map_vec.result c.map_vec.ensures.len c.map_vec.ensures.each (λ outs count each.
    AllZip-from_get_or (λ job out. g.J.Job.gives job out × g.G.Gate.left c.args.gate.now (g.J.Job.name_of job)) c.args.jobs.items outs.items
    (omega (arith, count, outs.ok, c.args.jobs.ok))
    (λ i d e below.
    let it = (each i e below).1 in
    subst (λ job. g.J.Job.gives job (slice_index_or outs.items i e) × g.G.Gate.left c.args.gate.now (g.J.Job.name_of job)) (sym (it.job_is d)) it.call.met))

use Rattle.std.proofs.Common.{◌≡◌, ◌∙◌, ◌==◌, [], true, length, vec_len, refl, sym, subst, arith}
use Rattle.std.specs.List.{AllZip}
use Rattle.std.proofs.lemmas.Bool.Decides.{nat_tests}
use Rattle.parallel_build.proofs.Results.{next_batch, last_batch}
use Rattle.parallel_build.proofs.level.run_level.Goals as goal

pub batches-init : goal.batches-init
batches-init g c =
    ([], refl, subst (AllZip (λ job out. g.J.Job.gives job out × g.G.Gate.left c.args.gate.now (g.J.Job.name_of job)) []) (sym c.in_ok-outs.ensures.items) tt)

pub batches-preserved : goal.batches-preserved
batches-preserved g c =
    let so_far = c.batches.invariant in
    let cut = c.in_ok-later.ensures in
    next_batch (λ job out. g.J.Job.gives job out × g.G.Gate.left c.args.gate.now (g.J.Job.name_of job)) c.args.jobs.items so_far.0 c.batches.batch.items _ _ c.batches.outs.items _ _ _
    so_far.1 cut.items cut.tail so_far.2 c.in_ok-made.ensures c.in_ok-append.ensures.items

pub returns : goal.returns
returns g c =
    let so_far = c.batches.invariant in
    let empty : (vec_len c.batches.batch == 0) ≡ true = sym c.is_empty.ensures ∙ c.batches-test.false in
    let zero_long : vec_len c.batches.batch ≡ 0 = grind (arith, nat_tests) in
    let none : length c.batches.batch.items ≡ 0 = omega (arith, zero_long, c.batches.batch.ok) in
    last_batch (λ job out. g.J.Job.gives job out × g.G.Gate.left c.args.gate.now (g.J.Job.name_of job)) c.args.jobs.items so_far.0 c.batches.batch.items c.batches.outs.items so_far.1 none so_far.2

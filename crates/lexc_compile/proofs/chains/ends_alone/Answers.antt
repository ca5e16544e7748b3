use Rattle.std.proofs.Common.{length, true, refl, arith}
use Rattle.std.proofs.lemmas.Bool.{ltb-true, lt-ltb}
use Rattle.std.proofs.lemmas.Option.{slice_get_within}
use Rattle.lexc_compile.proofs.chains.ends_alone.Goals as goal

pub returns : goal.returns
returns c =
    let finals = c.args.finals.now in
    let past = c.loop-state-test.false in (
      λ there p. (
        λ final. (c.loop-state.invariant p (let l = slice_get_within finals p true final in omega arith)).0 final,
        λ same. (c.loop-state.invariant p (let l = ltb-true c.args.end (length finals) there in omega arith)).1 same,
      ),
      λ alone. lt-ltb c.args.end (length finals) (slice_get_within finals c.args.end true ((alone c.args.end).1 refl)),
    )

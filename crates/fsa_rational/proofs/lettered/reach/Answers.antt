use Rattle.std.proofs.Common.{ap, ◌∙◌}
use Rattle.std.proofs.lemmas.Result.{on_ok_weaker}
use Rattle.fsa_rational.proofs.Bypassing.{reached_from}
use Rattle.fsa_rational.proofs.lettered.reach.Goals as goal

pub close-requires : goal.close-requires
close-requires g c = rw (c.in_ok-add.ensures.ok.grows.bound ∙ ap (λ m. m.bound) c.clear.ensures) c.requires.within

pub returns : goal.returns
returns g c =
    let same = c.in_ok-add.ensures.ok.grows.bound ∙ ap (λ m. m.bound) c.clear.ensures in
    record {
      bound = on_ok_weaker c.close.result (λ a. a.grows.bound ∙ same) c.close.ensures.ok;
      reached = on_ok_weaker c.close.result
          (λ a. reached_from c.args.rows.now c.args.state c.clear.new.self c.add.new.self c.close.new.states (ap (λ m. m.found) c.clear.ensures) c.in_ok-add.ensures.ok a)
          c.close.ensures.ok;
    }

use Rattle.std.proofs.Common.{All, subst}
use Rattle.network_algebra.specs.Optional.{EntersOther}
use Rattle.network_algebra.proofs.PlainStart.{plain_letters, besides_language}
use Rattle.network_algebra.proofs.optional.split_off_empty.Goals as goal

pub returns-in_ok-add_plain_start-clause-letters : goal.returns-in_ok-add_plain_start-clause-letters
returns-in_ok-add_plain_start-clause-letters g c = plain_letters c.args.m.now c.in_ok-add_plain_start.field-0 c.in_ok-add_plain_start.ensures

pub returns-in_ok-add_plain_start-clause-language : goal.returns-in_ok-add_plain_start-clause-language
returns-in_ok-add_plain_start-clause-language g c =
    let every = subst (All EntersOther) c.edges-edges.ensures.edges (c.leave_start_alone.ensures.0 c.if-leave_start_alone.true) in
    besides_language c.args.m.now c.in_ok-add_plain_start.field-0 c.in_ok-add_plain_start.ensures (c.is_final.ensures.0 c.if-is_final.true) every

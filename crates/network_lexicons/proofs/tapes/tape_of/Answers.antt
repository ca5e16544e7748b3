use Rattle.network_lexicons.proofs.Sided.{keeps_more, fronts_more}
use Rattle.network_lexicons.proofs.tapes.tape_of.Goals as goal

pub letters-preserved : goal.letters-preserved
letters-preserved c =
    let before = c.args.flags.now in
    let flags = c.letters.flags in
    let more = c.first_letter.new.flags in
    let first = c.in_ok-first.first in
    record {
      kept = keeps_more before flags more c.letters.invariant.kept c.in_ok-first.ensures.kept;
      fronts = rw (c.split_at.ensures.back, c.split_at-in-letters.ensures.back)
          (fronts_more flags more c.args.upper.now c.args.lower.now c.letters.above.now c.letters.below.now c.letters.tape.items c.push.new.self.items first
          c.in_ok-first.ensures.kept c.in_ok-first.ensures.first c.in_ok-push.ensures.items c.letters.invariant.fronts);
    }

use Rattle.std.proofs.Common.{◌≡◌, true, Some, refl, arith, rules}
use Rattle.lane_session.specs.declared.session.Stop.TheVariants.{Ended, Marked}
use Rattle.lane_session.specs.Lanes.{Work}
use Rattle.lane_session.proofs.Serving.{ended_same, rest_marked, rest_unmarked}
use Rattle.lane_session.proofs.work.Work.answer_rest.Goals as goal

pub returns-then-not-is_marked : goal.returns-then-not-is_marked
returns-then-not-is_marked g c stop is =
    rest_unmarked g.V.Replying.replies c.args.self.now _ stop is (λ marked. let told : c.is_marked.result ≡ true = c.is_marked.ensures.1 (rw (← c.self.view_is) at marked) in first_of (cc, grind arith))

pub returns : goal.returns
returns g c stop is =
    let told : c.is_marked.result ≡ true = first_of (cc, search rules, grind arith) in
    let a = c.answer_rest-ending.ensures in
    let session = c.answer_rest-ending.new.self in
    let after : Work g.row.V.Denot = record { seat = session.seat; reader = session.lines; stop = Some (Ended c.answer_rest-ending.result) } in
    let marked : c.args.self.now.stop ≡ Some Marked = rw (← c.self.view_is) (c.is_marked.ensures.0 told) in
    rest_marked g.V.Replying.replies c.args.self.now _ _ marked (rw (← c.self.view_is) (
      c.answer_rest-ending.result,
      after,
      refl {a = Some after},
      refl {a = after.stop},
      a.seat,
      record { read = λ e. a.read (ended_same e); write = λ e. a.write (ended_same e); later_input = a.later_input; later_output = a.later_output },
      a.answered,
    )) stop is

-- A lane that went beside the publishing, learnt the last value and was answered behind its mark was served.
use Rattle.std.proofs.Common.{◌≡◌, ◌≤◌, ℕ, List, Option, Some, refl, sym, ap, subst, ◌∙◌, arith}
use Rattle.fsm_io.specs.Causes.{Rose}
use Rattle.reply_meaning.specs.declared.ending.Ending.{Ending}
use Rattle.publish_board.specs.Boards.{Seated}
use Rattle.lane_meaning.specs.Lanes.{HasLane}
use Rattle.lane_session.specs.Running.{HasStopped}
use Rattle.lane_session.specs.declared.session.Stop.{Stop}
use Rattle.lane_session.specs.declared.session.Stop.TheVariants.{Marked, Ended}
use Rattle.lane_session.proofs.Runs.{rest_begins, stopped_whole}
use Rattle.lane_session.specs.Lanes.{GoesBehind, GoesBeside, HasCauses, IsServed, LaneView, Learns, Work, begun, ending_in, ending_of}

-- a count that rose later rose
rose_later : (a b c : ℕ) → a ≤ b → Rose b c → Rose a c
rose_later a b c le rose = omega (arith, le, rose)

pub ended_same : {a b : Ending} → Ended a ≡ Ended b → a ≡ b
ended_same e = cc (e)

module _ {V : Type 0} (Replies : V → Option (List ℕ) → List ℕ → Type 0) where
  causes_later : (old mid new : LaneView V) (first stop : Stop) → HasCauses old mid first → HasCauses mid new stop → HasCauses old new stop
  causes_later old mid new first stop a b = record {
    read = λ is. rose_later old.reads mid.reads new.reads a.later_input (b.read is);
    write = λ is. rose_later old.writes mid.writes new.writes a.later_output (b.write is);
    later_input = omega (arith, a.later_input, b.later_input);
    later_output = omega (arith, a.later_output, b.later_output);
  }

  module _ (values : List V) (seat : Seated V) (budget : ℕ) (old mid after new : LaneView V) (b : GoesBeside Replies (begun seat budget) old mid) (l : Learns values b.after mid after)
      (rest : (before : Work V) (stop : Stop) → after.work ≡ Some before → before.stop ≡ Some stop → GoesBehind Replies before after new stop) where
    -- what the lane works with when its seat has learnt
    abbrev knowing : Work V
    knowing = record b.after { seat = record b.after.seat { values = values } }

    abbrev learnt : LaneView V
    learnt = record mid { work = Some knowing }

    rest_learnt : GoesBehind Replies knowing learnt new b.stop
    rest_learnt = subst (λ (z : LaneView V). GoesBehind Replies knowing z new b.stop) l.new_is (rest knowing b.stop (ap (λ (z : LaneView V). z.work) l.new_is) b.stop_is)

    stopped : (stop : Stop) → b.stop ≡ stop → HasStopped Replies b.after.seat budget old.left mid.left old.held mid.held b.after.reader stop
    stopped stop is = subst (λ (s : Stop). HasStopped Replies b.after.seat budget old.left mid.left old.held mid.held b.after.reader s) is (b.answered budget refl)

    causes_so_far : (stop : Stop) → b.stop ≡ stop → HasCauses old learnt stop
    causes_so_far stop is = subst (λ (s : Stop). HasCauses old learnt s) is (record { read = b.causes.read; write = b.causes.write; later_input = b.causes.later_input; later_output = b.causes.later_output })

    served_by : (stop : Stop) → b.stop ≡ stop → GoesBehind Replies knowing learnt new stop → (ending : Ending) × IsServed Replies values budget old new ending
    served_by Marked is behind = (
      behind.0,
      record {
        after = behind.1;
        after_is = behind.2;
        stop_is = behind.3;
        answered = subst (λ (n : ℕ). HasLane Replies values n budget old.left new.left old.held new.held behind.0) (sym (ap (λ (s : Seated V). s.entered) behind.4))
            (behind.6 budget old.left old.held (rest_begins Replies b.after.seat values l.goes_on budget old.left mid.left old.held mid.held b.after.reader (stopped Marked is)));
        causes = causes_later old learnt new Marked (Ended behind.0) (causes_so_far Marked is) behind.5;
      },
    )
    served_by (Ended ending) is same = (
      ending,
      record {
        after = knowing;
        after_is = ap (λ (z : LaneView V). z.work) same;
        stop_is = b.stop_is ∙ ap (λ (s : Stop). Some s) is;
        answered = subst (λ (z : LaneView V). HasLane Replies values knowing.seat.entered budget old.left z.left old.held z.held ending) (sym same)
            (stopped_whole Replies b.after.seat values l.goes_on budget old.left mid.left old.held mid.held b.after.reader ending (stopped (Ended ending) is));
        causes = subst (λ (z : LaneView V). HasCauses old z (Ended ending)) (sym same) (causes_so_far (Ended ending) is);
      },
    )

  -- the ending of a lane that was served
  pub ending_served : (values : List V) (budget : ℕ) (old new : LaneView V) (ending : Ending) → IsServed Replies values budget old new ending → ending_in new.work ≡ Some ending
  ending_served values budget old new ending s = ap (λ (w : Option (Work V)). ending_in w) s.after_is ∙ ap (λ (stop : Option Stop). ending_of stop) s.stop_is

  pub served : (values : List V) (seat : Seated V) (budget : ℕ) (old mid after new : LaneView V) → GoesBeside Replies (begun seat budget) old mid
      → ((before : Work V) → mid.work ≡ Some before → Learns values before mid after)
      → ((before : Work V) (stop : Stop) → after.work ≡ Some before → before.stop ≡ Some stop → GoesBehind Replies before after new stop)
      → (ending : Ending) × (ending_in new.work ≡ Some ending) × IsServed Replies values budget old new ending
  served values seat budget old mid after new b learns rest =
      let l = learns b.after b.after_is in
      let s = served_by values seat budget old mid after new b l rest b.stop refl (rest_learnt values seat budget old mid after new b l rest) in
      (s.0, ending_served values budget old new s.0 s.1, s.1)

  -- a lane that didn't stop at its mark stays as it is
  pub rest_unmarked : (work : Work V) (lane : LaneView V) (stop : Stop) → work.stop ≡ Some stop → (work.stop ≡ Some Marked → ⊥) → GoesBehind Replies work lane lane stop
  rest_unmarked work lane Marked is other = absurd (other is)
  rest_unmarked work lane (Ended ending) is other = refl

  -- and one that did stopped for nothing else
  pub rest_marked : (work : Work V) (old new : LaneView V) → work.stop ≡ Some Marked → GoesBehind Replies work old new Marked → (stop : Stop) → work.stop ≡ Some stop → GoesBehind Replies work old new stop
  rest_marked work old new marked behind Marked is = behind
  rest_marked work old new marked behind (Ended ending) is = let both : Some Marked ≡ Some (Ended ending) = sym marked ∙ is in absurd (cc)

-- Lanes that went beside an editor, learnt what it published and were answered to their end were served over the versions that this
-- stands for.
use Rattle.std.proofs.Common.{◌≡◌, ◌<◌, ◌+◌, ℕ, zero, suc, List, [], ◌∷◌, ◌++◌, Option, Some, refl, sym, subst, ap, ◌∙◌, arith, length, slice_index_or}
use Rattle.std.specs.List.{AllZip, slice_get}
use Rattle.std.specs.Option.{option_to_list}
use Rattle.std.proofs.lemmas.List.Elements.{All-get_or}
use Rattle.std.proofs.lemmas.Option.{get_or_from_slice_get, slice_get-get_or, slice_get_within}
use Rattle.reply_meaning.specs.declared.ending.Ending.{Ending}
use Rattle.lane_meaning.proofs.Carrying.{lane_carries}
use Rattle.lane_session.specs.Lanes.{GoesBehind, GoesBeside, IsServed, LaneView, Learns, Work, begun, ending_in}
use Rattle.lane_session.proofs.Serving.{served}
use Rattle.editor_session.specs.Publishing.{ArePublished, AreStanding}
use Rattle.lane_session.specs.declared.session.Stop.{Stop}
use Rattle.project_sources.specs.Edits.{Version}
use Rattle.project_versions.specs.Looks.{RepliesAt, RepliesToLook}
use Rattle.project_versions.specs.Versions.{Stands, VersionView}
use Rattle.publish_board.specs.Boards.{Seated}
use Rattle.editor_session.specs.Endings.{endings_in}
use Rattle.editor_session.specs.Live.{AreServed}
use Rattle.editor_session.specs.Seating.{AreBegun, AreSeated}

abbrev pub Lanes : Type 0
Lanes = List (LaneView VersionView)

-- values that stand for versions are paired with them
paired : (values : List VersionView) (versions : List Version) → AreStanding values versions → AllZip Stands values versions
paired [] [] standing = tt
paired [] (version ∷ versions) standing = absurd standing
paired (value ∷ values) [] standing = absurd standing
paired (value ∷ values) (version ∷ versions) standing = (standing.0, paired values versions standing.1)

-- a lane that was served over values was so over the versions that they stand for
served_over : (values : List VersionView) (versions : List Version) → AreStanding values versions → (budget : ℕ) (old new : LaneView VersionView) (ending : Ending) → IsServed RepliesAt values budget old new ending
    → IsServed RepliesToLook versions budget old new ending
served_over values versions standing budget old new ending s = record {
  after = s.after;
  after_is = s.after_is;
  stop_is = s.stop_is;
  answered =
      lane_carries Stands RepliesAt RepliesToLook (λ value version stands line reply replies. replies version stands) values versions (paired values versions standing) s.after.seat.entered budget old.left new.left old.held new.held ending s.answered;
  causes = s.causes;
}

-- each of these lanes has ended
abbrev HaveEnded : Lanes → Type 0
HaveEnded lanes = (i : ℕ) (d : LaneView VersionView) → i < length lanes → (ending : Ending) × (ending_in (slice_index_or lanes i d).work ≡ Some ending)

-- so there is an ending for each, at its place
record EndAll (lanes : Lanes) : Type 0 where
  count : length (endings_in lanes) ≡ length lanes
  each : (i : ℕ) (lane : LaneView VersionView) (ending : Ending) → slice_get lanes i ≡ Some lane → slice_get (endings_in lanes) i ≡ Some ending → ending_in lane.work ≡ Some ending

end_all : (lanes : Lanes) → HaveEnded lanes → EndAll lanes
end_all [] ended = record { count = refl; each = λ i lane ending is other. absurd (never i lane is) }
  where
    never : (i : ℕ) (lane : LaneView VersionView) → slice_get {X = LaneView VersionView} [] i ≡ Some lane → ⊥
    never i lane is = omega (arith, slice_get_within [] i lane is)
end_all (lane ∷ lanes) ended =
    let first = ended 0 lane (omega arith) in
    let rest = end_all lanes (λ i d below. ended (suc i) d (omega (arith, below))) in
    let list : endings_in (lane ∷ lanes) ≡ first.0 ∷ endings_in lanes = ap (λ (o : Option Ending). option_to_list o ++ endings_in lanes) first.1 in
    record {
      count = ap length list ∙ (λ k. suc (rest.count k));
      each = λ i one ending is other. by i one ending is first (subst (λ (z : List Ending). slice_get z i ≡ Some ending) list other) rest;
    }
  where
    by : (i : ℕ) (one : LaneView VersionView) (ending : Ending) → slice_get (lane ∷ lanes) i ≡ Some one → (first : (ending : Ending) × (ending_in lane.work ≡ Some ending)) → slice_get (first.0 ∷ endings_in lanes) i ≡ Some ending → EndAll lanes
        → ending_in one.work ≡ Some ending
    by zero one ending is first other rest = let a : lane ≡ one = cc (is) in let b : first.0 ≡ ending = cc (other) in subst (λ (l : LaneView VersionView). ending_in l.work ≡ Some ending) a (first.1 ∙ ap (λ (e : Ending). Some e) b)
    by (suc i) one ending is first other rest = rest.each i one ending is other

module _ (seat : Seated VersionView) (budget : ℕ) (values : List VersionView) (versions : List Version) (standing : AreStanding values versions) (old mid after new : Lanes)
    (mids : length mid ≡ length old) (afters : length after ≡ length mid) (news : length new ≡ length after) (begins : AreBegun seat budget old)
    (beside : (i : ℕ) (d : LaneView VersionView) (before : Work VersionView) → i < length old → (slice_index_or old i d).work ≡ Some before → GoesBeside RepliesAt before (slice_index_or old i d) (slice_index_or mid i d))
    (learns : (i : ℕ) (d : LaneView VersionView) (before : Work VersionView) → i < length mid → (slice_index_or mid i d).work ≡ Some before → Learns values before (slice_index_or mid i d) (slice_index_or after i d))
    (behind : (i : ℕ) (d : LaneView VersionView) (before : Work VersionView) (stop : Stop) → i < length after → (slice_index_or after i d).work ≡ Some before → before.stop ≡ Some stop → GoesBehind RepliesAt before (slice_index_or after i d) (slice_index_or new i d) stop) where
  one_served : (i : ℕ) (d : LaneView VersionView) → i < length old
      → (ending : Ending) × (ending_in (slice_index_or new i d).work ≡ Some ending) × IsServed RepliesAt values budget (slice_index_or old i d) (slice_index_or new i d) ending
  one_served i d below =
      served RepliesAt values seat budget (slice_index_or old i d) (slice_index_or mid i d) (slice_index_or after i d) (slice_index_or new i d)
      (beside i d (begun seat budget) below (All-get_or (λ (lane : LaneView VersionView). lane.work ≡ Some (begun seat budget)) old i d below begins))
      (λ before has. learns i d before (omega (arith, below, mids)) has)
      (λ before stop has stops. behind i d before stop (omega (arith, below, mids, afters)) has stops)

  ended : HaveEnded new
  ended i d below = let s = one_served i d (omega (arith, below, mids, afters, news)) in (s.0, s.1)

  pub all_served : AreServed versions budget old new (endings_in new)
  all_served =
      let ends = end_all new ended in
      record {
        lanes = news ∙ afters ∙ mids;
        count = ends.count ∙ news ∙ afters ∙ mids;
        each = λ i first last ending is_first is_last is_ending.
            let below = slice_get_within old i first is_first in
            let s = one_served i first below in
            let at_first : slice_index_or old i first ≡ first = get_or_from_slice_get old i first first is_first in
            let at_last : slice_index_or new i first ≡ last = get_or_from_slice_get new i last first is_last in
            let same : Some s.0 ≡ Some ending = sym s.1 ∙ ap (λ (lane : LaneView VersionView). ending_in lane.work) at_last ∙ ends.each i last ending is_last is_ending in
            served_over values versions standing budget first last ending
            (subst (λ (e : Ending). IsServed RepliesAt values budget first last e) (cc (same))
            (subst (λ (lane : LaneView VersionView). IsServed RepliesAt values budget first lane s.0) at_last
            (subst (λ (lane : LaneView VersionView). IsServed RepliesAt values budget lane (slice_index_or new i first) s.0) at_first s.2)));
      }

-- the lanes were given seats before
pub served_from : (seat : Seated VersionView) (budget : ℕ) (versions : List Version) (old seated new : Lanes) (endings : List Ending) → AreSeated seat budget old seated → AreServed versions budget seated new endings → AreServed versions budget old new endings
served_from seat budget versions old seated new endings sit are = record {
  lanes = are.lanes ∙ sit.count;
  count = are.count ∙ sit.count;
  each = λ i first last ending is_first is_last is_ending.
      let below = slice_get_within old i first is_first in
      let sits : slice_index_or seated i first ≡ record first { work = Some (begun seat budget) } =
      sit.each i first below ∙ ap (λ (lane : LaneView VersionView). record lane { work = Some (begun seat budget) }) (get_or_from_slice_get old i first first is_first) in
      let there : slice_get seated i ≡ Some (record first { work = Some (begun seat budget) }) = slice_get-get_or seated i first (omega (arith, below, sit.count)) ∙ ap (λ (lane : LaneView VersionView). Some lane) sits in
      from first last ending (are.each i (record first { work = Some (begun seat budget) }) last ending there is_last is_ending);
}
  where
    from : (first last : LaneView VersionView) (ending : Ending) → IsServed RepliesToLook versions budget (record first { work = Some (begun seat budget) }) last ending → IsServed RepliesToLook versions budget first last ending
    from first last ending s = record {
      after = s.after;
      after_is = s.after_is;
      stop_is = s.stop_is;
      answered = s.answered;
      causes = record { read = s.causes.read; write = s.causes.write; later_input = s.causes.later_input; later_output = s.causes.later_output };
    }

-- a lane that went beside the editor is still of its board
pub of_board : (seat : Seated VersionView) (budget : ℕ) (lane went : LaneView VersionView) (before : Work VersionView) → GoesBeside RepliesAt (begun seat budget) lane went → went.work ≡ Some before → before.seat.board ≡ seat.board
of_board seat budget lane went before b has =
    let same : Some b.after ≡ Some before = sym b.after_is ∙ has in
    let is : b.after ≡ before = cc (same) in
    ap (λ (w : Work VersionView). w.seat.board) (sym is) ∙ b.board

-- all lanes that were given seats begin
pub all_begin : (seat : Seated VersionView) (budget : ℕ) (old new : Lanes) → AreSeated seat budget old new → AreBegun seat budget new
all_begin seat budget old new sit i d below = ap (λ (lane : LaneView VersionView). lane.work) (sit.each i d (omega (arith, below, sit.count)))

-- the one version that is published at first
pub first_published : (values : List VersionView) (shown : VersionView) (version : Version) → values ≡ shown ∷ [] → Stands shown version → ArePublished values (version ∷ []) shown
first_published values shown version is stands = subst (λ (l : List VersionView). ArePublished l (version ∷ []) shown) (sym is) (record { standing = (stands, tt); ends = ([], refl) })

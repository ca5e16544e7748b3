-- Lanes that are given seats one after another.
use borrow.Author.Count.{below_more}
use Rattle.std.proofs.Common.{◌≡◌, ◌<◌, ◌≤◌, ◌+◌, ◌++◌, ℕ, List, Option, None, Some, ap, ◌∙◌, arith, length, length-append, get_or, set, slice_index_or}
use Rattle.std.specs.Option.{option_to_list}
use Rattle.std.proofs.lemmas.List.{get_or-set_same, get_or-set_other, get_or_default}
use Rattle.fsm_io.specs.Reading.{LinesView, at_start}
use Rattle.lane_session.specs.Lanes.{LaneView, begun}
use Rattle.project_versions.specs.Versions.{VersionView}
use Rattle.publish_board.specs.Boards.{Seated}

-- a list that gave its last item away
pub one_shorter : {X : Type 0} (xs ys : List X) (r : Option X) (x : X) → xs ≡ ys ++ option_to_list r → r ≡ Some x → length xs ≡ length ys + 1
one_shorter xs ys r x is some = ap length is ∙ length-append ys (option_to_list r) ∙ ap (λ (o : Option _). length ys + length (option_to_list o)) some

module _ (seat : Seated VersionView) (budget : ℕ) where
  -- the lane that sits on the seat
  abbrev pub sitting : LaneView VersionView → LaneView VersionView
  sitting lane = record lane { work = Some (begun seat budget) }

  pub sits_on : (one lane : LaneView VersionView) (other : Seated VersionView) (lines : LinesView) → one ≡ record lane { work = Some (record { seat = other; reader = lines; stop = None }) } → other ≡ seat → lines ≡ at_start budget → one ≡ sitting lane
  sits_on one lane other lines is same starts = is ∙ (λ k. record lane { work = Some (record { seat = same k; reader = starts k; stop = None }) })

  pub others_stay : (first lanes : List (LaneView VersionView)) (i : ℕ) (one : LaneView VersionView) → ((j : ℕ) (d : LaneView VersionView) → i ≤ j → slice_index_or lanes j d ≡ slice_index_or first j d)
      → (j : ℕ) (d : LaneView VersionView) → i + 1 ≤ j → slice_index_or (set lanes i one) j d ≡ slice_index_or first j d
  others_stay first lanes i one stay j d h = get_or-set_other lanes i j one d (λ e. omega (arith, e, h)) ∙ stay j d (omega (arith, h))

  pub one_more_sits : (first lanes : List (LaneView VersionView)) (i : ℕ) (one e : LaneView VersionView) → i < length lanes → ((j : ℕ) (d : LaneView VersionView) → i ≤ j → slice_index_or lanes j d ≡ slice_index_or first j d)
      → ((j : ℕ) (d : LaneView VersionView) → j < i → slice_index_or lanes j d ≡ sitting (slice_index_or first j d)) → one ≡ sitting (slice_index_or lanes i e)
      → (j : ℕ) (d : LaneView VersionView) → j < i + 1 → slice_index_or (set lanes i one) j d ≡ sitting (slice_index_or first j d)
  one_more_sits first lanes i one e below stay sit is j d h =
      below_more (λ (k : ℕ). get_or (set lanes i one) k d ≡ sitting (get_or first k d)) i
      (λ k u. get_or-set_other lanes i k one d (λ same. omega (arith, same, u)) ∙ sit k d u)
      (get_or-set_same lanes i one d below ∙ is ∙ ap sitting (get_or_default lanes i e d below ∙ stay i d (omega arith)))
      j h

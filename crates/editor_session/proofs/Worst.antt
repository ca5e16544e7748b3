-- The worst of endings, one after another.
use Rattle.std.proofs.Common.{◌≡◌, ◌<◌, ◌+◌, ℕ, List, [], ◌∷◌, ◌++◌, Option, None, Some, refl, sym, ap, ◌∙◌, length, get_or, take}
use Rattle.std.specs.Option.{option_to_list}
use Rattle.std.proofs.lemmas.List.{append-nil, take_more}
use Rattle.std.proofs.lemmas.List.Concat.{flat_map-append}
use Rattle.lane_session.specs.Lanes.{LaneView, ending_in}
use Rattle.reply_meaning.specs.declared.ending.Ending.{Ending}
use Rattle.reply_meaning.specs.declared.ending.Ending.TheVariants.{Finished, WriteFailed, ReadFailed, Spent}
use Rattle.editor_session.specs.Endings.{endings_in, worse, worst}

worse_three : (a b c : Ending) → worse (worse a b) c ≡ worse a (worse b c)
worse_three Finished b c = refl
worse_three WriteFailed b c = refl
worse_three Spent Finished c = refl
worse_three Spent Spent Finished = refl
worse_three Spent Spent Spent = refl
worse_three Spent Spent ReadFailed = refl
worse_three Spent Spent WriteFailed = refl
worse_three Spent ReadFailed Finished = refl
worse_three Spent ReadFailed Spent = refl
worse_three Spent ReadFailed ReadFailed = refl
worse_three Spent ReadFailed WriteFailed = refl
worse_three Spent WriteFailed c = refl
worse_three ReadFailed Finished c = refl
worse_three ReadFailed Spent Finished = refl
worse_three ReadFailed Spent Spent = refl
worse_three ReadFailed Spent ReadFailed = refl
worse_three ReadFailed Spent WriteFailed = refl
worse_three ReadFailed ReadFailed Finished = refl
worse_three ReadFailed ReadFailed Spent = refl
worse_three ReadFailed ReadFailed ReadFailed = refl
worse_three ReadFailed ReadFailed WriteFailed = refl
worse_three ReadFailed WriteFailed c = refl

pub none_worse : (a : Ending) → worse a Finished ≡ a
none_worse Finished = refl
none_worse WriteFailed = refl
none_worse Spent = refl
none_worse ReadFailed = refl

-- with one more behind the others
worst_more : (first : Ending) (endings : List Ending) (next : Ending) → worse (worst (first ∷ endings)) next ≡ worst (first ∷ (endings ++ next ∷ []))
worst_more first [] next = ap (λ (z : Ending). worse z next) (none_worse first) ∙ ap (worse first) (sym (none_worse next))
worst_more first (e ∷ endings) next = worse_three first (worst (e ∷ endings)) next ∙ ap (worse first) (worst_more e endings next)

module _ {V : Type 0} (first now : Ending) (lanes : List (LaneView V)) (i : ℕ) (lane : LaneView V) (below : i < length lanes) (is : lane ≡ get_or lanes i lane) (so_far : now ≡ worst (first ∷ endings_in (take i lanes))) where
  abbrev Of : LaneView V → List Ending
  Of l = option_to_list (ending_in l.work)

  next_lane : endings_in (take (i + 1) lanes) ≡ endings_in (take i lanes) ++ Of lane
  next_lane =
      ap endings_in (take_more lanes i lane below ∙ ap (λ (l : LaneView V). take i lanes ++ l ∷ []) (sym is)) ∙ flat_map-append Of (take i lanes) (lane ∷ []) ∙ ap (λ (z : List Ending). endings_in (take i lanes) ++ z) (append-nil (Of lane))

  -- the lane at this place has ended
  pub worst_with : (ending : Ending) → ending_in lane.work ≡ Some ending → worse now ending ≡ worst (first ∷ endings_in (take (i + 1) lanes))
  worst_with ending ends =
      ap (λ (z : Ending). worse z ending) so_far ∙ worst_more first (endings_in (take i lanes)) ending ∙ ap (λ (z : List Ending). worst (first ∷ z)) (ap (λ (o : Option Ending). endings_in (take i lanes) ++ option_to_list o) (sym ends) ∙ sym next_lane)

  -- and it hasn't
  pub worst_without : ending_in lane.work ≡ None → now ≡ worst (first ∷ endings_in (take (i + 1) lanes))
  worst_without none =
      so_far ∙ ap (λ (z : List Ending). worst (first ∷ z)) (sym (append-nil (endings_in (take i lanes))) ∙ ap (λ (o : Option Ending). endings_in (take i lanes) ++ option_to_list o) (sym none) ∙ sym next_lane)

use Rattle.std.proofs.Common.{arith, ◌≡◌, ◌++◌, [], ◌∷◌, None, Some, subst, sym, ap, option_to_list, ◌∙◌}
use Rattle.std.specs.List.{slice_get}
use Rattle.std.proofs.lemmas.List.{append-nil}
use Rattle.lookup.specs.Graph.{Connects}
use Rattle.lookup.proofs.Growing.{at_read, back_step, back_last}
use Rattle.lookup.proofs.tree.word_back.Goals as goal

pub steps-preserved-in_ok-push : goal.steps-preserved-in_ok-push
steps-preserved-in_ok-push g c =
    let steps = c.args.steps.now in
    let at = c.steps.at in
    let step = c.in-Some.step in
    let is : slice_get steps at ≡ Some (Some step) = at_read steps at _ (Some step) c.steps.invariant.inside c.in-Some.is in
    let letter : option_to_list step.edge.letter ≡ c.in-Some-letter.letter ∷ [] = ap option_to_list c.in-Some-letter.is in
    record {
      inside = let l = c.requires.downward at step is in let m = c.steps.invariant.inside in omega arith;
      back = λ edges rows root node found are s there.
          let r = c.steps.invariant.back edges rows root node found are s there in
          let b = back_step edges rows are root found steps s at step is node r.0 c.steps.word.items r.1 r.2 in
          (step.edge.from, b.0, subst (λ w. Connects edges node w step.edge.from) (ap (λ w. c.steps.word.items ++ w) letter ∙ sym c.in_ok-push.ensures.items) b.1);
    }

pub steps-smaller : goal.steps-smaller
steps-smaller g c = c.requires.downward c.steps.at c.in-Some.step (at_read c.args.steps.now c.steps.at _ (Some c.in-Some.step) c.steps.invariant.inside c.in-Some.is)

pub steps-preserved : goal.steps-preserved
steps-preserved g c =
    let steps = c.args.steps.now in
    let at = c.steps.at in
    let step = c.in-Some.step in
    let is : slice_get steps at ≡ Some (Some step) = at_read steps at _ (Some step) c.steps.invariant.inside c.in-Some.is in
    let letter : option_to_list step.edge.letter ≡ [] = ap option_to_list c.in_default-letter.is in
    record {
      inside = let l = c.requires.downward at step is in let m = c.steps.invariant.inside in omega arith;
      back = λ edges rows root node found are s there.
          let r = c.steps.invariant.back edges rows root node found are s there in
          let b = back_step edges rows are root found steps s at step is node r.0 c.steps.word.items r.1 r.2 in
          (step.edge.from, b.0, subst (λ w. Connects edges node w step.edge.from) (ap (λ w. c.steps.word.items ++ w) letter ∙ append-nil c.steps.word.items) b.1);
    }

pub returns : goal.returns
returns g c = λ edges rows root node found are s there.
    let r = c.steps.invariant.back edges rows root node found are s there in
    let is = at_read c.args.steps.now c.steps.at _ None c.steps.invariant.inside c.in_default.is in
    back_last edges rows are root found c.args.steps.now s c.steps.at is node r.0 c.steps.word.items r.1 r.2

use Rattle.std.proofs.Common.{List, sym, subst}
use Rattle.lexc_forms.specs.declared.letters.Letter.{Letter}
use Rattle.lexc_forms.proofs.Pieces.{SoFar, longest_taken, one_taken, text_behind, text_behind_one, all_taken}
use Rattle.lexc_forms.proofs.cutting.cut.Goals as goal

pub rest-preserved-in-Some-2 : goal.rest-preserved-in-Some-2
rest-preserved-in-Some-2 c =
    let front = rw c.in-Some-2.is at c.in_ok-piece.ensures in
    record {
      characters_are = text_behind c.rest.rest.now c.rest.text.now c.split_at-in-Some-2-2.result.1.now c.split_at-in-Some-2.result.1.now c.in-Some-2.len c.rest.invariant.characters_are c.split_at-in-Some-2-2.ensures.back c.split_at-in-Some-2.ensures.back;
      so_far = subst (λ (r : List Letter). SoFar c.args.declared.now c.args.letters.now r c.push.new.self.items) (sym c.split_at-in-Some-2.ensures.back)
          (longest_taken c.args.declared.now c.args.letters.now c.rest.rest.now c.rest.text.now c.rest.pieces.items c.push.new.self.items c.in-Some-2.piece c.in-Some-2.len c.rest.invariant.characters_are front c.in_ok-push-in-Some-2.ensures.items c.rest.invariant.so_far);
    }

pub rest-preserved : goal.rest-preserved
rest-preserved c =
    let none = rw c.in-None.is at c.in_ok-piece.ensures in
    record {
      characters_are = text_behind_one c.rest.rest.now c.rest.text.now c.split_at-in-None.result.1.now c.in-Some.first.now c.in-Some.others.now c.rest.invariant.characters_are c.in-Some.ensures.cases.0 c.split_at-in-None.ensures.back;
      so_far = one_taken c.args.declared.now c.args.letters.now c.rest.rest.now c.rest.text.now c.in-Some.first.now c.in-Some.others.now c.rest.pieces.items c.push_alone.new.pieces.items c.rest.invariant.characters_are c.in-Some.ensures.cases.0 none c.in_ok-push_alone-in-None.ensures c.rest.invariant.so_far;
    }

pub returns : goal.returns
returns c = all_taken c.args.declared.now c.args.letters.now c.rest.rest.now c.rest.pieces.items c.in_default.ensures.cases c.rest.invariant.so_far

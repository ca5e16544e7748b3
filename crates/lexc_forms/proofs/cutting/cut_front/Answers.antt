use Rattle.std.proofs.Common.{◌∷◌, ℕ, List, get_or, refl, subst, arith}
use Rattle.lexc_forms.specs.declared.letters.Letter.TheVariants.{Plain}
use Rattle.lexc_forms.specs.Forms.{HasNoPiece}
use Rattle.lexc_forms.proofs.Pieces.{one_more}
use Rattle.lexc_forms.proofs.cutting.cut_front.Goals as goal

pub letters-preserved : goal.letters-preserved
letters-preserved c =
    let letter = get_or c.args.letters.now c.letters.index (Plain 0) in
    one_more c.args.declared.now c.args.letters.now c.letters.index c.letters.pieces.items c.push_alone.new.pieces.items (Plain 0) letter (omega arith) refl
    (λ (behind : List ℕ). subst (λ (character : ℕ). HasNoPiece c.args.declared.now (character ∷ behind)) c.character.ensures (c.if-may_begin.ensures refl behind))
    c.in_ok-push_alone.ensures c.letters.invariant

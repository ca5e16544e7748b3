use Rattle.std.proofs.Common.{[], ◌∷◌, ap, sym, ◌∙◌, append_assoc, append-nil, map-id}
use Rattle.std.proofs.lemmas.Iterator.{YieldsList-from_chars}
use Rattle.std.proofs.lemmas.Iterator.Consumers.{YieldsList-end}
use Rattle.interlinear.specs.Words.{pieces_from}
use Rattle.interlinear.proofs.words.pieces_of.Goals as goal

pub loop-character-preserved : goal.loop-character-preserved
loop-character-preserved c = λ rest.
    c.in_ok-add_to_piece.ensures rest ∙ c.loop-character.invariant (c.in-Some.character ∷ rest)
    ∙ ap (pieces_from c.args.ends.now []) (sym (append_assoc c.loop-character.yielded (c.in-Some.character ∷ []) rest))

pub returns : goal.returns
returns c =
    let done = YieldsList-end (YieldsList-from_chars c.args.text.now c.utf8.text cc) c.loop-character.yielded _ c.loop-character.yielded_by _ _ c.in-None.is c.next.ensures.steps in
    c.in_ok-end_piece.ensures.pieces ∙ c.loop-character.invariant []
    ∙ ap (pieces_from c.args.ends.now []) (append-nil c.loop-character.yielded ∙ sym (map-id c.loop-character.yielded) ∙ done.0)

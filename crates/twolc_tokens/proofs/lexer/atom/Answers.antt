use Rattle.std.proofs.Common.{take, refl, ◌∙◌}
use Rattle.twolc_tokens.proofs.Fronts.{atom_read}
use Rattle.twolc_tokens.proofs.lexer.atom.Goals as goal

pub split_at-requires : goal.split_at-requires
split_at-requires c = (atom_read c.args.text.now (take c.args.len c.args.text.now) c.args.len c.requires.here c.requires.some c.utf8.text refl).1

pub returns : goal.returns
returns c = atom_read c.args.text.now c.in_ok-atom.atom c.args.len c.requires.here c.requires.some c.utf8.text (c.in_ok-atom.ensures ∙ c.split_at.ensures.front)

use Rattle.std.proofs.Common.{[], ◌∙◌, arith}
use Rattle.std.proofs.lemmas.List.{get_or_default}
use Rattle.fsm_base.proofs.AlphabetLemmas.{text_kept}
use Rattle.fsm_base.proofs.alphabet.Alphabet.text_of.Goals as goal

pub index-requires : goal.index-requires
index-requires c =
    let inside = c.self.inside in
    let text = text_kept inside.symbols.items inside.texts.items inside.sorted.items inside.lone.items c.args.self.now c.args.sym c.self.invariant c.self.view_is c.requires in
    omega (arith, text.0, inside.texts.ok)

pub returns : goal.returns
returns c =
    let inside = c.self.inside in
    let text = text_kept inside.symbols.items inside.texts.items inside.sorted.items inside.lone.items c.args.self.now c.args.sym c.self.invariant c.self.view_is c.requires in
    c.as_str.ensures ∙ c.index.ensures ∙ get_or_default inside.texts.items c.args.sym.0 c.index.result.now [] text.0 ∙ text.1

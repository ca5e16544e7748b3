use Rattle.std.proofs.Common.{[], sym, subst, arith}
use Rattle.std.proofs.lemmas.List.{take_all}
use Rattle.expr_kinds.specs.Atoms.{is_known_at, is_symbol, leaves_at, weights_at}
use Rattle.project_sources.specs.Built.{LexiconIsBuiltBy}
use Rattle.project_definitions.specs.Bodies.{LexiconFitsBy, lexicon_weight}
use Rattle.project_definitions.proofs.Telling.{LexiconsTell, lexicons_more, tells_none}
use Rattle.project_definitions.proofs.entries.form_of_lexicons.Goals as goal

pub lexicons-init : goal.lexicons-init
lexicons-init c =
    let names = c.args.names.now in
    subst (λ f. LexiconsTell names [] f) (sym c.leaf-form.ensures) (tells_none (LexiconFitsBy (leaves_at names)) (lexicon_weight (weights_at names)) (LexiconIsBuiltBy (is_known_at names) is_symbol))

pub lexicons-preserved : goal.lexicons-preserved
lexicons-preserved c =
    lexicons_more c.args.names.now c.args.lexicons.now c.lexicons.lexicon-index c.lexicon-item.result c.lexicons.form c.form_of_lexicon.result c.beside-form.result (omega arith) c.lexicon-item.is c.beside-form.ensures
    (record { fits = c.form_of_lexicon.ensures.fits; weight = c.form_of_lexicon.ensures.weight; built = c.form_of_lexicon.ensures.built }) c.lexicons.invariant

pub returns : goal.returns
returns c =
    let all = subst (λ ls. LexiconsTell c.args.names.now ls c.lexicons.form) (take_all c.lexicons.lexicon-index c.args.lexicons.now (omega arith)) c.lexicons.invariant in
    record { fits = all.fits; weight = all.weight; built = all.built }

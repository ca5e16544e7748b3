use Rattle.std.proofs.Common.{◌∙◌, ℕ, List, Some, IfOk, Vec, Global, ap, sym, subst}
use Rattle.fsm_base.specs.declared.letters.Sym.{Sym}
use Rattle.interlinear.specs.Glosses.{Entry}
use Rattle.interlinear.specs.Replies.{GlossesText, no_net}
use Rattle.lookup.specs.Answering.{IsOverAlphabet}
use Rattle.project_store.proofs.Lawful.{if_ok}
use Rattle.project_versions.specs.Versions.{Stands, VersionView}
use Rattle.project_versions.proofs.Replying.{glosses_are, numbered, shows_over}
use Rattle.project_versions.proofs.version.Version.gloss.Goals as goal

pub gloss_in-requires-clause-over : goal.gloss_in-requires-clause-over
gloss_in-requires-clause-over c =
    let letters = c.alphabet-alphabet.ensures ∙ ap (λ (v : VersionView). v.loaded.alphabet) c.self.view_is in
    subst (λ (alphabet : List (Sym × List ℕ)). IsOverAlphabet alphabet c.in-Some.network.now) (sym letters) c.in-Some.ensures.over

pub returns-in-Some : goal.returns-in-Some
returns-in-Some c meant table stands has =
    let letters = c.alphabet-alphabet.ensures ∙ ap (λ (v : VersionView). v.loaded.alphabet) c.self.view_is in
    let shown = shows_over c.args.self.now meant stands _ letters c.args.net.now (Some c.in-Some.network.now) (c.in-Some.ensures.shows meant stands) in
    let own = subst (λ (v : VersionView). Stands v meant) (sym c.self.view_is) stands in
    let same = c.glosses-glosses.ensures ∙ glosses_are _ meant own c.self.invariant.0.of_files table has in
    let told = c.gloss_in.ensures meant.project c.args.net.now c.args.self.now.loaded.glosses shown in
    numbered _ meant own (λ number. GlossesText meant.project table number c.args.net.now c.args.text.now) _
    (subst (λ (entries : List Entry). IfOk c.gloss_in.result (λ bytes. GlossesText meant.project entries c.self.inside.number c.args.net.now c.args.text.now bytes.items)) same told)

pub returns-in-None : goal.returns-in-None
returns-in-None c meant table stands has =
    let own = subst (λ (v : VersionView). Stands v meant) (sym c.self.view_is) stands in
    numbered _ meant own (λ number. GlossesText meant.project table number c.args.net.now c.args.text.now) _
    (if_ok _ _ (λ (bytes : Vec ℕ Global) is. no_net (c.in-None.ensures.shows meant stands).net is) _ c.no_net.ensures)

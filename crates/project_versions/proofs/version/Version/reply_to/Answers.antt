use Rattle.std.proofs.Common.{◌∙◌, ℕ, List, Some, Vec, Global, ap, sym, subst}
use Rattle.fsm_base.specs.declared.letters.Sym.{Sym}
use Rattle.lookup.specs.Answering.{IsOverAlphabet}
use Rattle.project_store.proofs.Lawful.{if_ok}
use Rattle.reply_meaning.specs.Replies.{RepliesToWord, no_net}
use Rattle.project_versions.specs.Versions.{Stands, VersionView}
use Rattle.project_versions.proofs.Replying.{numbered, shows_over}
use Rattle.project_versions.proofs.version.Version.reply_to.Goals as goal

pub reply_in-requires-clause-over : goal.reply_in-requires-clause-over
reply_in-requires-clause-over c =
    let letters = c.alphabet-alphabet.ensures ∙ ap (λ (v : VersionView). v.loaded.alphabet) c.self.view_is in
    subst (λ (alphabet : List (Sym × List ℕ)). IsOverAlphabet alphabet c.in-Some.network.now) (sym letters) c.in-Some.ensures.over

pub returns-in-Some : goal.returns-in-Some
returns-in-Some c meant stands =
    let letters = c.alphabet-alphabet.ensures ∙ ap (λ (v : VersionView). v.loaded.alphabet) c.self.view_is in
    let shown = shows_over c.args.self.now meant stands _ letters c.args.net.now (Some c.in-Some.network.now) (c.in-Some.ensures.shows meant stands) in
    let own = subst (λ (v : VersionView). Stands v meant) (sym c.self.view_is) stands in
    numbered _ meant own (λ number. RepliesToWord meant.project c.args.direction number c.args.net.now c.args.word.now) _ (c.reply_in.ensures meant.project c.args.net.now c.args.self.now.loaded.glosses shown)

pub returns-in-None : goal.returns-in-None
returns-in-None c meant stands =
    let own = subst (λ (v : VersionView). Stands v meant) (sym c.self.view_is) stands in
    numbered _ meant own (λ number. RepliesToWord meant.project c.args.direction number c.args.net.now c.args.word.now) _
    (if_ok _ _ (λ (bytes : Vec ℕ Global) is. no_net (c.in-None.ensures.shows meant stands).net is) _ c.no_net.ensures)

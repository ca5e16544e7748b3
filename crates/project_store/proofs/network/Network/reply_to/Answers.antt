use Rattle.std.proofs.Common.{◌≡◌, ℕ, Some, Vec, Global, IfOk, IfSome, sym, ap, subst, ◌∙◌}
use Rattle.std.specs.Option.{option_map}
use Rattle.lookup.specs.Nets.{NetView}
use Rattle.network_build.specs.Networks.{CompiledView}
use Rattle.project_meaning.specs.Projects.{Project as Meant}
use Rattle.project_store.specs.Networks.{NetworkView, Shows}
use Rattle.reply_meaning.specs.Replies.{RepliesToWord}
use Rattle.lookup.specs.Answering.{IsOverAlphabet}
use Rattle.project_store.proofs.network.Network.reply_to.Goals as goal

pub reply_in-requires-clause-over : goal.reply_in-requires-clause-over
reply_in-requires-clause-over c =
    subst (λ net. IsOverAlphabet c.alphabet.result.now net) (sym c.net.ensures)
    (subst (λ alphabet. IsOverAlphabet alphabet c.in-Some.compiled.net) (sym c.alphabet.ensures)
    (subst (λ compiled. IfSome compiled (λ x. IsOverAlphabet c.self.inside.project.alphabet x.net)) c.in-Some.is c.self.invariant))

pub returns-in-Some : goal.returns-in-Some
returns-in-Some c =
    let inside = c.self.inside in
    let net : option_map (λ (x : CompiledView). x.net) inside.compiled ≡ Some c.net.result.now =
    ap (option_map (λ (x : CompiledView). x.net)) c.in-Some.is ∙ ap (λ (m : NetView). Some m) (sym c.net.ensures) in
    let letters = sym c.alphabet.ensures in
    let view : NetworkView = record { alphabet = inside.project.alphabet; name = inside.name; net = option_map (λ (x : CompiledView). x.net) inside.compiled; glosses = inside.project.glosses } in
    let given : NetworkView = record { alphabet = c.alphabet.result.now; name = inside.name; net = Some c.net.result.now; glosses = inside.project.glosses } in
    let same : view ≡ given = λ i. record { alphabet = letters i; name = inside.name; net = net i; glosses = inside.project.glosses } in
    subst (λ (v : NetworkView). (project : Meant) → Shows v project → IfOk c.reply_in.result (λ (bytes : Vec ℕ Global). RepliesToWord project c.args.direction c.args.version v.name c.args.word.now bytes.items)) c.self.view_is
    (λ project shown.
    c.reply_in.ensures project inside.name inside.project.glosses (subst (λ (n : NetworkView). Shows n project) same shown))

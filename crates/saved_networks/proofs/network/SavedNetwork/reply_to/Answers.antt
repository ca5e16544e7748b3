use Rattle.std.proofs.Common.{ℕ, Vec, Global, sym, subst}
use Rattle.saved_networks.specs.Networks.{IsSavedAs, SavedView}
use Rattle.saved_networks.proofs.Lawful.{if_ok, lawful, lawful_stop}
use Rattle.saved_networks.proofs.network.SavedNetwork.reply_to.Goals as goal

pub returns-in_ok-found-in-Ok : goal.returns-in_ok-found-in-Ok
returns-in_ok-found-in-Ok c text saved =
    let inside : SavedView = record { alphabet = c.self.inside.alphabet; net = c.self.inside.net } in
    let is = subst (λ (v : SavedView). IsSavedAs text v) (sym c.self.view_is) saved in
    if_ok _ _ (λ (bytes : Vec ℕ Global) told. lawful text inside c.self.invariant is c.args.version c.args.word.now _ _ bytes.items c.in-Ok.ensures.cut c.in-Ok.ensures.over (rw c.deref.ensures.value at c.in_ok-found-in-Ok.ensures) told) _ c.answer.ensures

pub returns-in-Err-NoSymbol : goal.returns-in-Err-NoSymbol
returns-in-Err-NoSymbol c text saved =
    let inside : SavedView = record { alphabet = c.self.inside.alphabet; net = c.self.inside.net } in
    let is = subst (λ (v : SavedView). IsSavedAs text v) (sym c.self.view_is) saved in
    let stopped = rw c.in-Err-NoSymbol.field-0-is at c.in-Err-NoSymbol.ensures.stopped in
    let told = rw c.in-Err-NoSymbol.field-0-is at c.symbol.ensures in
    if_ok _ _ (λ (bytes : Vec ℕ Global) told. lawful_stop text inside c.self.invariant is c.args.version c.args.word.now _ bytes.items stopped told) _ told

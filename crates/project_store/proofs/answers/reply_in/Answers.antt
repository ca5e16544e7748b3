use Rattle.std.proofs.Common.{ℕ, Vec, Global}
use Rattle.project_store.proofs.Lawful.{if_ok, lawful, lawful_stop}
use Rattle.project_store.proofs.answers.reply_in.Goals as goal

pub returns-in_ok-found-in-Ok : goal.returns-in_ok-found-in-Ok
returns-in_ok-found-in-Ok c project name glosses shown =
    if_ok _ _ (λ (bytes : Vec ℕ Global) told. lawful c.args.alphabet.now name c.args.net.now project glosses shown c.args.direction c.args.version c.args.word.now _ _ bytes.items c.in-Ok.ensures.cut c.in-Ok.ensures.over (rw c.deref.ensures.value at c.in_ok-found-in-Ok.ensures) told) _ c.answer.ensures

pub returns-in-Err-NoSymbol : goal.returns-in-Err-NoSymbol
returns-in-Err-NoSymbol c project name glosses shown =
    let stopped = rw c.in-Err-NoSymbol.field-0-is at c.in-Err-NoSymbol.ensures.stopped in
    let told = rw c.in-Err-NoSymbol.field-0-is at c.symbol.ensures in
    if_ok _ _ (λ (bytes : Vec ℕ Global) told. lawful_stop c.args.alphabet.now name c.args.net.now project glosses shown c.args.direction c.args.version c.args.word.now _ bytes.items stopped told) _ told

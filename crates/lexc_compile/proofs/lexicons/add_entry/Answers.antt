use Rattle.std.proofs.Common.{◌≡◌, MatchOption, subst, ◌∙◌}
use Rattle.std.proofs.lemmas.Result.{on_ok_weaker}
use Rattle.lexc_compile.specs.Paths.{network, word}
use Rattle.lexc_compile.specs.Words.{IsChain, letters_of}
use Rattle.lexc_compile.proofs.OneWord.{chain_same, network_same}
use Rattle.lexc_compile.proofs.lexicons.add_entry.Goals as goal

pub returns-in-Some : goal.returns-in-Some
returns-in-Some c =
    let net = c.args.entry.now.net in
    let has = subst (λ found. MatchOption found (IsChain net → ⊥) (λ tape. IsChain net × (tape.items ≡ letters_of net.edges))) c.in-Some.is c.in_ok-tape.ensures in
    on_ok_weaker c.add_word.result (λ gives. (word c.deref.result.now, chain_same net has.0 c.deref.result.now (c.deref.ensures.value ∙ has.1), gives)) c.add_word.ensures

pub returns-in-None : goal.returns-in-None
returns-in-None c = on_ok_weaker c.add_network.result (λ gives. (network c.args.entry.now.net, network_same c.args.entry.now.net, gives)) c.add_network.ensures

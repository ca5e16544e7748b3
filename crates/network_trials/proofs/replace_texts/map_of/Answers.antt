use Rattle.std.proofs.Common.{◌≡◌, true, false, Option, IfSome, sym, subst, ◌∙◌}
use Rattle.fsm_base.specs.Alphabet.{symbols_of}
use Rattle.fsm_base.specs.declared.letters.Sym.{Sym}
use Rattle.fsa.specs.Complete.{Complete}
use Rattle.network_trials.proofs.Lists.{map_over}
use Rattle.network_trials.proofs.replace_texts.map_of.Goals as goal

pub returns : goal.returns
returns c =
    let symbols = symbols_of c.args.symbols.now.alphabet in
    map_over symbols (record { centre = c.in_ok-centre.centre; result = c.in_ok-result.result; after = c.in_ok-after.after }) c.in_ok-centre.ensures c.in_ok-result.ensures
    (λ lang some. subst (λ (found : Option (Complete Sym)). IfSome found (λ l. l.letters ≡ symbols)) some c.in_ok-after.ensures)
    (λ h. let clash : true ≡ false = sym (c.has_empty.ensures.1 h) ∙ c.if-has_empty.false in cc)

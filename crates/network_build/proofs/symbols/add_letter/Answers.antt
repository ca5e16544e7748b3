use Rattle.std.proofs.Common.{◌≡◌, ◌∙◌, Some, ap}
use Rattle.fsm_base.specs.declared.letters.Bound.{Bound}
use Rattle.fsm_base.specs.declared.letters.Bound.TheVariants.{Inner}
use Rattle.fsm_base.specs.declared.letters.Sym.{Sym}
use Rattle.network_build.proofs.Uses.{letter_one}
use Rattle.network_build.proofs.symbols.add_letter.Goals as goal

pub returns-in_ok-add : goal.returns-in_ok-add
returns-in_ok-add c =
    let inner : c.in-Some-Inner.field-0 ≡ Inner c.in-Some-Inner.symbol = rw c.in-Some-Inner.is at c.in-Some-Inner.field-0-is in
    letter_one c.args.symbols.now c.add.new.self c.args.letter c.in-Some-Inner.symbol (c.in-Some-Inner.is ∙ ap (λ (x : Bound Sym). Some x) inner) c.in_ok-add.ensures

use Rattle.std.proofs.Common.{◌≡◌, ◌∷◌, [], Vec, Global, false, true, sym, ◌∙◌}
use Rattle.std.proofs.lemmas.Option.{IfSome_then}
use Rattle.std.proofs.lemmas.Result.{IfOk-weaker}
use Rattle.fsm_base.specs.declared.letters.Sym.{Sym}
use Rattle.network_algebra.proofs.CrossedLetters.{alone_language, alone_letters}
use Rattle.network_algebra.proofs.crossing.letters_alone.Goals as goal

pub returns-then-has_start_and_end-clause-letters : goal.returns-then-has_start_and_end-clause-letters
returns-then-has_start_and_end-clause-letters c =
    let a = c.args.a.now in
    let finals : a.finals ≡ false ∷ true ∷ [] = sym c.finals.ensures.finals ∙ c.has_start_and_end.ensures c.if-has_start_and_end.true in
    IfOk-weaker _ _ _ (λ found some. IfSome_then found some (λ (letters : Vec Sym Global) is. alone_letters letters.items a finals (sym c.edges.ensures.edges ∙ is))) c.letters_of_steps.ensures

pub returns-then-has_start_and_end-clause-language : goal.returns-then-has_start_and_end-clause-language
returns-then-has_start_and_end-clause-language c =
    let a = c.args.a.now in
    let finals : a.finals ≡ false ∷ true ∷ [] = sym c.finals.ensures.finals ∙ c.has_start_and_end.ensures c.if-has_start_and_end.true in
    IfOk-weaker _ _ _ (λ found some. IfSome_then found some (λ (letters : Vec Sym Global) is. alone_language letters.items a finals (sym c.edges.ensures.edges ∙ is))) c.letters_of_steps.ensures

use Rattle.std.proofs.Common.{ℕ, List, IfOk, ap, sym, subst, ◌∙◌}
use Rattle.std.specs.List.{AllZip}
use Rattle.rayon.proofs.ListFacts.{AllZip-weaken, IfOk-then}
use Rattle.rayon.proofs.ToStd.{slice-AllZip}
use Rattle.generated_report.specs.Told.{IsTold}
use Rattle.generated_report.proofs.Each.{if_matched, told_by_each, told_here}
use Rattle.generated_report.proofs.told.told_of_words.Goals as goal

pub returns : goal.returns
returns g c project name finds =
    let given = c.in_ok-collect.ensures in
    let chain = given.1 in
    let slice = ap (λ it. it.slice.now) c.map.ensures.base ∙ c.par_iter.ensures in
    let is_told = IsTold project c.args.table.now name in
    let alphabet = ap (λ f. f.1.now) c.map.ensures.f in
    let net = ap (λ f. f.2.now) c.map.ensures.f in
    let table = ap (λ f. f.3.now) c.map.ensures.f in
    IfOk-then c.in_ok-collect.field-0 _ _ (if_matched c.in_ok-collect.field-0 _ _ given.2) (λ told h.
    let each = slice-AllZip chain.0 c.args.words.now (chain.1 ∙ slice) (λ word one. IfOk one (is_told word)) given.0
    (AllZip-weaken _ _ (λ word one shows. told_here project name c.args.alphabet.now _ c.args.net.now _ c.args.table.now _ alphabet net table finds word.now one shows) chain.0 given.0 chain.2) in
    subst (λ l. AllZip is_told c.args.words.now l) (sym h.2) (told_by_each _ is_told c.args.words.now h.0 (rw h.1 at each)))

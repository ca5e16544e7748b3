use Rattle.std.proofs.Common.{◌≡◌, Err, inr, ap}
use Rattle.fsm_base.specs.Alphabet.{texts_of}
use Rattle.fsm_base.specs.Cut.{cut}
use Rattle.fsm_base.specs.Normal.{nfc_of}
use Rattle.morph_c.proofs.replies.cut_up.Goals as goal

pub returns-in-Err-NoSymbol-clause-trouble : goal.returns-in-Err-NoSymbol-clause-trouble
returns-in-Err-NoSymbol-clause-trouble c =
    let stopped = rw c.in-Err-NoSymbol.field-0-is at c.in-Err-NoSymbol.ensures.stopped in
    let word : c.as_str.result.now ≡ nfc_of c.args.word.now = (let e = c.as_str.ensures in let v = c.word.view_is in let n = c.in_ok-word-2.ensures.text in let l = ap nfc_of c.in_ok-word.ensures.text in cc) in
    let alphabet = c.alphabet-alphabet.ensures in
    let is : cut (texts_of c.project.result.now.alphabet) (nfc_of c.args.word.now) ≡ Err c.in-Err-NoSymbol.at =
    (let s = stopped in let a = ap texts_of alphabet in let w = word in let n = c.in-Err-NoSymbol.at-is in cc) in
    inr (inr (
      c.in-Err-NoSymbol.at,
      (let n = c.in-Err-NoSymbol.at-is in let f = c.in-Err-NoSymbol.field-0-is in cc),
      (c.in_ok-opened.opened.now, c.in_ok-opened.ensures.opened, (c.project.result.now, c.project.ensures, is)),
    ))

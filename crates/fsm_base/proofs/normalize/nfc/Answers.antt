use Rattle.std.proofs.Common.{length, ap, sym, ◌∙◌, arith}
use Rattle.std.proofs.lemmas.Result.{IfOk-weaker}
use Rattle.fsm_base.proofs.NormalLemmas.{length-nfc_of, nfc_of-ascii}
use Rattle.fsm_base.proofs.normalize.nfc.Goals as goal

pub returns-then-is_ascii-clause-text : goal.returns-then-is_ascii-clause-text
returns-then-is_ascii-clause-text c =
    IfOk-weaker c.of.result _ _ (λ text same. same ∙ sym (nfc_of-ascii c.args.text.now c.if-is_ascii.ensures.cases)) c.of.ensures

pub returns-clause-short : goal.returns-clause-short
returns-clause-short c =
    IfOk-weaker c.from_string.result _ _ (λ text same. omega (arith, ap length (same ∙ c.in_ok-to_nfc.ensures), length-nfc_of c.args.text.now c.utf8.text)) c.from_string.ensures

use Rattle.std.proofs.Common.{◌<◌, ◌^◌, inl, inr, arith, bit_and, bit_or, w64}
use Rattle.std.specs.Int.{bit_not}
use Rattle.std.proofs.lemmas.Bool.Decides.{Decides-eqb}
use Rattle.std.proofs.lemmas.Nat.{or_lt}
use Rattle.flag_diacritics.proofs.Rows.{stays_by_bits}
use Rattle.flag_diacritics.proofs.idle.stays_idle.Goals as goal

pub returns : goal.returns
returns c = λ none feature idle.
    let before = c.args.before in
    let behind = c.args.behind in
    let set = c.set_by.result in
    let fits : bit_or behind set < 2 ^ 64 = or_lt 64 behind set (omega arith) (omega arith) in
    elim (stays_by_bits before behind set feature (omega arith) fits ((Decides-eqb (bit_and before (bit_not w64 (bit_or behind set))) 0).0 none) idle) [
      | inl still ↦ inl still
      | inr sets ↦ inr (c.set_by.ensures feature sets)
    ]

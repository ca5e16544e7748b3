use Rattle.std.proofs.Common.{List, Option, length, subst, sym, ap, ◌∙◌, arith}
use Rattle.fsm_base.proofs.LoneLemmas.{lent_back}
use Rattle.fsm_base.specs.declared.letters.Sym.{Sym}
use Rattle.name_resolution.specs.Bytes.{AreOfBytes}
use Rattle.name_resolution.proofs.numbers.symbols_of_bytes.Goals as goal

pub numbers-preserved : goal.numbers-preserved
numbers-preserved c =
    let old = c.numbers.symbols in
    let new = c.put.new.symbols in
    let back = lent_back new old.items old.len (omega (arith, old.ok, c.numbers.invariant.count, c.put.ensures.count)) in
    record {
      count = ap length back ∙ c.put.ensures.count;
      symbols = subst (λ (symbols : List (Option Sym)). AreOfBytes c.args.table.now symbols) (sym back) c.put.ensures.symbols;
    }

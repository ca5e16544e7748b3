use Rattle.std.proofs.Common.{List, Option, length, subst, sym, ap, ◌∙◌, arith}
use Rattle.fsm_base.specs.Lone.{AreLone}
use Rattle.fsm_base.specs.declared.letters.Sym.{Sym}
use Rattle.fsm_base.proofs.LoneLemmas.{lent_back, lone_more}
use Rattle.fsm_base.proofs.lone.lone_symbols.Goals as goal

pub loop-entry-preserved : goal.loop-entry-preserved
loop-entry-preserved c =
    let old = c.loop-entry.lone in
    let new = c.put_lone.new.lone in
    let back = lent_back new old.items old.len (omega (arith, old.ok, c.loop-entry.invariant.count, c.put_lone.ensures.count)) in
    record {
      count = ap length back ∙ c.put_lone.ensures.count;
      lone = subst (λ (lone : List (Option Sym)). AreLone c.args.entries.now lone) (sym back)
          (lone_more c.args.entries.now c.deref.result.now c.loop-entry.entry-index c.entry-item.result old.items new c.loop-entry-test.true c.entry-item.is
          (rw c.deref.ensures.value c.in_ok-longer.ensures.marked) (rw c.deref_mut.ensures.value at c.put_lone.ensures.put) c.loop-entry.invariant.lone);
    }

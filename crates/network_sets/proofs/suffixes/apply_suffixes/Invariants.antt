use Rattle.std.proofs.Common.{List, take}
use Rattle.fsm_base.specs.declared.letters.Sym.{Sym}
use Rattle.network_algebra.specs.Networks.{IsNetwork}
use Rattle.network_sets.specs.Suffixes.{IsSettled}
use Rattle.network_sets.proofs.Repeats.{AreBehind}
use Rattle.network_sets.proofs.suffixes.apply_suffixes.Given as goal

-- the network of the suffixes so far
abbrev pub invariant-suffixes : goal.invariant-suffixes
invariant-suffixes l = record {
  letters : (symbols : List Sym) → IsNetwork symbols l.fn.network → IsNetwork symbols l.network;
  meaning : AreBehind l.fn.network (take l.suffix-index l.suffixes) l.network;
  settled : IsSettled l.last l.network;
}

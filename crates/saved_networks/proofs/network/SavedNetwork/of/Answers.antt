use Rattle.std.proofs.Common.{◌∙◌}
use Rattle.saved_networks.proofs.Numbered.{all_distinct, all_held}
use Rattle.saved_networks.proofs.Saved.{saved_as, saved_over}
use Rattle.saved_networks.proofs.network.SavedNetwork.of.Goals as goal

pub of-requires-clause-distinct : goal.of-requires-clause-distinct
of-requires-clause-distinct c =
    rw c.deref.ensures.value (all_distinct c.args.table.now c.in_ok-symbols.symbols.items c.in_ok-symbols.ensures.numbers (c.in_ok-symbols.ensures.count ∙ c.len.ensures.count))

pub of-requires-clause-held : goal.of-requires-clause-held
of-requires-clause-held c =
    rw c.deref.ensures.value (all_held c.args.table.now c.in_ok-symbols.symbols.items c.in_ok-symbols.ensures.numbers (c.in_ok-symbols.ensures.count ∙ c.len.ensures.count))

pub invariant_of-result : goal.invariant_of-result
invariant_of-result c =
    saved_over c.args.table.now c.in_ok-symbols.symbols.items c.in_ok-symbols.ensures.numbers (c.in_ok-symbols.ensures.count ∙ c.len.ensures.count) c.args.net.now c.requires c.in_ok-alphabet.alphabet c.in_ok-ready.ready
    (rw c.deref.ensures.value at c.in_ok-alphabet.ensures.alphabet) c.in_ok-ready.ensures

pub returns : goal.returns
returns c text read =
    saved_as c.args.table.now c.in_ok-symbols.symbols.items c.in_ok-symbols.ensures.numbers (c.in_ok-symbols.ensures.count ∙ c.len.ensures.count) c.args.net.now c.requires c.in_ok-alphabet.alphabet c.in_ok-ready.ready
    (rw c.deref.ensures.value at c.in_ok-alphabet.ensures.alphabet) c.in_ok-ready.ensures c.in_ok-alphabet.ensures.formed text read

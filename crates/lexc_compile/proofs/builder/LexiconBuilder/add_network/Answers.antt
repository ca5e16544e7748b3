use Rattle.std.proofs.Common.{OnOk, refl, subst, sym}
use Rattle.std.proofs.lemmas.Result.{on_ok_weaker}
use Rattle.lexc_compile.specs.Growing.{Gives, Growing, IsBegun, IsPlaced}
use Rattle.lexc_compile.specs.Paths.{PlacedEntry, network}
use Rattle.lexc_compile.proofs.Given.{begun_homes, gives}
use Rattle.lexc_compile.proofs.Networks.{adds_network}
use Rattle.lexc_compile.proofs.builder.LexiconBuilder.add_network.Goals as goal

pub add_block-requires : goal.add_block-requires
add_block-requires c =
    let old : Growing = record { count = c.self.inside.count; automaton = c.self.inside.automaton; steps = c.self.inside.steps } in
    let begun = subst IsBegun (sym c.self.view_is) c.requires.begun in
    let placed = subst (λ (g : Growing). IsPlaced g.count (record { place = c.args.place; content = network c.args.net.now; next = c.args.next })) (sym c.self.view_is) c.requires.placed in
    record {
      room = c.self.invariant;
      homes = begun_homes old begun;
      place = placed.0;
      next = placed.1;
    }

pub returns : goal.returns
returns c =
    let added : PlacedEntry = record { place = c.args.place; content = network c.args.net.now; next = c.args.next } in
    let old : Growing = record { count = c.self.inside.count; automaton = c.self.inside.automaton; steps = c.self.inside.steps } in
    let new : Growing = record { count = c.self.inside.count; automaton = c.add_block.new.m; steps = c.self.inside.steps } in
    let placed = subst (λ (g : Growing). IsPlaced g.count added) (sym c.self.view_is) c.requires.placed in
    subst (λ (g : Growing). OnOk c.add_block.result (Gives added g new)) c.self.view_is
    (on_ok_weaker c.add_block.result
    (λ adds. gives old new added refl placed (adds_network old.count c.args.place c.args.net.now c.args.next placed.0 placed.1 old.automaton c.add_block.new.m old.steps adds))
    c.add_block.ensures)

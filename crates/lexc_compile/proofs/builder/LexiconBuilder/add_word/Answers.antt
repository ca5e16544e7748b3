use Rattle.std.proofs.Common.{OnOk, refl, subst, sym}
use Rattle.std.proofs.lemmas.Result.{on_ok_weaker}
use Rattle.lexc_compile.specs.Growing.{Gives, Growing, IsBegun, IsPlaced}
use Rattle.lexc_compile.specs.Paths.{PlacedEntry, word}
use Rattle.lexc_compile.proofs.Given.{begun_homes, begun_table, gives}
use Rattle.lexc_compile.proofs.builder.LexiconBuilder.add_word.Goals as goal

pub add_word-requires : goal.add_word-requires
add_word-requires c =
    let old : Growing = record { count = c.self.inside.count; automaton = c.self.inside.automaton; steps = c.self.inside.steps } in
    let begun = subst IsBegun (sym c.self.view_is) c.requires.begun in
    let placed = subst (λ (g : Growing). IsPlaced g.count (record { place = c.args.place; content = word c.args.tape.now; next = c.args.next })) (sym c.self.view_is) c.requires.placed in
    record {
      room = c.self.invariant;
      homes = begun_homes old begun;
      place = placed.0;
      next = placed.1;
      table = begun_table old begun;
    }

pub returns : goal.returns
returns c =
    let added : PlacedEntry = record { place = c.args.place; content = word c.args.tape.now; next = c.args.next } in
    let old : Growing = record { count = c.self.inside.count; automaton = c.self.inside.automaton; steps = c.self.inside.steps } in
    let new : Growing = record { count = c.self.inside.count; automaton = c.add_word.new.m; steps = c.add_word.new.steps } in
    let placed = subst (λ (g : Growing). IsPlaced g.count added) (sym c.self.view_is) c.requires.placed in
    subst (λ (g : Growing). OnOk c.add_word.result (Gives added g new)) c.self.view_is
    (on_ok_weaker c.add_word.result (λ adds. gives old new added refl placed adds) c.add_word.ensures)

use Rattle.std.proofs.Common.{◌↔◌, IfOk, IsTrue, subst}
use Rattle.fsm_base.specs.Alphabet.{texts_of}
use Rattle.project_meaning.specs.Touched.{AreSameSymbols}
use Rattle.project_definitions.specs.Referring.{references_of}
use Rattle.project_sources.specs.Sources.{project_in}
use Rattle.touched_names.specs.Places.{ArePlaces, TouchedPlace}
use Rattle.touched_names.specs.Touched.{AreTouched}
use Rattle.touched_names.proofs.Leafwise.{ok_follows}
use Rattle.touched_names.proofs.Touching.{touched_all}
use Rattle.touched_names.proofs.changes.touched.Goals as goal

pub returns : goal.returns
returns c = λ before after old new.
    let olds = c.args.old.definitions.now in
    let news = c.args.new.definitions.now in
    let os = c.args.old.alphabet.now in
    let ns = c.args.new.alphabet.now in
    let numbers = c.in_ok-numbers.numbers in
    let same = c.in_ok-same_symbols.same_symbols in
    let itself = c.in_ok-itself.itself.items in
    let are = rw (c.deref-3.ensures.value, c.deref-4.ensures.value, c.in_ok-old_symbols.ensures, c.in_ok-new_symbols.ensures) at c.in_ok-numbers.ensures in
    let same_by = rw (c.deref.ensures.value, c.deref-2.ensures.value, c.in_ok-old_symbols.ensures, c.in_ok-new_symbols.ensures) at c.in_ok-same_symbols.ensures in
    let same_there = same_by old.formed.apart new.formed.apart in
    let same_is : IsTrue same ↔ AreSameSymbols (project_in before).alphabet (project_in after).alphabet =
    subst (λ z. IsTrue same ↔ AreSameSymbols (project_in before).alphabet z) new.texts (subst (λ z. IsTrue same ↔ AreSameSymbols z (texts_of ns)) old.texts same_there) in
    let told = subst (λ z. IfOk c.touched_places.result (λ places. ArePlaces (TouchedPlace (references_of news) z) places.items)) c.deref-5.ensures.value c.touched_places.ensures in
    ok_follows c.touched_places.result (λ places. ArePlaces (TouchedPlace (references_of news) itself) places.items)
    (λ places. AreTouched (project_in before) (project_in after) news places.items)
    (λ places h. touched_all before after olds news os ns old new numbers are same same_is itself c.in_ok-itself.ensures.count c.in_ok-itself.ensures.marks places.items h) told

use Rattle.std.proofs.Common.{rules, Contains, ◌+◌, ◌≡◌, ◌++◌, map, sym, subst, ◌∙◌, ap}
use Rattle.replace_marks.specs.declared.marks.Mark.TheVariants.{Copy}
use Rattle.std.proofs.lemmas.List.{take_all}
use Rattle.replace_marks.specs.Marks.{IsMarkOf}
use Rattle.replace_marks.specs.Listed.{marks_by}
use Rattle.replace_marks.proofs.Listing.{AreMarks, copies_are, one_map_more}
use Rattle.replace_marks.proofs.marks.marks_of.Goals as goal

pub loop-map-init : goal.loop-map-init
loop-map-init c =
    let listed : c.loop-symbol.marks.items ≡ map Copy c.args.syms.now = c.loop-symbol.invariant ∙ ap (map Copy) (take_all c.loop-symbol.symbol-index c.args.syms.now c.loop-symbol-test.false) in
    subst (AreMarks c.args.syms.now 0) (sym listed) (copies_are c.args.syms.now)

pub loop-map-preserved : goal.loop-map-preserved
loop-map-preserved c =
    let more : c.add_marks_by.new.marks.items ≡ c.loop-map.marks.items ++ marks_by c.args.syms.now c.loop-map.map = search rules in
    subst (AreMarks c.args.syms.now (c.loop-map.map + 1)) (sym more) (one_map_more c.args.syms.now c.loop-map.map c.loop-map.marks.items c.loop-map.invariant)

pub returns-clause-all : goal.returns-clause-all
returns-clause-all c m =
    let end : c.loop-map.map ≡ c.args.maps = search rules in
    subst (λ n. (Contains c.loop-map.marks.items m → IsMarkOf c.args.syms.now n m) × (IsMarkOf c.args.syms.now n m → Contains c.loop-map.marks.items m)) end (c.loop-map.invariant.members m)

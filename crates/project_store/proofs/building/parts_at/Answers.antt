use Rattle.std.proofs.Common.{None, arith, length, refl}
use Rattle.std.proofs.lemmas.Option.{slice_get-get_or, slice_get_read}
use Rattle.project_store.proofs.Networks.{parts_all, parts_next}
use Rattle.project_store.proofs.building.parts_at.Goals as goal

pub places-preserved : goal.places-preserved
places-preserved c =
    let names = c.args.names.now in
    let built = c.args.built.now in
    let place = c.places.place in
    let at_name = slice_get-get_or names place None c.places-test.true in
    let at_built = slice_get_read built (length built) place c.index-built-place.result refl (omega (arith, c.places-test.true, c.requires.count)) c.index-built-place.is in
    parts_next names built place c.places.parts.items c.add_part.new.parts.items _ c.index-built-place.result at_name at_built c.requires.own c.in_ok-add_part.ensures c.places.invariant

pub returns : goal.returns
returns c = parts_all c.args.names.now c.args.built.now c.places.place c.places.parts.items c.places-test.false c.places.invariant

use Rattle.project_store.proofs.building.plainly_built.Goals as goal

pub unreachable-requires : goal.unreachable-requires
unreachable-requires c = (rw c.in-Err-EmptyCentre.field-0-is at c.in-Err-EmptyCentre.ensures.error).1 c.requires.plain

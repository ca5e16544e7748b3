use Rattle.std.proofs.Common.{refl, inl}
use Rattle.project_sources.proofs.laws.no_files_no_project.Goals as goal

pub returns : goal.returns
returns c = inl (refl, refl)

use Rattle.std.proofs.Common.{ℕ, Vec, Global, Some, ap, ◌∙◌}
use Rattle.std.specs.Option.{option_map}
use Rattle.project_sources.proofs.Filed.{content_of, found_file}
use Rattle.project_sources.proofs.sources.Sources.get.Goals as goal

pub returns-in-Some : goal.returns-in-Some
returns-in-Some c =
    rw (← c.self.view_is) (ap Some (c.as_slice.ensures.value ∙ ap (λ (v : Vec ℕ Global). v.items) c.deref.ensures) ∙ ap (option_map content_of) c.in-Some.ensures.value ∙ found_file c.args.file.now c.self.inside.files.entries)

pub returns-in-None : goal.returns-in-None
returns-in-None c = rw (← c.self.view_is) (ap (option_map content_of) c.in-None.ensures.value ∙ found_file c.args.file.now c.self.inside.files.entries)

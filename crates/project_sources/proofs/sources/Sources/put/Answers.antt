use Rattle.std.proofs.Common.{List, ℕ, Vec, Global, Some, cond, ap, ◌∙◌}
use Rattle.std.specs.Str.{bytes_eq}
use Rattle.fsm_io.specs.Folders.{file_of}
use Rattle.project_sources.specs.Files.{files_in}
use Rattle.project_sources.proofs.Filed.{updated_file}
use Rattle.project_sources.proofs.sources.Sources.put.Goals as goal

pub returns-clause-put : goal.returns-clause-put
returns-clause-put c = λ name.
    let old = file_of name (files_in c.self.inside.files.entries) in
    rw (← c.self.view_is) (
    updated_file _ c.self.inside.files c.insert.new.self _ c.in_ok-insert.ensures.updates name
    ∙ ap (λ (n : List ℕ). cond (bytes_eq n name) (Some c.in_ok-bytes.bytes.value.items) old) c.in_ok-name.ensures.ok
    ∙ ap (λ (v : Vec ℕ Global). cond (bytes_eq c.args.file.now name) (Some v.items) old) c.in_ok-bytes.ensures.ok
    )

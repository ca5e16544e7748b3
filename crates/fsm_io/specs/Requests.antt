-- The requests of a folder in memory, as contracts see them.
use Rattle.std.specs.Prelude.{List, map}
use Rattle.fsm_io.specs.Folders.{Asked}
use Rattle.fsm_io.specs.declared.memory_folder.Request.{Request}

abbrev pub asked_in : List Request → List Asked
asked_in requests = map (λ request. record { name = request.name; most = request.most }) requests

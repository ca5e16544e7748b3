use Rattle.std.proofs.Common.{ℕ, List, ap, sym, arith, take, ◌∙◌}
use Rattle.std.specs.Str.{bytes_eq}
use Rattle.fsm_io.proofs.Pieces.{file_found, take-fit}
use Rattle.fsm_io.proofs.memory_folder.found_in.Goals as goal

pub returns-then-eq : goal.returns-then-eq
returns-then-eq c =
    let item = c.files-item.result in
    let name = c.args.name.now in
    let content = item.1.items in (
      content,
      file_found c.args.files.now name c.files.file-index item (omega arith) c.files-item.is (ap (λ (n : List ℕ). bytes_eq n name) (sym c.as_str.ensures) ∙ sym c.eq.ensures ∙ c.if-eq.true) c.files.invariant,
      c.in_ok-from_slice.ensures.items ∙ ap (take c.min-count.result) c.deref.ensures.value ∙ take-fit c.args.most c.min-count.result content (omega (arith, c.min-count.ensures, c.len.ensures, item.1.ok.0)),
    )

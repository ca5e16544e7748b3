use Rattle.std.proofs.Common.{◌∙◌}
use Rattle.name_resolution.proofs.Bytes.{byte_letter}
use Rattle.name_resolution.proofs.numbers.letter_in.Goals as goal

pub returns-in-Some : goal.returns-in-Some
returns-in-Some c =
    byte_letter c.args.names.now c.args.table.now c.args.leaf.now c.args.of_bytes.now c.as_bytes.result.now c.in-Some.symbol c.requires (c.as_bytes.ensures.value ∙ c.symbol_text.ensures) c.in-Some.ensures

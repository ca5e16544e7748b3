use Rattle.name_resolution.proofs.Bytes.{put_more}
use Rattle.name_resolution.proofs.numbers.put.Goals as goal

pub returns-clause-symbols : goal.returns-clause-symbols
returns-clause-symbols c =
    put_more c.args.table.now c.args.symbols.now c.args.text.now c.as_bytes-bytes.result.now c.from-byte.result c.number_of.result c.as_bytes-bytes.ensures.value c.if-len-ne1.false c.from-byte.ensures c.number_of.ensures c.requires.symbols

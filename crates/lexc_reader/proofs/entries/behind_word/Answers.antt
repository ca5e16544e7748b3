use Rattle.std.proofs.Common.{Ok, refl}
use Rattle.lexc_grammar.specs.Lexicons.{form_of}
use Rattle.lexc_reader.proofs.Saying.{said_by_word}
use Rattle.lexc_reader.proofs.entries.behind_word.Goals as goal

pub returns-in-Ok-Some-clause-said : goal.returns-in-Ok-Some-clause-said
returns-in-Ok-Some-clause-said c =
    let form = rw c.in-Ok-Some.field-0-is at c.in-Ok-Some.ensures in
    said_by_word c.args.declared.now c.args.line c.args.letters.now c.args.more.now c.args.ending _ (Ok (form_of c.in-Ok-Some.form)) (c.in-Ok-Some.form, form, refl) c.behind_form.ensures.said

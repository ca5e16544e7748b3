use Rattle.std.proofs.Common.{length, ap, sym, ◌∙◌}
use Rattle.regex_reader.proofs.Texts.{as_many, is_read}
use Rattle.regex_reader.proofs.xfst.read_xfst.Goals as goal

pub statements-requires : goal.statements-requires
statements-requires c =
    ap length c.deref.ensures.value ∙ as_many c.in_ok-found.found.tokens.items 1 c.args.text.now c.in_ok-found.found.places.items c.in_ok-found.found.ending c.in_ok-found.ensures ∙ sym (ap length c.deref-2.ensures.value)

pub returns : goal.returns
returns c = is_read c.args.text.now c.in_ok-found.found.tokens.items c.deref.result.now c.in_ok-found.found.places.items c.deref-2.result.now c.in_ok-found.found.ending c.statements.result c.in_ok-found.ensures c.deref.ensures.value c.deref-2.ensures.value c.statements.ensures

use Rattle.std.proofs.Common.{map, sym, ap, ◌∙◌}
use Rattle.std.specs.String.{string_bytes}
use Rattle.fsm_base.proofs.TableLemmas.{with_text-held, with_text-strings}
use Rattle.touched_names.proofs.texts.Texts.add.Goals as goal

pub returns-then-contains : goal.returns-then-contains
returns-then-contains c = rw (← c.self.view_is) (with_text-held c.args.text.now c.self.inside.texts.keys (sym c.contains.ensures ∙ c.if-contains.true))

pub returns : goal.returns
returns c = rw (← c.self.view_is) (ap (λ ks. map string_bytes ks) c.in_ok-insert_full.ensures.keys ∙ with_text-strings c.args.text.now c.self.inside.texts.keys _ c.in_ok-owned.ensures.ok)

use Rattle.std.proofs.Common.{map, sym, ap, subst, ◌∙◌}
use Rattle.std.proofs.lemmas.List.{take-map}
use Rattle.std.specs.String.{string_bytes}
use Rattle.word_relations.specs.Words.{IsDistinct}
use Rattle.fsm_base.proofs.TableLemmas.{IsDistinct-take}
use Rattle.fsm_base.proofs.texts.TextTable.keep.Goals as goal

pub invariant_of-self : goal.invariant_of-self
invariant_of-self c =
    subst (λ t. IsDistinct t) (sym (ap (λ ks. map string_bytes ks) c.truncate.ensures.keys ∙ sym (take-map string_bytes c.args.len c.self.inside.texts.keys)))
    (IsDistinct-take c.args.len (map string_bytes c.self.inside.texts.keys) c.self.invariant)

pub returns : goal.returns
returns c =
    rw (← c.self.view_is) (ap (λ ks. map string_bytes ks) c.truncate.ensures.keys ∙ sym (take-map string_bytes c.args.len c.self.inside.texts.keys))

use Rattle.std.proofs.Common.{ℕ, List, map, sym, ap, ◌∙◌}
use Rattle.std.proofs.lemmas.Slice.Eq.{bytes_eq-Decides}
use Rattle.std.specs.String.{string_bytes}
use Rattle.fsm_base.specs.Symbols.{number_of}
use Rattle.fsm_base.proofs.TableLemmas.{position_or_len-strings, with_text-strings, IsDistinct-strings}
use Rattle.fsm_base.proofs.TextLemmas.{held, read_at, unchanged}
use Rattle.fsm_base.proofs.texts.TextTable.add.Goals as goal

pub returns-in-Some-clause-table : goal.returns-in-Some-clause-table
returns-in-Some-clause-table c = unchanged c.args.text.now c.args.self.now (held c.args.text.now c.args.self.now c.in-Some.place c.in-Some.ensures.0)

pub invariant_of-self-2 : goal.invariant_of-self-2
invariant_of-self-2 c = IsDistinct-strings c.insert_full.new.self.keys c.in_ok-place.ensures.unique

pub returns-clause-number : goal.returns-clause-number
returns-clause-number c =
    rw (← c.self.view_is) (c.in_ok-place.ensures.index ∙ position_or_len-strings _ c.self.inside.texts.keys
    ∙ ap (λ (t : List ℕ). number_of t (map string_bytes c.self.inside.texts.keys)) c.in_ok-owned.ensures.ok)

pub returns-clause-table : goal.returns-clause-table
returns-clause-table c =
    rw (← c.self.view_is) (ap (λ ks. map string_bytes ks) c.in_ok-place.ensures.keys ∙ with_text-strings c.args.text.now c.self.inside.texts.keys _ c.in_ok-owned.ensures.ok)

pub returns-clause-stored : goal.returns-clause-stored
returns-clause-stored c =
    let stored = c.in_ok-place.ensures.stored in
    read_at c.args.text.now c.insert_full.new.self.keys c.in_ok-place.place stored.0 stored.1
    (sym ((bytes_eq-Decides _ (string_bytes stored.0)).0 stored.2) ∙ c.in_ok-owned.ensures.ok)

pub returns-clause-once : goal.returns-clause-once
returns-clause-once c = IsDistinct-strings c.insert_full.new.self.keys c.in_ok-place.ensures.unique

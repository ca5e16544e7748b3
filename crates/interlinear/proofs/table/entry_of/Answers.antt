use Rattle.std.proofs.Common.{◌≡◌, ◌<◌, ◌==◌, chars, false, length, vec_len, Some, List, ℕ, sym, ap, ◌∙◌, arith}
use Rattle.std.proofs.lemmas.Bool.Decides.{nat_tests}
use Rattle.interlinear.proofs.Keys.{entry_read}
use Rattle.interlinear.proofs.table.entry_of.Goals as goal

pub returns : goal.returns
returns c =
    let key = c.in_ok-key.key in
    let not_empty : (vec_len key == 0) ≡ false = sym c.is_empty.ensures ∙ c.if-is_empty.false in
    let ok = key.ok in
    let some : 0 < length key.items = grind (arith, nat_tests) in
    let gloss_is = c.in_ok-of.ensures ∙ c.as_str-2.ensures in
    ap (λ (g : List ℕ). Some (key.items, g)) gloss_is
    ∙ entry_read c.args.line.now c.as_slice.result.now c.key-item.result c.gloss-item.result key.items
    (c.as_slice.ensures.value ∙ c.in_ok-fields.ensures) c.in-len2.len_at_least c.in-len2.len_below c.key-item.is c.gloss-item.is
    (c.in_ok-key.ensures ∙ ap chars c.as_str.ensures) some

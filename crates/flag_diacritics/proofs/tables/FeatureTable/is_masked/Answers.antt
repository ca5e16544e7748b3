use Rattle.std.proofs.Common.{◌≡◌, ℕ, List, Some, arith, bit_and, sym, ap, subst, ◌∙◌}
use Rattle.std.specs.List.{slice_get}
use Rattle.std.proofs.lemmas.Bool.Decides.{Decides-eqb}
use Rattle.std.proofs.lemmas.Option.{same_Some, slice_get-get_or}
use Rattle.flag_diacritics.specs.declared.setting.Setting.{Setting}
use Rattle.flag_diacritics.specs.Idle.{HasSettled}
use Rattle.flag_diacritics.proofs.Idling.{masked_same}
use Rattle.flag_diacritics.proofs.tables.FeatureTable.is_masked.Goals as goal

pub returns-in-Some : goal.returns-in-Some
returns-in-Some c = λ apart now at.
    let row = c.args.row in
    let number = c.args.number in
    let bits = c.in-Some.bits.now in
    let lookup = c.in-Some.ensures.lookup in
    let read : slice_get c.deref.result.now number ≡ Some bits = slice_get-get_or c.deref.result.now number bits lookup.3.0 ∙ ap Some (sym lookup.1) in
    let noted = c.self.invariant number bits (subst (λ (rows : List ℕ). slice_get rows number ≡ Some bits) c.deref.ensures.value read) in
    let same : noted.0 ≡ now = same_Some noted.0 now (sym noted.1 ∙ ap (λ (lists : List (List Setting)). slice_get lists number) c.self.view_is ∙ at) in
    masked_same row bits now (omega arith) ((Decides-eqb (bit_and row bits) 0).0 apart) (subst (HasSettled bits) same noted.2)

use Rattle.std.proofs.Common.{◌≡◌, List, subst, sym, ap, ◌∙◌, map}
use Rattle.std.specs.Result.{IfOk}
use Rattle.std.specs.List.{Contains}
use Rattle.std.proofs.lemmas.Result.{IfOk-weaker}
use Rattle.fsm_base.specs.declared.letters.Pair.{Pair}
use Rattle.fsm_base.specs.declared.letters.Sym.{Sym}
use Rattle.word_relations.specs.Relations.{AreSame}
use Rattle.word_relations.proofs.Pairs.{same_trans}
use Rattle.fsa.specs.Automaton.{UsesLetter}
use Rattle.fst_algebra.specs.Relation.{IsRelated}
use Rattle.fst_algebra.specs.Relations.{UsesUpper, UsesLower}
use Rattle.fst_algebra.proofs.Relabelled.{as_relabelled, relabelled_letters}
use Rattle.flag_diacritics.specs.Tapes.{TapesRelate, UsesPair}
use Rattle.regex_ast.specs.declared.lexc.FlagOp.{FlagOp}
use Rattle.fst_flagged.specs.declared.condition.Condition.{Condition}
use Rattle.fst_flagged.specs.Flagged.{FlaggedView, FlaggedRelates, UsesLetters}
use Rattle.fst_flagged.specs.Images.{as_tape}
use Rattle.fst_flagged.proofs.Resolved.{pair_was, resolved_upper, resolved_lower, tapes_relation}
use Rattle.fst_flagged.proofs.flagged.Flagged.resolve.Goals as goal

pub returns-clause-upper : goal.returns-clause-upper
returns-clause-upper c =
    let f : FlaggedView = record { net = c.self.inside.net; conditions = c.self.inside.conditions.items } in
    let tapes = c.in_ok-tapes.tapes in
    let letters = relabelled_letters (as_tape f.conditions) f.net tapes (rw c.as_slice-conditions.ensures.value at c.in_ok-tapes.ensures.letters) in
    subst (λ (z : FlaggedView). IfOk c.resolve.result (λ m. (symbols : List Sym) → UsesLetters symbols z → (x : Sym) → UsesUpper m x → Contains symbols x)) c.self.view_is
    (IfOk-weaker c.resolve.result (λ m. (x : Pair) → UsesLetter m x → UsesPair tapes x) (λ m. (symbols : List Sym) → UsesLetters symbols f → (x : Sym) → UsesUpper m x → Contains symbols x) (λ m pairs symbols uses. resolved_upper f c.self.invariant tapes m (λ pair held. pair_was f c.self.invariant tapes letters pair (pairs pair held)) symbols uses) c.resolve.ensures.pairs)

pub returns-clause-lower : goal.returns-clause-lower
returns-clause-lower c =
    let f : FlaggedView = record { net = c.self.inside.net; conditions = c.self.inside.conditions.items } in
    let tapes = c.in_ok-tapes.tapes in
    let letters = relabelled_letters (as_tape f.conditions) f.net tapes (rw c.as_slice-conditions.ensures.value at c.in_ok-tapes.ensures.letters) in
    subst (λ (z : FlaggedView). IfOk c.resolve.result (λ m. (symbols : List Sym) → UsesLetters symbols z → (x : Sym) → UsesLower m x → Contains symbols x)) c.self.view_is
    (IfOk-weaker c.resolve.result (λ m. (x : Pair) → UsesLetter m x → UsesPair tapes x) (λ m. (symbols : List Sym) → UsesLetters symbols f → (x : Sym) → UsesLower m x → Contains symbols x) (λ m pairs symbols uses. resolved_lower f c.self.invariant tapes m (λ pair held. pair_was f c.self.invariant tapes letters pair (pairs pair held)) symbols uses) c.resolve.ensures.pairs)

pub returns-clause-relation : goal.returns-clause-relation
returns-clause-relation c =
    let f : FlaggedView = record { net = c.self.inside.net; conditions = c.self.inside.conditions.items } in
    let tapes = c.in_ok-tapes.tapes in
    let flags : List FlagOp = map (λ (condition : Condition). condition.flag) f.conditions in
    let same = as_relabelled (as_tape f.conditions) f.net tapes (rw c.as_slice-conditions.ensures.value at c.in_ok-tapes.ensures.language) in
    let flags_are : c.as_slice.result.now ≡ flags = c.as_slice.ensures.value ∙ c.in_ok-flags.ensures ∙ ap (map (λ (condition : Condition). condition.flag)) c.as_slice-conditions.ensures.value in
    subst (λ (z : FlaggedView). IfOk c.resolve.result (λ m. AreSame (IsRelated m) (FlaggedRelates z))) c.self.view_is
    (IfOk-weaker _ _ _
    (λ m relation. same_trans (IsRelated m) (TapesRelate tapes flags) (FlaggedRelates f) (subst (λ (fs : List FlagOp). AreSame (IsRelated m) (TapesRelate tapes fs)) flags_are relation) (tapes_relation f c.self.invariant tapes same))
    c.resolve.ensures.relation)

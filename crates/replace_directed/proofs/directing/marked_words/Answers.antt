use Rattle.std.proofs.Common.{◌↔◌, length, subst, sym}
use Rattle.std.specs.List.{Contains}
use Rattle.std.proofs.lemmas.Result.{IfOk-weaker}
use Rattle.fsm_base.specs.declared.letters.Bound.{Bound}
use Rattle.replace_words.specs.declared.marks.Mark.{Mark}
use Rattle.replace_rules.specs.Letters.{IsMarkOf}
use Rattle.replace_directed.proofs.Relations.{marked_language}
use Rattle.replace_directed.proofs.directing.marked_words.Goals as goal

pub kept_words-requires : goal.kept_words-requires
kept_words-requires c = rw c.deref.ensures.value (c.in_ok-marks.ensures.once c.requires)

pub returns : goal.returns
returns c =
    let syms = c.args.syms.now in
    let maps = c.args.maps.now in
    let contexts = c.args.contexts.now in
    let marks = c.deref.result.now in
    let marks_are : (x : Bound Mark) → Contains marks x ↔ IsMarkOf syms (length contexts) x =
    λ x. subst (λ ms. Contains ms x ↔ IsMarkOf syms (length contexts) x) (sym c.deref.ensures.value) (c.in_ok-marks.ensures.all x) in
    IfOk-weaker _ _ _ (λ words is. marked_language syms maps contexts marks c.args.size c.in_ok-well.well words marks_are c.in_ok-well.ensures is) c.kept_words.ensures

use Rattle.std.proofs.Common.{◌/◌, List, [], length, arith, sym, subst}
use Rattle.std.specs.List.{Contains}
use Rattle.std.specs.Result.{IfOk}
use Rattle.std.proofs.lemmas.Result.{IfOk-weaker}
use Rattle.std.proofs.lemmas.List.Elements.{Contains-append_left, Contains-append_right}
use Rattle.word_relations.proofs.Members.{Contains-head}
use Rattle.two_level.specs.Marks.{marked_letters}
use Rattle.two_level.specs.declared.rule.PairContext.{PairContext}
use Rattle.two_level.proofs.Letters.{one_item, halves_joined, length_joined}
use Rattle.two_level.proofs.MarkedStrings.{both_only}
use Rattle.two_level.proofs.ContextPlaces.{TellsPlaces, one_holds, halves_hold}
use Rattle.two_level.proofs.places.+in_contexts.Goals as goal

pub in_context-requires : goal.in_context-requires
in_context-requires t c =
    let item = c.context-item.result in
    c.requires item (subst (λ (z : List PairContext). Contains z item) (sym (one_item c.args.contexts.now item (omega arith) (omega arith) c.context-item.is)) (Contains-head item []))

pub in_contexts-requires : goal.in_contexts-requires
in_contexts-requires t c =
    let front = c.split_at.result.0.now in
    let back = c.split_at.result.1.now in
    let whole = c.args.contexts.now in
    let is = halves_joined front back whole (length whole / 2) c.split_at.ensures.front c.split_at.ensures.back in
    (omega (arith, length_joined front back whole is), λ d among. c.requires d (subst (λ (z : List PairContext). Contains z d) is (Contains-append_left front back d among)))

pub in_contexts-requires-in_default : goal.in_contexts-requires-in_default
in_contexts-requires-in_default t c =
    let front = c.split_at.result.0.now in
    let back = c.split_at.result.1.now in
    let whole = c.args.contexts.now in
    let is = halves_joined front back whole (length whole / 2) c.split_at.ensures.front c.split_at.ensures.back in
    (omega (arith, length_joined front back whole is), λ d among. c.requires d (subst (λ (z : List PairContext). Contains z d) is (Contains-append_right front back d among)))

pub returns-in-len1-clause-words : goal.returns-in-len1-clause-words
returns-in-len1-clause-words t c =
    let pairs = c.args.pairs.now in
    let item = c.context-item.result in
    subst (λ (z : List PairContext). IfOk c.in_context.result (TellsPlaces pairs z)) (sym (one_item c.args.contexts.now item (omega arith) (omega arith) c.context-item.is))
    (IfOk-weaker _ _ _ (one_holds pairs item) c.in_context.ensures.words)

pub returns-in_ok-second-in_default-clause-letters : goal.returns-in_ok-second-in_default-clause-letters
returns-in_ok-second-in_default-clause-letters t c =
    IfOk-weaker _ _ _ (λ m used. both_only (marked_letters c.args.pairs.now) c.in_ok-first-in_default.first c.in_ok-second-in_default.second m used c.in_ok-first-in_default.ensures.letters c.in_ok-second-in_default.ensures.letters) c.union.ensures.letters

pub returns-in_ok-second-in_default-clause-words : goal.returns-in_ok-second-in_default-clause-words
returns-in_ok-second-in_default-clause-words t c =
    let front = c.split_at.result.0.now in
    let back = c.split_at.result.1.now in
    let whole = c.args.contexts.now in
    let is = halves_joined front back whole (length whole / 2) c.split_at.ensures.front c.split_at.ensures.back in
    IfOk-weaker _ _ _ (λ m. halves_hold c.args.pairs.now front back whole c.in_ok-first-in_default.first c.in_ok-second-in_default.second m is c.in_ok-first-in_default.ensures.words c.in_ok-second-in_default.ensures.words) c.union.ensures.language

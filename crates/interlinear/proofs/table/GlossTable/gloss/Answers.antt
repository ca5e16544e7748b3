use Rattle.std.proofs.Common.{◌++◌, List, ℕ, ap, ◌∙◌}
use Rattle.std.specs.String.{string_bytes}
use Rattle.interlinear.specs.Glosses.{glossed, glossed_behind}
use Rattle.interlinear.proofs.Keys.{glossed_more, glossed_stays}
use Rattle.interlinear.proofs.table.GlossTable.gloss.Goals as goal

pub rest-init : goal.rest-init
rest-init c =
    ap (λ (z : List ℕ). z ++ glossed_behind c.args.self.now 0 c.as_slice-rest.result.now) c.new-gloss.ensures.bytes
    ∙ ap (glossed_behind c.args.self.now 0) (c.as_slice-rest.ensures.value ∙ c.in_ok-characters.ensures)

pub rest-preserved-in-Some-longest_front : goal.rest-preserved-in-Some-longest_front
rest-preserved-in-Some-longest_front c =
    let front = c.in-Some-longest_front.ensures in
    glossed_more c.args.self.now (string_bytes c.rest.gloss) (string_bytes c.push_str.new.self) (glossed c.args.self.now c.args.text.now) c.rest.rest.now c.in-Some-longest_front.part.now c.split_at.result.1.now c.in-Some-longest_front.length
    front.0 front.1 front.2 front.3 c.split_at.ensures.back c.in_ok-push_str-in-Some-longest_front.ensures.bytes c.rest.invariant

pub rest-preserved : goal.rest-preserved
rest-preserved c =
    glossed_stays c.args.self.now (string_bytes c.rest.gloss) (string_bytes c.push.new.self) (glossed c.args.self.now c.args.text.now) c.rest.rest.now c.in-Some.first.now c.in-Some.others.now
    c.in-Some.ensures.cases.0 c.in-None.ensures c.in_ok-push-in-None.ensures.bytes c.rest.invariant

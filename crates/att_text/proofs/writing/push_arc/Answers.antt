use Rattle.std.proofs.Common.{ap, ◌∙◌, ◌++◌}
use Rattle.std.specs.String.{string_bytes}
use Rattle.std.specs.Prelude.{decimal}
use lib.Utf8.{encode}
use Rattle.std.specs.Option.{option_map}
use Rattle.fsm_base.specs.Alphabet.{text_of}
use Rattle.att_text.specs.Sides.{lower_side, upper_side}
use Rattle.att_text.specs.Writing.{side_field}
use Rattle.att_text.proofs.Sayable.{arc_text}
use Rattle.att_text.proofs.writing.push_arc.Goals as goal

pub returns : goal.returns
unfolding encode
returns c =
    let a = c.args.alphabet.now in
    arc_text (string_bytes c.args.text.now) (string_bytes c.push_state.new.text) (string_bytes c.push.new.self) (string_bytes c.push_state-2.new.text) (string_bytes c.push-2.new.self) (string_bytes c.push_side.new.text) (string_bytes c.push-3.new.self) (string_bytes c.push_side-2.new.text) (string_bytes c.push-4.new.self)
    (decimal c.args.from) (decimal c.args.to) (side_field (option_map (text_of a) (upper_side c.args.letter))) (side_field (option_map (text_of a) (lower_side c.args.letter)))
    c.in_ok-push_state.ensures c.in_ok-push.ensures.bytes c.in_ok-push_state-2.ensures c.in_ok-push-2.ensures.bytes
    (c.in_ok-push_side.ensures ∙ ap (λ s. string_bytes c.push-2.new.self ++ side_field (option_map (text_of a) s)) c.sides_of-up.ensures.upper) c.in_ok-push-3.ensures.bytes
    (c.in_ok-push_side-2.ensures ∙ ap (λ s. string_bytes c.push-3.new.self ++ side_field (option_map (text_of a) s)) c.sides_of-up.ensures.lower) c.in_ok-push-4.ensures.bytes

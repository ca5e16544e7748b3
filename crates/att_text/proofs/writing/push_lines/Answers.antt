use Rattle.std.proofs.Common.{[], ◌∷◌, ◌++◌, sym, refl, ap, ◌∙◌, inl, inr}
use Rattle.std.specs.String.{string_bytes}
use Rattle.std.proofs.lemmas.Bool.{false≢true}
use Rattle.std.proofs.lemmas.List.{append-nil}
use Rattle.std.proofs.lemmas.List.Sorted.{Contains-permutation, IsPermutation-sym}
use Rattle.att_text.specs.Lines.{final}
use Rattle.att_text.specs.Writing.{fields_saying}
use Rattle.att_text.proofs.Placed.{writing_more}
use Rattle.att_text.proofs.writing.push_lines.Goals as goal

pub push_arcs-requires-clause-symbols : goal.push_arcs-requires-clause-symbols
push_arcs-requires-clause-symbols c = λ e held.
    c.requires.symbols e (Contains-permutation c.args.rows.now c.args.net.now.edges e (IsPermutation-sym c.args.net.now.edges c.args.rows.now c.requires.rows) ((c.out.ensures e).0 held).0)

pub returns-in_ok-push_final : goal.returns-in_ok-push_final
returns-in_ok-push_final c =
    writing_more c.args.alphabet.now c.args.net.now c.args.states.now c.push_arcs.new.states c.args.place c.state_at-state.result (string_bytes c.args.text.now) (string_bytes c.push_arcs.new.text) (string_bytes c.push_final.new.text)
    c.args.rows.now c.out.result.now (final c.args.place ∷ []) c.requires.writing c.requires.place c.state_at-state.ensures c.requires.rows c.out.ensures c.in_ok-push_arcs.ensures c.ranges.place.fits
    (inl (c.is_final.ensures.0 c.if-is_final.true, refl))
    (c.in_ok-push_final.ensures ∙ ap (λ t. string_bytes c.push_arcs.new.text ++ t) (sym (append-nil (fields_saying (final c.args.place) ++ 10 ∷ []))))

pub returns-else-is_final : goal.returns-else-is_final
returns-else-is_final c =
    writing_more c.args.alphabet.now c.args.net.now c.args.states.now c.push_arcs.new.states c.args.place c.state_at-state.result (string_bytes c.args.text.now) (string_bytes c.push_arcs.new.text) (string_bytes c.push_arcs.new.text)
    c.args.rows.now c.out.result.now [] c.requires.writing c.requires.place c.state_at-state.ensures c.requires.rows c.out.ensures c.in_ok-push_arcs.ensures c.ranges.place.fits
    (inr (λ ends. false≢true (sym c.if-is_final.false ∙ c.is_final.ensures.1 ends), refl))
    (sym (append-nil (string_bytes c.push_arcs.new.text)))

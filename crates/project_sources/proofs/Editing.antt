-- Edits have one outcome, by the form of their rows.
use Rattle.std.proofs.Common.{[], ◌∷◌, Ok, Err, sym, ap, ◌∙◌, inl, inr}
use Rattle.project_manifest.specs.Rows.{IsOne}
use Rattle.project_sources.specs.Edits.{Edit, put, splice, drops, Holding, EditRow, absent, bad_splice, too_many, too_large, edit_rows, EditFault, IsRefused, after}
use Rattle.project_sources.specs.Laws.{OneOutcome}
use Rattle.project_sources.proofs.Once.{first_one}

row_one : (held : Holding) (edit : Edit) (row : EditRow) → IsOne (EditFault held edit row)
row_one held (put file bytes) absent a b p q = absurd p
row_one held (put file bytes) bad_splice a b p q = absurd p
row_one held (put file bytes) too_many a b p q = p.1 ∙ sym q.1
row_one held (put file bytes) too_large a b p q = p.1 ∙ sym q.1
row_one held (splice file from count bytes) absent a b p q = p.1 ∙ sym q.1
row_one held (splice file from count bytes) bad_splice a b p q = p.1 ∙ sym q.1
row_one held (splice file from count bytes) too_many a b p q = absurd p
row_one held (splice file from count bytes) too_large a b p q = p.1 ∙ sym q.1
row_one held (drops file) absent a b p q = p.1 ∙ sym q.1
row_one held (drops file) bad_splice a b p q = absurd p
row_one held (drops file) too_many a b p q = absurd p
row_one held (drops file) too_large a b p q = absurd p

refused_one : (held : Holding) (edit : Edit) → IsOne (IsRefused held edit)
refused_one held edit = first_one (EditFault held edit) (row_one held edit) edit_rows

pub one_outcome : OneOutcome
one_outcome [] held (Ok new) (Ok other) p q = ap Ok (sym p ∙ q)
one_outcome [] held (Ok new) (Err found) p q = absurd q
one_outcome [] held (Err found) b p q = absurd p
one_outcome (edit ∷ edits) held (Ok new) (Ok other) p q = one_outcome edits (after edit held) (Ok new) (Ok other) p.1 q.1
one_outcome (edit ∷ edits) held (Ok new) (Err found) p (inl refused) = absurd (p.0 found refused)
one_outcome (edit ∷ edits) held (Ok new) (Err found) p (inr later) = one_outcome edits (after edit held) (Ok new) (Err found) p.1 later.1
one_outcome (edit ∷ edits) held (Err found) (Ok new) (inl refused) q = absurd (q.0 found refused)
one_outcome (edit ∷ edits) held (Err found) (Ok new) (inr later) q = one_outcome edits (after edit held) (Err found) (Ok new) later.1 q.1
one_outcome (edit ∷ edits) held (Err found) (Err other) (inl refused) (inl also) = ap Err (refused_one held edit found other refused also)
one_outcome (edit ∷ edits) held (Err found) (Err other) (inl refused) (inr later) = absurd (later.0 found refused)
one_outcome (edit ∷ edits) held (Err found) (Err other) (inr later) (inl refused) = absurd (later.0 other refused)
one_outcome (edit ∷ edits) held (Err found) (Err other) (inr later) (inr also) = one_outcome edits (after edit held) (Err found) (Err other) later.1 also.1

-- What edits make of files, or the first of their faults, row by row.
use Rattle.std.proofs.Common.{◌≡◌, ◌≢◌, ℕ, ◌+◌, ◌<◌, ◌≤◌, Bool, true, false, cond, List, [], ◌∷◌, length, drop, get_or, None, Some, Result, Ok, Err, inl, inr, refl, sym, ap, subst, ◌∙◌, arith}
use Rattle.std.proofs.lemmas.Slice.Eq.{bytes_eq-Decides}
use Rattle.std.proofs.lemmas.List.{drop_more}
use Rattle.std.specs.Option.{option_map}
use Rattle.std.specs.Result.{IsErrAnd}
use Rattle.std.specs.Str.{bytes_eq}
use Rattle.fsm_io.specs.Folders.{Files, file_of}
use Rattle.regex_ast.specs.declared.fault.Fault.{Fault}
use Rattle.regex_ast.specs.declared.fault.Why.TheVariants as why
use Rattle.project_sources.specs.Refusals.{IsRefusal, IsRefusedBy}
use Rattle.project_sources.specs.declared.plan_error.PlanError.{PlanError}
use Rattle.project_sources.specs.declared.plan_error.PlanError.TheVariants.{Refused, Memory}
use Rattle.project_manifest.specs.Manifests.{project_name}
use Rattle.project_sources.specs.Edits.{Apply, Edit, Holding, HoldsMost, IsBadSplice, IsPossible, IsRefused, after, drops, held_in, put, splice, spliced}
use Rattle.project_sources.specs.Faults.{fault}
use Rattle.project_sources.specs.Limits.{most_bytes}
use Rattle.project_edits.specs.Applied.{IsApplied, edit_of, edits_of}
use Rattle.project_edits.specs.declared.edit.Edit.{Edit as EditOf}

-- ---- refusals

-- an edit with this fault is refused for it, or for want of memory
pub refused_edit : (edit : Edit) (files : Files) (found : Fault) (error : PlanError) → IsRefused (held_in files) edit found → IsRefusal found error → IsApplied (edit ∷ []) files (Err error)
refused_edit edit files found (Refused other) it is = subst (λ (f : Fault). Apply (edit ∷ []) (held_in files) (Err f)) (sym is) (inl it)
refused_edit edit files found (Memory refused) it is = tt

abbrev pub IsTooMany : Holding → List ℕ → Type 0
IsTooMany held file = (file ≢ project_name) × (held file ≡ None) × HoldsMost held

module _ (held : Holding) (file bytes : List ℕ) where
  pub put_many : IsTooMany held file → IsRefused held (put file bytes) (fault file 0 why.LimitFiles)
  put_many many = inr (λ other h. h, inr (λ other h. h, inl (many, refl)))

  pub put_large : (IsTooMany held file → ⊥) → most_bytes < length bytes → IsRefused held (put file bytes) (fault file 0 why.LimitFile)
  put_large few large = inr (λ other h. h, inr (λ other h. h, inr (λ other h. few h.0, inl (large, refl))))

  pub put_possible : (IsTooMany held file → ⊥) → length bytes ≤ most_bytes → IsPossible held (put file bytes)
  put_possible few small found (inl h) = h
  put_possible few small found (inr (no0, inl h)) = h
  put_possible few small found (inr (no0, inr (no1, inl h))) = few h.0
  put_possible few small found (inr (no0, inr (no1, inr (no2, inl h)))) = let large = h.0 in omega arith
  put_possible few small found (inr (no0, inr (no1, inr (no2, inr (no3, h))))) = h

module _ (held : Holding) (file : List ℕ) where
  pub drop_absent : held file ≡ None → IsRefused held (drops file) (fault file 0 why.NoFile)
  drop_absent none = inl (none, refl)

  pub drop_possible : (held file ≡ None → ⊥) → IsPossible held (drops file)
  drop_possible there found (inl h) = there h.0
  drop_possible there found (inr (no0, inl h)) = h
  drop_possible there found (inr (no0, inr (no1, inl h))) = h
  drop_possible there found (inr (no0, inr (no1, inr (no2, inl h)))) = h
  drop_possible there found (inr (no0, inr (no1, inr (no2, inr (no3, h))))) = h

  module _ (from count : ℕ) (bytes : List ℕ) where
    pub splice_absent : held file ≡ None → IsRefused held (splice file from count bytes) (fault file 0 why.NoFile)
    splice_absent none = inl (none, refl)

    module _ (content : List ℕ) (is : held file ≡ Some content) where
      there : held file ≡ None → ⊥
      there none = let both : Some content ≡ None = sym is ∙ none in cc

      same : (other : List ℕ) → held file ≡ Some other → other ≡ content
      same other e = let both : Some other ≡ Some content = sym e ∙ is in cc

      pub splice_bad : IsBadSplice from count content → IsRefused held (splice file from count bytes) (fault file from why.BadSplice)
      splice_bad bad = inr (λ other h. there h.0, inl ((content, is, bad), refl))

      module _ (good : IsBadSplice from count content → ⊥) where
        not_bad : (other : List ℕ) → held file ≡ Some other → IsBadSplice from count other → ⊥
        not_bad other e bad = good (subst (λ (c : List ℕ). IsBadSplice from count c) (same other e) bad)

        pub splice_large : most_bytes < length (spliced from count bytes content) → IsRefused held (splice file from count bytes) (fault file 0 why.LimitFile)
        splice_large large = inr (λ other h. there h.0, inr (λ other h. not_bad h.0.0 h.0.1 h.0.2, inr (λ other h. h, inl ((content, is, large), refl))))

        pub splice_possible : length (spliced from count bytes content) ≤ most_bytes → IsPossible held (splice file from count bytes)
        splice_possible small found (inl h) = there h.0
        splice_possible small found (inr (no0, inl h)) = not_bad h.0.0 h.0.1 h.0.2
        splice_possible small found (inr (no0, inr (no1, inl h))) = h
        splice_possible small found (inr (no0, inr (no1, inr (no2, inl h)))) =
            let large : most_bytes < length (spliced from count bytes content) = subst (λ (c : List ℕ). most_bytes < length (spliced from count bytes c)) (same h.0.0 h.0.1) h.0.2 in
            omega arith
        splice_possible small found (inr (no0, inr (no1, inr (no2, inr (no3, h))))) = h

-- ---- what is held then

-- by each name
pub applied_edit : (edit : Edit) (old new : Files) → IsPossible (held_in old) edit → ((name : List ℕ) → file_of name new ≡ after edit (held_in old) name) → IsApplied (edit ∷ []) old (Ok new)
applied_edit edit old new possible is = (possible, λ i name. sym (is name) i)

pub spliced_file : (file bytes content new : List ℕ) (from count : ℕ) (files : Files) (name : List ℕ) → file_of file files ≡ Some content → new ≡ spliced from count bytes content
    → cond (bytes_eq file name) (Some new) (file_of name files) ≡ after (splice file from count bytes) (held_in files) name
spliced_file file bytes content new from count files name is made = by (bytes_eq file name) refl where
  by : (t : Bool) → bytes_eq file name ≡ t → cond t (Some new) (file_of name files) ≡ cond t (option_map (spliced from count bytes) (file_of name files)) (file_of name files)
  by true e =
      let same : file ≡ name = (bytes_eq-Decides file name).0 e in
      ap Some made ∙ ap (option_map (spliced from count bytes)) (sym (ap (λ (z : List ℕ). file_of z files) (sym same) ∙ is))
  by false e = refl

-- ---- one after another

-- what further edits make of the files behind this one, they make with it of those before
pub later_edits : (edit : Edit) (later : List Edit) (old new : Files) (out : Result Holding Fault) → Apply (edit ∷ []) (held_in old) (Ok (held_in new)) → Apply later (held_in new) out → Apply (edit ∷ later) (held_in old) out
later_edits edit later old new (Ok holding) (possible, is) h = (possible, subst (λ (held : Holding). Apply later held (Ok holding)) (sym is) h)
later_edits edit later old new (Err found) (possible, is) h = inr (possible, subst (λ (held : Holding). Apply later held (Err found)) (sym is) h)

-- the first of them is refused
pub first_refused : (edit : Edit) (later : List Edit) (held : Holding) (found : Fault) → Apply (edit ∷ []) held (Err found) → Apply (edit ∷ later) held (Err found)
first_refused edit later held found (inl refused) = inl refused
first_refused edit later held found (inr (possible, none)) = absurd none

module _ (change : List EditOf) (i : ℕ) (edit : EditOf) (below : i < length change) (is : edit ≡ get_or change i edit) (old first : Files)
    (so_far : (out : Result Holding Fault) → Apply (edits_of (drop i change)) (held_in old) out → Apply (edits_of change) (held_in first) out) where
  further : edits_of (drop i change) ≡ edit_of edit ∷ edits_of (drop (i + 1) change)
  further = ap edits_of (drop_more change i edit below) ∙ ap (λ (e : EditOf). edit_of e ∷ edits_of (drop (i + 1) change)) (sym is)

  -- with one edit more
  pub goes_on : (new : Files) → Apply (edit_of edit ∷ []) (held_in old) (Ok (held_in new)) → (out : Result Holding Fault) → Apply (edits_of (drop (i + 1) change)) (held_in new) out → Apply (edits_of change) (held_in first) out
  goes_on new applied out h =
      so_far out (subst (λ (edits : List Edit). Apply edits (held_in old) out) (sym further) (later_edits (edit_of edit) (edits_of (drop (i + 1) change)) old new out applied h))

  refused_here : (error : PlanError) → IsRefusedBy (λ found. Apply (edit_of edit ∷ []) (held_in old) (Err found)) error → IsApplied (edits_of change) first (Err error)
  refused_here (Refused found) h = so_far (Err found) (subst (λ (edits : List Edit). Apply edits (held_in old) (Err found)) (sym further) (first_refused (edit_of edit) (edits_of (drop (i + 1) change)) (held_in old) found h))
  refused_here (Memory refused) h = tt

  -- with one that is refused
  pub stops : (r : Result Files PlanError) (error : PlanError) → IsErrAnd r (λ e. e ≡ error) → IsRefusedBy (λ found. Apply (edit_of edit ∷ []) (held_in old) (Err found)) error → IsApplied (edits_of change) first r
  stops (Ok new) error same h = absurd same
  stops (Err e) error same h = refused_here e (subst (λ (x : PlanError). IsRefusedBy (λ found. Apply (edit_of edit ∷ []) (held_in old) (Err found)) x) (sym same) h)

-- What a change makes of a version is one thing, so an order has one reply, and versions are numbered one after another.
use Rattle.std.proofs.Common.{◌≡◌, ℕ, ◌+◌, ◌++◌, List, [], ◌∷◌, Option, None, Some, Result, Ok, Err, ◌⊎◌, inl, inr, refl, sym, ap, subst, ◌∙◌, arith}
use Rattle.std.specs.Option.{option_to_list, unwrap_or}
use Rattle.fsm_io.specs.Folders.{Files}
use Rattle.regex_ast.specs.declared.fault.Fault.{Fault}
use Rattle.project_meaning.specs.Projects.{Project}
use Rattle.project_meaning.specs.Touched.{Touched}
use Rattle.project_sources.specs.Edits.{Changes, Edit, Holding, Version, held_in}
use Rattle.project_sources.specs.Faults.{Row}
use Rattle.project_sources.specs.Sources.{AreExact, Readers}
use Rattle.project_sources.proofs.Editing.{one_outcome}
use Rattle.project_sources.proofs.Once.{one_answer}
use Rattle.project_sources.proofs.SameFiles.{AreSame, same_answer}
use Rattle.reply_text.specs.Projects.{accepted_line, refused_line}
use Rattle.edit_script.specs.declared.commands.EditCommand.TheVariants as commands
use Rattle.editor_meaning.specs.Batches.{Batch, lost, no_batch, open_with}
use Rattle.editor_meaning.specs.Orders.{Order, bad, cut, whole}
use Rattle.editor_meaning.specs.Editing.{AreNames, AreReplies, Holds, RepliesToBegin, RepliesToAbandon, RepliesToChange, RepliesToCommit, RepliesToEdit, RepliesToOrder, accepted, fits, full, no_memory, refused, overfull, unkept}
use Rattle.editor_meaning.specs.Laws.{AreNumbered, AreOneReply, IsNoMemory, LooksUp}
use Rattle.editor_meaning.proofs.InOrder.{same_list}

-- files of one holding
same_files : (files others : Files) → held_in files ≡ held_in others → AreSame files others
same_files files others same name = ap (λ (held : Holding). held name) same

pub ok_one : {T E : Type 0} (a b : T) (r : Result T E) → r ≡ Ok a → r ≡ Ok b → a ≡ b
ok_one a b r e f = let both = sym e ∙ f in cc

err_one : {T E : Type 0} (a b : E) (r : Result T E) → r ≡ Err a → r ≡ Err b → a ≡ b
err_one a b r e f = let both = sym e ∙ f in cc

module _ (readers : Readers) (told : List Row) (exact : AreExact readers) (old : Version) (change : List Edit) where
  pub one_version : (a b : Version) → Changes readers told old change (Ok a) → Changes readers told old change (Ok b) → (a.number ≡ b.number) × (a.project ≡ b.project)
  one_version a b p q =
      let held : held_in a.files ≡ held_in b.files = ok_one (held_in a.files) (held_in b.files) (Ok (held_in a.files)) refl (one_outcome change (held_in old.files) (Ok (held_in a.files)) (Ok (held_in b.files)) p.0 q.0) in
      let says = same_answer readers a.files b.files (same_files a.files b.files held) told (Ok a.project) p.1 in
      (p.2 ∙ sym q.2, ok_one a.project b.project (Ok a.project) refl (one_answer readers exact b.files told (Ok a.project) (Ok b.project) says q.1))

  pub not_both : (a : Version) (found : Fault) → Changes readers told old change (Ok a) → Changes readers told old change (Err found) → ⊥
  not_both a found p (inl q) = let both = one_outcome change (held_in old.files) (Ok (held_in a.files)) (Err found) p.0 q in cc
  not_both a found p (inr (files, applied, says)) =
      let held : held_in files ≡ held_in a.files = ok_one (held_in files) (held_in a.files) (Ok (held_in files)) refl (one_outcome change (held_in old.files) (Ok (held_in files)) (Ok (held_in a.files)) applied p.0) in
      let both = one_answer readers exact a.files told (Ok a.project) (Err found) p.1 (same_answer readers files a.files (same_files files a.files held) told (Err found) says) in
      cc

  pub one_fault : (a b : Fault) → Changes readers told old change (Err a) → Changes readers told old change (Err b) → a ≡ b
  one_fault a b (inl p) (inl q) = err_one a b (Err a) refl (one_outcome change (held_in old.files) (Err a) (Err b) p q)
  one_fault a b (inl p) (inr (files, applied, says)) = let both = one_outcome change (held_in old.files) (Err a) (Ok (held_in files)) p applied in cc
  one_fault a b (inr (files, applied, says)) (inl q) = let both = one_outcome change (held_in old.files) (Ok (held_in files)) (Err b) applied q in cc
  one_fault a b (inr (files, applied, says)) (inr (others, applied2, says2)) =
      let held : held_in files ≡ held_in others = ok_one (held_in files) (held_in others) (Ok (held_in files)) refl (one_outcome change (held_in old.files) (Ok (held_in files)) (Ok (held_in others)) applied applied2) in
      err_one a b (Err a) refl (one_answer readers exact others told (Err a) (Err b) (same_answer readers files others (same_files files others held) told (Err a) says) says2)

-- names of one set are one list
pub one_names : (T : List ℕ → Type 0) (names others : List (List ℕ)) → AreNames T names → AreNames T others → names ≡ others
one_names T names others p q = same_list names others p.in_order q.in_order (λ name h. (q.all name).0 ((p.all name).1 h)) (λ name h. (p.all name).0 ((q.all name).1 h))

module _ (readers : Readers) (told : List Row) (exact : AreExact readers) (present : Version) where
  one_change : (change : List Edit) (a b : List ℕ) (new other : Option Version) → RepliesToChange readers told present change a new → RepliesToChange readers told present change b other → (a ≡ b) ⊎ IsNoMemory a ⊎ IsNoMemory b
  one_change change a b new other (no_memory is made) q = inr (inl is)
  one_change change a b new other p (no_memory is made) = inr (inr is)
  one_change change a b new other (full many is made) (full many2 is2 made2) = inl (is ∙ sym is2)
  one_change change a b new other (full many is made) (accepted next names few changes are is2 made2) = absurd (omega arith)
  one_change change a b new other (full many is made) (refused found few changes is2 made2) = absurd (omega arith)
  one_change change a b new other (accepted next names few changes are is made) (full many2 is2 made2) = absurd (omega arith)
  one_change change a b new other (refused found few changes is made) (full many2 is2 made2) = absurd (omega arith)
  one_change change a b new other (accepted next names few changes are is made) (accepted next2 names2 few2 changes2 are2 is2 made2) =
      let one = one_version readers told exact present change next next2 changes changes2 in
      let same : names ≡ names2 = one_names (Touched present.project next2.project) names names2 (subst (λ (p : Project). AreNames (Touched present.project p) names) one.1 are) are2 in
      inl (is ∙ ap (λ (n : ℕ). accepted_line n names) one.0 ∙ ap (accepted_line next2.number) same ∙ sym is2)
  one_change change a b new other (accepted next names few changes are is made) (refused found few2 changes2 is2 made2) = absurd (not_both readers told exact present change next found changes changes2)
  one_change change a b new other (refused found few changes is made) (accepted next names few2 changes2 are is2 made2) = absurd (not_both readers told exact present change next found changes2 changes)
  one_change change a b new other (refused found few changes is made) (refused found2 few2 changes2 is2 made2) =
      inl (is ∙ ap refused_line (one_fault readers told exact present change found found2 changes changes2) ∙ sym is2)

  -- the batch then is the same
  with_batch : (a b : List ℕ) (next other : Batch) → next ≡ other → (a ≡ b) ⊎ IsNoMemory a ⊎ IsNoMemory b → AreOneReply a b next other
  with_batch a b next other same (inl is) = inl (is, same)
  with_batch a b next other same (inr lacks) = inr lacks

  one_held : (held : List Edit) (edit : Edit) (a b : List ℕ) (next other : Batch) → Holds held edit a next → Holds held edit b other → AreOneReply a b next other
  one_held held edit a b next other (unkept few is then) q = inr (inl is)
  one_held held edit a b next other p (unkept few is then) = inr (inr is)
  one_held held edit a b next other (fits few is then) (fits few2 is2 then2) = inl (is ∙ sym is2, then ∙ sym then2)
  one_held held edit a b next other (fits few is then) (overfull many is2 then2) = absurd (omega (arith, few, many))
  one_held held edit a b next other (overfull many is then) (fits few is2 then2) = absurd (omega (arith, few, many))
  one_held held edit a b next other (overfull many is then) (overfull many2 is2 then2) = inl (is ∙ sym is2, then ∙ sym then2)

  one_edit : (batch : Batch) (edit : Edit) (a b : List ℕ) (new another : Option Version) (next other : Batch) → RepliesToEdit readers told present batch edit a new next → RepliesToEdit readers told present batch edit b another other → AreOneReply a b next other
  one_edit no_batch edit a b new another next other p q = with_batch a b next other (p.1 ∙ sym q.1) (one_change (edit ∷ []) a b new another p.0 q.0)
  one_edit (open_with held) edit a b new another next other p q = one_held held edit a b next other p.0 q.0
  one_edit lost edit a b new another next other p q = inl (p.0 ∙ sym q.0, p.2 ∙ sym q.2)

  one_begin : (batch : Batch) (a b : List ℕ) (next other : Batch) → RepliesToBegin batch a next → RepliesToBegin batch b other → AreOneReply a b next other
  one_begin no_batch a b next other p q = inl (p.0 ∙ sym q.0, p.1 ∙ sym q.1)
  one_begin (open_with held) a b next other p q = inl (p.0 ∙ sym q.0, p.1 ∙ sym q.1)
  one_begin lost a b next other p q = inl (p.0 ∙ sym q.0, p.1 ∙ sym q.1)

  one_commit : (batch : Batch) (a b : List ℕ) (new another : Option Version) (next other : Batch) → RepliesToCommit readers told present batch a new next → RepliesToCommit readers told present batch b another other → AreOneReply a b next other
  one_commit no_batch a b new another next other p q = inl (p.0 ∙ sym q.0, p.2 ∙ sym q.2)
  one_commit (open_with held) a b new another next other p q = with_batch a b next other (p.1 ∙ sym q.1) (one_change held a b new another p.0 q.0)
  one_commit lost a b new another next other p q = inl (p.0 ∙ sym q.0, p.2 ∙ sym q.2)

  one_abandon : (batch : Batch) (a b : List ℕ) (next other : Batch) → RepliesToAbandon batch a next → RepliesToAbandon batch b other → AreOneReply a b next other
  one_abandon no_batch a b next other p q = inl (p.0 ∙ sym q.0, p.1 ∙ sym q.1)
  one_abandon (open_with held) a b next other p q = inl (p.0 ∙ sym q.0, p.1 ∙ sym q.1)
  one_abandon lost a b next other p q = inl (p.0 ∙ sym q.0, p.1 ∙ sym q.1)

  one_order : (batch : Batch) (order : Order) → (LooksUp order → ⊥) → (a b : List ℕ) (new another : Option Version) (next other : Batch)
      → RepliesToOrder readers told present batch order a new next → RepliesToOrder readers told present batch order b another other → AreOneReply a b next other
  one_order batch bad none a b new another next other p q = inl (p.0 ∙ sym q.0, p.2 ∙ sym q.2)
  one_order batch cut none a b new another next other p q = inl (p.0 ∙ sym q.0, p.2 ∙ sym q.2)
  one_order batch (whole (commands.Put file n) lines) none a b new another next other p q = one_edit batch _ a b new another next other p q
  one_order batch (whole (commands.Splice file from count n) lines) none a b new another next other p q = one_edit batch _ a b new another next other p q
  one_order batch (whole (commands.Drop file) lines) none a b new another next other p q = one_edit batch _ a b new another next other p q
  one_order batch (whole (commands.Up net word) lines) none a b new another next other p q = absurd (none refl)
  one_order batch (whole (commands.Down net word) lines) none a b new another next other p q = absurd (none refl)
  one_order batch (whole commands.Begin lines) none a b new another next other p q = one_begin batch a b next other p.0 q.0
  one_order batch (whole commands.Commit lines) none a b new another next other p q = one_commit batch a b new another next other p q
  one_order batch (whole commands.Abandon lines) none a b new another next other p q = one_abandon batch a b next other p.0 q.0
  one_order batch (whole commands.End lines) none a b new another next other p q = absurd p

  none_made : (change : List Edit) (found : Fault) → Changes readers told present change (Err found) → (reply : List ℕ) (new : Option Version) → RepliesToChange readers told present change reply new → new ≡ None
  none_made change found changes reply new (full many is made) = made
  none_made change found changes reply new (accepted next names few changes2 are is made) = absurd (not_both readers told exact present change next found changes2 changes)
  none_made change found changes reply new (refused found2 few changes2 is made) = made
  none_made change found changes reply new (no_memory is made) = made

-- ---- numbers

-- the next version, if an order makes one
abbrev Next : Version → Option Version → Type 0
Next present new = (version : Version) → new ≡ Some version → version.number ≡ present.number + 1

no_next : (present : Version) (new : Option Version) → new ≡ None → Next present new
no_next present new none version is = let both : None ≡ Some version = sym none ∙ is in cc

module _ (readers : Readers) (told : List Row) (present : Version) where
  change_next : (change : List Edit) (reply : List ℕ) (new : Option Version) → RepliesToChange readers told present change reply new → Next present new
  change_next change reply new (full many is made) = no_next present new made
  change_next change reply new (accepted next names few changes are is made) = λ version found.
      let both : Some next ≡ Some version = sym made ∙ found in
      let same : next ≡ version = cc in
      ap (λ (v : Version). v.number) (sym same) ∙ changes.2
  change_next change reply new (refused found few changes is made) = no_next present new made
  change_next change reply new (no_memory is made) = no_next present new made

  edit_next : (batch : Batch) (edit : Edit) (reply : List ℕ) (new : Option Version) (next : Batch) → RepliesToEdit readers told present batch edit reply new next → Next present new
  edit_next no_batch edit reply new next h = change_next (edit ∷ []) reply new h.0
  edit_next (open_with held) edit reply new next h = no_next present new h.1
  edit_next lost edit reply new next h = no_next present new h.1

  commit_next : (batch : Batch) (reply : List ℕ) (new : Option Version) (next : Batch) → RepliesToCommit readers told present batch reply new next → Next present new
  commit_next no_batch reply new next h = no_next present new h.1
  commit_next (open_with held) reply new next h = change_next held reply new h.0
  commit_next lost reply new next h = no_next present new h.1

  order_next : (batch : Batch) (order : Order) (reply : List ℕ) (new : Option Version) (next : Batch) → RepliesToOrder readers told present batch order reply new next → Next present new
  order_next batch bad reply new next h = no_next present new h.1
  order_next batch cut reply new next h = no_next present new h.1
  order_next batch (whole (commands.Put file n) lines) reply new next h = edit_next batch _ reply new next h
  order_next batch (whole (commands.Splice file from count n) lines) reply new next h = edit_next batch _ reply new next h
  order_next batch (whole (commands.Drop file) lines) reply new next h = edit_next batch _ reply new next h
  order_next batch (whole (commands.Up net word) lines) reply new next h = no_next present new h.1
  order_next batch (whole (commands.Down net word) lines) reply new next h = no_next present new h.1
  order_next batch (whole commands.Begin lines) reply new next h = no_next present new h.1
  order_next batch (whole commands.Commit lines) reply new next h = commit_next batch reply new next h
  order_next batch (whole commands.Abandon lines) reply new next h = no_next present new h.1
  order_next batch (whole commands.End lines) reply new next h = absurd h

module _ (readers : Readers) (told : List Row) where
  pub numbers : (present : Version) (batch : Batch) (orders : List Order) (bytes : List ℕ) (made : List Version) → AreReplies readers told present batch orders bytes made → AreNumbered (present.number + 1) made
  numbers present batch [] bytes made h = subst (λ (vs : List Version). AreNumbered (present.number + 1) vs) (sym h.1) tt
  numbers present batch (order ∷ orders) bytes made (reply, rest, new, next, later, is, made_is, replies, further) =
      by new (order_next readers told present batch order reply new next replies) made_is (numbers (unwrap_or new present) next orders rest later further)
    where
      by : (new : Option Version) → Next present new → made ≡ option_to_list new ++ later → AreNumbered ((unwrap_or new present).number + 1) later → AreNumbered (present.number + 1) made
      by None next made_is behind = subst (λ (vs : List Version). AreNumbered (present.number + 1) vs) (sym made_is) behind
      by (Some version) next made_is behind =
          let number : version.number ≡ present.number + 1 = next version refl in
          subst (λ (vs : List Version). AreNumbered (present.number + 1) vs) (sym made_is) (number, subst (λ (n : ℕ). AreNumbered (n + 1) later) number behind)

pub one_reply_to_order : (readers : Readers) (told : List Row) → AreExact readers → (present : Version) (batch : Batch) (order : Order) → (LooksUp order → ⊥) → (a b : List ℕ) (new another : Option Version) (next other : Batch)
    → RepliesToOrder readers told present batch order a new next → RepliesToOrder readers told present batch order b another other → AreOneReply a b next other
one_reply_to_order = one_order

pub refused_makes_none : (readers : Readers) (told : List Row) → AreExact readers → (present : Version) (change : List Edit) (found : Fault) → Changes readers told present change (Err found)
    → (reply : List ℕ) (new : Option Version) → RepliesToChange readers told present change reply new → new ≡ None
refused_makes_none = none_made

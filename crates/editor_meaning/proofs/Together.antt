-- What an order gets depends on what the version's files hold, whichever way they are listed, so orders get the same from one version on.
use Rattle.std.proofs.Common.{◌≡◌, ◌<◌, ◌≤◌, ℕ, ◌+◌, ◌++◌, ◌==◌, Bool, false, List, [], ◌∷◌, Option, None, Some, Result, Ok, Err, ◌⊎◌, inl, inr, refl, sym, ap, subst, ◌∙◌, arith, true≢false}
use Rattle.std.specs.Prelude.{◌≢◌, codes}
use Rattle.std.specs.List.{AllZip}
use Rattle.std.specs.Option.{option_to_list, unwrap_or}
use Rattle.fsm_base.specs.Normal.{nfc_of}
use Rattle.fsm_io.specs.Folders.{Files}
use Rattle.regex_ast.specs.declared.fault.Fault.{Fault}
use Rattle.lookup_answers.specs.declared.direction.Direction.{Direction}
use Rattle.lookup_answers.specs.declared.direction.Direction.TheVariants.{Up, Down}
use Rattle.project_meaning.specs.Projects.{Defines, Project}
use Rattle.project_meaning.specs.Touched.{Touched}
use Rattle.project_sources.specs.Edits.{Apply, Changes, Edit, Holding, Version, held_in}
use Rattle.project_sources.specs.Faults.{Row}
use Rattle.project_sources.specs.Sources.{AreExact, Readers}
use Rattle.project_sources.proofs.Editing.{one_outcome}
use Rattle.project_sources.proofs.Once.{one_answer}
use Rattle.reply_meaning.specs.OneReply.{MayDiffer}
use Rattle.reply_meaning.specs.OneTranscript.{AnyZip}
use Rattle.reply_meaning.specs.Replies.{RepliesToWord, line_of}
use Rattle.reply_meaning.proofs.Replies.{word_replies}
use Rattle.reply_text.specs.Batches.{batch_line}
use Rattle.reply_text.specs.Projects.{accepted_line, refused_line}
use Rattle.reply_text.specs.declared.batches.BatchReply.TheVariants.{Held}
use Rattle.edit_script.specs.declared.commands.EditCommand.TheVariants as commands
use Rattle.editor_meaning.specs.Batches.{Batch, lost, no_batch, open_with}
use Rattle.editor_meaning.specs.Orders.{Order, bad, cut, whole}
use Rattle.editor_meaning.specs.Editing.{AreNames, AreReplies, Holds, IsEdited, IsLoaded, RepliesToAbandon, RepliesToBegin, RepliesToChange, RepliesToCommit, RepliesToEdit, RepliesToOrder, accepted, fits, full, most_edits, no_memory, overfull, refused, unkept}
use Rattle.editor_meaning.specs.Laws.{IsNoMemory, LooksUp}
use Rattle.editor_meaning.specs.OneTranscript.{Agree, AreOneTurn, AreSameMade, IsSameTurn, IsSameVersion, LeaveSame, Turn, TurnsDiffer, turn_at, turns_in, turns_of}
use Rattle.editor_meaning.proofs.Changing.{not_both, ok_one, one_fault, one_names, one_version}
use Rattle.editor_meaning.proofs.Reading.{one_reading}

-- ---- an order at the same version gets the same

module _ (present again : Version) (same : IsSameVersion present again) where
  same_held : held_in again.files ≡ held_in present.files
  same_held = λ i name. sym (same.files name) i

  moved_word : (direction : Direction) (net word reply : List ℕ) → RepliesToWord again.project direction again.number net word reply → RepliesToWord present.project direction present.number net word reply
  moved_word direction net word reply h =
      subst (λ (n : ℕ). RepliesToWord present.project direction n net word reply) (sym same.number) (subst (λ (p : Project). RepliesToWord p direction again.number net word reply) (sym same.project) h)

  module _ (readers : Readers) (told : List Row) where
    moved_changes : (change : List Edit) (result : Result Version Fault) → Changes readers told again change result → Changes readers told present change result
    moved_changes change (Ok new) (applied, says, number) =
        (subst (λ (held : Holding). Apply change held (Ok (held_in new.files))) same_held applied, says, number ∙ ap (λ (n : ℕ). n + 1) (sym same.number))
    moved_changes change (Err found) (inl applied) = inl (subst (λ (held : Holding). Apply change held (Err found)) same_held applied)
    moved_changes change (Err found) (inr (files, applied, says)) = inr (files, subst (λ (held : Holding). Apply change held (Ok (held_in files))) same_held applied, says)

    moved_change : (change : List Edit) (reply : List ℕ) (new : Option Version) → RepliesToChange readers told again change reply new → RepliesToChange readers told present change reply new
    moved_change change reply new (full many is made) = full (subst (λ (n : ℕ). most_edits < n) (sym same.number) many) is made
    moved_change change reply new (accepted next names few changes are is made) =
        accepted next names (subst (λ (n : ℕ). n ≤ most_edits) (sym same.number) few) (moved_changes change (Ok next) changes)
        (subst (λ (p : Project). AreNames (Touched p next.project) names) (sym same.project) are) is made
    moved_change change reply new (refused found few changes is made) =
        refused found (subst (λ (n : ℕ). n ≤ most_edits) (sym same.number) few) (moved_changes change (Err found) changes) is made
    moved_change change reply new (no_memory is made) = no_memory is made

    moved_edit : (batch : Batch) (edit : Edit) (reply : List ℕ) (new : Option Version) (next : Batch) → RepliesToEdit readers told again batch edit reply new next → RepliesToEdit readers told present batch edit reply new next
    moved_edit no_batch edit reply new next h = (moved_change (edit ∷ []) reply new h.0, h.1)
    moved_edit (open_with held) edit reply new next h = h
    moved_edit lost edit reply new next h = h

    moved_commit : (batch : Batch) (reply : List ℕ) (new : Option Version) (next : Batch) → RepliesToCommit readers told again batch reply new next → RepliesToCommit readers told present batch reply new next
    moved_commit no_batch reply new next h = h
    moved_commit (open_with held) reply new next h = (moved_change held reply new h.0, h.1)
    moved_commit lost reply new next h = h

-- ---- want of memory is told apart

-- the first byte of the line of `memory`
begins : List ℕ → Bool
begins [] = false
begins (b ∷ bytes) = b == 109

not_memory : (a b line : List ℕ) → IsNoMemory a → b ≡ line → begins line ≡ false → a ≢ b
unfolding begins
not_memory a b line is is2 other = λ same. true≢false (ap begins (sym is ∙ same ∙ is2) ∙ other)

nor_memory : (a b line : List ℕ) → a ≡ line → IsNoMemory b → begins line ≡ false → a ≢ b
nor_memory a b line is is2 other = λ same. not_memory b a line is2 is other (sym same)

-- ---- versions that are made

both_none : (new other : Option Version) → new ≡ None → other ≡ None → AreSameMade new other
both_none new other e f = subst (λ (n : Option Version). AreSameMade n other) (sym e) (subst (λ (o : Option Version). AreSameMade None o) (sym f) tt)

both_some : (new other : Option Version) (a b : Version) → new ≡ Some a → other ≡ Some b → IsSameVersion a b → AreSameMade new other
both_some new other a b e f same = subst (λ (n : Option Version). AreSameMade n other) (sym e) (subst (λ (o : Option Version). AreSameMade (Some a) o) (sym f) same)

-- the version that is present then
then_same : (present again : Version) → IsSameVersion present again → (new other : Option Version) → AreSameMade new other → IsSameVersion (unwrap_or new present) (unwrap_or other again)
then_same present again same None None made = same
then_same present again same None (Some b) made = absurd made
then_same present again same (Some a) None made = absurd made
then_same present again same (Some a) (Some b) made = made

-- one reply and the same version made, or want of memory in one
abbrev Meet : List ℕ → List ℕ → Option Version → Option Version → Type 0
Meet a b new other = ((a ≡ b) × AreSameMade new other) ⊎ ((a ≢ b) × ((IsNoMemory a × (new ≡ None)) ⊎ (IsNoMemory b × (other ≡ None))))

abbrev MeetWith : List ℕ → List ℕ → Option Version → Option Version → Batch → Batch → Type 0
MeetWith a b new other next after = ((a ≡ b) × AreSameMade new other × (next ≡ after)) ⊎ ((a ≢ b) × ((IsNoMemory a × (new ≡ None)) ⊎ (IsNoMemory b × (other ≡ None))))

module _ (readers : Readers) (told : List Row) (exact : AreExact readers) (present : Version) where
  same_version : (change : List Edit) (a b : Version) → Changes readers told present change (Ok a) → Changes readers told present change (Ok b) → IsSameVersion a b
  same_version change a b p q =
      let held : held_in a.files ≡ held_in b.files = ok_one (held_in a.files) (held_in b.files) (Ok (held_in a.files)) refl (one_outcome change (held_in present.files) (Ok (held_in a.files)) (Ok (held_in b.files)) p.0 q.0) in
      let one = one_version readers told exact present change a b p q in
      record { number = one.0; files = λ name. ap (λ (h : Holding). h name) held; project = one.1 }

  changes_meet : (change : List Edit) (a b : List ℕ) (new other : Option Version) → RepliesToChange readers told present change a new → RepliesToChange readers told present change b other → Meet a b new other
  unfolding begins
  changes_meet change a b new other (no_memory is made) (no_memory is2 made2) = inl (is ∙ sym is2, both_none new other made made2)
  changes_meet change a b new other (no_memory is made) (full many is2 made2) = inr (not_memory a b (line_of (codes "full")) is is2 refl, inl (is, made))
  changes_meet change a b new other (no_memory is made) (accepted next names few changes are is2 made2) = inr (not_memory a b (accepted_line next.number names) is is2 refl, inl (is, made))
  changes_meet change a b new other (no_memory is made) (refused found few changes is2 made2) = inr (not_memory a b (refused_line found) is is2 refl, inl (is, made))
  changes_meet change a b new other (full many is made) (no_memory is2 made2) = inr (nor_memory a b (line_of (codes "full")) is is2 refl, inr (is2, made2))
  changes_meet change a b new other (accepted next names few changes are is made) (no_memory is2 made2) = inr (nor_memory a b (accepted_line next.number names) is is2 refl, inr (is2, made2))
  changes_meet change a b new other (refused found few changes is made) (no_memory is2 made2) = inr (nor_memory a b (refused_line found) is is2 refl, inr (is2, made2))
  changes_meet change a b new other (full many is made) (full many2 is2 made2) = inl (is ∙ sym is2, both_none new other made made2)
  changes_meet change a b new other (full many is made) (accepted next names few changes are is2 made2) = absurd (omega arith)
  changes_meet change a b new other (full many is made) (refused found few changes is2 made2) = absurd (omega arith)
  changes_meet change a b new other (accepted next names few changes are is made) (full many2 is2 made2) = absurd (omega arith)
  changes_meet change a b new other (refused found few changes is made) (full many2 is2 made2) = absurd (omega arith)
  changes_meet change a b new other (accepted next names few changes are is made) (accepted next2 names2 few2 changes2 are2 is2 made2) =
      let one = same_version change next next2 changes changes2 in
      let same : names ≡ names2 = one_names (Touched present.project next2.project) names names2 (subst (λ (p : Project). AreNames (Touched present.project p) names) one.project are) are2 in
      inl (is ∙ ap (λ (n : ℕ). accepted_line n names) one.number ∙ ap (accepted_line next2.number) same ∙ sym is2, both_some new other next next2 made made2 one)
  changes_meet change a b new other (accepted next names few changes are is made) (refused found few2 changes2 is2 made2) = absurd (not_both readers told exact present change next found changes changes2)
  changes_meet change a b new other (refused found few changes is made) (accepted next names few2 changes2 are is2 made2) = absurd (not_both readers told exact present change next found changes2 changes)
  changes_meet change a b new other (refused found few changes is made) (refused found2 few2 changes2 is2 made2) =
      inl (is ∙ ap refused_line (one_fault readers told exact present change found found2 changes changes2) ∙ sym is2, both_none new other made made2)

  with_batch : (a b : List ℕ) (new other : Option Version) (next after : Batch) → next ≡ after → Meet a b new other → MeetWith a b new other next after
  with_batch a b new other next after same (inl (is, made)) = inl (is, made, same)
  with_batch a b new other next after same (inr lacks) = inr lacks

  holds_meet : (held : List Edit) (edit : Edit) (a b : List ℕ) (new other : Option Version) (next after : Batch) → new ≡ None → other ≡ None → Holds held edit a next → Holds held edit b after → MeetWith a b new other next after
  unfolding begins
  holds_meet held edit a b new other next after e f (unkept few is then) (unkept few2 is2 then2) = inl (is ∙ sym is2, both_none new other e f, then ∙ sym then2)
  holds_meet held edit a b new other next after e f (unkept few is then) (fits few2 is2 then2) = inr (not_memory a b (batch_line Held) is is2 refl, inl (is, e))
  holds_meet held edit a b new other next after e f (unkept few is then) (overfull many is2 then2) = absurd (omega (arith, few, many))
  holds_meet held edit a b new other next after e f (fits few is then) (unkept few2 is2 then2) = inr (nor_memory a b (batch_line Held) is is2 refl, inr (is2, f))
  holds_meet held edit a b new other next after e f (overfull many is then) (unkept few is2 then2) = absurd (omega (arith, few, many))
  holds_meet held edit a b new other next after e f (fits few is then) (fits few2 is2 then2) = inl (is ∙ sym is2, both_none new other e f, then ∙ sym then2)
  holds_meet held edit a b new other next after e f (fits few is then) (overfull many is2 then2) = absurd (omega (arith, few, many))
  holds_meet held edit a b new other next after e f (overfull many is then) (fits few is2 then2) = absurd (omega (arith, few, many))
  holds_meet held edit a b new other next after e f (overfull many is then) (overfull many2 is2 then2) = inl (is ∙ sym is2, both_none new other e f, then ∙ sym then2)

  edits_meet : (batch : Batch) (edit : Edit) (a b : List ℕ) (new other : Option Version) (next after : Batch) → RepliesToEdit readers told present batch edit a new next → RepliesToEdit readers told present batch edit b other after → MeetWith a b new other next after
  edits_meet no_batch edit a b new other next after p q = with_batch a b new other next after (p.1 ∙ sym q.1) (changes_meet (edit ∷ []) a b new other p.0 q.0)
  edits_meet (open_with held) edit a b new other next after p q = holds_meet held edit a b new other next after p.1 q.1 p.0 q.0
  edits_meet lost edit a b new other next after p q = inl (p.0 ∙ sym q.0, both_none new other p.1 q.1, p.2 ∙ sym q.2)

  begins_meet : (batch : Batch) (a b : List ℕ) (new other : Option Version) (next after : Batch) → RepliesToBegin batch a next × (new ≡ None) → RepliesToBegin batch b after × (other ≡ None) → MeetWith a b new other next after
  begins_meet no_batch a b new other next after p q = inl (p.0.0 ∙ sym q.0.0, both_none new other p.1 q.1, p.0.1 ∙ sym q.0.1)
  begins_meet (open_with held) a b new other next after p q = inl (p.0.0 ∙ sym q.0.0, both_none new other p.1 q.1, p.0.1 ∙ sym q.0.1)
  begins_meet lost a b new other next after p q = inl (p.0.0 ∙ sym q.0.0, both_none new other p.1 q.1, p.0.1 ∙ sym q.0.1)

  commits_meet : (batch : Batch) (a b : List ℕ) (new other : Option Version) (next after : Batch) → RepliesToCommit readers told present batch a new next → RepliesToCommit readers told present batch b other after → MeetWith a b new other next after
  commits_meet no_batch a b new other next after p q = inl (p.0 ∙ sym q.0, both_none new other p.1 q.1, p.2 ∙ sym q.2)
  commits_meet (open_with held) a b new other next after p q = with_batch a b new other next after (p.1 ∙ sym q.1) (changes_meet held a b new other p.0 q.0)
  commits_meet lost a b new other next after p q = inl (p.0 ∙ sym q.0, both_none new other p.1 q.1, p.2 ∙ sym q.2)

  abandons_meet : (batch : Batch) (a b : List ℕ) (new other : Option Version) (next after : Batch) → RepliesToAbandon batch a next × (new ≡ None) → RepliesToAbandon batch b after × (other ≡ None) → MeetWith a b new other next after
  abandons_meet no_batch a b new other next after p q = inl (p.0.0 ∙ sym q.0.0, both_none new other p.1 q.1, p.0.1 ∙ sym q.0.1)
  abandons_meet (open_with held) a b new other next after p q = inl (p.0.0 ∙ sym q.0.0, both_none new other p.1 q.1, p.0.1 ∙ sym q.0.1)
  abandons_meet lost a b new other next after p q = inl (p.0.0 ∙ sym q.0.0, both_none new other p.1 q.1, p.0.1 ∙ sym q.0.1)

module _ (readers : Readers) (told : List Row) (exact : AreExact readers) (present again : Version) (same : IsSameVersion present again) where
  turns_meet : (order : Order) → (LooksUp order → ⊥) → (a b : List ℕ) (new other : Option Version) (next after : Batch) → MeetWith a b new other next after
      → AreOneTurn (turn_at present order a new next) (turn_at again order b other after)
  turns_meet order none a b new other next after (inl (is, made, batch)) = record { order = refl; number = same.number; turns = inl (record { reply = is; leave = record { made = made; batch = batch } }) }
  turns_meet order none a b new other next after (inr (apart, lacks)) = record { order = refl; number = same.number; turns = inr (inr (record { no_look = none; apart = apart; lacks = lacks })) }

  looks_meet : (order : Order) → LooksUp order → (a b : List ℕ) (new other : Option Version) (next after : Batch) → new ≡ None → other ≡ None → next ≡ after → (a ≡ b) ⊎ MayDiffer present.number a b
      → AreOneTurn (turn_at present order a new next) (turn_at again order b other after)
  looks_meet order looks a b new other next after e f then (inl is) =
      record { order = refl; number = same.number; turns = inl (record { reply = is; leave = record { made = both_none new other e f; batch = then } }) }
  looks_meet order looks a b new other next after e f then (inr differ) =
      record { order = refl; number = same.number; turns = inr (inl (record { looks = looks; replies = differ; none = (e, f); batch = then })) }

  pub one_turn : (batch : Batch) (order : Order) (a b : List ℕ) (new another : Option Version) (next other : Batch)
      → RepliesToOrder readers told present batch order a new next → RepliesToOrder readers told again batch order b another other
      → AreOneTurn (turn_at present order a new next) (turn_at again order b another other)
  one_turn batch bad a b new another next other p q = turns_meet bad (λ none. none) a b new another next other (inl (p.0 ∙ sym q.0, both_none new another p.1 q.1, p.2 ∙ sym q.2))
  one_turn batch cut a b new another next other p q = turns_meet cut (λ none. none) a b new another next other (inl (p.0 ∙ sym q.0, both_none new another p.1 q.1, p.2 ∙ sym q.2))
  one_turn batch (whole (commands.Put file n) lines) a b new another next other p q =
      turns_meet (whole (commands.Put file n) lines) (λ e. cc) a b new another next other (edits_meet readers told exact present batch _ a b new another next other p (moved_edit present again same readers told batch _ b another other q))
  one_turn batch (whole (commands.Splice file from count n) lines) a b new another next other p q =
      turns_meet (whole (commands.Splice file from count n) lines) (λ e. cc) a b new another next other (edits_meet readers told exact present batch _ a b new another next other p (moved_edit present again same readers told batch _ b another other q))
  one_turn batch (whole (commands.Drop file) lines) a b new another next other p q =
      turns_meet (whole (commands.Drop file) lines) (λ e. cc) a b new another next other (edits_meet readers told exact present batch _ a b new another next other p (moved_edit present again same readers told batch _ b another other q))
  one_turn batch (whole (commands.Up net word) lines) a b new another next other p q =
      looks_meet (whole (commands.Up net word) lines) refl a b new another next other p.1 q.1 (p.2 ∙ sym q.2)
      (word_replies present.project Up present.number (nfc_of net) (nfc_of word) a b p.0 (moved_word present again same Up (nfc_of net) (nfc_of word) b q.0))
  one_turn batch (whole (commands.Down net word) lines) a b new another next other p q =
      looks_meet (whole (commands.Down net word) lines) refl a b new another next other p.1 q.1 (p.2 ∙ sym q.2)
      (word_replies present.project Down present.number (nfc_of net) (nfc_of word) a b p.0 (moved_word present again same Down (nfc_of net) (nfc_of word) b q.0))
  one_turn batch (whole commands.Begin lines) a b new another next other p q = turns_meet (whole commands.Begin lines) (λ e. cc) a b new another next other (begins_meet readers told exact present batch a b new another next other p q)
  one_turn batch (whole commands.Commit lines) a b new another next other p q =
      turns_meet (whole commands.Commit lines) (λ e. cc) a b new another next other (commits_meet readers told exact present batch a b new another next other p (moved_commit present again same readers told batch b another other q))
  one_turn batch (whole commands.Abandon lines) a b new another next other p q = turns_meet (whole commands.Abandon lines) (λ e. cc) a b new another next other (abandons_meet readers told exact present batch a b new another next other p q)
  one_turn batch (whole commands.End lines) a b new another next other p q = absurd p

module _ (readers : Readers) (told : List Row) where
  pub nothing_changed : (present : Version) (batch : Batch) (order : Order) → LooksUp order → (reply : List ℕ) (new : Option Version) (next : Batch) → RepliesToOrder readers told present batch order reply new next → (new ≡ None) × (next ≡ batch)
  nothing_changed present batch bad looks reply new next h = absurd looks
  nothing_changed present batch cut looks reply new next h = absurd looks
  nothing_changed present batch (whole (commands.Put file n) lines) looks reply new next h = cc
  nothing_changed present batch (whole (commands.Splice file from count n) lines) looks reply new next h = cc
  nothing_changed present batch (whole (commands.Drop file) lines) looks reply new next h = cc
  nothing_changed present batch (whole (commands.Up net word) lines) looks reply new next h = (h.1, h.2)
  nothing_changed present batch (whole (commands.Down net word) lines) looks reply new next h = (h.1, h.2)
  nothing_changed present batch (whole commands.Begin lines) looks reply new next h = cc
  nothing_changed present batch (whole commands.Commit lines) looks reply new next h = cc
  nothing_changed present batch (whole commands.Abandon lines) looks reply new next h = cc
  nothing_changed present batch (whole commands.End lines) looks reply new next h = absurd h

module _ (readers : Readers) (told : List Row) (exact : AreExact readers) where
  pub one_loaded : (files : Files) (a b : Version) → IsLoaded readers told files a → IsLoaded readers told files b → IsSameVersion a b
  one_loaded files a b p q = record {
    number = p.first ∙ sym q.first;
    files = λ name. ap (λ (fs : Files). held_in fs name) (p.files_are ∙ sym q.files_are);
    project = ok_one a.project b.project (Ok a.project) refl (one_answer readers exact files told (Ok a.project) (Ok b.project) p.says q.says);
  }

  -- orders, one after another
  agree : (present again : Version) → IsSameVersion present again → (batch other : Batch) → batch ≡ other → (orders : List Order) (bytes others : List ℕ) (made more : List Version)
      (p : AreReplies readers told present batch orders bytes made) (q : AreReplies readers told again other orders others more)
      → Agree (turns_of readers told present batch orders bytes made p) (turns_of readers told again other orders others more q)
  agree present again same batch other then [] bytes others made more p q = tt
  agree present again same batch other then (order ∷ orders) bytes others made more (reply, rest, new, next, later, is, made_is, lawful, further) (reply2, rest2, new2, next2, later2, is2, made_is2, lawful2, further2) = (
    one_turn readers told exact present again same batch order reply reply2 new new2 next next2 lawful (subst (λ (b : Batch). RepliesToOrder readers told again b order reply2 new2 next2) (sym then) lawful2),
    λ leave. agree (unwrap_or new present) (unwrap_or new2 again) (then_same present again same new new2 leave.made) next next2 leave.batch orders rest rest2 later later2 further further2,
  )

  -- the versions that are made in front of others
  made_all : (new other : Option Version) (later behind made more : List Version) → AreSameMade new other → made ≡ option_to_list new ++ later → more ≡ option_to_list other ++ behind → AllZip IsSameVersion later behind
      → AllZip IsSameVersion made more
  made_all None None later behind made more same e f zip = subst (λ (vs : List Version). AllZip IsSameVersion vs more) (sym e) (subst (λ (vs : List Version). AllZip IsSameVersion later vs) (sym f) zip)
  made_all None (Some b) later behind made more same e f zip = absurd same
  made_all (Some a) None later behind made more same e f zip = absurd same
  made_all (Some a) (Some b) later behind made more same e f zip =
      subst (λ (vs : List Version). AllZip IsSameVersion vs more) (sym e) (subst (λ (vs : List Version). AllZip IsSameVersion (a ∷ later) vs) (sym f) (same, zip))

  behind : {All Rest Others : Type 0} (a b : Turn) → IsSameTurn a b ⊎ TurnsDiffer a b → (LeaveSame a b → Rest ⊎ Others) → (IsSameTurn a b → Rest → All) → All ⊎ TurnsDiffer a b ⊎ Others
  behind a b (inr differ) rest with_first = inr (inl differ)
  behind {All} {Rest} {Others} a b (inl one) rest with_first = by (rest one.leave)
    where
      by : Rest ⊎ Others → All ⊎ TurnsDiffer a b ⊎ Others
      by (inl same) = inl (with_first one same)
      by (inr differ) = inr (inr differ)

  one_bytes : (present again : Version) → IsSameVersion present again → (batch other : Batch) → batch ≡ other → (orders : List Order) (bytes others : List ℕ) (made more : List Version)
      (p : AreReplies readers told present batch orders bytes made) (q : AreReplies readers told again other orders others more)
      → ((bytes ≡ others) × AllZip IsSameVersion made more) ⊎ AnyZip TurnsDiffer (turns_of readers told present batch orders bytes made p) (turns_of readers told again other orders others more q)
  one_bytes present again same batch other then [] bytes others made more p q =
      inl (p.0 ∙ sym q.0, subst (λ (vs : List Version). AllZip IsSameVersion vs more) (sym p.1) (subst (λ (vs : List Version). AllZip IsSameVersion [] vs) (sym q.1) tt))
  one_bytes present again same batch other then (order ∷ orders) bytes others made more (reply, rest, new, next, later, is, made_is, lawful, further) (reply2, rest2, new2, next2, later2, is2, made_is2, lawful2, further2) =
      behind (turn_at present order reply new next) (turn_at again order reply2 new2 next2)
      (one_turn readers told exact present again same batch order reply reply2 new new2 next next2 lawful (subst (λ (b : Batch). RepliesToOrder readers told again b order reply2 new2 next2) (sym then) lawful2)).turns
      (λ leave. one_bytes (unwrap_or new present) (unwrap_or new2 again) (then_same present again same new new2 leave.made) next next2 leave.batch orders rest rest2 later later2 further further2)
      (λ one all. (is ∙ (λ i. one.reply i ++ all.0 i) ∙ sym is2, made_all new new2 later later2 made more one.leave.made made_is made_is2 all.1))

  pub one_transcript : (loaded again : Version) → IsSameVersion loaded again → (ended : Bool) (lines : List (List ℕ)) (bytes others : List ℕ) (versions more : List Version)
      (p : IsEdited readers told loaded ended lines bytes versions) (q : IsEdited readers told again ended lines others more)
      → let turns = turns_in readers told loaded ended lines bytes versions p in let also = turns_in readers told again ended lines others more q in
      (p.names ≡ q.names) × Agree turns also × (((bytes ≡ others) × AllZip IsSameVersion versions more) ⊎ AnyZip TurnsDiffer turns also)
  one_transcript loaded again same ended lines bytes others versions more p q =
      let one : p.orders ≡ q.orders = one_reading ended lines p.orders q.orders p.are_orders q.are_orders in
      let names : p.names ≡ q.names = one_names (Defines again.project) p.names q.names (subst (λ (r : Project). AreNames (Defines r) p.names) same.project p.are_names) q.are_names in
      let front : accepted_line loaded.number p.names ≡ accepted_line again.number q.names = ap (λ (n : ℕ). accepted_line n p.names) same.number ∙ ap (accepted_line again.number) names in (
        names,
        subst (λ (os : List Order). (r : AreReplies readers told again no_batch os q.replies q.made) → Agree (turns_of readers told loaded no_batch p.orders p.replies p.made p.are_replies) (turns_of readers told again no_batch os q.replies q.made r)) one
            (agree loaded again same no_batch no_batch refl p.orders p.replies q.replies p.made q.made p.are_replies) q.are_replies,
        with_first front (subst (λ (os : List Order). (r : AreReplies readers told again no_batch os q.replies q.made)
            → ((p.replies ≡ q.replies) × AllZip IsSameVersion p.made q.made) ⊎ AnyZip TurnsDiffer (turns_of readers told loaded no_batch p.orders p.replies p.made p.are_replies) (turns_of readers told again no_batch os q.replies q.made r)) one
            (one_bytes loaded again same no_batch no_batch refl p.orders p.replies q.replies p.made q.made p.are_replies) q.are_replies),
      )
    where
      with_first : {D : Type 0} → accepted_line loaded.number p.names ≡ accepted_line again.number q.names → ((p.replies ≡ q.replies) × AllZip IsSameVersion p.made q.made) ⊎ D → ((bytes ≡ others) × AllZip IsSameVersion versions more) ⊎ D
      with_first front (inl (ends, zip)) =
          inl (
            p.bytes_are ∙ (λ i. front i ++ ends i) ∙ sym q.bytes_are,
            subst (λ (vs : List Version). AllZip IsSameVersion vs more) (sym p.versions_are) (subst (λ (vs : List Version). AllZip IsSameVersion (loaded ∷ p.made) vs) (sym q.versions_are) (same, zip)),
          )
      with_first front (inr differ) = inr differ

-- How a run ends beside lanes, by what it did, and what follows of its status.
use Rattle.std.proofs.Common.{◌≡◌, ◌≢◌, ◌⊎◌, ◌<◌, ◌≤◌, ℕ, zero, suc, List, [], ◌∷◌, Option, None, Some, Ok, Err, length, slice_get, refl, sym, ap, ◌∙◌, inl, inr, arith}
use Rattle.fsm_io.specs.Causes.{Rose}
use Rattle.fsm_io.specs.Folders.{Files, Told, IsTold, file_of}
use Rattle.generated_report.specs.Reports.{IsReport}
use Rattle.interlinear.specs.Glosses.{Entry}
use Rattle.interlinear.specs.Replies.{GlossesLine}
use Rattle.lane_session.specs.Lanes.{IsServed, LaneView}
use Rattle.editor_session.specs.Endings.{worse, worst}
use Rattle.editor_session.specs.Live.{AreServed, HasCauses, IsLive}
use Rattle.lookup_answers.specs.declared.direction.Direction.{Direction}
use Rattle.project_meaning.specs.Projects.{Project}
use Rattle.project_sources.specs.Edits.{Version}
use Rattle.project_store.specs.Loaded.{AreNames}
use Rattle.project_store.specs.Projects.{HasTable, Reads}
use Rattle.project_versions.specs.Looks.{RepliesToLook}
use Rattle.project_versions.specs.Versions.{VersionView}
use Rattle.regex_ast.specs.declared.fault.Fault.{Fault}
use Rattle.reply_meaning.specs.declared.ending.Ending.{Ending}
use Rattle.reply_meaning.specs.declared.ending.Ending.TheVariants.{Finished, WriteFailed, ReadFailed, Spent}
use Rattle.reply_meaning.specs.Replies.{Replies}
use Rattle.reply_text.specs.Projects.{accepted_line, refused_line}
use Rattle.fsm_program.specs.Beside.{EndsBeside, HasServed, LaneFailed, LaneReadFailed, LaneSpent, LaneWriteFailed, Lanes, OfSomeLane, alone, served}
use Rattle.named_networks.specs.Comparisons.{IsCompared}
use Rattle.named_networks.specs.Responses.{Response}
use Rattle.named_networks.specs.Texts.{IsAtt}
use Rattle.named_networks.specs.declared.told.Question.{Question}
use Rattle.pair_lines.specs.Replies.{HasGrammar, RefusesPairs, RepliesToPairs}
use Rattle.project_meaning.specs.Leaves.{Leaf}
use Rattle.project_meaning.specs.Trees.{Grammar}
use Rattle.saved_networks.specs.Faults.{file_fault}
use Rattle.saved_networks.specs.Refusals.{refused_line as file_refused_line}
use Rattle.saved_networks.specs.Replies.{RepliesBySaved}
use Rattle.saved_networks.specs.declared.faults.SavedWhy.{SavedWhy}
use Rattle.fsm_program.specs.Ends.{Asked, Declines, HaveFault, IsAnswered, Loads, no_memory, for_att, for_check, for_compared, for_gen, for_help, for_look, for_pairs, for_saved, for_serve, glosses_in, response_bytes, response_status, status_of, usage_text, words_in}
use Rattle.fsm_program.specs.Saved.{HasSavedText, IsSavedFault}
use Rattle.fsm_program.specs.Outside.{FolderFailed, Outside, ReadNothing, Wrote, WroteNothing}
use Rattle.fsm_program.specs.Running.{HasSpent, most_taken}
use Rattle.fsm_program.specs.Serving.{IsFirstVersion}
use Rattle.fsm_program.proofs.Endings.{same_count}
use Rattle.fsm_program.proofs.Outcomes.{att, check, compare, completes, completes_saved, declined_cause, fault_cause, gloss, help, look, look_saved, make, pair, refusal, spent_cause, unsaid, unserved, usage_cause}
use Rattle.fsm_program.proofs.Unique.{answered_other, answered_seven, asks_none, check_serve, look_serve, no_fault, no_help, no_load, one_told, same_asked, same_project}

-- of two endings the one that is told
worse_of : (a b e : Ending) → e ≢ Finished → worse a b ≡ e → (a ≡ e) ⊎ (b ≡ e)
worse_of Finished b e other is = inr is
worse_of Spent Finished e other is = inl is
worse_of Spent Spent e other is = inl is
worse_of Spent ReadFailed e other is = inr is
worse_of Spent WriteFailed e other is = inr is
worse_of ReadFailed WriteFailed e other is = inr is
worse_of ReadFailed Finished e other is = inl is
worse_of ReadFailed Spent e other is = inl is
worse_of ReadFailed ReadFailed e other is = inl is
worse_of WriteFailed b e other is = inl is

-- what is told of several stands among them
worst_among : (endings : List Ending) (e : Ending) → e ≢ Finished → worst endings ≡ e → (i : ℕ) × (slice_get endings i ≡ Some e)
worst_among [] e other is = absurd (other (sym is))
worst_among (a ∷ endings) e other is = elim (worse_of a (worst endings) e other is) as (λ _. (i : ℕ) × (slice_get (a ∷ endings) i ≡ Some e)) [
  | inl first ↦ (0, ap (λ (x : Ending). Some x) first)
  | inr rest ↦ let found = worst_among endings e other rest in (suc found.0, found.1)
]

-- the place of what stands in a list, and what stands at a place
place_below : {A : Type 0} (xs : List A) (i : ℕ) (x : A) → slice_get xs i ≡ Some x → i < length xs
place_below [] i x at = cc
place_below (y ∷ xs) zero x at = omega arith
place_below (y ∷ xs) (suc i) x at = omega (arith, place_below xs i x at)

stands_at : {A : Type 0} (xs : List A) (i : ℕ) → i < length xs → (x : A) × (slice_get xs i ≡ Some x)
stands_at [] i below = absurd (omega (arith, below))
stands_at (y ∷ xs) zero below = (y, refl)
stands_at (y ∷ xs) (suc i) below = stands_at xs i (omega (arith, below))

-- the status of an ending
write_status : (e : Ending) → status_of e ≡ 4 → e ≡ WriteFailed
write_status Finished s = absurd (omega (arith, s))
write_status WriteFailed s = refl
write_status ReadFailed s = absurd (omega (arith, s))
write_status Spent s = absurd (omega (arith, s))

read_status : (e : Ending) → status_of e ≡ 3 → e ≡ ReadFailed
read_status Finished s = absurd (omega (arith, s))
read_status WriteFailed s = absurd (omega (arith, s))
read_status ReadFailed s = refl
read_status Spent s = absurd (omega (arith, s))

spent_status : (e : Ending) → status_of e ≡ 6 → e ≡ Spent
spent_status Finished s = absurd (omega (arith, s))
spent_status WriteFailed s = absurd (omega (arith, s))
spent_status ReadFailed s = absurd (omega (arith, s))
spent_status Spent s = refl

-- the lane that ended so
module _ {versions : List Version} {budget : ℕ} {old new : Lanes} {endings : List Ending} (are : AreServed versions budget old new endings) where
  lane_that : {P : LaneView VersionView → LaneView VersionView → Type 0} (e : Ending) → ((before after : LaneView VersionView) → IsServed RepliesToLook versions budget before after e → P before after)
      → (i : ℕ) → slice_get endings i ≡ Some e → OfSomeLane P old new
  lane_that e so i at =
      let below = place_below endings i e at in
      let before = stands_at old i (omega (arith, below, are.count)) in
      let after = stands_at new i (omega (arith, below, are.count, are.lanes)) in
      (i, before.0, after.0, before.1, after.1, so before.0 after.0 (are.each i before.0 after.0 e before.1 after.1 at))

-- the causes of the statuses of a run whose commands were served
module _ {loaded : Version} {left0 left held0 held : Option (List ℕ)} {reads0 reads writes0 writes : ℕ} {old new : Lanes} (ending : Ending) (endings : List Ending)
    (live : IsLive loaded most_taken left0 left held0 held ending old new endings) (causes : HasCauses reads0 reads writes0 writes ending) where
  pub served_read : (status : ℕ) → status ≡ status_of (worst (ending ∷ endings)) → status ≡ 3 → Rose reads0 reads ⊎ OfSomeLane LaneReadFailed old new
  served_read status s three =
      let is = read_status (worst (ending ∷ endings)) (sym s ∙ three) in
      let other : ReadFailed ≢ Finished = λ (e : ReadFailed ≡ Finished). cc in
      elim (worse_of ending (worst endings) ReadFailed other is) as (λ _. Rose reads0 reads ⊎ OfSomeLane LaneReadFailed old new) [
        | inl own ↦ inl (causes.read own)
        | inr of_lanes ↦ let found = worst_among endings ReadFailed other of_lanes in inr (lane_that live.served ReadFailed (λ a b lane. lane.causes.read refl) found.0 found.1)
      ]

  pub served_write : (status : ℕ) → status ≡ status_of (worst (ending ∷ endings)) → status ≡ 4 → Rose writes0 writes ⊎ OfSomeLane LaneWriteFailed old new
  served_write status s four =
      let is = write_status (worst (ending ∷ endings)) (sym s ∙ four) in
      let other : WriteFailed ≢ Finished = λ (e : WriteFailed ≡ Finished). cc in
      elim (worse_of ending (worst endings) WriteFailed other is) as (λ _. Rose writes0 writes ⊎ OfSomeLane LaneWriteFailed old new) [
        | inl own ↦ inl (causes.write own)
        | inr of_lanes ↦ let found = worst_among endings WriteFailed other of_lanes in inr (lane_that live.served WriteFailed (λ a b lane. lane.causes.write refl) found.0 found.1)
      ]

  pub served_spent : (status : ℕ) → status ≡ status_of (worst (ending ∷ endings)) → status ≡ 6 → HasSpent left0 left ⊎ OfSomeLane LaneSpent old new
  served_spent status s six =
      let is = spent_status (worst (ending ∷ endings)) (sym s ∙ six) in
      let other : Spent ≢ Finished = λ (e : Spent ≡ Finished). cc in
      elim (worse_of ending (worst endings) Spent other is) as (λ _. HasSpent left0 left ⊎ OfSomeLane LaneSpent old new) [
        | inl own ↦ inl (live.edited.taken, live.edited.consumed, live.edited.spends own)
        | inr of_lanes ↦ let found = worst_among endings Spent other of_lanes in inr (lane_that live.served Spent (λ a b lane. (lane.answered.taken, lane.answered.consumed, lane.answered.spends refl)) found.0 found.1)
      ]

-- the commands were served, or there was no memory for the first line
pub ends_served : (version : ℕ) (before after : Outside) (old new : Lanes) (status : ℕ) (loaded : Version) → Told before.files (λ fs. Reads fs (Ok loaded.project)) × Told before.files (IsFirstVersion loaded) → ¬ FolderFailed before after
    → before.folder_faults ≤ after.folder_faults → (status ≡ 5 → ReadNothing before after × WroteNothing before after × (new ≡ old))
    → ((ending : Ending) × (endings : List Ending) × (status ≡ status_of (worst (ending ∷ endings))) × IsLive loaded most_taken before.input after.input before.output after.output ending old new endings
    × HasCauses before.input_faults after.input_faults before.output_faults after.output_faults ending) ⊎ (status ≡ 5) → EndsBeside version (Some for_serve) before after old new status
ends_served version before after old new status loaded told whole later nothing either =
    elim either as (λ _. EndsBeside version (Some for_serve) before after old new status) [
      | inl serves ↦ served loaded refl whole told.0 (told.1, serves)
      | inr is ↦ let none = nothing is in alone (no_memory for_serve refl tt (same_count before.folder_faults after.folder_faults later whole) none.0 none.1 is) none.2
    ]

module _ {version : ℕ} {asked : Option Asked} {before after : Outside} {old new : Lanes} {status : ℕ} where
  pub unsaid_beside : EndsBeside version asked before after old new status → asked ≡ None → Wrote before after usage_text 1 status
  unsaid_beside (alone ends same) e = unsaid ends e
  unsaid_beside (served loaded is whole told serves) e = asks_none asked for_serve e is

  pub help_beside : EndsBeside version asked before after old new status → asked ≡ Some for_help → Wrote before after usage_text 0 status
  help_beside (alone ends same) e = help ends e
  help_beside (served loaded is whole told serves) e = no_help asked for_serve e is tt

  pub usage_beside : EndsBeside version asked before after old new status → status ≡ 1 → asked ≡ None
  usage_beside (alone ends same) e = usage_cause ends e
  usage_beside (served loaded is whole told (first, (ending, endings, s, live, causes))) e = answered_other (worst (ending ∷ endings)) 1 s e (inl refl)

  pub fault_beside : EndsBeside version asked before after old new status → status ≡ 2 → HaveFault asked before.files × ¬ FolderFailed before after
  fault_beside (alone ends same) e = fault_cause ends e
  fault_beside (served loaded is whole told (first, (ending, endings, s, live, causes))) e = answered_other (worst (ending ∷ endings)) 2 s e (inr refl)

  pub refusal_beside : EndsBeside version asked before after old new status → (what : Asked) (fault : Fault) → asked ≡ Some what → Loads what → IsTold before.files (λ fs. Reads fs (Err fault)) → (FolderFailed before after → ⊥)
      → Wrote before after (refused_line fault) 2 status ⊎ (status ≡ 5)
  refusal_beside (alone ends same) what fault e loads told whole = refusal ends what fault e loads told whole
  refusal_beside (served loaded is whole' told' serves) what fault e loads told whole = no_fault fault loaded.project (one_told before.files (Err fault) (Ok loaded.project) told told')

  pub check_beside : EndsBeside version asked before after old new status → (project : Project) → asked ≡ Some for_check → IsTold before.files (λ fs. Reads fs (Ok project)) → (FolderFailed before after → ⊥)
      → ((names : List (List ℕ)) × AreNames project names × Wrote before after (accepted_line version names) 0 status) ⊎ (status ≡ 5)
  check_beside (alone ends same) project e told whole = check ends project e told whole
  check_beside (served loaded is whole' told' serves) project e told whole = check_serve asked e is

  pub look_beside : EndsBeside version asked before after old new status → (direction : Direction) (net : List ℕ) (project : Project) → asked ≡ Some (for_look (words_in direction net)) → IsTold before.files (λ fs. Reads fs (Ok project)) → (FolderFailed before after → ⊥)
      → IsAnswered (Replies project direction version net) before after status ⊎ (status ≡ 5)
  look_beside (alone ends same) direction net project e told whole = look ends direction net project e told whole
  look_beside (served loaded is whole' told' serves) direction net project e told whole = look_serve asked (words_in direction net) e is

  pub gloss_beside : EndsBeside version asked before after old new status → (net : List ℕ) (project : Project) (table : List Entry) → asked ≡ Some (for_look (glosses_in net)) → IsTold before.files (λ fs. Reads fs (Ok project)) → IsTold before.files (λ fs. HasTable fs table)
      → (FolderFailed before after → ⊥) → IsAnswered (GlossesLine project table version net) before after status ⊎ (status ≡ 5)
  gloss_beside (alone ends same) net project table e told glosses whole = gloss ends net project table e told glosses whole
  gloss_beside (served loaded is whole' told' serves) net project table e told glosses whole = look_serve asked (glosses_in net) e is

  pub make_beside : EndsBeside version asked before after old new status → (stems : ℕ) → asked ≡ Some (for_gen stems) → ((report : List ℕ) × IsReport stems report × Wrote before after report 0 status) ⊎ (status ≡ 5)
  make_beside (alone ends same) stems e = make ends stems e
  make_beside (served loaded is whole told serves) stems e = no_load asked for_serve stems e is tt

  pub att_beside : EndsBeside version asked before after old new status → (net : List ℕ) (project : Project) → asked ≡ Some (for_att net) → IsTold before.files (λ fs. Reads fs (Ok project)) → (FolderFailed before after → ⊥)
      → ((response : Response) × IsAtt project version net response × Wrote before after (response_bytes response) (response_status response) status) ⊎ (status ≡ 5)
  att_beside (alone ends same) net project e told whole = att ends net project e told whole
  att_beside (served loaded is whole' told' serves) net project e told whole = let clash : for_att net ≡ for_serve = same_asked asked (for_att net) for_serve e is in cc

  pub compare_beside : EndsBeside version asked before after old new status → (question : Question) (first second : List ℕ) (project : Project) → asked ≡ Some (for_compared question first second) → IsTold before.files (λ fs. Reads fs (Ok project)) → (FolderFailed before after → ⊥)
      → ((response : Response) × IsCompared project version question first second response × Wrote before after (response_bytes response) (response_status response) status) ⊎ (status ≡ 5)
  compare_beside (alone ends same) question first second project e told whole = compare ends question first second project e told whole
  compare_beside (served loaded is whole' told' serves) question first second project e told whole = let clash : for_compared question first second ≡ for_serve = same_asked asked (for_compared question first second) for_serve e is in cc

  pub pair_beside : EndsBeside version asked before after old new status → (net : List ℕ) (project : Project) → asked ≡ Some (for_pairs net) → IsTold before.files (λ fs. Reads fs (Ok project)) → (FolderFailed before after → ⊥)
      → ((grammar : Grammar Leaf) × HasGrammar project net grammar × IsAnswered (RepliesToPairs project version net) before after status)
      ⊎ ((line : List ℕ) × RefusesPairs project version net line × Wrote before after line 7 status) ⊎ (status ≡ 5)
  pair_beside (alone ends same) net project e told whole = pair ends net project e told whole
  pair_beside (served loaded is whole' told' serves) net project e told whole = let clash : for_pairs net ≡ for_serve = same_asked asked (for_pairs net) for_serve e is in cc

  pub look_saved_beside : EndsBeside version asked before after old new status → (file : List ℕ) (files : Files) → asked ≡ Some (for_saved file) → before.files ≡ Some files → (FolderFailed before after → ⊥)
      → ((text : List ℕ) × HasSavedText file text files × IsAnswered (RepliesBySaved text version) before after status)
      ⊎ ((line : ℕ) × (why : SavedWhy) × IsSavedFault file line why files × Wrote before after (file_refused_line file line why) 2 status) ⊎ (status ≡ 5)
  look_saved_beside (alone ends same) file files e held whole = look_saved ends file files e held whole
  look_saved_beside (served loaded is whole' told' serves) file files e held whole = let clash : for_saved file ≡ for_serve = same_asked asked (for_saved file) for_serve e is in cc

  pub declined_beside : EndsBeside version asked before after old new status → status ≡ 7 → (what : Asked) × (project : Project) × (asked ≡ Some what) × Told before.files (λ fs. Reads fs (Ok project)) × Declines what project × ¬ FolderFailed before after
  declined_beside (alone ends same) e = declined_cause ends e
  declined_beside (served loaded is whole told (first, (ending, endings, s, live, causes))) e = answered_seven (worst (ending ∷ endings)) s e

  -- a project without a fault, whose commands are served
  pub serve_beside : EndsBeside version asked before after old new status → (project : Project) → asked ≡ Some for_serve → IsTold before.files (λ fs. Reads fs (Ok project)) → (FolderFailed before after → ⊥)
      → ((loaded : Version) × (loaded.project ≡ project) × HasServed loaded before after old new status) ⊎ (status ≡ 5)
  serve_beside (alone ends same) project e told whole = inr (unserved ends project e told whole)
  serve_beside (served loaded is whole' told' serves) project e told whole = inl (loaded, sym (same_project project loaded.project (one_told before.files (Ok project) (Ok loaded.project) told told')), serves)

  -- with no failure and bytes left to take, all was done or there was no memory
  pub completes_beside : {I O : Type 0} → EndsBeside version asked before after old new status → (status ≡ 3 → FolderFailed before after ⊎ I ⊎ OfSomeLane LaneReadFailed old new) → (status ≡ 4 → O ⊎ OfSomeLane LaneWriteFailed old new)
      → (what : Asked) (project : Project) → asked ≡ Some what → Loads what → IsTold before.files (λ fs. Reads fs (Ok project)) → (FolderFailed before after → ⊥) → (I → ⊥) → (O → ⊥) → (OfSomeLane LaneFailed old new → ⊥) → status ≢ 6
      → (status ≡ 0) ⊎ (status ≡ 5) ⊎ ((status ≡ 7) × Declines what project)
  completes_beside {I} {O} ends three four what project e loads told whole read written lanes unspent = by ends
    where
      no_read : I ⊎ OfSomeLane LaneReadFailed old new → ⊥
      no_read (inl own) = read own
      no_read (inr (i, a, b, at, at', rose)) = lanes (i, a, b, at, at', inl rose)

      no_write : O ⊎ OfSomeLane LaneWriteFailed old new → ⊥
      no_write (inl own) = written own
      no_write (inr (i, a, b, at, at', rose)) = lanes (i, a, b, at, at', inr rose)

      by_ending : (e : Ending) → status ≡ status_of e → (status ≡ 0) ⊎ (status ≡ 5) ⊎ ((status ≡ 7) × Declines what project)
      by_ending Finished s = inl s
      by_ending WriteFailed s = absurd (no_write (four s))
      by_ending ReadFailed s = absurd (elim (three s) as (λ _. ⊥) [ inl rose ↦ whole rose | inr rose ↦ no_read rose ])
      by_ending Spent s = absurd (unspent s)

      by : EndsBeside version asked before after old new status → (status ≡ 0) ⊎ (status ≡ 5) ⊎ ((status ≡ 7) × Declines what project)
      by (alone ends same) = completes ends three four what project e loads told whole no_read no_write unspent
      by (served loaded is whole' told' (first, (ending, endings, s, live, causes))) = by_ending (worst (ending ∷ endings)) s

  pub completes_saved_beside : {I O : Type 0} → EndsBeside version asked before after old new status → (status ≡ 3 → FolderFailed before after ⊎ I ⊎ OfSomeLane LaneReadFailed old new) → (status ≡ 4 → O ⊎ OfSomeLane LaneWriteFailed old new)
      → (file : List ℕ) (files : Files) → asked ≡ Some (for_saved file) → before.files ≡ Some files → file_fault (file_of file files) ≡ None → (FolderFailed before after → ⊥) → (I → ⊥) → (O → ⊥) → (OfSomeLane LaneFailed old new → ⊥) → status ≢ 6
      → (status ≡ 0) ⊎ (status ≡ 5)
  completes_saved_beside {I} {O} (alone ends same) three four file files e held free whole read written lanes unspent = completes_saved ends three four file files e held free whole no_read no_write unspent
    where
      no_read : I ⊎ OfSomeLane LaneReadFailed old new → ⊥
      no_read (inl own) = read own
      no_read (inr (i, a, b, at, at', rose)) = lanes (i, a, b, at, at', inl rose)

      no_write : O ⊎ OfSomeLane LaneWriteFailed old new → ⊥
      no_write (inl own) = written own
      no_write (inr (i, a, b, at, at', rose)) = lanes (i, a, b, at, at', inr rose)
  completes_saved_beside (served loaded is whole' told' serves) three four file files e held free whole read written lanes unspent = let clash : for_saved file ≡ for_serve = same_asked asked (for_saved file) for_serve e is in cc

  -- as many bytes as may be were taken of the input, or of a lane's
  pub spent_beside : EndsBeside version asked before after old new status → status ≡ 6 → HasSpent before.input after.input ⊎ OfSomeLane LaneSpent old new
  spent_beside (alone ends same) e = inl (spent_cause ends e)
  spent_beside (served loaded is whole told (first, (ending, endings, s, live, causes))) e = served_spent ending endings live causes status s e

  -- lanes that aren't reached
  pub unserved_beside : EndsBeside version asked before after old new status → asked ≢ Some for_serve → new ≡ old
  unserved_beside (alone ends same) other = same
  unserved_beside (served loaded is whole told serves) other = absurd (other is)

  pub unreached_beside : EndsBeside version asked before after old new status → FolderFailed before after → new ≡ old
  unreached_beside (alone ends same) failed = same
  unreached_beside (served loaded is whole told serves) failed = absurd (whole failed)

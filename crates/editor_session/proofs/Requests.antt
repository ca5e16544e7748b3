-- What commands with their lines ask for, and which orders the lines are.
use Rattle.std.proofs.Common.{◌≡◌, ◌≢◌, ℕ, ◌<◌, ◌≤◌, Bool, true, false, List, [], ◌∷◌, ◌++◌, length, take, drop, Option, None, Some, inl, inr, refl, sym, ap, subst, ◌∙◌, append_assoc, append-nil, arith, length-append}
use Rattle.std.proofs.Math.Seq.{take-append_seam, drop-append_seam}
use Rattle.fsm_io.specs.Buffers.{most_ahead}
use Rattle.fsm_io.specs.Reading.{HasRead, LinesView, NextEvent, told_by}
use Rattle.fsm_io.specs.declared.lines.LineEvent.{LineEvent}
use Rattle.fsm_io.specs.declared.lines.LineEvent.TheVariants.{Line, Long, End, Failed, Over}
use Rattle.project_edits.specs.Applied.{edit_of}
use Rattle.project_edits.specs.declared.edit.Edit.{Edit as EditOf}
use Rattle.project_sources.specs.Edits.{Edit, Version, drops, put, splice}
use Rattle.project_sources.specs.Faults.{rows}
use Rattle.project_sources.specs.Laws.{all_readers}
use Rattle.project_sources.specs.Limits.{most_bytes}
use Rattle.lookup_answers.specs.declared.direction.Direction.TheVariants.{Up, Down}
use Rattle.edit_script.specs.Commands.{HasKind, HasLines, HasTexts, IsCommand, kind_of, lines_behind, of_command as lines_of_command, of_none as lines_of_none}
use Rattle.edit_script.specs.declared.commands.CommandKind.{CommandKind}
use Rattle.edit_script.specs.declared.commands.CommandKind.TheVariants as kinds
use Rattle.edit_script.specs.declared.commands.EditCommand.{EditCommand}
use Rattle.edit_script.specs.declared.commands.EditCommand.TheVariants as commands
use Rattle.edit_script.proofs.Unique.{one_command}
use Rattle.reply_meaning.specs.Replies.{no_memory as no_memory_word}
use Rattle.reply_meaning.specs.declared.ending.Ending.{Ending}
use Rattle.reply_meaning.specs.declared.ending.Ending.TheVariants.{Finished, WriteFailed, ReadFailed, Spent}
use Rattle.editor_meaning.specs.Orders.{AreOrders, Order, bad, cut, cut_by, cut_off, no_command, none, ordered, stopped, whole}
use Rattle.editor_meaning.specs.Batches.{Batch, spoilt}
use Rattle.editor_meaning.specs.Editing.{RepliesToEdit, content_of}
use Rattle.editor_session.specs.Keeping.{kept_batch, kept_of, most_kept}
use Rattle.editor_session.specs.Replying.{RepliesToRequest}
use Rattle.editor_session.specs.Reading.{Follows, HasFollowed, HasHeard, HasNext, HasStopped, IsAsked, IsFor, IsSettled, Obeys, Say, all, cuts, ends, fails, of_command, of_none, requests, spends}
use Rattle.editor_session.specs.declared.payload.Payload.TheVariants as payloads
use Rattle.editor_session.specs.declared.request.Next.{Next}
use Rattle.editor_session.specs.declared.request.Next.TheVariants.{Asks, Ends}
use Rattle.editor_session.specs.declared.request.Request.{Request}
use Rattle.editor_session.specs.declared.request.Request.TheVariants as wanted
use Rattle.editor_session.proofs.Hearing.{going_before, heard_line, heard_none, is_long, piece_told, text_is}
use Rattle.editor_session.proofs.Long.{kept_abandon, kept_begin, kept_commit, kept_edit, kept_spoilt}
use Rattle.editor_session.proofs.Shortness.{too_long}

-- ---- what a command with all its lines asks for

pub no_lines : (more : List (List ℕ)) → length more ≡ 0 → more ≡ []
no_lines [] e = refl
no_lines (x ∷ more) e = absurd (omega (arith, e))

-- a reply to the edit as it is kept
for_edit : (edit : Edit) (present : Version) (batch : Batch) (reply : List ℕ) (new : Option Version) (kept : Batch) → RepliesToEdit all_readers rows present (kept_batch batch) (kept_of edit) reply new kept
    → (next : Batch) × (kept ≡ kept_batch next) × RepliesToEdit all_readers rows present batch edit reply new next
for_edit edit present batch reply new kept h = kept_edit all_readers rows present batch edit reply new kept h

as_kept : (edit : Edit) (change : EditOf) → edit_of change ≡ kept_of edit → (present : Version) (batch : Batch) (reply : List ℕ) (new : Option Version) (kept : Batch)
    → RepliesToRequest present (kept_batch batch) (wanted.Edit change) reply new kept → (next : Batch) × (kept ≡ kept_batch next) × RepliesToEdit all_readers rows present batch edit reply new next
as_kept edit change is present batch reply new kept h = for_edit edit present batch reply new kept (subst (λ (e : Edit). RepliesToEdit all_readers rows present (kept_batch batch) e reply new kept) is h)

module _ (more : List (List ℕ)) (bytes : List ℕ) (kept : bytes ≡ take most_kept (content_of more)) (change : EditOf) (file : List ℕ) where
  pub for_put : (n : ℕ) → edit_of change ≡ put file bytes → IsFor (whole (commands.Put file n) more) (wanted.Edit change)
  for_put n is = as_kept (put file (content_of more)) change (is ∙ ap (put file) kept)

  pub for_splice : (from count n : ℕ) → edit_of change ≡ splice file from count bytes → IsFor (whole (commands.Splice file from count n) more) (wanted.Edit change)
  for_splice from count n is = as_kept (splice file from count (content_of more)) change (is ∙ ap (splice file from count) kept)

pub for_drop : (more : List (List ℕ)) (change : EditOf) (file : List ℕ) → edit_of change ≡ drops file → IsFor (whole (commands.Drop file) more) (wanted.Edit change)
for_drop more change file is = as_kept (drops file) change is

pub for_up : (more : List (List ℕ)) (net word : List ℕ) → IsFor (whole (commands.Up net word) more) (wanted.LookUp Up net word)
for_up more net word present batch reply new kept h = (batch, h.2, (h.0, h.1, refl))

pub for_down : (more : List (List ℕ)) (net word : List ℕ) → IsFor (whole (commands.Down net word) more) (wanted.LookUp Down net word)
for_down more net word present batch reply new kept h = (batch, h.2, (h.0, h.1, refl))

pub for_begin : (more : List (List ℕ)) → IsFor (whole commands.Begin more) wanted.Begin
for_begin more present batch reply new kept h = let (next, is, replies) = kept_begin all_readers rows present batch reply kept h.0 in (next, is, (replies, h.1))

pub for_commit : (more : List (List ℕ)) → IsFor (whole commands.Commit more) wanted.Commit
for_commit more present batch reply new kept h = kept_commit all_readers rows present batch reply new kept h

pub for_abandon : (more : List (List ℕ)) → IsFor (whole commands.Abandon more) wanted.Abandon
for_abandon more present batch reply new kept h = let (next, is, replies) = kept_abandon all_readers rows present batch reply kept h.0 in (next, is, (replies, h.1))

for_bad : IsFor bad wanted.Bad
for_bad present batch reply new kept h = (spoilt batch, h.2 ∙ kept_spoilt batch, (h.0, h.1, refl))

for_cut : IsFor cut wanted.Cut
for_cut present batch reply new kept h = (batch, h.2, (h.0, h.1, refl))

pub for_unkept_edit : (command : EditCommand) (more : List (List ℕ)) → kind_of command ≡ kinds.Edit → IsFor (whole command more) wanted.UnkeptEdit
for_unkept_edit (commands.Put file n) more is present batch reply new kept h = for_edit (put file (content_of more)) present batch reply new kept (h _)
for_unkept_edit (commands.Splice file from count n) more is present batch reply new kept h = for_edit (splice file from count (content_of more)) present batch reply new kept (h _)
for_unkept_edit (commands.Drop file) more is present batch reply new kept h = for_edit (drops file) present batch reply new kept (h _)
for_unkept_edit (commands.Up net word) more is present batch reply new kept h = cc
for_unkept_edit (commands.Down net word) more is present batch reply new kept h = cc
for_unkept_edit commands.Begin more is present batch reply new kept h = cc
for_unkept_edit commands.Commit more is present batch reply new kept h = cc
for_unkept_edit commands.Abandon more is present batch reply new kept h = cc
for_unkept_edit commands.End more is present batch reply new kept h = cc

pub for_unkept_look_up : (command : EditCommand) (more : List (List ℕ)) → kind_of command ≡ kinds.LookUp → IsFor (whole command more) wanted.UnkeptLookUp
for_unkept_look_up (commands.Put file n) more is present batch reply new kept h = cc
for_unkept_look_up (commands.Splice file from count n) more is present batch reply new kept h = cc
for_unkept_look_up (commands.Drop file) more is present batch reply new kept h = cc
for_unkept_look_up (commands.Up net word) more is present batch reply new kept h = (batch, h.2, (no_memory_word h.0, h.1, refl))
for_unkept_look_up (commands.Down net word) more is present batch reply new kept h = (batch, h.2, (no_memory_word h.0, h.1, refl))
for_unkept_look_up commands.Begin more is present batch reply new kept h = cc
for_unkept_look_up commands.Commit more is present batch reply new kept h = cc
for_unkept_look_up commands.Abandon more is present batch reply new kept h = cc
for_unkept_look_up commands.End more is present batch reply new kept h = cc

-- a command that lines follow is an edit
pub edit_kind : (command : EditCommand) → 0 < lines_behind command → kind_of command ≡ kinds.Edit
edit_kind (commands.Put file n) some = refl
edit_kind (commands.Splice file from count n) some = refl
edit_kind (commands.Drop file) some = refl
edit_kind (commands.Up net word) some = absurd (omega (arith, some))
edit_kind (commands.Down net word) some = absurd (omega (arith, some))
edit_kind commands.Begin some = absurd (omega (arith, some))
edit_kind commands.Commit some = absurd (omega (arith, some))
edit_kind commands.Abandon some = absurd (omega (arith, some))
edit_kind commands.End some = absurd (omega (arith, some))

pub look_up_lines : (command : EditCommand) → kind_of command ≡ kinds.LookUp → lines_behind command ≡ 0
look_up_lines (commands.Put file n) is = cc
look_up_lines (commands.Splice file from count n) is = cc
look_up_lines (commands.Drop file) is = refl
look_up_lines (commands.Up net word) is = refl
look_up_lines (commands.Down net word) is = refl
look_up_lines commands.Begin is = refl
look_up_lines commands.Commit is = refl
look_up_lines commands.Abandon is = refl
look_up_lines commands.End is = refl

pub not_end : (command : EditCommand) (kind : CommandKind) → kind_of command ≡ kind → kind ≢ kinds.Word → command ≢ commands.End
not_end command kind is other end = other (sym is ∙ ap kind_of end)

-- the lines that are said to follow a line are those that follow its command
pub same_count : (line : List ℕ) (n : ℕ) (command : EditCommand) → HasLines line n → IsCommand line command → n ≡ lines_behind command
same_count line n command (lines_of_command other is_other is) is_command = is ∙ ap lines_behind (one_command line other command is_other is_command)
same_count line n command (lines_of_none apart is) is_command = absurd (apart command is_command)

-- ---- which orders lines are

none_later : (ended : Bool) (rest : List (List ℕ)) (later : List Order) → rest ≡ [] → AreOrders ended rest later → later ≡ []
none_later ended [] [] is orders = refl
none_later ended [] (_ ∷ _) is orders = elim orders [ ]
none_later ended (line ∷ rest) later is orders = cc

module _ (line : List ℕ) where
  pub says_bad : ((command : EditCommand) → IsCommand line command → ⊥) → (closed : Bool) → Say closed (line ∷ []) (bad ∷ [])
  says_bad apart closed ended rest later last orders = no_command apart orders

  module _ (command : EditCommand) (is_command : IsCommand line command) (more : List (List ℕ)) where
    says_whole : command ≢ commands.End → length more ≡ lines_behind command → (closed : Bool) → Say closed (line ∷ more) (whole command more ∷ [])
    says_whole other len closed ended rest later last orders =
        let front : take (lines_behind command) (more ++ rest) ≡ more = ap (λ (n : ℕ). take n (more ++ rest)) (sym len) ∙ take-append_seam more rest in
        let back : drop (lines_behind command) (more ++ rest) ≡ rest = ap (λ (n : ℕ). drop n (more ++ rest)) (sym len) ∙ drop-append_seam more rest in
        let enough : lines_behind command ≤ length (more ++ rest) = omega (arith, length-append more rest) in
        subst (λ (l : List (List ℕ)). AreOrders ended (line ∷ (more ++ rest)) (whole command l ∷ later)) front
        (ordered command is_command other enough (subst (λ (l : List (List ℕ)). AreOrders ended l later) (sym back) orders))

    says_cut : length more < lines_behind command → (closed : Bool) → closed ≡ true → Say closed (line ∷ more) (cut ∷ [])
    says_cut few closed is ended rest later last orders =
        let ends = last is in
        let less : length (more ++ rest) < lines_behind command = omega (arith, length-append more rest, ap length ends.1) in
        let same : cut_by ended ≡ cut ∷ later = ap cut_by ends.0 ∙ ap (λ (l : List Order). cut ∷ l) (sym (none_later ended rest later ends.1 orders)) in
        subst (λ (l : List Order). AreOrders ended (line ∷ (more ++ rest)) l) same (cut_off command is_command less)

    module _ (left0 left : Option (List ℕ)) (budget : ℕ) (old new : LinesView) (heard : List (List ℕ)) (going : old.ended ≡ false) (read : HasRead left0 left budget new (heard ++ line ∷ more)) where
      not_closed : old.ended ≡ true → line ∷ more ≡ []
      not_closed is = let both : false ≡ true = sym going ∙ is in cc

      obeyed : (next : Next) → Obeys command more new next → HasNext left0 left budget old new heard next
      obeyed next (all (requests request other len is_for) settled) = record {
        going = going;
        more = line ∷ more;
        heard_all = record { read = read; settled = settled };
        order = whole command more;
        says = says_whole other len new.ended;
        is_for = is_for;
      }
      obeyed next (all (ends is_end nothing) settled) =
          let is_last : IsCommand line commands.End = subst (λ (c : EditCommand). IsCommand line c) is_end is_command in
          record {
            more = line ∷ more;
            read = read;
            last = (stopped is_last, not_closed, inr (settled, record { before = []; line = line; orders = []; lines_are = ap (λ (l : List (List ℕ)). line ∷ l) nothing; are_whole = λ ended more later orders. orders; is_end = is_last }));
          }
      obeyed next (cuts few closed settled) = record {
        going = going;
        more = line ∷ more;
        heard_all = record { read = read; settled = settled };
        order = cut;
        says = says_cut few new.ended closed;
        is_for = for_cut;
      }
      obeyed next (fails few failed) = record { more = line ∷ more; read = read; last = (cut_off command is_command few, going, failed) }
      obeyed next (spends few failed spent) = record { more = line ∷ more; read = read; last = (cut_off command is_command few, going, failed, spent) }

-- what comes next is what the line asks for with those behind it
module _ (left0 left : Option (List ℕ)) (budget : ℕ) (old new : LinesView) (heard : List (List ℕ)) (line : List ℕ) (going : old.ended ≡ false) where
  pub asks_bad : ((command : EditCommand) → IsCommand line command → ⊥) → HasHeard left0 left budget new (heard ++ line ∷ []) → HasNext left0 left budget old new heard (Asks wanted.Bad)
  asks_bad apart all_heard = record {
    going = going;
    more = line ∷ [];
    heard_all = all_heard;
    order = bad;
    says = says_bad line apart new.ended;
    is_for = for_bad;
  }

  pub followed : (more : List (List ℕ)) (next : Next) → HasRead left0 left budget new (heard ++ line ∷ more) → Follows line more new next → HasNext left0 left budget old new heard next
  followed more next read (of_command command is_command obeys) = obeyed line command is_command more left0 left budget old new heard going read next obeys
  followed more next read (of_none apart nothing settled) =
      asks_bad apart (record { read = subst (λ (l : List (List ℕ)). HasRead left0 left budget new (heard ++ line ∷ l)) nothing read; settled = settled })

-- ---- a command, by what it is

module _ (command : EditCommand) (more : List (List ℕ)) (len : length more ≡ lines_behind command) where
  asks_as : (other : EditCommand) (request : Request) → command ≡ other → (other ≡ commands.End → ⊥) → IsFor (whole other more) request → IsAsked command more (Asks request)
  asks_as other request is apart h = requests request (λ end. apart (sym is ∙ end)) len (subst (λ (c : EditCommand). IsFor (whole c more) request) (sym is) h)

  pub asked_put : (file : List ℕ) (n : ℕ) (bytes : List ℕ) (change : EditOf) → command ≡ commands.Put file n → bytes ≡ take most_kept (content_of more) → edit_of change ≡ put file bytes → IsAsked command more (Asks (wanted.Edit change))
  asked_put file n bytes change is kept same = asks_as (commands.Put file n) (wanted.Edit change) is (λ (e : commands.Put file n ≡ commands.End). cc) (for_put more bytes kept change file n same)

  pub asked_splice : (file : List ℕ) (from count n : ℕ) (bytes : List ℕ) (change : EditOf) → command ≡ commands.Splice file from count n → bytes ≡ take most_kept (content_of more) → edit_of change ≡ splice file from count bytes → IsAsked command more (Asks (wanted.Edit change))
  asked_splice file from count n bytes change is kept same =
      asks_as (commands.Splice file from count n) (wanted.Edit change) is (λ (e : commands.Splice file from count n ≡ commands.End). cc) (for_splice more bytes kept change file from count n same)

  pub asked_drop : (file : List ℕ) (change : EditOf) → command ≡ commands.Drop file → edit_of change ≡ drops file → IsAsked command more (Asks (wanted.Edit change))
  asked_drop file change is same = asks_as (commands.Drop file) (wanted.Edit change) is (λ (e : commands.Drop file ≡ commands.End). cc) (for_drop more change file same)

  pub asked_up : (net word : List ℕ) → command ≡ commands.Up net word → IsAsked command more (Asks (wanted.LookUp Up net word))
  asked_up net word is = asks_as (commands.Up net word) (wanted.LookUp Up net word) is (λ (e : commands.Up net word ≡ commands.End). cc) (for_up more net word)

  pub asked_down : (net word : List ℕ) → command ≡ commands.Down net word → IsAsked command more (Asks (wanted.LookUp Down net word))
  asked_down net word is = asks_as (commands.Down net word) (wanted.LookUp Down net word) is (λ (e : commands.Down net word ≡ commands.End). cc) (for_down more net word)

  pub asked_begin : command ≡ commands.Begin → IsAsked command more (Asks wanted.Begin)
  asked_begin is = asks_as commands.Begin wanted.Begin is (λ (e : commands.Begin ≡ commands.End). cc) (for_begin more)

  pub asked_commit : command ≡ commands.Commit → IsAsked command more (Asks wanted.Commit)
  asked_commit is = asks_as commands.Commit wanted.Commit is (λ (e : commands.Commit ≡ commands.End). cc) (for_commit more)

  pub asked_abandon : command ≡ commands.Abandon → IsAsked command more (Asks wanted.Abandon)
  asked_abandon is = asks_as commands.Abandon wanted.Abandon is (λ (e : commands.Abandon ≡ commands.End). cc) (for_abandon more)

  pub asked_end : command ≡ commands.End → IsAsked command more (Ends Finished)
  asked_end is = ends is (no_lines more (len ∙ ap lines_behind is))

pub kept_is : 1048577 ≡ most_kept
unfolding most_kept most_bytes
kept_is = refl

pub kept_so : (more : List (List ℕ)) (bytes : List ℕ) → bytes ≡ take 1048577 (content_of more) → bytes ≡ take most_kept (content_of more)
kept_so more bytes is = is ∙ ap (λ (n : ℕ). take n (content_of more)) kept_is

-- ---- and by what came of its lines

module _ (command : EditCommand) (n : ℕ) (count : n ≡ lines_behind command) (more : List (List ℕ)) (reader : LinesView) where
  pub obeys_unkept : kind_of command ≡ kinds.Edit → length more ≡ n → IsSettled reader → Obeys command more reader (Asks wanted.UnkeptEdit)
  obeys_unkept kind len settled = all (requests wanted.UnkeptEdit (not_end command kinds.Edit kind (λ (e : kinds.Edit ≡ kinds.Word). cc)) (len ∙ count) (for_unkept_edit command more kind)) settled

  pub obeys_some : length more ≡ n → IsSettled reader → 0 < n → Obeys command more reader (Asks wanted.UnkeptEdit)
  obeys_some len settled some = obeys_unkept (edit_kind command (omega (arith, some, count))) len settled

  pub obeys_cut : HasStopped reader payloads.Cut → length more < n → Obeys command more reader (Asks wanted.Cut)
  obeys_cut halted less = cuts (omega (arith, less, count)) halted.0 halted.1

  pub obeys_stopped : (ending : Ending) → HasStopped reader (payloads.Stopped ending) → length more < n → Obeys command more reader (Ends ending)
  obeys_stopped Finished halted less = absurd halted
  obeys_stopped WriteFailed halted less = absurd halted
  obeys_stopped ReadFailed halted less = fails (omega (arith, less, count)) halted
  obeys_stopped Spent halted less = spends (omega (arith, less, count)) halted.0 halted.1

-- ---- a line whose command isn't kept

module _ (line : List ℕ) (more : List (List ℕ)) (reader : LinesView) (kind : HasKind line kinds.Edit) (n : ℕ) (lines : HasLines line n) where
  count_is : n ≡ lines_behind kind.0
  count_is = same_count line n kind.0 lines kind.1

  pub follows_unkept : length more ≡ n → IsSettled reader → Follows line more reader (Asks wanted.UnkeptEdit)
  follows_unkept len settled = of_command kind.0 kind.1 (obeys_unkept kind.0 n count_is more reader (sym kind.2) len settled)

  pub follows_cut : HasStopped reader payloads.Cut → length more < n → Follows line more reader (Asks wanted.Cut)
  follows_cut halted less = of_command kind.0 kind.1 (obeys_cut kind.0 n count_is more reader halted less)

  pub follows_stopped : (ending : Ending) → HasStopped reader (payloads.Stopped ending) → length more < n → Follows line more reader (Ends ending)
  follows_stopped ending halted less = of_command kind.0 kind.1 (obeys_stopped kind.0 n count_is more reader ending halted less)

module _ (left0 left : Option (List ℕ)) (budget : ℕ) (reader : LinesView) (heard : List (List ℕ)) (line : List ℕ) (h : HasHeard left0 left budget reader heard) where
  nothing_more : HasRead left0 left budget reader (heard ++ [])
  nothing_more = subst (λ (l : List (List ℕ)). HasRead left0 left budget reader l) (sym (append-nil heard)) h.read

  pub followed_look_up : HasKind line kinds.LookUp → HasFollowed left0 left budget reader heard line (Asks wanted.UnkeptLookUp)
  followed_look_up (command, is, kind) = record {
    more = [];
    read = nothing_more;
    follows =
        of_command command is
        (all (requests wanted.UnkeptLookUp (not_end command kinds.LookUp (sym kind) (λ (e : kinds.LookUp ≡ kinds.Word). cc)) (sym (look_up_lines command (sym kind))) (for_unkept_look_up command [] (sym kind))) h.settled);
  }

  pub followed_none : ((command : EditCommand) → IsCommand line command → ⊥) → HasFollowed left0 left budget reader heard line (Asks wanted.Bad)
  followed_none apart = record { more = []; read = nothing_more; follows = of_none apart refl h.settled }

-- a line with texts is no word alone
pub no_word : (line : List ℕ) → HasTexts line → HasKind line kinds.Word → ⊥
no_word line (command, is, texts) (other, is_other, kind) = texts (ap kind_of (one_command line command other is is_other) ∙ sym kind)

-- ---- what comes next, by the event

module _ (left0 left1 left : Option (List ℕ)) (budget : ℕ) (old mid : LinesView) (heard : List (List ℕ)) (h : HasHeard left0 left1 budget old heard) where
  pub next_line : (left2 : Option (List ℕ)) (new : LinesView) (e : NextEvent left1 left old mid Line) (next : Next) → HasFollowed left0 left2 budget new (heard ++ e.piece ∷ []) mid.text next → HasNext left0 left2 budget old new heard next
  next_line left2 new e next f =
      let same : e.piece ≡ mid.text = text_is e.piece mid.text (piece_told old e.piece (Some mid.text) h.settled e.tells.0) in
      let all_read = subst (λ (l : List (List ℕ)). HasRead left0 left2 budget new l) (append_assoc heard (e.piece ∷ []) f.more) f.read in
      followed left0 left2 budget old new heard mid.text (going_before left1 left old mid Line e tt) f.more next
      (subst (λ (l : List ℕ). HasRead left0 left2 budget new (heard ++ l ∷ f.more)) same all_read) f.follows

  pub next_long : NextEvent left1 left old mid Long → length mid.ahead ≤ most_ahead → HasNext left0 left budget old mid heard (Asks wanted.Bad)
  next_long e few =
      asks_bad left0 left budget old mid heard e.piece (going_before left1 left old mid Long e tt) (too_long e.piece (is_long e.piece (piece_told old e.piece None h.settled e.tells.0)))
      (heard_line left0 left1 left budget old mid heard h Long e tt few)

  read_none : (event : LineEvent) → told_by event mid.text ≡ [] → NextEvent left1 left old mid event → HasRead left0 left budget mid (heard ++ [])
  read_none event tells e = subst (λ (l : List (List ℕ)). HasRead left0 left budget mid l) (sym (append-nil heard)) (heard_none left0 left1 left budget old mid heard h event tells e)

  not_before : (event : LineEvent) → NextEvent left1 left old mid event → (event ≡ End → ⊥) → (ended : Bool) → old.ended ≡ ended → old.ended ≡ false
  not_before event e apart false is = is
  not_before event e apart true is = absurd (apart ((e.stays is).0))

  pub next_end : NextEvent left1 left old mid End → HasNext left0 left budget old mid heard (Ends Finished)
  next_end e = record { more = []; read = read_none End refl e; last = (none, (λ _. refl), inl e.stopped) }

  pub next_failed : NextEvent left1 left old mid Failed → HasNext left0 left budget old mid heard (Ends ReadFailed)
  next_failed e = record {
    more = [];
    read = read_none Failed refl e;
    last = (none, not_before Failed e (λ (is : Failed ≡ End). cc) old.ended refl, record { going = e.stopped.0; none = e.divided.1 });
  }

  pub next_over : NextEvent left1 left old mid Over → HasNext left0 left budget old mid heard (Ends Spent)
  next_over e = record {
    more = [];
    read = read_none Over refl e;
    last = (none, not_before Over e (λ (is : Over ≡ End). cc) old.ended refl, record { going = e.stopped.0; none = e.divided.1 }, e.stopped.1);
  }

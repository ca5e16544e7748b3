-- How what was read and written so far grows from command to command, and what it is at the end.
use Rattle.std.proofs.Common.{◌≡◌, ℕ, Bool, true, false, List, [], ◌∷◌, ◌++◌, Option, None, Some, Result, Ok, Err, MatchOption, is_ok, if◌then◌else◌, ◌⊎◌, inl, inr, refl, sym, ap, subst, ◌∙◌, append_assoc, append-nil, arith}
use Rattle.std.specs.Io.KnownBytes.{Appends}
use Rattle.std.specs.Option.{option_to_list, unwrap_or}
use Rattle.fsm_io.specs.Lines.{raw_lines}
use Rattle.fsm_io.specs.Reading.{HasRead, LinesView, at_start}
use Rattle.fsm_io.specs.Sinks.{WritesAll}
use Rattle.fsm_io.proofs.Known.{appends_more}
use Rattle.fsm_io.proofs.Cuts.{raw_lines-within}
use Rattle.project_meaning.specs.Projects.{Defines}
use Rattle.project_sources.specs.Edits.{Version}
use Rattle.project_sources.specs.Faults.{rows}
use Rattle.project_sources.specs.Laws.{all_readers}
use Rattle.reply_text.specs.Projects.{accepted_line}
use Rattle.reply_meaning.specs.declared.ending.Ending.{Ending}
use Rattle.reply_meaning.specs.declared.ending.Ending.TheVariants.{Finished, WriteFailed, ReadFailed, Spent}
use Rattle.editor_meaning.specs.Batches.{Batch, no_batch}
use Rattle.editor_meaning.specs.Orders.{AreOrders, Order}
use Rattle.editor_meaning.specs.Editing.{AreNames, AreReplies, RepliesToOrder}
use Rattle.editor_session.specs.Keeping.{kept_batch}
use Rattle.editor_session.specs.Reading.{HasAsked, HasEnded, HasFailed, HasHeard, IsSettled, Say}
use Rattle.editor_session.specs.Replying.{RepliesToRequest}
use Rattle.editor_session.specs.Running.{AreRepliesSofar, Sofar}
use Rattle.editor_session.specs.Sessions.{AreWhole, Edits, EndsByCommand, HasEdited, HearsAll, IsHeard, WantsOneReply, of_first_line, of_last_order, to_command, to_end}
use Rattle.editor_session.specs.declared.request.Request.{Request}
use Rattle.editor_session.proofs.Hearing.{heard_start, none_begun}

-- ---- lines that were heard

module _ (left0 left : Option (List ℕ)) (budget : ℕ) (reader : LinesView) (lines : List (List ℕ)) where
  heard_going : (heard : HasHeard left0 left budget reader lines) → reader.ended ≡ false → (ended : Bool) → IsHeard ended heard.read.taken lines
  heard_going heard going ended = record {
    ahead = reader.ahead;
    lines_are =
        ap (raw_lines ended) (sym (append-nil heard.read.taken)) ∙ heard.read.goes_on going ended []
        ∙ ap (λ (l : List ℕ). lines ++ raw_lines ended (l ++ reader.ahead ++ [])) (none_begun left0 left budget reader lines heard)
        ∙ ap (λ (l : List ℕ). lines ++ raw_lines ended l) (append-nil reader.ahead);
    few = heard.settled.few;
  }

  heard_closed : (read : HasRead left0 left budget reader lines) → reader.ended ≡ true → IsHeard true read.taken lines
  heard_closed read closed = record {
    ahead = [];
    lines_are = (read.ends closed).0 ∙ sym (append-nil lines);
    few = omega arith;
  }

  heard_so : (heard : HasHeard left0 left budget reader lines) → (ended : Bool) → reader.ended ≡ ended → IsHeard ended heard.read.taken lines
  heard_so heard true is = heard_closed heard.read is
  heard_so heard false is = heard_going heard is false

  -- nothing is ahead of a reader that failed
  all_read : (read : HasRead left0 left budget reader lines) → HasFailed reader → raw_lines false read.taken ≡ lines
  all_read read failed =
      ap (raw_lines false) (sym (append-nil read.taken)) ∙ read.goes_on failed.going false []
      ∙ ap (λ (l : List ℕ). lines ++ raw_lines false (read.begun ++ l ++ [])) failed.none
      ∙ ap (λ (l : List ℕ). lines ++ raw_lines false l) (append-nil (read.begun ++ []) ∙ append-nil read.begun)
      ∙ ap (λ (l : List (List ℕ)). lines ++ l) (raw_lines-within read.begun read.within) ∙ append-nil lines

-- ---- what was written

module _ (loaded present : Version) (made : List Version) (kept : Batch) (budget : ℕ) (left0 left held0 held : Option (List ℕ)) (reader : LinesView) (s : Sofar loaded present made kept budget left0 left held0 held reader) where
  -- whatever is known of the output
  untold : Sofar loaded present made kept budget left0 left None None reader
  untold = record {
    lines = s.lines;
    orders = s.orders;
    names = s.names;
    replies = s.replies;
    batch = s.batch;
    heard = s.heard;
    says = s.says;
    are_names = s.are_names;
    are_replies = s.are_replies;
    kept_is = s.kept_is;
    appended = tt;
  }

  -- what the output got for all lines, where those behind are no order
  edits : (ended : Bool) (more : List (List ℕ)) → (reader.ended ≡ true → (ended ≡ true) × (more ≡ [])) → AreOrders ended more [] → Edits loaded ended (s.lines ++ more) (accepted_line loaded.number s.names ++ s.replies) (loaded ∷ made)
  edits ended more last orders = record {
    names = s.names;
    orders = s.orders ++ [];
    replies = s.replies ++ [];
    made = made ++ [];
    are_names = s.are_names;
    are_orders = s.says ended more [] last orders;
    are_replies = s.are_replies [] [] [] (refl, refl);
    bytes_are = ap (λ (l : List ℕ). accepted_line loaded.number s.names ++ l) (sym (append-nil s.replies));
    versions_are = ap (λ (l : List Version). loaded ∷ l) (sym (append-nil made));
  }

  -- the output failed behind a front of it
  pub cut_short : (held1 held2 : Option (List ℕ)) (written rest : List ℕ) → accepted_line loaded.number s.names ++ s.replies ≡ written ++ rest → Appends held1 held2 written
      → WantsOneReply loaded reader.ended (s.lines ++ []) written → HasEdited loaded (loaded ∷ made) budget left0 left held1 held2 WriteFailed
  cut_short held1 held2 written rest is appended few = record {
    taken = s.heard.read.taken;
    written = written;
    consumed = s.heard.read.consumed;
    appended = appended;
    output = record {
      ended = reader.ended;
      heard = s.lines ++ [];
      rest = rest;
      is_heard = subst (λ (l : List (List ℕ)). IsHeard reader.ended s.heard.read.taken l) (sym (append-nil s.lines)) (heard_so left0 left budget reader s.lines s.heard reader.ended refl);
      at_end = λ ended. (s.heard.read.ends ended).3;
      edits = subst (λ (l : List ℕ). Edits loaded reader.ended (s.lines ++ []) l (loaded ∷ made)) is (edits reader.ended [] (λ closed. (closed, refl)) Rattle.editor_meaning.specs.Orders.none);
      few = few;
    };
    spends = λ (is : WriteFailed ≡ Spent). cc;
  }

-- the first line is written, and nothing was read
pub sofar_start : (loaded : Version) (names : List (List ℕ)) (budget : ℕ) (left held0 held : Option (List ℕ)) (reader : LinesView) → reader ≡ at_start budget → AreNames (Defines loaded.project) names
    → Appends held0 held (accepted_line loaded.number names) → Sofar loaded loaded [] no_batch budget left left held0 held reader
sofar_start loaded names budget left held0 held reader start are_names appended = record {
  lines = [];
  orders = [];
  names = names;
  replies = [];
  batch = no_batch;
  heard = heard_start left budget reader start;
  says = λ ended more later last orders. orders;
  are_names = are_names;
  are_replies = λ later rest more h. h;
  kept_is = refl;
  appended = subst (λ (l : List ℕ). Appends held0 held l) (sym (append-nil (accepted_line loaded.number names))) appended;
}

-- and the first line failed
pub failed_start : (loaded : Version) (names : List (List ℕ)) (budget : ℕ) (left held1 held2 : Option (List ℕ)) (reader : LinesView) (written rest : List ℕ) → reader ≡ at_start budget → AreNames (Defines loaded.project) names
    → accepted_line loaded.number names ≡ written ++ rest → Appends held1 held2 written → HasEdited loaded (loaded ∷ []) budget left left held1 held2 WriteFailed
unfolding sofar_start
failed_start loaded names budget left held1 held2 reader written rest start are_names is appended =
    cut_short loaded loaded [] no_batch budget left left None None reader (sofar_start loaded names budget left None None reader start are_names tt) held1 held2 written rest (append-nil (accepted_line loaded.number names) ∙ is) appended (of_first_line refl)

-- ---- a reply more

module _ (loaded present : Version) (made : List Version) (kept : Batch) (budget : ℕ) (left0 left1 left held0 held1 held : Option (List ℕ)) (old new : LinesView) (s : Sofar loaded present made kept budget left0 left1 held0 held1 old) (request : Request)
    (a : HasAsked left0 left budget old new s.lines request) (reply : List ℕ) (next : Option Version) (leaves : Batch) (replies : RepliesToRequest present kept request reply next leaves) where
  says_more : Say new.ended (s.lines ++ a.more) (s.orders ++ a.order ∷ [])
  says_more ended more later last orders =
      let inner = a.says ended more later last orders in
      let going : old.ended ≡ true → (ended ≡ true) × (a.more ++ more ≡ []) = λ is. let both : false ≡ true = sym a.going ∙ is in absurd (cc) in
      let outer = s.says ended (a.more ++ more) (a.order ∷ later) going inner in
      subst (λ (l : List (List ℕ)). AreOrders ended l ((s.orders ++ a.order ∷ []) ++ later)) (sym (append_assoc s.lines a.more more))
      (subst (λ (l : List Order). AreOrders ended (s.lines ++ (a.more ++ more)) l) (sym (append_assoc s.orders (a.order ∷ []) later)) outer)

  -- as a reply to the order
  meant : (batch : Batch) × (leaves ≡ kept_batch batch) × RepliesToOrder all_readers rows present s.batch a.order reply next batch
  meant = a.is_for present s.batch reply next leaves (subst (λ (b : Batch). RepliesToRequest present b request reply next leaves) s.kept_is replies)

  replies_more : AreRepliesSofar loaded (s.orders ++ a.order ∷ []) (s.replies ++ reply) (made ++ option_to_list next) (unwrap_or next present) meant.0
  replies_more later rest more h =
      let inner : AreReplies all_readers rows present s.batch (a.order ∷ later) (reply ++ rest) (option_to_list next ++ more) = (reply, rest, next, meant.0, more, refl, refl, meant.2, h) in
      let outer = s.are_replies (a.order ∷ later) (reply ++ rest) (option_to_list next ++ more) inner in
      subst (λ (l : List Order). AreReplies all_readers rows loaded no_batch l ((s.replies ++ reply) ++ rest) ((made ++ option_to_list next) ++ more)) (sym (append_assoc s.orders (a.order ∷ []) later))
      (subst (λ (l : List ℕ). AreReplies all_readers rows loaded no_batch (s.orders ++ (a.order ∷ later)) l ((made ++ option_to_list next) ++ more)) (sym (append_assoc s.replies reply rest))
      (subst (λ (l : List Version). AreReplies all_readers rows loaded no_batch (s.orders ++ (a.order ∷ later)) (s.replies ++ (reply ++ rest)) l) (sym (append_assoc made (option_to_list next) more)) outer))

  pub sofar_more : Appends held1 held reply → Sofar loaded (unwrap_or next present) (made ++ option_to_list next) leaves budget left0 left held0 held new
  sofar_more appended = record {
    lines = s.lines ++ a.more;
    orders = s.orders ++ a.order ∷ [];
    names = s.names;
    replies = s.replies ++ reply;
    batch = meant.0;
    heard = a.heard_all;
    says = says_more;
    are_names = s.are_names;
    are_replies = replies_more;
    kept_is = meant.1;
    appended = subst (λ (l : List ℕ). Appends held0 held l) (append_assoc (accepted_line loaded.number s.names) s.replies reply)
        (appends_more held0 held1 held (accepted_line loaded.number s.names ++ s.replies) reply s.appended appended);
  }

-- the lines of the last order, and those before it, for which the output got all
wants_last : (loaded present : Version) (made : List Version) (kept : Batch) (budget : ℕ) (left0 left1 left held0 held1 : Option (List ℕ)) (old new : LinesView) (s : Sofar loaded present made kept budget left0 left1 held0 held1 old) (request : Request)
    (a : HasAsked left0 left budget old new s.lines request) (front : List ℕ) → WantsOneReply loaded new.ended ((s.lines ++ a.more) ++ []) ((accepted_line loaded.number s.names ++ s.replies) ++ front)
wants_last loaded present made kept budget left0 left1 left held0 held1 old new s request a front =
    let one = a.says new.ended [] [] (λ closed. (closed, refl)) Rattle.editor_meaning.specs.Orders.none in
    let none : List (List ℕ) = [] in
    let going : old.ended ≡ true → (false ≡ true) × (none ≡ []) = λ is. let both : false ≡ true = sym a.going ∙ is in absurd (cc) in
    let whole = edits loaded present made kept budget left0 left1 held0 held1 old s false none going Rattle.editor_meaning.specs.Orders.none in
    of_last_order s.lines a.more a.order (accepted_line loaded.number s.names ++ s.replies) front (loaded ∷ made) (append-nil (s.lines ++ a.more))
    (subst (λ (l : List (List ℕ)). AreOrders new.ended l (a.order ∷ [])) (append-nil a.more) one) refl
    (subst (λ (l : List (List ℕ)). Edits loaded false l (accepted_line loaded.number s.names ++ s.replies) (loaded ∷ made)) (append-nil s.lines) whole)

-- the reply failed
pub failed_more : (loaded present : Version) (made : List Version) (kept : Batch) (budget : ℕ) (left0 left1 left held0 held1 held : Option (List ℕ)) (old new : LinesView) (s : Sofar loaded present made kept budget left0 left1 held0 held1 old) (request : Request)
    → HasAsked left0 left budget old new s.lines request → (reply : List ℕ) (next : Option Version) (leaves : Batch) → RepliesToRequest present kept request reply next leaves
    → (front rest : List ℕ) → reply ≡ front ++ rest → Appends held1 held front → HasEdited loaded (loaded ∷ made ++ option_to_list next) budget left0 left held0 held WriteFailed
unfolding untold sofar_more
failed_more loaded present made kept budget left0 left1 left held0 held1 held old new s request a reply next leaves replies front rest is appended =
    let first = accepted_line loaded.number s.names in
    let grown = sofar_more loaded present made kept budget left0 left1 left None None None old new (untold loaded present made kept budget left0 left1 held0 held1 old s) request a reply next leaves replies tt in
    cut_short loaded (unwrap_or next present) (made ++ option_to_list next) leaves budget left0 left None None new grown held0 held ((first ++ s.replies) ++ front) rest
    (sym (append_assoc first s.replies reply) ∙ ap (λ (l : List ℕ). (first ++ s.replies) ++ l) is ∙ sym (append_assoc (first ++ s.replies) front rest))
    (appends_more held0 held1 held (first ++ s.replies) front s.appended appended)
    (wants_last loaded present made kept budget left0 left1 left held0 held1 old new s request a front)

-- ---- the end of it all

not_nil : (front : List (List ℕ)) (line : List ℕ) → front ++ line ∷ [] ≡ [] → ⊥
not_nil [] line is = absurd (cc)
not_nil (first ∷ front) line is = absurd (cc)

module _ (loaded present : Version) (made : List Version) (kept : Batch) (budget : ℕ) (left0 left1 left held0 held : Option (List ℕ)) (old new : LinesView) (s : Sofar loaded present made kept budget left0 left1 held0 held old) where
  -- the lines up to `end` are whole orders, and those before them were
  whole_more : old.ended ≡ false → (before : List (List ℕ)) (orders : List Order) → AreWhole before orders → AreWhole (s.lines ++ before) (s.orders ++ orders)
  whole_more going before orders are ended more later h =
      let going_on : old.ended ≡ true → (ended ≡ true) × (before ++ more ≡ []) = λ is. let both : false ≡ true = sym going ∙ is in absurd (cc) in
      let outer = s.says ended (before ++ more) (orders ++ later) going_on (are ended more later h) in
      subst (λ (l : List (List ℕ)). AreOrders ended l ((s.orders ++ orders) ++ later)) (sym (append_assoc s.lines before more))
      (subst (λ (l : List Order). AreOrders ended (s.lines ++ (before ++ more)) l) (sym (append_assoc s.orders orders later)) outer)

  -- a line was heard, so the input hadn't ended
  was_going : (more : List (List ℕ)) → (old.ended ≡ true → more ≡ []) → EndsByCommand more → (closed : Bool) → old.ended ≡ closed → old.ended ≡ false
  was_going more last by true is = absurd (not_nil by.before by.line (sym by.lines_are ∙ last is))
  was_going more last by false is = is

  hears : (more : List (List ℕ)) (read : HasRead left0 left budget new (s.lines ++ more)) → (old.ended ≡ true → more ≡ []) → ((new.ended ≡ true) ⊎ (IsSettled new × EndsByCommand more)) → (closed : Bool) → new.ended ≡ closed
      → HearsAll left read.taken (s.lines ++ more)
  hears more read none last true is = let ends = read.ends is in to_end ends.3 ends.0
  hears more read none (inl closed) false is = let both : true ≡ false = sym closed ∙ is in absurd (cc)
  hears more read none (inr (settled, by)) false is =
      to_command (heard_going left0 left budget new (s.lines ++ more) (record { read = read; settled = settled }) is false) (record {
        before = s.lines ++ by.before;
        line = by.line;
        orders = s.orders ++ by.orders;
        lines_are = ap (λ (l : List (List ℕ)). s.lines ++ l) by.lines_are ∙ sym (append_assoc s.lines by.before (by.line ∷ []));
        are_whole = whole_more (was_going more none by old.ended refl) by.before by.orders by.are_whole;
        is_end = by.is_end;
      })

  not_closed : (more : List (List ℕ)) → old.ended ≡ false → old.ended ≡ true → (false ≡ true) × (more ≡ [])
  not_closed more going is = let both : false ≡ true = sym going ∙ is in absurd (cc)

  so_far : (more : List (List ℕ)) (read : HasRead left0 left budget new (s.lines ++ more)) → AreOrders false more [] → old.ended ≡ false → HasFailed new
      → Edits loaded false (raw_lines false read.taken) (accepted_line loaded.number s.names ++ s.replies) (loaded ∷ made)
  so_far more read orders going failed =
      subst (λ (l : List (List ℕ)). Edits loaded false l (accepted_line loaded.number s.names ++ s.replies) (loaded ∷ made)) (sym (all_read left0 left budget new (s.lines ++ more) read failed))
      (edits loaded present made kept budget left0 left1 held0 held old s false more (not_closed more going) orders)

  pub ended : (ending : Ending) → HasEnded left0 left budget old new s.lines ending → HasEdited loaded (loaded ∷ made) budget left0 left held0 held ending
  ended Finished e = record {
    taken = e.read.taken;
    written = accepted_line loaded.number s.names ++ s.replies;
    consumed = e.read.consumed;
    appended = s.appended;
    output = (s.lines ++ e.more, hears e.more e.read e.last.1 e.last.2 new.ended refl, edits loaded present made kept budget left0 left1 held0 held old s true e.more (λ closed. (refl, e.last.1 closed)) e.last.0);
    spends = λ (is : Finished ≡ Spent). cc;
  }
  ended WriteFailed e = absurd e.last
  ended ReadFailed e = record {
    taken = e.read.taken;
    written = accepted_line loaded.number s.names ++ s.replies;
    consumed = e.read.consumed;
    appended = s.appended;
    output = so_far e.more e.read e.last.0 e.last.1 e.last.2;
    spends = λ (is : ReadFailed ≡ Spent). cc;
  }
  ended Spent e = record {
    taken = e.read.taken;
    written = accepted_line loaded.number s.names ++ s.replies;
    consumed = e.read.consumed;
    appended = s.appended;
    output = so_far e.more e.read e.last.0 e.last.1 e.last.2;
    spends = λ _. omega (arith, e.read.spent, e.last.3);
  }

-- ---- a turn, by whether its reply was written

appended_all : {T E : Type 0} (held1 held : Option (List ℕ)) (reply : List ℕ) (v : T) → WritesAll {T = T} {E = E} held1 held reply (Ok v) → Appends held1 held reply
appended_all held1 held reply v w = subst (λ (l : List ℕ). Appends held1 held l) (sym (w.whole ∙ ap (λ (l : List ℕ). w.front ++ l) w.all ∙ append-nil w.front)) w.appended

-- of a fact of the present version, and of two of all versions: one that holds where the answering goes on, and one that holds always
pub turned : {T E : Type 0} (Stand : Version → Type 0) (Shown Standing : List Version → Type 0) (loaded present : Version) (made : List Version) (kept : Batch) (budget : ℕ) (left0 left1 left held0 held1 held : Option (List ℕ)) (old new : LinesView)
    (s : Sofar loaded present made kept budget left0 left1 held0 held1 old) (request : Request) → HasAsked left0 left budget old new s.lines request → (reply : List ℕ) (next : Option Version) (leaves : Batch) → RepliesToRequest present kept request reply next leaves
    → Stand (unwrap_or next present) → Shown (loaded ∷ made ++ option_to_list next) → Standing (loaded ∷ made ++ option_to_list next)
    → (r : Result T E) (o : Option Ending) → o ≡ (if is_ok r then None else Some WriteFailed) → WritesAll held1 held reply r
    → MatchOption o ((later : Version) × (all : List Version) × Stand later × Shown (loaded ∷ all) × Sofar loaded later all leaves budget left0 left held0 held new)
    (λ ending. (all : List Version) × Standing (loaded ∷ all) × HasEdited loaded (loaded ∷ all) budget left0 left held0 held ending)
turned {T} {E} Stand Shown Standing loaded present made kept budget left0 left1 left held0 held1 held old new s request a reply next leaves replies stand shown standing (Ok v) o is w =
    subst (λ (o : Option Ending). MatchOption o ((later : Version) × (all : List Version) × Stand later × Shown (loaded ∷ all) × Sofar loaded later all leaves budget left0 left held0 held new)
    (λ ending. (all : List Version) × Standing (loaded ∷ all) × HasEdited loaded (loaded ∷ all) budget left0 left held0 held ending)) (sym is)
    (unwrap_or next present, made ++ option_to_list next, stand, shown, sofar_more loaded present made kept budget left0 left1 left held0 held1 held old new s request a reply next leaves replies (appended_all held1 held reply v w))
turned {T} {E} Stand Shown Standing loaded present made kept budget left0 left1 left held0 held1 held old new s request a reply next leaves replies stand shown standing (Err e) o is w =
    subst (λ (o : Option Ending). MatchOption o ((later : Version) × (all : List Version) × Stand later × Shown (loaded ∷ all) × Sofar loaded later all leaves budget left0 left held0 held new)
    (λ ending. (all : List Version) × Standing (loaded ∷ all) × HasEdited loaded (loaded ∷ all) budget left0 left held0 held ending)) (sym is)
    (made ++ option_to_list next, standing, failed_more loaded present made kept budget left0 left1 left held0 held1 held old new s request a reply next leaves replies w.front w.rest w.whole w.appended)

-- the first line, by whether it was written
pub started : {T E : Type 0} (loaded : Version) (names : List (List ℕ)) (kept : Batch) (budget : ℕ) (left held1 held : Option (List ℕ)) (reader : LinesView) (bytes : List ℕ) (v : T) → reader ≡ at_start budget → kept ≡ no_batch
    → AreNames (Defines loaded.project) names → bytes ≡ accepted_line loaded.number names → WritesAll {T = T} {E = E} held1 held bytes (Ok v) → Sofar loaded loaded [] kept budget left left held1 held reader
started {T} {E} loaded names kept budget left held1 held reader bytes v start nothing are_names is w =
    subst (λ (b : Batch). Sofar loaded loaded [] b budget left left held1 held reader) (sym nothing)
    (sofar_start loaded names budget left held1 held reader start are_names (subst (λ (l : List ℕ). Appends held1 held l) is (appended_all {T = T} {E = E} held1 held bytes v w)))

pub not_started : {T E : Type 0} (loaded : Version) (names : List (List ℕ)) (budget : ℕ) (left held1 held : Option (List ℕ)) (reader : LinesView) (bytes : List ℕ) (e : E) → reader ≡ at_start budget → AreNames (Defines loaded.project) names
    → bytes ≡ accepted_line loaded.number names → WritesAll {T = T} {E = E} held1 held bytes (Err e) → HasEdited loaded (loaded ∷ []) budget left left held1 held WriteFailed
not_started {T} {E} loaded names budget left held1 held reader bytes e start are_names is w =
    failed_start loaded names budget left held1 held reader w.front w.rest start are_names (sym is ∙ w.whole) w.appended

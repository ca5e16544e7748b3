-- Transcripts of replies that are lawful by one rule, where another follows from it.
use Rattle.std.proofs.Common.{ℕ, List, [], ◌∷◌, Option}
use Rattle.reply_meaning.specs.Transcripts.{HasAnswered, IsTranscript, IsWritten, WantsFew, WithoutState}
use Rattle.reply_meaning.specs.declared.ending.Ending.{Ending}
use Rattle.reply_meaning.specs.declared.ending.Ending.TheVariants.{Finished, WriteFailed, ReadFailed, Spent}

module _ (R Q : Option (List ℕ) → List ℕ → Type 0) (so : (line : Option (List ℕ)) (reply : List ℕ) → R line reply → Q line reply) where
  transcript_so : (first last : Unit {0}) (lines : List (Option (List ℕ))) (bytes : List ℕ) → IsTranscript (WithoutState R) first lines bytes last → IsTranscript (WithoutState Q) first lines bytes last
  transcript_so first last [] bytes t = t
  transcript_so first last (line ∷ lines) bytes (reply, rest, next, is, lawful, others) = (reply, rest, next, is, so line reply lawful, transcript_so next last lines rest others)

  wants_so : (first last : Unit {0}) (gathered : ℕ) (heard : List (Option (List ℕ))) (written rest : List ℕ) → WantsFew (WithoutState R) first last gathered heard written rest → WantsFew (WithoutState Q) first last gathered heard written rest
  wants_so first last gathered heard written rest w = record {
    before = w.before;
    one = w.one;
    answered = w.answered;
    reply = w.reply;
    middle = w.middle;
    lines_are = w.lines_are;
    at_most_one = w.at_most_one;
    bytes_are = w.bytes_are;
    replies_before = transcript_so first w.middle w.before w.answered w.replies_before;
    last_reply = transcript_so w.middle last w.one w.reply w.last_reply;
    few = w.few;
  }

  written_so : (ending : Ending) (first last : Unit {0}) (gathered : ℕ) (left : Option (List ℕ)) (taken written : List ℕ) → IsWritten (WithoutState R) first last gathered ending left taken written → IsWritten (WithoutState Q) first last gathered ending left taken written
  written_so Finished first last gathered left taken written (ended, t) = (ended, transcript_so first last _ written t)
  written_so WriteFailed first last gathered left taken written cut = record {
    ended = cut.ended;
    heard = cut.heard;
    ahead = cut.ahead;
    rest = cut.rest;
    last = cut.last;
    lines_are = cut.lines_are;
    few = cut.few;
    at_end = cut.at_end;
    transcript = transcript_so first cut.last cut.heard _ cut.transcript;
    wants = wants_so first cut.last gathered cut.heard written cut.rest cut.wants;
  }
  written_so ReadFailed first last gathered left taken written t = transcript_so first last _ written t
  written_so Spent first last gathered left taken written t = transcript_so first last _ written t

  pub answered_so : {first : Unit {0}} {budget gathered : ℕ} {left0 left held0 held : Option (List ℕ)} {ending : Ending} → HasAnswered (WithoutState R) first budget gathered left0 left held0 held ending → HasAnswered (WithoutState Q) first budget gathered left0 left held0 held ending
  answered_so {first} {gathered = gathered} {ending = ending} h = record {
    taken = h.taken;
    written = h.written;
    last = h.last;
    consumed = h.consumed;
    appended = h.appended;
    output = written_so ending first h.last gathered _ h.taken h.written h.output;
    spends = h.spends;
  }

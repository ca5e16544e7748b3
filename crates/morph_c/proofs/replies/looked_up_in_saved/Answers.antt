use Rattle.std.proofs.Common.{◌≡◌, ℕ, List, sym, ap, subst}
use Rattle.fsm_base.specs.Normal.{nfc_of}
use Rattle.reply_meaning.specs.Transcripts.{first_version}
use Rattle.saved_networks.specs.Networks.{IsSavedAs, SavedView}
use Rattle.saved_networks.specs.Replies.{RepliesToWordBySaved}
use Rattle.morph_c.proofs.replies.looked_up_in_saved.Goals as goal

pub returns-clause-reply : goal.returns-clause-reply
returns-clause-reply c =
    let word : c.as_str.result.now ≡ nfc_of c.args.word.now = (let e = c.as_str.ensures in let n = c.in_ok-word-2.ensures.text in let l = ap nfc_of c.in_ok-word.ensures.text in cc) in (
      c.in_ok-owner.owner.now,
      c.in_ok-owner.ensures.saved,
      λ text is.
          let bytes = c.in_ok-bytes.bytes.items in
          let own = c.in_ok-bytes.ensures text (subst (λ (n : SavedView). IsSavedAs text n) (sym c.network.ensures) is) in
          subst (λ (w : List ℕ). RepliesToWordBySaved text first_version w bytes) word own,
    )

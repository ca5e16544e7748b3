use Rattle.std.proofs.Common.{ℕ, List, sym, subst}
use Rattle.fsm_base.specs.Normal.{nfc_of}
use Rattle.project_versions.specs.Versions.{Stands, VersionView}
use Rattle.reply_meaning.specs.Replies.{RepliesToWord}
use Rattle.morph_c.proofs.replies.looked_up.Goals as goal

pub returns-clause-reply : goal.returns-clause-reply
returns-clause-reply c = (
  c.in_ok-opened.opened.now,
  c.in_ok-opened.ensures.opened,
  λ meant stands.
      let bytes = c.in_ok-bytes.bytes.items in
      let own = c.in_ok-bytes.ensures meant (subst (λ (v : VersionView). Stands v meant) (sym c.version.ensures) stands) in
      subst (λ (n : List ℕ). RepliesToWord meant.project c.args.direction meant.number (nfc_of n) (nfc_of c.args.word.now) bytes) c.in_ok-net.ensures.text
      (subst (λ (w : List ℕ). RepliesToWord meant.project c.args.direction meant.number (nfc_of c.in_ok-net.net.now) (nfc_of w) bytes) c.in_ok-word.ensures.text own),
)

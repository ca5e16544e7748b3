use Rattle.std.proofs.Common.{◌≡◌, ℕ, List, sym, ap, subst}
use Rattle.fsm_base.specs.Normal.{nfc_of}
use Rattle.interlinear.specs.Replies.{GlossesText}
use Rattle.project_versions.specs.Versions.{Stands, VersionView}
use Rattle.morph_c.proofs.replies.glossed.Goals as goal

pub returns-clause-reply : goal.returns-clause-reply
returns-clause-reply c =
    let net : c.as_str.result.now ≡ nfc_of c.args.net.now = (let e = c.as_str.ensures in let v = c.net.view_is in let n = c.in_ok-net-2.ensures.text in let l = ap nfc_of c.in_ok-net.ensures.text in cc) in
    let text : c.as_str-2.result.now ≡ nfc_of c.args.text.now = (let e = c.as_str-2.ensures in let v = c.text.view_is in let n = c.in_ok-text-2.ensures.text in let l = ap nfc_of c.in_ok-text.ensures.text in cc) in (
      c.in_ok-opened.opened.now,
      c.in_ok-opened.ensures.opened,
      λ meant table stands has.
          let bytes = c.in_ok-bytes.bytes.items in
          let own = c.in_ok-bytes.ensures meant table (subst (λ (v : VersionView). Stands v meant) (sym c.version.ensures) stands) has in
          subst (λ (n : List ℕ). GlossesText meant.project table meant.number n (nfc_of c.args.text.now) bytes) net
          (subst (λ (t : List ℕ). GlossesText meant.project table meant.number c.as_str.result.now t bytes) text own),
    )

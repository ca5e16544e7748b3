use Rattle.lookup_answers.specs.declared.direction.Direction.TheVariants.{Up, Down}
use Rattle.project_versions.proofs.Looking.{text_made, word_made}
use Rattle.project_versions.proofs.looks.reply_to_look.Goals as goal

pub returns-in-Up : goal.returns-in-Up
returns-in-Up c meant table stands has = rw c.in-Up.is (word_made c.args.version.now meant stands Up _ _ c.reply_to_word.result c.made.result c.made.ensures (rw (c.as_str.ensures, c.as_str-in-Up.ensures) at (c.reply_to_word.ensures meant stands)))

pub returns-in-Down : goal.returns-in-Down
returns-in-Down c meant table stands has = rw c.in-Down.is (word_made c.args.version.now meant stands Down _ _ c.reply_to_word-in-Down.result c.made-in-Down.result c.made-in-Down.ensures (rw (c.as_str-in-Down.ensures, c.as_str-in-Down-2.ensures) at (c.reply_to_word-in-Down.ensures meant stands)))

pub returns-in-Gloss : goal.returns-in-Gloss
returns-in-Gloss c meant table stands has = rw c.in-Gloss.is (text_made c.args.version.now meant stands table _ _ c.reply_to_text.result c.made-in-Gloss.result c.made-in-Gloss.ensures (rw (c.as_str-in-Gloss.ensures, c.as_str-in-Gloss-2.ensures) at (c.reply_to_text.ensures meant table stands has)))

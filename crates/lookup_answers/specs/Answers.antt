-- An answer as the texts that it lists, or as the parts of its loop.
use Rattle.word_relations.specs.Answers.{Found, strings, more, loop}
use Rattle.lookup_answers.specs.declared.answer.Answer.{Answer}
use Rattle.lookup_answers.specs.declared.answer.Answer.TheVariants.{Strings, More, Loop}

-- the answer, with the bytes of its texts
abbrev pub found_of : Answer → Found
found_of (Strings texts) = strings texts.items
found_of More = more
found_of (Loop before round after) = loop before round after

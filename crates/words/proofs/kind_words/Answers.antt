use Rattle.words.specs.Words.{bytes}
use Rattle.words.proofs.kind_words.Goals as goal

pub returns-in-None-clause-words : goal.returns-in-None-clause-words
unfolding bytes
returns-in-None-clause-words c = rw c.in-None.is

use Rattle.words.specs.Words.{bytes}
use Rattle.words.proofs.called.Goals as goal

pub returns-in-Class-clause-words : goal.returns-in-Class-clause-words
unfolding bytes
returns-in-Class-clause-words c = rw c.in-Class.is

pub returns-in-Instrument-clause-words : goal.returns-in-Instrument-clause-words
unfolding bytes
returns-in-Instrument-clause-words c = rw c.in-Instrument.is

pub returns-in-Position-clause-words : goal.returns-in-Position-clause-words
unfolding bytes
returns-in-Position-clause-words c = rw c.in-Position.is

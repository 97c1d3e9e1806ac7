-- Each word's bytes are computed.
use Rattle.refusal.specs.Words.{bytes}
use Rattle.refusal.proofs.Group.word.Goals as goal

pub returns-in-Message : goal.returns-in-Message
unfolding bytes
returns-in-Message c = rw c.in-Message.is

pub returns-in-Contents : goal.returns-in-Contents
unfolding bytes
returns-in-Contents c = rw c.in-Contents.is

pub returns-in-Room : goal.returns-in-Room
unfolding bytes
returns-in-Room c = rw c.in-Room.is

pub returns-in-Order : goal.returns-in-Order
unfolding bytes
returns-in-Order c = rw c.in-Order.is

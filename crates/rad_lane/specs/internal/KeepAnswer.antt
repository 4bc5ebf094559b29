-- The answer that a lane keeps (own). No public clause cites this module.
use Rattle.std.specs.Prelude.{ℕ, List}
use Rattle.rad_tables.specs.declared.slots.Slot.{Slot}
use Rattle.rad_lane.specs.Outstanding.{Outstanding, AnswerKept}
use Rattle.rad_lane.specs.Book.{Book, outstanding_at}
use Rattle.rad_lane.specs.Hears.{KeepsAnswer}

-- The next answer of the book: to the sending under the pair, after some reply to it.
pub record AnswersSending (book : Book) (now : ℕ) (slot : Slot) (answer : AnswerKept) : Type 0 where
  pub entry : Outstanding
  pub there : outstanding_at book slot entry
  pub packet : List ℕ
  pub keeps : KeepsAnswer book.setup.home_secret now book.served entry packet answer

-- What names a request or a response of an earlier run, and which response is remembered for the request of a key (own).
use Rattle.std.specs.Prelude.{ℕ, List, Option, Some, None, option_map}
use Rattle.std.specs.List.{slice_get}
use Rattle.std.specs.FinMap as map
use Rattle.rad_tables.specs.declared.duplicates.Key.{Key}
use Rattle.rad_tables.specs.Keys.{key_cmp}
use Rattle.rad_desk.specs.declared.ledger.Earlier.{Earlier}
use Rattle.spool_files.specs.declared.counting.RememberedAnswer.{RememberedAnswer}
use Rattle.spool_files.specs.declared.entry.Came.{Came}

abbrev pub answer_at : List RememberedAnswer → Option ℕ → Option RememberedAnswer
answer_at answers None = None
answer_at answers (Some place) = slice_get answers place

-- What names the acceptance of a request that an earlier run took.
abbrev pub name_of_came : Came → Earlier
name_of_came came = record { run = came.run; lane = came.lane; number = came.number }

-- The answer at the place that the table has for the key: its response, and the run that gave it, with the lane and the serial there.
abbrev pub answer_of : map.FinMap key_cmp ℕ → List RememberedAnswer → Key → Option RememberedAnswer
answer_of places answers key = answer_at answers (map.get places key)

abbrev pub response_of : map.FinMap key_cmp ℕ → List RememberedAnswer → Key → Option (List ℕ)
response_of places answers key = option_map (λ answer. answer.octets.items) (answer_of places answers key)

abbrev pub name_of_answer : RememberedAnswer → Earlier
name_of_answer answer = record { run = answer.answered.run; lane = answer.answered.lane; number = answer.answered.serial }

abbrev pub name_of : map.FinMap key_cmp ℕ → List RememberedAnswer → Key → Option Earlier
name_of places answers key = option_map name_of_answer (answer_of places answers key)

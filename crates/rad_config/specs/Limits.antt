-- The limits of a lane (own): the range of each number. Times are in milliseconds.
use Rattle.std.specs.Prelude.{ℕ, ◌≤◌, ◌*◌, ◌-◌, List, [], ◌∷◌, Option, Some, None, nat_le, ◌&&◌, if◌then◌else◌}
use Rattle.rad_config.specs.declared.limits.LimitNumbers.{LimitNumbers}
use Rattle.rad_config.specs.declared.limits.LimitFault.{LimitFault}
use Rattle.rad_config.specs.declared.limits.LimitFault.TheVariants.{Ports, Window, Queue, Book, Tries, FirstWait, ProbeEvery, DownWait, Span, Ring}

-- A number, the least and the greatest value that it may have, and the fault if it is out of this range.
pub record Limit : Type 0 where
  pub number : ℕ
  pub least : ℕ
  pub most : ℕ
  pub fault : LimitFault

-- The limits of these numbers, in the order in which they are tested.
abbrev pub limits_of : LimitNumbers → List Limit
limits_of n =
    record { number = n.ports; least = 1; most = 4; fault = Ports }
    ∷ record { number = n.window; least = 1; most = 256 * n.ports - 2; fault = Window }
    ∷ record { number = n.queue; least = 1; most = 65536; fault = Queue }
    ∷ record { number = n.book; least = 1; most = 1000000; fault = Book }
    ∷ record { number = n.tries; least = 1; most = 10; fault = Tries }
    ∷ record { number = n.first_wait; least = 100; most = 60000; fault = FirstWait }
    ∷ record { number = n.probe_every; least = 1000; most = 600000; fault = ProbeEvery }
    ∷ record { number = n.down_wait; least = 1000; most = 3600000; fault = DownWait }
    ∷ record { number = n.span; least = 0; most = 600000; fault = Span }
    ∷ record { number = n.ring; least = 1; most = 4096; fault = Ring }
    ∷ []

-- The fault of the first number that is out of its range.
abbrev pub first_fault : List Limit → Option LimitFault
first_fault [] = None
first_fault (l ∷ ls) = if nat_le l.least l.number && nat_le l.number l.most then first_fault ls else Some l.fault

-- Each number is in its range.
pub record AreInRange (n : LimitNumbers) : Type 0 where
  pub ports : (1 ≤ n.ports) × (n.ports ≤ 4)
  pub window : (1 ≤ n.window) × (n.window ≤ 256 * n.ports - 2)
  pub queue : (1 ≤ n.queue) × (n.queue ≤ 65536)
  pub book : (1 ≤ n.book) × (n.book ≤ 1000000)
  pub tries : (1 ≤ n.tries) × (n.tries ≤ 10)
  pub first_wait : (100 ≤ n.first_wait) × (n.first_wait ≤ 60000)
  pub probe_every : (1000 ≤ n.probe_every) × (n.probe_every ≤ 600000)
  pub down_wait : (1000 ≤ n.down_wait) × (n.down_wait ≤ 3600000)
  pub span : n.span ≤ 600000
  pub ring : (1 ≤ n.ring) × (n.ring ≤ 4096)

-- A sending as it is made, from what was read and written for it.
use Rattle.std.proofs.Common.{◌≡◌, ℕ, ◌+◌, ◌≤◌, List, sym, ap, ◌∙◌, subst, arith, Fits, w8}
use Rattle.rad_auth.specs.Forwarding.{forwarded}
use Rattle.rad_config.specs.declared.limits.LimitNumbers.{LimitNumbers}
use Rattle.rad_config.specs.Limits.{AreInRange}
use Rattle.rad_tables.specs.Waiting.{wait_of}
use Rattle.rad_lane.specs.declared.stamp.Stamp.{Stamp}
use Rattle.rad_lane.specs.Stamp.{Recorded, IsRecord}
use Rattle.rad_lane.specs.Setup.{LaneSetup}
use Rattle.rad_lane.specs.Outstanding.{Outstanding, IsForwarded, octets_of, first_sending}

-- the first wait is in its range
pub first_wait_least : (read limits : LimitNumbers) → read ≡ limits → AreInRange limits → 100 ≤ read.first_wait
first_wait_least read limits same h = subst (λ (n : LimitNumbers). 100 ≤ n.first_wait) (sym same) h.first_wait.0

pub first_wait_most : (read limits : LimitNumbers) → read ≡ limits → AreInRange limits → read.first_wait ≤ 60000
first_wait_most read limits same h = subst (λ (n : LimitNumbers). n.first_wait ≤ 60000) (sym same) h.first_wait.1

module _ (setup : LaneSetup) (request : Recorded) (identifier : ℕ) where
  pub octets_so : (datagram text : List ℕ) (lane : ℕ) (stamp : Stamp) (home : List ℕ) → datagram ≡ forwarded text (record { lane = lane; number = stamp.number }) identifier home → text ≡ request.text → lane ≡ setup.lane → stamp ≡ request.stamp → home ≡ setup.home_secret → datagram ≡ octets_of setup request identifier
  octets_so datagram text lane stamp home made text_is lane_is stamp_is home_is =
      made
      ∙ ap (λ t. forwarded t (record { lane = lane; number = stamp.number }) identifier home) text_is
      ∙ ap (λ l. forwarded request.text (record { lane = l; number = stamp.number }) identifier home) lane_is
      ∙ ap (λ (s : Stamp). forwarded request.text (record { lane = setup.lane; number = s.number }) identifier home) stamp_is
      ∙ ap (λ h. forwarded request.text (record { lane = setup.lane; number = request.stamp.number }) identifier h) home_is

  module _ (kept : Recorded) (kept_is : kept ≡ request) (octets : List ℕ) (octets_are : octets ≡ octets_of setup request identifier) (home : List ℕ) (home_is : home ≡ setup.home_secret) where
    pub forwarded_so : (sendings due tries : ℕ) → IsRecord request → Fits w8 identifier → IsForwarded (record { request = kept; octets = octets; sendings = sendings; due = due; home = home; tries = tries })
    forwarded_so sendings due tries is below = record {
      is_record = subst IsRecord (sym kept_is) is;
      lane = setup.lane;
      identifier = identifier;
      octet = omega (arith, below);
      octets =
          octets_are
          ∙ ap (λ (r : Recorded). forwarded r.text (record { lane = setup.lane; number = r.stamp.number }) identifier setup.home_secret) (sym kept_is)
          ∙ ap (λ h. forwarded kept.text (record { lane = setup.lane; number = kept.stamp.number }) identifier h) (sym home_is);
    }

    pub first_so : (now due : ℕ) (limits : LimitNumbers) → limits ≡ setup.limits → due ≡ now + wait_of limits.first_wait 1 → (let sent : Outstanding = record { request = kept; octets = octets; sendings = 1; due = due; home = home; tries = limits.tries } in sent) ≡ first_sending setup now request identifier
    first_so now due limits limits_are due_is =
        ap (λ (r : Recorded). let sent : Outstanding = record { request = r; octets = octets; sendings = 1; due = due; home = home; tries = limits.tries } in sent) kept_is
        ∙ ap (λ text. let sent : Outstanding = record { request = request; octets = text; sendings = 1; due = due; home = home; tries = limits.tries } in sent) octets_are
        ∙ ap (λ n. let sent : Outstanding = record { request = request; octets = octets_of setup request identifier; sendings = 1; due = n; home = home; tries = limits.tries } in sent) due_is
        ∙ ap (λ h. let sent : Outstanding = record { request = request; octets = octets_of setup request identifier; sendings = 1; due = now + wait_of limits.first_wait 1; home = h; tries = limits.tries } in sent) home_is
        ∙ ap (λ (n : LimitNumbers). let sent : Outstanding = record { request = request; octets = octets_of setup request identifier; sendings = 1; due = now + wait_of n.first_wait 1; home = setup.home_secret; tries = n.tries } in sent) limits_are

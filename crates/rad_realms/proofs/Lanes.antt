-- The realm and the lane of a packet, from those of its User-Name.
use Rattle.std.proofs.Common.{◌≡◌, ℕ, List, Option, sym, ap, ◌∙◌}
use Rattle.std.specs.Prelude.{option_and_then}
use Rattle.rad_config.specs.Configuration.{Configuration}
use Rattle.rad_config.specs.Realm.{realm_in, user_name, realm_of_packet, lane_by, lane_of_packet}

pub realm_is : (text : List ℕ) (realm name : Option (List ℕ)) → realm ≡ option_and_then realm_in name → name ≡ user_name text → realm ≡ realm_of_packet text
unfolding realm_of_packet
realm_is text realm name read here = read ∙ ap (option_and_then realm_in) here

pub lane_is : (config : Configuration) (text : List ℕ) (realm : Option (List ℕ)) (lane : Option ℕ) → lane ≡ lane_by config realm → realm ≡ realm_of_packet text → lane_of_packet config text ≡ lane
unfolding lane_of_packet
lane_is config text realm lane leads here = ap (lane_by config) (sym here) ∙ sym leads

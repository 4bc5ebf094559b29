use Rattle.std.proofs.Common.{◌∙◌, append_assoc}
use Rattle.rad_advice.specs.Doubts.{home_doubts}
use Rattle.rad_advice.proofs.doubts.add_of_home.Goals as goal

pub returns : goal.returns
unfolding home_doubts
returns c =
    let unused = rw (c.doubt_if-unused.ensures, c.is_unused.ensures) at c.in_ok-add_doubt.ensures in
    let shared = rw (c.doubt_if-shared.ensures, c.is_shared.ensures, c.address.ensures, c.port.ensures, c.requires) at c.in_ok-add_doubt-2.ensures in
    let secret = rw (c.octets.ensures.value ∙ c.secret.ensures) at c.in_ok-add_of_secret.ensures in
    let short = rw (c.doubt_if-short.ensures, c.has_short_span.ensures) at c.add_doubt-3.ensures in
    rw (secret, shared, unused, append_assoc, append_assoc, append_assoc) at short

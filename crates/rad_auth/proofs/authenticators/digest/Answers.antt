use Rattle.std.proofs.Common.{◌∙◌}
use Rattle.std.proofs.lemmas.List.{append-nil, take_rest}
use Rattle.rad_auth.proofs.authenticators.digest.Goals as goal

pub returns : goal.returns
returns c = c.digest_of_parts.ensures ∙ simp (take_rest, append-nil)

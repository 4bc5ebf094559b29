-- The printed names of the faults of a secret and of a reply (own).
use Rattle.std.specs.Prelude.{ℕ, List, codes}
use Rattle.rad_auth.specs.declared.responding.ReplyFault.{ReplyFault}
use Rattle.rad_auth.specs.declared.responding.ReplyFault.TheVariants.{BadAuthenticator, MessageAuthenticatorHere, NoProxyState, OutOfMemory}
use Rattle.rad_auth.specs.declared.secret.SecretFault.{SecretFault}
use Rattle.rad_auth.specs.declared.secret.SecretFault.TheVariants.{Empty, TooLong}

abbrev pub secret_fault_text : SecretFault → List ℕ
secret_fault_text Empty = codes "Empty"
secret_fault_text TooLong = codes "TooLong"

abbrev pub reply_fault_text : ReplyFault → List ℕ
reply_fault_text BadAuthenticator = codes "BadAuthenticator"
reply_fault_text MessageAuthenticatorHere = codes "MessageAuthenticatorHere"
reply_fault_text NoProxyState = codes "NoProxyState"
reply_fault_text OutOfMemory = codes "OutOfMemory"

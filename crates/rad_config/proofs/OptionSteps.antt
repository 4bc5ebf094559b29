-- One step behind another, where each may find nothing.
use Rattle.std.proofs.Common.{◌≡◌, Option, Some, None, ap, ◌∙◌}
use Rattle.rad_config.specs.Address.{◌>>=◌}

-- a step that found something, with the rest behind it; and a step that found nothing, behind which nothing is done
pub found_on : {A B : Type 0} (o : Option A) (f : A → Option B) (x : A) (whole : Option B) → Some x ≡ o → whole ≡ f x → whole ≡ (o >>= f)
found_on o f x whole found rest = rest ∙ ap (λ q. q >>= f) found

pub ends_here : {A B : Type 0} (o : Option A) (f : A → Option B) (whole : Option B) → whole ≡ None → None ≡ o → whole ≡ (o >>= f)
ends_here o f whole is none = is ∙ ap (λ q. q >>= f) none

-- What is listed behind one line more.
use Rattle.std.specs.Prelude.{◌≡◌, ℕ, List, [], ◌∷◌, ◌++◌, Option}
use Rattle.std.specs.Borrow.{Bor}
use Rattle.std.specs.Str.{trim_start}
use Rattle.std.proofs.Common.{refl, ap, sym, ◌∙◌, map}
use Rattle.rad_addresses.specs.FibTrie.{Listing, named_in, after_name, after_line, listing}

pub listing_more : (so_far : Listing) (seen : List (Bor (List ℕ))) (line : Bor (List ℕ))
    → listing so_far (map (λ l. l.now) (seen ++ line ∷ [])) ≡ after_line (listing so_far (map (λ l. l.now) seen)) (trim_start line.now)
listing_more so_far [] line = refl
listing_more so_far (first ∷ seen) line = listing_more (after_line so_far (trim_start first.now)) seen line

-- The same where it is known what the line names.
pub listing_named : (so_far : Listing) (seen : List (Bor (List ℕ))) (line : Bor (List ℕ)) (named : Option (List ℕ)) → named ≡ named_in (trim_start line.now)
    → listing so_far (map (λ l. l.now) (seen ++ line ∷ [])) ≡ after_name (listing so_far (map (λ l. l.now) seen)) (trim_start line.now) named
listing_named so_far seen line named e = listing_more so_far seen line ∙ ap (after_name (listing so_far (map (λ l. l.now) seen)) (trim_start line.now)) (sym e)

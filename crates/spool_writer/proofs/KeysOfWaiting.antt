-- What becomes of the number of a key that is put among those that wait, or taken away.
use Rattle.std.proofs.Common.{◌≡◌, ◌∙◌, ap, refl, Bool, true, false, ℕ, Option, Some, None, cond}
use Rattle.std.specs.FinMap as map
use Rattle.std.specs.Ordering.{eq_by_cmp}
use Rattle.rad_tables.specs.declared.duplicates.Key.{Key}
use Rattle.rad_tables.specs.Keys.{key_cmp}
use Rattle.rad_tables.proofs.KeyLemmas.{keys_total}
use Rattle.spool_writer.specs.Offers.{is_taken, number_at}

untaken_if : (b : Bool) (one other : Option ℕ) → is_taken one ≡ false → is_taken other ≡ false → is_taken (cond b one other) ≡ false
untaken_if true one other first second = first
untaken_if false one other first second = second

-- a request that waits was not taken
pub untaken_waiting : (numbers : map.FinMap key_cmp ℕ) (key : Key)
    → is_taken (number_at numbers key) ≡ false → is_taken (number_at (map.insert numbers key 0) key) ≡ false
untaken_waiting numbers key untaken =
    ap is_taken (map.get-insert keys_total numbers key 0 key) ∙ untaken_if (eq_by_cmp key_cmp key key) (Some 0) (map.get numbers key) refl untaken

-- nor was one that waits no more
pub untaken_removed : (numbers : map.FinMap key_cmp ℕ) (key : Key)
    → is_taken (number_at numbers key) ≡ false → is_taken (number_at (map.remove numbers key) key) ≡ false
untaken_removed numbers key untaken =
    ap is_taken (map.get-remove keys_total numbers key key) ∙ untaken_if (eq_by_cmp key_cmp key key) None (map.get numbers key) refl untaken

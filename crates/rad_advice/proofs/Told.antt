-- What is told of a text, by the value that it is.
use Rattle.std.proofs.Common.{◌≡◌, ℕ, List, [], ◌++◌, codes, Option, Some, option_map, ap}
use Rattle.std.specs.Prelude.{if◌then◌else◌}
use Rattle.toml.specs.Data.{Data, string, integer, float, boolean, datetime, array, table, as_str}
use Rattle.rad_advice.specs.Faults.{data_text}
use Rattle.rad_advice.specs.Printed.{name_text}
use Rattle.rad_advice.specs.Telling.{is_told}

pub text_is : (d : Data) (text : List ℕ) → Some text ≡ as_str d → (if is_told text then codes ": " ++ name_text text else []) ≡ data_text (Some d)
text_is (string s) text e = ap (λ (o : Option (List ℕ)). data_text (option_map string o)) e
text_is (integer z) text e = absurd cc
text_is (float x) text e = absurd cc
text_is (boolean b) text e = absurd cc
text_is (datetime t) text e = absurd cc
text_is (array items) text e = absurd cc
text_is (table members) text e = absurd cc

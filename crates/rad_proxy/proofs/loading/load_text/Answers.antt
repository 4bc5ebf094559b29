use Rattle.std.proofs.Common.{inl, arith}
use Rattle.rad_proxy.proofs.loading.load_text.Goals as goal

pub returns-in-Ok-configuration : goal.returns-in-Ok-configuration
returns-in-Ok-configuration g c = record {
  text = c.in-Ok.octets.items;
  whole = c.in-Ok.ensures.whole;
  bounded = omega (arith, c.in-Ok.ensures.bounded);
  reads = inl (rw c.as_slice.ensures.value at c.in-Ok-tell_text.ensures.0, rw (c.in-Ok-tell_text.ensures.1, c.as_slice.ensures.value) at c.in-Ok-configuration.ensures);
}

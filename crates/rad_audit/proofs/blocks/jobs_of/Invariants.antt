use Rattle.std.proofs.Common.{◌≡◌, ◌<◌, ◌++◌, flat_map, map}
use Rattle.std.specs.Slice.Iter.{chunks_mut_rest, chunks_mut_size}
use Rattle.rad_audit.specs.Blocks.{read_into}
use Rattle.rad_audit.proofs.blocks.jobs_of.Given as goal

-- the jobs so far, and the slots that are left, are all slots
abbrev pub invariant-loop-job : goal.invariant-loop-job
invariant-loop-job l = record {
  size : 0 < chunks_mut_size l.job-iterator;
  lines : flat_map (λ job. map read_into job.now) l.jobs.items ++ map read_into (chunks_mut_rest l.job-iterator) ≡ map read_into l.fn.slots;
}

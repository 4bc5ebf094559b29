use Rattle.std.proofs.Common.{rules, map, min, take, vec_len, ap, ◌∙◌, arith}
use Rattle.rad_audit.specs.Blocks.{HaveLines, read_into}
use Rattle.rad_audit.proofs.Parts.{have_lines, ok_both}
use Rattle.rad_audit.proofs.blocks.Block.judge.Goals as goal

pub returns-clause-whole : goal.returns-clause-whole
returns-clause-whole g c =
    ok_both c.map_vec.result _ _
    (λ parts. HaveLines parts.items (map read_into (take (min c.args.self.now.count (vec_len c.args.self.now.slots)) c.args.self.now.slots.items)))
    c.map_vec.ensures.len c.map_vec.ensures.each
    (λ parts len each whole.
    have_lines (λ job. map read_into job.now) c.in_ok-jobs.jobs.items parts.items (grind (arith, len, parts.ok, c.in_ok-jobs.jobs.ok))
    (λ i d p h w. let k = (each i p h).1 in let is = k.job_is d in let met = k.call.met in search rules)
    whole
    ∙ c.in_ok-jobs.ensures
    ∙ ap (λ xs. map read_into (take c.min-count.result xs)) c.deref_mut.ensures.value
    ∙ ap (λ n. map read_into (take n c.args.self.now.slots.items)) (c.min-count.ensures ∙ ap (min c.args.self.now.count) c.len.ensures))

use Rattle.rad_config.proofs.Steps.{read_on, stops_here}
use Rattle.rad_config.specs.Walk.{numbers_at}
use Rattle.std.proofs.lemmas.Result.{err_from_is_err_and}
use Rattle.std.proofs.Common.{refl}
use Rattle.rad_config.proofs.reading.sections.lane_numbers.Goals as goal

pub returns-in_err-window : goal.returns-in_err-window
unfolding numbers_at
returns-in_err-window c =
    let p = err_from_is_err_and c.from_residual.result c.from_residual.ensures.1 in
    stops_here _ _ _ _ _ p.1 p.2 c.in_err-window.ensures

pub returns-in_err-queue : goal.returns-in_err-queue
unfolding numbers_at
returns-in_err-queue c =
    let p = err_from_is_err_and c.from_residual-in_err-queue.result c.from_residual-in_err-queue.ensures.1 in
    read_on _ _ _ _ c.in_ok-window.ensures (stops_here _ _ _ _ _ p.1 p.2 c.in_err-queue.ensures)

pub returns-in_err-book : goal.returns-in_err-book
unfolding numbers_at
returns-in_err-book c =
    let p = err_from_is_err_and c.from_residual-in_err-book.result c.from_residual-in_err-book.ensures.1 in
    read_on _ _ _ _ c.in_ok-window.ensures (read_on _ _ _ _ c.in_ok-queue.ensures (stops_here _ _ _ _ _ p.1 p.2 c.in_err-book.ensures))

pub returns-in_err-tries : goal.returns-in_err-tries
unfolding numbers_at
returns-in_err-tries c =
    let p = err_from_is_err_and c.from_residual-in_err-tries.result c.from_residual-in_err-tries.ensures.1 in
    read_on _ _ _ _ c.in_ok-window.ensures (read_on _ _ _ _ c.in_ok-queue.ensures (read_on _ _ _ _ c.in_ok-book.ensures (stops_here _ _ _ _ _ p.1 p.2 c.in_err-tries.ensures)))

pub returns-in_err-first_wait : goal.returns-in_err-first_wait
unfolding numbers_at
returns-in_err-first_wait c =
    let p = err_from_is_err_and c.from_residual-in_err-first_wait.result c.from_residual-in_err-first_wait.ensures.1 in
    read_on _ _ _ _ c.in_ok-window.ensures (read_on _ _ _ _ c.in_ok-queue.ensures (read_on _ _ _ _ c.in_ok-book.ensures (read_on _ _ _ _ c.in_ok-tries.ensures (stops_here _ _ _ _ _ p.1 p.2 c.in_err-first_wait.ensures))))

pub returns-in_err-probe_every : goal.returns-in_err-probe_every
unfolding numbers_at
returns-in_err-probe_every c =
    let p = err_from_is_err_and c.from_residual-in_err-probe_every.result c.from_residual-in_err-probe_every.ensures.1 in
    read_on _ _ _ _ c.in_ok-window.ensures (read_on _ _ _ _ c.in_ok-queue.ensures (read_on _ _ _ _ c.in_ok-book.ensures (read_on _ _ _ _ c.in_ok-tries.ensures (read_on _ _ _ _ c.in_ok-first_wait.ensures (stops_here _ _ _ _ _ p.1 p.2 c.in_err-probe_every.ensures)))))

pub returns-in_err-down_wait : goal.returns-in_err-down_wait
unfolding numbers_at
returns-in_err-down_wait c =
    let p = err_from_is_err_and c.from_residual-in_err-down_wait.result c.from_residual-in_err-down_wait.ensures.1 in
    read_on _ _ _ _ c.in_ok-window.ensures (read_on _ _ _ _ c.in_ok-queue.ensures (read_on _ _ _ _ c.in_ok-book.ensures (read_on _ _ _ _ c.in_ok-tries.ensures (read_on _ _ _ _ c.in_ok-first_wait.ensures (read_on _ _ _ _ c.in_ok-probe_every.ensures (stops_here _ _ _ _ _ p.1 p.2 c.in_err-down_wait.ensures))))))

pub returns-in_err-span : goal.returns-in_err-span
unfolding numbers_at
returns-in_err-span c =
    let p = err_from_is_err_and c.from_residual-in_err-span.result c.from_residual-in_err-span.ensures.1 in
    read_on _ _ _ _ c.in_ok-window.ensures (read_on _ _ _ _ c.in_ok-queue.ensures (read_on _ _ _ _ c.in_ok-book.ensures (read_on _ _ _ _ c.in_ok-tries.ensures (read_on _ _ _ _ c.in_ok-first_wait.ensures (read_on _ _ _ _ c.in_ok-probe_every.ensures (read_on _ _ _ _ c.in_ok-down_wait.ensures (stops_here _ _ _ _ _ p.1 p.2 c.in_err-span.ensures)))))))

pub returns-in_err-ring : goal.returns-in_err-ring
unfolding numbers_at
returns-in_err-ring c =
    let p = err_from_is_err_and c.from_residual-in_err-ring.result c.from_residual-in_err-ring.ensures.1 in
    read_on _ _ _ _ c.in_ok-window.ensures (read_on _ _ _ _ c.in_ok-queue.ensures (read_on _ _ _ _ c.in_ok-book.ensures (read_on _ _ _ _ c.in_ok-tries.ensures (read_on _ _ _ _ c.in_ok-first_wait.ensures (read_on _ _ _ _ c.in_ok-probe_every.ensures (read_on _ _ _ _ c.in_ok-down_wait.ensures (read_on _ _ _ _ c.in_ok-span.ensures (stops_here _ _ _ _ _ p.1 p.2 c.in_err-ring.ensures))))))))

pub returns-in_err-ports : goal.returns-in_err-ports
unfolding numbers_at
returns-in_err-ports c =
    let p = err_from_is_err_and c.from_residual-in_err-ports.result c.from_residual-in_err-ports.ensures.1 in
    read_on _ _ _ _ c.in_ok-window.ensures (read_on _ _ _ _ c.in_ok-queue.ensures (read_on _ _ _ _ c.in_ok-book.ensures (read_on _ _ _ _ c.in_ok-tries.ensures (read_on _ _ _ _ c.in_ok-first_wait.ensures (read_on _ _ _ _ c.in_ok-probe_every.ensures (read_on _ _ _ _ c.in_ok-down_wait.ensures (read_on _ _ _ _ c.in_ok-span.ensures (read_on _ _ _ _ c.in_ok-ring.ensures (stops_here _ _ _ _ _ p.1 p.2 c.in_err-ports.ensures)))))))))

pub returns : goal.returns
unfolding numbers_at
returns c =
    read_on _ _ _ _ c.in_ok-window.ensures (read_on _ _ _ _ c.in_ok-queue.ensures (read_on _ _ _ _ c.in_ok-book.ensures (read_on _ _ _ _ c.in_ok-tries.ensures (read_on _ _ _ _ c.in_ok-first_wait.ensures (read_on _ _ _ _ c.in_ok-probe_every.ensures (read_on _ _ _ _ c.in_ok-down_wait.ensures (read_on _ _ _ _ c.in_ok-span.ensures (read_on _ _ _ _ c.in_ok-ring.ensures (read_on _ _ _ _ c.in_ok-ports.ensures (refl))))))))))

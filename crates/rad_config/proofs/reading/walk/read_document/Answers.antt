use Rattle.std.proofs.Common.{◌∙◌, ap, sym, Ok, option_map}
use Rattle.std.proofs.lemmas.Result.{err_from_is_err_and}
use Rattle.toml.specs.View.{table_view}
use Rattle.rad_config.specs.Walk.{walk}
use Rattle.rad_config.proofs.Failing.{fails_is, fails_here, fails_later}
use Rattle.rad_config.proofs.WellFormed.{read_well}
use Rattle.rad_config.proofs.reading.walk.read_document.Goals as goal

pub invariant_of-config : goal.invariant_of-config
invariant_of-config c = read_well (table_view c.args.doc.now) _ (record {
  default_home = option_map (λ s. s.now) c.in_ok-default_home.default_home;
  other_home = option_map (λ s. s.now) c.in_ok-other_home.other_home;
  clients = c.in_ok-clients.ensures;
  homes = c.in_ok-homes.ensures;
  realms = c.in_ok-realms.ensures ∙ ap Ok (sym c.in_ok-realms-2.ensures.ok);
  default_lane = sym c.in_ok-default_lane.ensures;
  other_lane = sym c.in_ok-other_lane.ensures;
})

pub returns-in_err-listen : goal.returns-in_err-listen
unfolding walk
returns-in_err-listen c =
    let p = err_from_is_err_and c.from_residual.result c.from_residual.ensures.1 in
    rw (p.1, p.2) (fails_here _ _ _ (fails_is _ _ c.in_err-listen.ensures))

pub returns-in_err-default_home : goal.returns-in_err-default_home
unfolding walk
returns-in_err-default_home c =
    let p = err_from_is_err_and c.from_residual-in_err-default_home.result c.from_residual-in_err-default_home.ensures.1 in
    rw (p.1, p.2) (fails_later _ _ _ _ (sym c.in_ok-listen.ensures) (fails_here _ _ _ (fails_is _ _ (sym c.in_err-default_home.ensures))))

pub returns-in_err-other_home : goal.returns-in_err-other_home
unfolding walk
returns-in_err-other_home c =
    let p = err_from_is_err_and c.from_residual-in_err-other_home.result c.from_residual-in_err-other_home.ensures.1 in
    rw (p.1, p.2) (fails_later _ _ _ _ (sym c.in_ok-listen.ensures) (fails_later _ _ _ _ c.in_ok-default_home.ensures (fails_here _ _ _ (fails_is _ _ (sym c.in_err-other_home.ensures)))))

pub returns-in_err-linger : goal.returns-in_err-linger
unfolding walk
returns-in_err-linger c =
    let p = err_from_is_err_and c.from_residual-in_err-linger.result c.from_residual-in_err-linger.ensures.1 in
    rw (p.1, p.2) (fails_later _ _ _ _ (sym c.in_ok-listen.ensures) (fails_later _ _ _ _ c.in_ok-default_home.ensures (fails_later _ _ _ _ c.in_ok-other_home.ensures (fails_here _ _ _ (fails_is _ _ c.in_err-linger.ensures)))))

pub returns-in_err-clients : goal.returns-in_err-clients
unfolding walk
returns-in_err-clients c =
    let p = err_from_is_err_and c.from_residual-in_err-clients.result c.from_residual-in_err-clients.ensures.1 in
    rw (p.1, p.2) (fails_later _ _ _ _ (sym c.in_ok-listen.ensures) (fails_later _ _ _ _ c.in_ok-default_home.ensures (fails_later _ _ _ _ c.in_ok-other_home.ensures (fails_later _ _ _ _ (sym c.in_ok-linger.ensures) (fails_here _ _ _ c.in_err-clients.ensures)))))

pub returns-in_err-homes : goal.returns-in_err-homes
unfolding walk
returns-in_err-homes c =
    let p = err_from_is_err_and c.from_residual-in_err-homes.result c.from_residual-in_err-homes.ensures.1 in
    rw (p.1, p.2) (fails_later _ _ _ _ (sym c.in_ok-listen.ensures) (fails_later _ _ _ _ c.in_ok-default_home.ensures (fails_later _ _ _ _ c.in_ok-other_home.ensures (fails_later _ _ _ _ (sym c.in_ok-linger.ensures) (fails_later _ _ _ _ c.in_ok-clients.ensures (fails_here _ _ _ c.in_err-homes.ensures))))))

pub returns-in_err-realms : goal.returns-in_err-realms
unfolding walk
returns-in_err-realms c =
    let p = err_from_is_err_and c.from_residual-in_err-realms.result c.from_residual-in_err-realms.ensures.1 in
    rw (p.1, p.2) (fails_later _ _ _ _ (sym c.in_ok-listen.ensures) (fails_later _ _ _ _ c.in_ok-default_home.ensures (fails_later _ _ _ _ c.in_ok-other_home.ensures (fails_later _ _ _ _ (sym c.in_ok-linger.ensures) (fails_later _ _ _ _ c.in_ok-clients.ensures (fails_later _ _ _ _ c.in_ok-homes.ensures (fails_here _ _ _ c.in_err-realms.ensures)))))))

pub returns-in_err-default_lane : goal.returns-in_err-default_lane
unfolding walk
returns-in_err-default_lane c =
    let p = err_from_is_err_and c.from_residual-in_err-default_lane.result c.from_residual-in_err-default_lane.ensures.1 in
    rw (p.1, p.2) (fails_later _ _ _ _ (sym c.in_ok-listen.ensures) (fails_later _ _ _ _ c.in_ok-default_home.ensures (fails_later _ _ _ _ c.in_ok-other_home.ensures (fails_later _ _ _ _ (sym c.in_ok-linger.ensures) (fails_later _ _ _ _ c.in_ok-clients.ensures (fails_later _ _ _ _ c.in_ok-homes.ensures (fails_later _ _ _ _ c.in_ok-realms.ensures (fails_here _ _ _ (fails_is _ _ c.in_err-default_lane.ensures)))))))))

pub returns-in_err-other_lane : goal.returns-in_err-other_lane
unfolding walk
returns-in_err-other_lane c =
    let p = err_from_is_err_and c.from_residual-in_err-other_lane.result c.from_residual-in_err-other_lane.ensures.1 in
    rw (p.1, p.2) (fails_later _ _ _ _ (sym c.in_ok-listen.ensures) (fails_later _ _ _ _ c.in_ok-default_home.ensures (fails_later _ _ _ _ c.in_ok-other_home.ensures (fails_later _ _ _ _ (sym c.in_ok-linger.ensures) (fails_later _ _ _ _ c.in_ok-clients.ensures (fails_later _ _ _ _ c.in_ok-homes.ensures (fails_later _ _ _ _ c.in_ok-realms.ensures (fails_later _ _ _ _ (sym c.in_ok-default_lane.ensures) (fails_here _ _ _ (fails_is _ _ c.in_err-other_lane.ensures))))))))))

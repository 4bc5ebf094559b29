-- What handling a datagram leaves written answers it.
use Rattle.std.proofs.Common.{ℕ, sym, subst}
use Rattle.std.specs.Prelude.{Ok}
use Rattle.rad_realms.specs.declared.checking.Incoming.{Incoming}
use Rattle.rad_realms.specs.declared.checking.Incoming.TheVariants as incoming
use Rattle.rad_lane.specs.declared.accepting.Taken.TheVariants.{Again}
use Rattle.rad_lane.specs.Datagrams.{Datagrams}
use Rattle.rad_desk.specs.declared.handling.Handled.TheVariants.{Taken, Answered}
use Rattle.rad_desk.specs.Handling.{Handles}
use Rattle.rad_desk.specs.Once.{Fits, IsAnswerTo}

-- A repeat of a request that was answered, where what is written fits the request.
pub again_answers : (asked : Incoming) (moment lanes lane number : ℕ) (d : Datagrams) → Handles asked moment lanes (Ok (Taken lane (Again number))) d → Fits asked d.after → IsAnswerTo asked moment d.after
again_answers asked moment lanes lane number d h is_fit =
    let fit : Fits (incoming.Request h.0.request) d.after = subst (λ i. Fits i d.after) h.0.is is_fit in
    subst (λ i. IsAnswerTo i moment d.after) (sym h.0.is)
    (record { number = number; before = d.before; accepts = h.0.accepts; verified = h.0.returns; identifier = fit.0; right = fit.1 })

-- A Status-Server.
pub status_answers : (asked : Incoming) (moment lanes : ℕ) (d : Datagrams) → Handles asked moment lanes (Ok Answered) d → IsAnswerTo asked moment d.after
status_answers asked moment lanes d h = subst (λ i. IsAnswerTo i moment d.after) (sym h.is) h.sent

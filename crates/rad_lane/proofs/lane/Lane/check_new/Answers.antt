use Rattle.std.proofs.Common.{refl, sym, ap, ◌∙◌}
use Rattle.std.specs.Option.{is_some}
use Rattle.rad_lane.specs.Book.{Book}
use Rattle.rad_lane.proofs.NewRefused.{not_drained, book_full, book_room, numbers_used, queue_full, queue_room, too_long, mark_fits}
use Rattle.rad_lane.proofs.lane.Lane.check_new.Goals as goal
use Rattle.rad_lane.proofs.lane.Lane.check_new.Goals.{then-as_slice-limits-via-then-as_slice-limits, then-as_slice-limits-via-else-as_slice-limits+then-next_number-ge-NUMBER_LIMIT}

pub returns-then-is_some : goal.returns-then-is_some
returns-then-is_some g c = ap (λ (b : Book). is_some b.drain) (sym c.self.view_is) ∙ sym c.is_some.ensures ∙ c.if-is_some.true

pub returns-then-as_slice-limits : goal.returns-then-as_slice-limits
returns-then-as_slice-limits g c = (
  not_drained _ _ c.self.view_is _ c.is_some.ensures c.if-is_some.false,
  elim c.then-as_slice-limits.branch [
    | then-as_slice-limits-via-then-as_slice-limits w ↦
        book_full _ _ c.self.view_is _ (c.numbers-limits.ensures.value ∙ c.limits.ensures.value) _ c.as_slice.ensures w.if-as_slice-limits.true
    | then-as_slice-limits-via-else-as_slice-limits+then-next_number-ge-NUMBER_LIMIT w ↦
        numbers_used c.args.self.now _ w.next_number.ensures.value w.if-next_number-ge-NUMBER_LIMIT.true
  ],
)

pub returns-then-len-limits : goal.returns-then-len-limits
returns-then-len-limits g c =
    let limits = c.numbers-limits.ensures.value ∙ c.limits.ensures.value in (
      not_drained _ _ c.self.view_is _ c.is_some.ensures c.if-is_some.false,
      book_room _ _ c.self.view_is _ limits _ c.as_slice.ensures c.if-as_slice-limits.false _ c.next_number.ensures.value c.if-next_number-ge-NUMBER_LIMIT.false,
      queue_full _ _ c.self.view_is _ limits _ refl _ c.len.ensures c.if-len-limits.true,
    )

pub returns-then-octets : goal.returns-then-octets
returns-then-octets g c =
    let limits = c.numbers-limits.ensures.value ∙ c.limits.ensures.value in (
      not_drained _ _ c.self.view_is _ c.is_some.ensures c.if-is_some.false,
      book_room _ _ c.self.view_is _ limits _ c.as_slice.ensures c.if-as_slice-limits.false _ c.next_number.ensures.value c.if-next_number-ge-NUMBER_LIMIT.false,
      queue_room _ _ c.self.view_is _ limits _ refl _ c.len.ensures c.if-len-limits.false,
      too_long c.args.request.now _ _ c.octets.ensures.value c.packet.ensures.text c.if-octets.true,
    )

pub returns : goal.returns
returns g c =
    let limits = c.numbers-limits.ensures.value ∙ c.limits.ensures.value in (
      not_drained _ _ c.self.view_is _ c.is_some.ensures c.if-is_some.false,
      book_room _ _ c.self.view_is _ limits _ c.as_slice.ensures c.if-as_slice-limits.false _ c.next_number.ensures.value c.if-next_number-ge-NUMBER_LIMIT.false,
      queue_room _ _ c.self.view_is _ limits _ refl _ c.len.ensures c.if-len-limits.false,
      mark_fits c.args.request.now _ _ c.octets.ensures.value c.packet.ensures.text c.if-octets.false,
    )

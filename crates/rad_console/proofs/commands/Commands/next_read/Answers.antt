use Rattle.std.proofs.Common.{rules, ◌≡◌, ◌≢◌, ◌<◌, ◌≤◌, ◌++◌, ◌∷◌, length, take, drop, ◌+◌, sym, ap, subst, ◌∙◌, arith}
use Rattle.std.proofs.lemmas.List.{length-take, length-take-le, drop_all}
use Rattle.std.proofs.lemmas.Option.{slice_get_within}
use Rattle.std.proofs.lemmas.List.Elements.{All-append, All-take}
use Rattle.rad_console.specs.Commands.{HasNoFeed, IsFront, Asks}
use Rattle.rad_console.proofs.CommandLemmas.{split_round}
use Rattle.rad_console.proofs.commands.Commands.next_read.Goals as goal

pub invariant_of-self-in-None : goal.invariant_of-self-in-None
invariant_of-self-in-None g c =
    let line = c.args.self.now.line in
    let unread = c.as_slice-unread.result.now in
    let unended : HasNoFeed unread = c.in-None.ensures in
    let short : length (take 64 (line ++ unread)) ≤ 64 = omega (arith, length-take 64 (line ++ unread)) in
    let still : HasNoFeed (take 64 (line ++ unread)) =
    All-take (λ octet. octet ≢ 10) 64 (line ++ unread) (All-append (λ octet. octet ≢ 10) line unread c.args.self.now.front.1 unended) in
    let kept : IsFront c.push-in-None.new.self = subst IsFront (sym c.push-in-None.ensures) (short, still) in
    record { front = kept }

pub returns-in-Some-clause-ends : goal.returns-in-Some-clause-ends
returns-in-Some-clause-ends g c =
    let count = c.in-Some.count in
    let line = c.args.self.now.line in
    let unread = c.args.self.now.unread in
    let same : c.as_slice-unread.result.now ≡ unread = search rules in
    let found = c.in-Some.ensures in
    let whole : c.as_slice-unread.result.now ≡ take count c.as_slice-unread.result.now ++ 10 ∷ drop (count + 1) c.as_slice-unread.result.now =
    split_round c.as_slice-unread.result.now count 10 found.there in (
      record {
        rest = take count c.as_slice-unread.result.now;
        split = sym same ∙ whole
            ∙ ap (λ xs. take count c.as_slice-unread.result.now ++ 10 ∷ xs) (ap (λ xs. drop (count + 1) xs) same ∙ sym c.skip.ensures);
        first = found.before;
        asks = subst (λ xs. Asks xs c.end.result) c.push.ensures c.end.ensures.asked;
      },
      c.end.ensures.empty,
    )

pub slice_bounds-push-end : goal.slice_bounds-push-end
slice_bounds-push-end g c =
    let count = c.in-Some.count in
    let unread = c.as_slice-unread.result.now in
    let found = c.in-Some.ensures in
    let within : count < length unread = slice_get_within unread count 10 found.there in
    sym (length-take-le count unread (omega (arith, within)))

pub skip-requires : goal.skip-requires
skip-requires g c =
    let unread = c.as_slice-unread.result.now in
    let found = c.in-Some.ensures in
    let within : c.in-Some.count < length unread = slice_get_within unread c.in-Some.count 10 found.there in
    omega (arith, within, ap length c.as_slice-unread.ensures)

pub invariant_of-self : goal.invariant_of-self
invariant_of-self g c = record { front = subst IsFront (sym c.end.ensures.empty) (omega arith, (λ k d less is. absurd (omega (arith, less)))) }

pub skip-requires-in-None : goal.skip-requires-in-None
skip-requires-in-None g c = omega (arith, ap length c.as_slice-unread.ensures)

pub returns-in-None-clause-ends : goal.returns-in-None-clause-ends
returns-in-None-clause-ends g c =
    let line = c.args.self.now.line in
    let same = c.as_slice-unread.ensures in
    let unended : HasNoFeed c.as_slice-unread.result.now = c.in-None.ensures in (
      c.push-in-None.ensures ∙ ap (λ xs. take 64 (line ++ xs)) same,
      c.skip-in-None.ensures ∙ drop_all (length c.as_slice-unread.result.now) c.args.self.now.unread (omega (arith, ap length same)),
      subst HasNoFeed same unended,
    )

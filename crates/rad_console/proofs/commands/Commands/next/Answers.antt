use Rattle.std.proofs.Common.{◌++◌, sym, subst}
use Rattle.std.specs.Prelude.{Ok, Some}
use Rattle.std.specs.Io.KnownBytes.{Consumes, Keeps, prepend_known}
use Rattle.rad_console.specs.Commands.{ReadsNext, ReadsMore}
use Rattle.rad_console.proofs.CommandLemmas.{HasReadOf, begins, goes_on, reads_line, reads_last, keeps_front, gives_up}
use Rattle.rad_console.proofs.commands.Commands.next.Goals as goal

pub loop-init : goal.loop-init
loop-init g c =
    let self = c.args.self.now in
    begins self.line self.unread (g.R.Read.remaining self.reader) self.front.0 self.front.1

pub returns-in-Some : goal.returns-in-Some
returns-in-Some g c =
    let first = c.args.self.now in
    let self = c.loop.self in
    let new = c.next_read.new.self in
    subst (λ reader. ReadsNext (prepend_known (first.line ++ first.unread) (g.R.Read.remaining first.reader))
    (Ok (Some c.in-Some.command)) (prepend_known (new.line ++ new.unread) (g.R.Read.remaining reader)))
    (sym c.next_read.ensures.reader)
    (reads_line _ (prepend_known (first.line ++ first.unread) (g.R.Read.remaining first.reader)) self.line self.unread
    (g.R.Read.remaining self.reader) c.in-Some.command new.line new.unread c.loop.invariant c.in-Some.ensures.ends.0 c.in-Some.ensures.ends.1)

pub returns : goal.returns
returns g c =
    let first = c.args.self.now in
    let self = c.loop.self in
    gives_up (prepend_known (first.line ++ first.unread) (g.R.Read.remaining first.reader)) self.line self.unread
    (g.R.Read.remaining self.reader) _ c.loop.invariant

pub returns-in-Ok-false : goal.returns-in-Ok-false
returns-in-Ok-false g c =
    let first = c.args.self.now in
    let self = c.loop.self in
    let before = prepend_known (first.line ++ first.unread) (g.R.Read.remaining first.reader) in
    let after = g.R.Read.remaining c.read.new.reader in
    let ended = c.in_default.ensures.ends in
    let more = subst (λ b. ReadsMore (g.R.Read.remaining c.next_read.new.self.reader) c.read.new.self after b) c.in-Ok-false.field-0-test
    c.in-Ok-false.ensures.more in
    let given = subst (λ reader. Consumes (g.R.Read.remaining reader) after c.read.new.self) c.next_read.ensures.reader more.0 in
    let read = goes_on before self.line self.unread (g.R.Read.remaining self.reader) c.read.new.self after c.loop.invariant ended.2 given in
    subst (λ reader. ReadsNext before (Ok c.last.result)
    (prepend_known (c.last.new.self.line ++ c.last.new.self.unread) (g.R.Read.remaining reader)))
    (sym c.last.ensures.rest.0)
    (reads_last _ before c.next_read.new.self.line c.read.new.self after c.last.result c.last.new.self.line c.last.new.self.unread
    (subst (λ line. HasReadOf before line c.read.new.self after) (sym ended.0) read)
    more.1 more.2 c.last.ensures.last c.last.ensures.rest.2 c.last.ensures.rest.1)

pub returns-in-Err : goal.returns-in-Err
returns-in-Err g c =
    let first = c.args.self.now in
    let self = c.loop.self in
    let before = prepend_known (first.line ++ first.unread) (g.R.Read.remaining first.reader) in
    let after = g.R.Read.remaining c.read.new.reader in
    let ended = c.in_default.ensures.ends in
    let none = c.in-Err.ensures.none in
    let kept = subst (λ reader. Keeps (g.R.Read.remaining reader) after) c.next_read.ensures.reader none.1 in
    keeps_front before self.line self.unread (g.R.Read.remaining self.reader) c.in-Err.error c.next_read.new.self.line c.read.new.self after
    c.loop.invariant ended.2 ended.0 none.0 kept

pub loop-preserved : goal.loop-preserved
loop-preserved g c =
    let first = c.args.self.now in
    let self = c.loop.self in
    let before = prepend_known (first.line ++ first.unread) (g.R.Read.remaining first.reader) in
    let after = g.R.Read.remaining c.read.new.reader in
    let ended = c.in_default.ensures.ends in
    let more = subst (λ b. ReadsMore (g.R.Read.remaining c.next_read.new.self.reader) c.read.new.self after b) c.in-Ok-true.field-0-test
    c.in-Ok-true.ensures.more in
    let given = subst (λ reader. Consumes (g.R.Read.remaining reader) after c.read.new.self) c.next_read.ensures.reader more in
    let read = goes_on before self.line self.unread (g.R.Read.remaining self.reader) c.read.new.self after c.loop.invariant ended.2 given in
    subst (λ line. HasReadOf before line c.read.new.self after) (sym ended.0) read

use Rattle.std.proofs.Common.{◌<◌, ◌+◌, ◌^◌, ◌∙◌, ◌∷◌, ◌++◌, [], length, ap, sym, subst, arith}
use Rattle.std.specs.Prelude.{IfSome}
use Rattle.ds_hub.specs.Logs.{queued}
use Rattle.ds_hub.specs.Running.{unseen}
use Rattle.ds_hub.proofs.Counting.{logged, queued-none, runs_added}
use Rattle.ds_hub.proofs.writer.Writer.add_as.Goals as goal

pub invariant_of-self-2 : goal.invariant_of-self-2
invariant_of-self-2 g c =
    let w = c.self.inside in
    let log = queued w.copies.log w.parked in
    let same = c.let_in.ensures.same in
    let none = queued-none w.copies.log w.parked (sym c.is_some.ensures ∙ c.if-is_some.false) in
    let more = c.let_in.ensures.queued ∙ ap (λ l. l ++ logged g.S.Absorb.asks c.args.op c.duplicate.result ∷ []) (sym none) in
    let room : length w.copies.shown.prefix.list + length (unseen w.copies.shown.prefix w.announced) < 2 ^ 62 =
    omega (arith, ap (λ v. length v.published) c.self.view_is, ap (λ v. length v.pending) c.self.view_is, c.requires.room) in
    let own = subst (λ (v : _). IfSome v.start (λ s. g.S.Absorb.belongs s (g.M.Tells.told c.args.about.now)))
    (sym c.self.view_is) c.requires.belongs in
    rw (more, same.1, same.2, c.duplicate.ensures)
    (runs_added g.S.Absorb.asks g.S.Absorb.applied g.S.Absorb.belongs w.head w.copies.knows _ w.copies.shown.prefix log w.announced c.announce.new.prefix w.waiting c.args.op _ c.self.invariant room c.announce.ensures.hub c.if-not-announce.ensures.list c.requires.asks own)

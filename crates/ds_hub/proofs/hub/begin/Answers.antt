use Rattle.std.proofs.Common.{ap, sym, ◌∙◌, []}
use Rattle.std.proofs.lemmas.List.{append-nil}
use Rattle.std.proofs.lemmas.List.Elements.{All-nil}
use Rattle.ds_hub.specs.Logs.{told_by}
use Rattle.ds_hub.proofs.Turning.{opens, turns}
use Rattle.ds_hub.proofs.hub.begin.Goals as goal

pub publish_as-requires : goal.publish_as-requires
publish_as-requires g c =
    let two = c.in_ok-append_nothing-2.ensures in
    let one = c.in_ok-append_nothing.ensures in
    rw (two, one, c.requires.idle)
    (λ next is. opens (told_by g.S.Absorb.asks g.S.Absorb.applied) g.S.Absorb.belongs g.S.Absorb.state _ _ _ next (ap (λ p. p.1) is ∙ sym c.requires.here) (ap (λ l. l.list) c.requires.here ∙ c.requires.empty) (ap (λ p. p.0) is))

pub publish_as-requires-2 : goal.publish_as-requires-2
publish_as-requires-2 g c next is =
    let shown = c.publish_as.new.self.shown in
    let same = rw c.in_ok-publish_as.ensures.ok.1 at is in
    turns (told_by g.S.Absorb.asks g.S.Absorb.applied) g.S.Absorb.belongs g.S.Absorb.state _ _ shown next [] (ap (λ p. p.1.hub) same)
    (ap (λ p. p.1.list) same ∙ sym (append-nil shown.prefix.list)) (ap (λ p. p.0) same) (λ start knows. All-nil (g.S.Absorb.belongs start))

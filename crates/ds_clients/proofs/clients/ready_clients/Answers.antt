use Rattle.std.proofs.Common.{◌+◌, ◌∙◌, arith}
use Rattle.ds_base.specs.Limits.{greatest_client}
use Rattle.ds_rounds.specs.Rounds.{lines_of_round}
use Rattle.ds_clients.proofs.RunLaws.{all_start, alike_roomed, are_ready, counts_met, counts_roomed, numbers_met, numbers_roomed}
use Rattle.ds_clients.proofs.RunLaws.{ready_met}
use Rattle.ds_clients.proofs.RunLaws.{so_many, texts_met, written_roomed}
use Rattle.ds_clients.proofs.clients.ready_clients.Goals as goal

pub prepare-requires : goal.prepare-requires
prepare-requires g c =
    omega (
      arith,
      so_many (λ x. x.session.client) (greatest_client + 1) c.args.clients.now c.requires.numbers,
      c.in_ok-lists.ensures.clients,
      c.in_ok-lists.lists.ok.0,
    )

pub returns-in-Err-clause-err : goal.returns-in-Err-clause-err
returns-in-Err-clause-err g c = (
  alike_roomed (λ x. x.session) (λ x. x.own) c.args.clients.now c.prepare.new.clients c.prepare.ensures.same,
  written_roomed (λ x. x.session) (λ x. x.own) c.args.clients.now c.prepare.new.clients c.prepare.ensures.same c.requires.written,
)

pub returns-in-Err-clause-numbers : goal.returns-in-Err-clause-numbers
returns-in-Err-clause-numbers g c =
    numbers_roomed (λ x. x.session) (λ x. x.own) c.args.clients.now c.prepare.new.clients c.prepare.ensures.same ∙ c.requires.numbers

pub returns-in-Err-clause-counts : goal.returns-in-Err-clause-counts
returns-in-Err-clause-counts g c =
    counts_roomed (λ x. x.session) (λ x. x.own) c.args.shards c.args.clients.now c.prepare.new.clients c.prepare.ensures.same
    c.requires.counts

pub meet_all-requires : goal.meet_all-requires
meet_all-requires g c =
    texts_met (λ x. x.session) (λ x. x.own) c.prepare.new.clients
    (written_roomed (λ x. x.session) (λ x. x.own) c.args.clients.now c.prepare.new.clients c.prepare.ensures.same c.requires.written)

pub returns-in-Ok-clause-start : goal.returns-in-Ok-clause-start
returns-in-Ok-clause-start g c =
    all_start (λ x. x.session) (λ x. x.own) c.in-Ok.greatest c.args.shards c.prepare.new.clients c.meet_all.new.clients c.meet_all.ensures
    (ready_met (λ x. x.session) (λ x. x.own) c.in-Ok.greatest c.args.shards (lines_of_round c.args.round) c.args.clients.now
    c.prepare.new.clients c.meet_all.new.clients c.in_ok-lists.lists.items c.requires.numbers c.prepare.ensures.same c.in-Ok.ensures.own
    c.in_ok-lists.ensures c.in-Ok.ensures.room c.meet_all.ensures)
    (counts_met (λ x. x.session) (λ x. x.own) c.in-Ok.greatest c.args.shards c.args.clients.now c.prepare.new.clients
    c.meet_all.new.clients c.prepare.ensures.same c.requires.counts c.meet_all.ensures)

pub returns-in-Ok-clause-ok : goal.returns-in-Ok-clause-ok
returns-in-Ok-clause-ok g c =
    are_ready (λ x. x.session) (λ x. x.own) c.in-Ok.greatest c.args.shards (lines_of_round c.args.round) c.args.clients.now
    c.prepare.new.clients c.meet_all.new.clients c.in_ok-lists.lists.items c.prepare.ensures.same c.in-Ok.ensures.own
    c.in_ok-lists.ensures c.requires.counts c.in-Ok.ensures.greatest c.meet_all.ensures

pub returns-in-Ok-clause-numbers : goal.returns-in-Ok-clause-numbers
returns-in-Ok-clause-numbers g c =
    numbers_met (λ x. x.session) (λ x. x.own) c.in-Ok.greatest c.args.clients.now c.prepare.new.clients c.meet_all.new.clients
    c.requires.numbers c.prepare.ensures.same c.meet_all.ensures

pub returns-in-Ok-clause-counts : goal.returns-in-Ok-clause-counts
returns-in-Ok-clause-counts g c =
    counts_met (λ x. x.session) (λ x. x.own) c.in-Ok.greatest c.args.shards c.args.clients.now c.prepare.new.clients
    c.meet_all.new.clients c.prepare.ensures.same c.requires.counts c.meet_all.ensures

use Rattle.std.proofs.Common.{arith}
use Rattle.ds_judging_lines.specs.Deciding.{IsSession, IsSessionIn}
use Rattle.ds_judging_lines.specs.declared.turn.Turn.{Turn}
use Rattle.ds_judging_lines.proofs.Saying.{ok_so}
use Rattle.ds_judging.proofs.judging.judge.Goals as goal

pub judge_turn-requires-clause-session : goal.judge_turn-requires-clause-session
judge_turn-requires-clause-session c = record {
  turn = record {
    told = c.in_ok-told.ensures;
    client = omega (arith, c.requires.answerable.within);
    number = c.requires.answerable.numbered;
    held = c.requires.held;
  };
  own = c.requires.session;
}

pub returns-clause-kept : goal.returns-clause-kept
returns-clause-kept c =
    let turn : Turn = record {
      alloc = c.args.alloc;
      run = c.args.run;
      client = c.args.asked.client;
      number = c.args.asked.number;
      line = c.args.line;
      told = c.in_ok-told.told;
    } in
    ok_so c.judge_turn.result (λ found. IsSession turn c.judge_turn.new.session)
    (λ found. IsSessionIn c.args.run.now.history.shards c.judge_turn.new.session) (λ found is. is.own) c.judge_turn.ensures.kept

use Rattle.std.proofs.Common.{◌∙◌, ◌++◌, ap, arith, length, subst, sym}
use Rattle.std.proofs.lemmas.List.{append-nil, take_all}
use Rattle.ds_rounds.specs.Lines.{handed}
use Rattle.ds_rounds.specs.Rounds.{numbered}
use Rattle.ds_asked.specs.AskedLines.{AreAskedBy}
use Rattle.ds_asked.proofs.Asking.{asked-line, length-numbered, length-with}
use Rattle.ds_asked.proofs.lines.ask_chunk.Goals as goal

pub loop-i-init : goal.loop-i-init
loop-i-init c = record {
  clients = c.requires.clients;
  asked_by = λ before so_far. subst (λ ls. AreAskedBy c.args.shards ls c.args.lists.now.items) (sym (append-nil before)) so_far;
}

pub loop-i-preserved : goal.loop-i-preserved
loop-i-preserved c = record {
  clients = ap length c.in_ok-put.ensures ∙ length-with c.loop-i.lists.items c.in_ok-asked.asked.client c.in_ok-asked.asked ∙ c.loop-i.invariant.clients;
  asked_by = λ before so_far. asked-line c.args.shards c.args.first c.loop-i.i before c.args.chunk.now (handed c.line_at.result) c.loop-i.lists.items
      c.put.new.lists.items c.in_ok-asked.asked c.line_at.ensures.line c.in_ok-asked.ensures c.in_ok-put.ensures
      (c.loop-i.invariant.asked_by before so_far);
}

pub returns : goal.returns
returns c = λ before so_far.
    let lines = numbered c.args.first c.args.chunk.now in
    subst (λ ls. AreAskedBy c.args.shards (before ++ ls) c.loop-i.lists.items)
    (take_all c.loop-i.i lines (omega (arith, length-numbered c.args.first c.args.chunk.now, c.len-i-end.ensures, c.loop-i-test.false)))
    (c.loop-i.invariant.asked_by before so_far)

use Rattle.std.proofs.Common.{◌∙◌, ap, arith, length, map, subst, sym, take, List, ℕ}
use Rattle.std.specs.Io.KnownBytes.{Appends}
use Rattle.std.proofs.KnownBytes.{Appends-trans}
use Rattle.ds_clients.specs.Runs.{texts_of}
use Rattle.ds_clients.proofs.TextLaws.{get-mapped, texts-more}
use Rattle.ds_clients.proofs.output.write_texts.Goals as goal

pub returns-in-Err-clause-err : goal.returns-in-Err-clause-err
returns-in-Err-clause-err g c =
    let session = c.index-clients-client.result.session in
    let n = c.loop-client.client in
    record {
      cut_is = record {
        session = session;
        there = get-mapped (λ x. x.session) c.args.clients.now n c.index-clients-client.result c.loop-client-test.true
            c.index-clients-client.is;
        within = omega (arith, c.in-Err.ensures.within, ap (λ (bs : List ℕ). length bs) c.text.ensures);
      };
      wrote = Appends-trans _ _ _ (texts_of (take n (map (λ x. x.session) c.args.clients.now))) (take c.in-Err.taken session.text)
          c.loop-client.invariant.0
          (subst (λ (bs : List ℕ). Appends (g.O.Sink.held c.loop-client.output) (g.O.Sink.held c.write_all.new.output)
          (take c.in-Err.taken bs))
          c.text.ensures c.in-Err.ensures.err);
    }

pub loop-client-preserved : goal.loop-client-preserved
loop-client-preserved g c =
    let session = c.index-clients-client.result.session in
    let n = c.loop-client.client in
    let sessions = map (λ x. x.session) c.args.clients.now in (
      subst (λ (bs : List ℕ). Appends (g.O.Sink.held c.args.output.now) (g.O.Sink.held c.write_all.new.output) bs)
          (sym (texts-more sessions n session
          (get-mapped (λ x. x.session) c.args.clients.now n c.index-clients-client.result c.loop-client-test.true
          c.index-clients-client.is)))
          (Appends-trans _ _ _ (texts_of (take n sessions)) session.text c.loop-client.invariant.0
          (subst (λ (bs : List ℕ). Appends (g.O.Sink.held c.loop-client.output) (g.O.Sink.held c.write_all.new.output) bs)
          c.text.ensures c.in-Ok.ensures.ok)),
      c.in-Ok.ensures.no_fault ∙ c.loop-client.invariant.1,
    )

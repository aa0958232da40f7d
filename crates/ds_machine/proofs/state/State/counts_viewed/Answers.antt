use Rattle.ds_machine.proofs.Words.{ap, subst, sym, AreCounts, StateParts, AreUpTo}
use Rattle.ds_machine.proofs.DuePlans.{counts-listed, viewed-counts}
use Rattle.ds_machine.proofs.state.State.counts_viewed.Goals as goal

pub counted_place-commit-requires : goal.counted_place-commit-requires
counted_place-commit-requires c =
    let up = viewed-counts c.args.turn.now.session.now.counts c.in-Ok-Some.counts c.args.self.now.applied.counts
    c.args.turn.now.gathered.now.views (rw c.in-Ok-Some.field-0-is at c.in-Ok-Some.ensures.viewed) c.requires in
    rw c.as_slice.ensures (counts-listed c.self.inside.applied.lists c.in-Ok-Some.counts c.self.inside.applied.counts
    (subst (λ (st : StateParts). AreUpTo c.in-Ok-Some.counts st.applied.counts) (sym c.self.view_is) up.1) c.shards.ensures.within)

pub returns : goal.returns
returns c =
    let viewed = rw c.in-Ok-Some.field-0-is at c.in-Ok-Some.ensures.viewed in
    let up = viewed-counts c.args.turn.now.session.now.counts c.in-Ok-Some.counts c.args.self.now.applied.counts
    c.args.turn.now.gathered.now.views viewed c.requires in record {
      viewed = viewed;
      risen = up.0;
      within = up.1;
      listed = subst (λ (st : StateParts). AreUpTo c.in-Ok-Some.counts st.applied.counts → AreCounts st.applied.lists c.in-Ok-Some.counts)
          c.self.view_is (λ within. counts-listed c.self.inside.applied.lists c.in-Ok-Some.counts c.self.inside.applied.counts within
          c.shards.ensures.within) up.1;
      commit = cc (c.counted_place-commit.ensures, c.as_slice.ensures, ap (λ (st : StateParts). st.applied.lists) c.self.view_is);
    }

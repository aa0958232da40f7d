use Rattle.std.proofs.Common.{◌≡◌, ℕ, ◌∙◌, ◌<◌, Err, List, [], ap, arith, length, refl, subst, sym}
use Rattle.std.proofs.lemmas.Result.{err_from_is_err_and}
use Rattle.ds_base.specs.Limits.{most_input_bytes}
use Rattle.ds_rounds.specs.Drafts.{LeavesRound}
use Rattle.ds_rounds.specs.declared.stage.RoundRefused.TheVariants as refused
use Rattle.ds_rounds.specs.declared.stage.Stage.TheVariants as stage
use Rattle.ds_rounds.proofs.CallLaws.{IsReading, absorbed_all, ends, ends_input, gives, kept_on, nothing_read, read_more, reading_first}
use Rattle.ds_rounds.proofs.CallLaws.{waits}
use Rattle.ds_rounds.proofs.rounds.Rounds.read_round.Goals as goal

pub read-init : goal.read-init
read-init g c = record {
  reading =
      let left = g.I.Source.left c.args.input.now in
      let inside = c.self.inside in
      subst (λ r. IsReading left left r c.new-draft.result inside.number inside.taken inside.piece) c.self.view_is
      (reading_first left (record { number = inside.number; buffered = inside.piece; taken = inside.taken; stage = inside.stage }) c.new-draft.result c.self.invariant (ap (λ r. r.stage) c.self.view_is ∙ c.requires)
      c.new-draft.ensures.first c.new-draft.ensures.lines c.new-draft.ensures.kept c.new-draft.ensures.blank);
  failed = refl;
  faults = refl;
}

pub read-preserved : goal.read-preserved
read-preserved g c =
    let all = absorbed_all c.in_ok-absorb.field-0 c.if-not-branch.true c.read.invariant.reading c.in_ok-absorb.ensures.leaves c.absorb.ensures.counted c.in_ok-absorb.ensures.first c.in_ok-absorb.ensures.rounds in
    let none = (subst (λ b. LeavesRound b c.absorb.new.draft c.absorb.new.number c.absorb.new.piece) c.if-not-branch.true c.in_ok-absorb.ensures.leaves).2 in
    record {
      reading = read_more c.fill.new.piece all none (omega (arith, c.read.invariant.reading.within, c.if-self-eq-MAX_INPUT_BYTES.false)) c.make_room.ensures.same c.in_ok-make_room.ensures.bytes c.in_ok-make_room.ensures.lines c.in_ok-fill.ensures.told c.fill.ensures.counted c.fill.ensures.within c.fill.ensures.one;
      failed = c.read.invariant.failed;
      faults = c.in_ok-fill.ensures.no_fault ∙ c.read.invariant.faults;
    }

pub returns-then-self-eq-MAX_INPUT_BYTES-clause-reads : goal.returns-then-self-eq-MAX_INPUT_BYTES-clause-reads
returns-then-self-eq-MAX_INPUT_BYTES-clause-reads g c =
    let all = absorbed_all c.in_ok-absorb.field-0 c.if-not-branch.true c.read.invariant.reading c.in_ok-absorb.ensures.leaves c.absorb.ensures.counted c.in_ok-absorb.ensures.first c.in_ok-absorb.ensures.rounds in
    let none = (subst (λ b. LeavesRound b c.absorb.new.draft c.absorb.new.number c.absorb.new.piece) c.if-not-branch.true c.in_ok-absorb.ensures.leaves).2 in
    ends _ _ _ refl all c.requires refl (λ ended. absurd (let never : stage.Failed ≡ stage.Ended = sym c.read.invariant.failed ∙ ended in cc)) (waits all none, c.read.invariant.failed, c.if-self-eq-MAX_INPUT_BYTES.true)

pub returns-in_err-fill-clause-reads : goal.returns-in_err-fill-clause-reads
returns-in_err-fill-clause-reads g c =
    let exit = err_from_is_err_and c.from_residual-in_err-fill.result c.from_residual-in_err-fill.ensures.1 in
    let all = absorbed_all c.in_ok-absorb.field-0 c.if-not-branch.true c.read.invariant.reading c.in_ok-absorb.ensures.leaves c.absorb.ensures.counted c.in_ok-absorb.ensures.first c.in_ok-absorb.ensures.rounds in
    let kept = kept_on all c.in_err-fill.ensures.untold in
    let none = (subst (λ b. LeavesRound b c.absorb.new.draft c.absorb.new.number c.absorb.new.piece) c.if-not-branch.true c.in_ok-absorb.ensures.leaves).2 in
    let same : c.fill.new.taken ≡ c.read.self-inside.taken = omega (arith, c.fill.ensures.counted, ap (λ (l : List ℕ). length l) c.in_err-fill.ensures.none) in
    let below : c.fill.new.taken < most_input_bytes = omega (arith, same, c.read.invariant.reading.within, c.if-self-eq-MAX_INPUT_BYTES.false) in
    ends _ _ (Err refused.ReadFault) (exit.1 ∙ ap Err exit.2) kept c.requires same
    (λ ended. absurd (let never : stage.Failed ≡ stage.Ended = sym c.read.invariant.failed ∙ ended in cc)) (waits kept none, c.read.invariant.failed, below)

pub returns-then-not-branch-2-clause-reads : goal.returns-then-not-branch-2-clause-reads
returns-then-not-branch-2-clause-reads g c =
    let all = absorbed_all c.in_ok-absorb.field-0 c.if-not-branch.true c.read.invariant.reading c.in_ok-absorb.ensures.leaves c.absorb.ensures.counted c.in_ok-absorb.ensures.first c.in_ok-absorb.ensures.rounds in
    let none = (subst (λ b. LeavesRound b c.absorb.new.draft c.absorb.new.number c.absorb.new.piece) c.if-not-branch.true c.in_ok-absorb.ensures.leaves).2 in
    let below : c.read.self-inside.taken < most_input_bytes = omega (arith, c.read.invariant.reading.within, c.if-self-eq-MAX_INPUT_BYTES.false) in
    let more = read_more c.fill.new.piece all none below c.make_room.ensures.same c.in_ok-make_room.ensures.bytes c.in_ok-make_room.ensures.lines c.in_ok-fill.ensures.told c.fill.ensures.counted c.fill.ensures.within c.fill.ensures.one in
    let nothing : c.fill.new.piece ≡ [] = nothing_read c.fill.new.piece (sym c.in_ok-fill.ensures.some ∙ c.if-not-branch-2.true) in
    let still : c.fill.new.taken < most_input_bytes = omega (arith, below, c.fill.ensures.counted, ap (λ (l : List ℕ). length l) nothing) in
    ends _ _ _ refl more c.requires refl (λ _. c.in_ok-fill.ensures.at_the_end nothing)
    (ends_input _ c.in_ok-last.last more nothing refl nothing refl refl still c.in_ok-last.ensures.rounds)

pub returns-clause-reads : goal.returns-clause-reads
returns-clause-reads g c =
    ends _ _ _ refl c.read.invariant.reading c.requires refl (λ ended. absurd (let never : stage.Reading ≡ stage.Ended = ended in cc))
    (gives c.absorb.new.draft _ c.into_round.result c.in_ok-absorb.field-0 c.if-not-branch.false c.read.invariant.reading refl c.in_ok-absorb.ensures.leaves c.absorb.ensures.counted c.in_ok-absorb.ensures.first c.in_ok-absorb.ensures.rounds c.into_round.ensures.first c.into_round.ensures.lines)

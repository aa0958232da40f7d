use Rattle.std.proofs.Common.{◌≡◌, ◌<◌, ◌^◌, List, length, take, true, false, sym, ap, ◌∙◌, arith}
use Rattle.std.proofs.lemmas.List.{take_all}
use Rattle.ds_log.specs.declared.Commit.{Commit}
use Rattle.ds_kept_file.specs.Files.{body_of, is_open, next_number}
use Rattle.ds_kept_file.specs.Readings.{kept_in}
use Rattle.ds_kept_file.proofs.Batches.{one_more, leads_on}
use Rattle.ds_kept_file.proofs.Ends.{no_batch, reading_of, rest_within}
use Rattle.ds_kept_file.proofs.reading.read_file.Goals as goal

pub returns-in-None-clause-read : goal.returns-in-None-clause-read
returns-in-None-clause-read c =
    let kept = kept_in c.batches.book in
    let commits = c.journal-commits.ensures.value in
    reading_of c.args.file.now c.batches.rest.now kept c.ended.result c.batches.invariant.front c.batches.invariant.leads
    (c.ended.ensures.journal ∙ take_all _ c.batches.book.journal (omega (arith, ap (λ (js : List Commit). length js) commits)))
    (c.ended.ensures.next ∙ c.next-next.ensures.value) c.ended.ensures.gate c.ended.ensures.damaged
    (λ opens batch gates is some continues. c.in-None.ensures.none (body_of (next_number kept) batch) gates is some)

pub returns-then-not-branch-clause-read : goal.returns-then-not-branch-clause-read
returns-then-not-branch-clause-read c =
    let kept = kept_in c.batches.book in
    let commits = c.journal-commits.ensures.value in
    let rest = c.batches.rest.now in
    let small : length rest < 2 ^ 64 = omega (arith, rest_within c.args.file.now kept rest c.batches.invariant.front) in
    reading_of c.args.file.now rest kept c.ended-then-not-branch.result c.batches.invariant.front c.batches.invariant.leads
    (c.ended-then-not-branch.ensures.journal
    ∙ ap (λ n. take n c.read_body.new.book.journal) (ap (λ (js : List Commit). length js) commits)
    ∙ c.in_ok-read_body-in-Some.ensures.front)
    (c.ended-then-not-branch.ensures.next ∙ c.next-next.ensures.value) c.ended-then-not-branch.ensures.gate c.ended-then-not-branch.ensures.damaged
    (λ opens. no_batch kept rest c.in-Some.body.now c.in-Some.behind.now small c.in-Some.ensures.split
    (c.in_ok-read_body-in-Some.ensures.refused c.if-not-branch.true))

pub batches-preserved : goal.batches-preserved
batches-preserved c =
    let kept = kept_in c.batches.book in
    let now = kept_in c.read_body.new.book in
    let rest = c.batches.rest.now in
    let read = c.in_ok-read_body-in-Some.ensures.read c.if-not-branch.false in
    let small : length rest < 2 ^ 64 = omega (arith, rest_within c.args.file.now kept rest c.batches.invariant.front) in
    record {
      front = one_more c.args.file.now rest c.in-Some.body.now c.in-Some.behind.now kept now c.batches.invariant.front c.in-Some.ensures.split
          c.in-Some.ensures.gate read;
      leads = λ other end leads. leads_on kept rest other end c.in-Some.body.now c.in-Some.behind.now now small c.in-Some.ensures.split
          c.in-Some.ensures.gate read (c.batches.invariant.leads other end leads);
    }

pub returns-clause-read : goal.returns-clause-read
returns-clause-read c =
    let kept = kept_in c.batches.book in
    let commits = c.journal-commits-2.ensures.value in
    let shut : is_open c.batches.rest.now ≡ false = sym c.is_open.ensures ∙ c.batches-test.false in
    reading_of c.args.file.now c.batches.rest.now kept c.ended-2.result c.batches.invariant.front c.batches.invariant.leads
    (c.ended-2.ensures.journal ∙ take_all _ c.batches.book.journal (omega (arith, ap (λ (js : List Commit). length js) commits)))
    (c.ended-2.ensures.next ∙ c.next-next-2.ensures.value) c.ended-2.ensures.gate c.ended-2.ensures.damaged
    (λ opens. absurd (let both : false ≡ true = sym shut ∙ opens in cc both))

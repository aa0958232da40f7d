use Rattle.std.proofs.Common.{◌≡◌, ℕ, List, true, false, sym, ap₂, ◌∙◌, subst}
use Rattle.std.specs.Prelude.{IsTrue}
use Rattle.ds_log.specs.declared.Commit.{Commit}
use Rattle.ds_kept_file.specs.Files.{IsDamaged, Kept, StandsFor}
use Rattle.ds_kept_file.specs.Readings.{found}
use Rattle.ds_keep.specs.declared.keeper.Opened.{Opened}
use Rattle.ds_keep.specs.Keepers.{IsHistory}
use Rattle.ds_keep.proofs.Histories.{history_of}
use Rattle.ds_keep.proofs.Openings.{alone_of, closed_of}
use Rattle.ds_keep.proofs.Runs.{if_ok, two_runs}
use Rattle.ds_keep.proofs.keeper.Keeper.open.Goals as goal

pub returns-then-read-clause-undamaged : goal.returns-then-read-clause-undamaged
returns-then-read-clause-undamaged g c = λ kept place honest all is.
    let contents = g.D.Disk.contents c.args.disk.now in
    let file_is = c.as_slice.ensures.value ∙ c.in-Ok.ensures.bytes honest in
    let alone = alone_of c.as_slice.result.now contents c.in_ok-read.read kept file_is c.in_ok-read.ensures.read
    (all contents (g.met.D.Disk.contents_may_stay c.args.disk.now honest)) in
    let both : true ≡ false = sym c.if-read.true ∙ alone.0 in
    cc both

pub returns-clause-alone : goal.returns-clause-alone
returns-clause-alone g c = λ kept honest all.
    let contents = g.D.Disk.contents c.args.disk.now in
    let read = c.in_ok-read.read in
    let file_is = c.as_slice.ensures.value ∙ c.in-Ok.ensures.bytes honest in
    let alone = alone_of c.as_slice.result.now contents read kept file_is c.in_ok-read.ensures.read
    (all contents (g.met.D.Disk.contents_may_stay c.args.disk.now honest)) in
    let pair : List Commit → ℕ → Kept = λ journal next. record { journal = journal; next = next } in
    if_ok c.settle.result (λ (o : Opened). (o.journal ≡ read.journal) × (o.next ≡ read.next)) (λ (o : Opened). pair o.journal o.next ≡ kept)
    (λ o same. ap₂ pair same.0 same.1 ∙ sym alone.1) c.settle.ensures.same

pub returns-clause-any_moment : goal.returns-clause-any_moment
returns-clause-any_moment g c = λ kept honest all.
    let contents = g.D.Disk.contents c.args.disk.now in
    let mid = c.read_disk.new.disk in
    let read = c.in_ok-read.read in
    let file_is = c.as_slice.ensures.value ∙ c.in-Ok.ensures.bytes honest in
    let alone = alone_of c.as_slice.result.now contents read kept file_is c.in_ok-read.ensures.read
    (all contents (g.met.D.Disk.contents_may_stay c.args.disk.now honest)) in
    let closed = closed_of c.as_slice.result.now (g.D.Disk.contents mid) read (file_is ∙ sym (c.in-Ok.ensures.contents_stay honest)) c.in_ok-read.ensures.read
    c.if-read.false in
    two_runs g.D.Disk.moment g.D.Disk.left_since g.D.Disk.images c.args.disk.now mid c.settle.new.disk
    (g.D.Disk.images c.args.disk.now) (StandsFor (found read)) (StandsFor kept)
    (c.read_disk.ensures.stays.moments honest) all
    (c.settle.ensures.any_moment (subst IsTrue (sym c.read_disk.ensures.stays.honest) honest) (c.in-Ok.ensures.durable honest) closed)
    (λ image stands. subst (λ (k : Kept). StandsFor k image) (sym alone.1) stands)

pub returns-clause-history : goal.returns-clause-history
returns-clause-history g c =
    let read = c.in_ok-read.read in
    let pair : List Commit → ℕ → Kept = λ journal next. record { journal = journal; next = next } in
    if_ok c.settle.result (λ (o : Opened). (o.journal ≡ read.journal) × (o.next ≡ read.next)) (λ (o : Opened). IsHistory (pair o.journal o.next))
    (λ o same. subst IsHistory (sym (ap₂ pair same.0 same.1)) (history_of _ _ (found read) c.in_ok-read.ensures.read.front)) c.settle.ensures.same

pub returns-then-read-clause-tells_damage : goal.returns-then-read-clause-tells_damage
returns-then-read-clause-tells_damage g c = λ kept place honest broken.
    let file_is = c.as_slice.ensures.value ∙ c.in-Ok.ensures.bytes honest in
    let Broken : List ℕ → Type 0 = λ l. IsDamaged l place kept in
    sym (c.in_ok-read.ensures.read.there place kept (subst Broken (sym file_is) broken)).1

pub returns-clause-tells_damage : goal.returns-clause-tells_damage
returns-clause-tells_damage g c = λ kept place honest broken.
    let file_is = c.as_slice.ensures.value ∙ c.in-Ok.ensures.bytes honest in
    let Broken : List ℕ → Type 0 = λ l. IsDamaged l place kept in
    let told = (c.in_ok-read.ensures.read.there place kept (subst Broken (sym file_is) broken)).0 in
    let both : true ≡ false = sym told ∙ c.if-read.false in
    absurd (cc both)

use Rattle.std.proofs.Common.{◌≡◌, ◌<◌, ◌≤◌, ◌-◌, ◌||◌, true, min, length, take, drop, refl, arith}
use Rattle.std.specs.Prelude.{IsTrue}
use Rattle.std.proofs.lemmas.Result.{IfOk-weaker}
use Rattle.ds_disk.specs.Crashes.{written, Only}
use Rattle.ds_disk.specs.Memory.{IsImage, state_of, is_stopped, is_too_large}
use Rattle.ds_disk.specs.MomentLaws.{time_steps, look_steps, write_steps, write_done, cut_steps, cut_done, sync_steps, sync_done}
use Rattle.ds_disk.specs.declared.call.Change.TheVariants.{Look, Write, Cut, Sync}
use Rattle.ds_disk.proofs.Tells.{where_done, counts_ok, counts_err, rises}
use Rattle.ds_disk.proofs.memory_disk.MemoryDiskDisk.TheImpl.Goals as goal

pub len-tells : goal.len-tells
len-tells c =
    let d = c.args.self.now in
    let new = c.new.self.now in
    let asked = Look in
    let refused = is_stopped d || new.lacks in
    let after = c.ensures.after in
    let done = c.ensures.done in
    let stays = look_steps d new refused new.lacks after in
    let bytes = (state_of d).contents in
    record {
      gives_the_length = IfOk-weaker c.result (λ n. n ≡ length bytes) (λ n. IsTrue true
          → n ≡ length bytes) (λ n is honest. is) c.ensures.length;
      contents_stay = where_done c.result _ (IsTrue true → (state_of new).contents ≡ bytes) done (λ was honest. stays.0);
      crash = λ honest. stays.1;
      time = time_steps d new refused new.lacks asked after;
      honest = refl;
      failed_by_a_fault = rises c.result d.faults new.faults (counts_err c.result d new asked refused new.lacks after done);
      counts_a_failure = counts_err c.result d new asked refused new.lacks after done;
      counts_nothing_else = counts_ok c.result d new asked refused new.lacks after done;
      faults_stay_counted = c.ensures.faults_stay_counted;
    }

pub read-tells : goal.read-tells
read-tells c =
    let d = c.args.self.now in
    let new = c.new.self.now in
    let asked = Look in
    let refused = is_stopped d || new.lacks in
    let after = c.ensures.after in
    let done = c.ensures.done in
    let stays = look_steps d new refused new.lacks after in
    let bytes = (state_of d).contents in
    let buf = c.new.buf.now in
    let place = c.args.at in
    record {
      within = IfOk-weaker c.result (λ n. n ≡ min (length bytes - place) (length buf)) (λ n. n ≤ length buf) (λ n is. omega arith)
          c.ensures.amount;
      gives_some =
          IfOk-weaker c.result (λ n. n ≡ min (length bytes - place) (length buf)) (λ n. IsTrue true → place < length bytes → 0 < length buf
          → 0 < n)
          (λ n is honest below room. omega arith) c.ensures.amount;
      bytes =
          IfOk-weaker c.result (λ n. take n buf ≡ take n (drop place bytes)) (λ n. IsTrue true → take n buf ≡ take n (drop place bytes))
          (λ n is honest. is) c.ensures.front;
      contents_stay = where_done c.result _ (IsTrue true → (state_of new).contents ≡ bytes) done (λ was honest. stays.0);
      crash = λ honest. stays.1;
      time = time_steps d new refused new.lacks asked after;
      honest = refl;
      failed_by_a_fault = rises c.result d.faults new.faults (counts_err c.result d new asked refused new.lacks after done);
      counts_a_failure = counts_err c.result d new asked refused new.lacks after done;
      counts_nothing_else = counts_ok c.result d new asked refused new.lacks after done;
      faults_stay_counted = c.ensures.faults_stay_counted;
    }

pub write_at-tells : goal.write_at-tells
write_at-tells c =
    let d = c.args.self.now in
    let new = c.new.self.now in
    let asked = Write c.args.at c.args.piece.now in
    let refused = (is_stopped d || is_too_large d c.args.at c.args.piece.now) || new.lacks in
    let after = c.ensures.after in
    let done = c.ensures.done in
    record {
      written =
          where_done c.result _ (IsTrue true → (state_of new).contents ≡ written (state_of d).contents c.args.at c.args.piece.now) done
          (λ was honest. write_done d new refused new.lacks c.args.at c.args.piece.now after was);
      crash = λ honest. write_steps d new refused new.lacks c.args.at c.args.piece.now after;
      time = time_steps d new refused new.lacks asked after;
      honest = refl;
      failed_by_a_fault = rises c.result d.faults new.faults (counts_err c.result d new asked refused new.lacks after done);
      counts_a_failure = counts_err c.result d new asked refused new.lacks after done;
      counts_nothing_else = counts_ok c.result d new asked refused new.lacks after done;
      faults_stay_counted = c.ensures.faults_stay_counted;
    }

pub cut-tells : goal.cut-tells
cut-tells c =
    let d = c.args.self.now in
    let new = c.new.self.now in
    let asked = Cut c.args.len in
    let refused = is_stopped d || new.lacks in
    let after = c.ensures.after in
    let done = c.ensures.done in
    record {
      cut =
          where_done c.result _ (IsTrue true → (state_of new).contents ≡ take c.args.len (state_of d).contents) done
          (λ was honest. cut_done d new refused new.lacks c.args.len after was);
      crash = λ honest. cut_steps d new refused new.lacks c.args.len after;
      time = time_steps d new refused new.lacks asked after;
      honest = refl;
      failed_by_a_fault = rises c.result d.faults new.faults (counts_err c.result d new asked refused new.lacks after done);
      counts_a_failure = counts_err c.result d new asked refused new.lacks after done;
      counts_nothing_else = counts_ok c.result d new asked refused new.lacks after done;
      faults_stay_counted = c.ensures.faults_stay_counted;
    }

pub sync-tells : goal.sync-tells
sync-tells c =
    let d = c.args.self.now in
    let new = c.new.self.now in
    let asked = Sync in
    let refused = is_stopped d || new.lacks in
    let after = c.ensures.after in
    let done = c.ensures.done in
    record {
      durable =
          where_done c.result _ (IsTrue true → Only (state_of new).contents (IsImage (state_of new))) done
          (λ was honest. (sync_done d new refused new.lacks after was).0);
      contents_stay =
          where_done c.result _ (IsTrue true → (state_of new).contents ≡ (state_of d).contents) done
          (λ was honest. (sync_done d new refused new.lacks after was).1);
      crash = λ honest. sync_steps d new refused new.lacks after;
      time = time_steps d new refused new.lacks asked after;
      honest = refl;
      failed_by_a_fault = rises c.result d.faults new.faults (counts_err c.result d new asked refused new.lacks after done);
      counts_a_failure = counts_err c.result d new asked refused new.lacks after done;
      counts_nothing_else = counts_ok c.result d new asked refused new.lacks after done;
      faults_stay_counted = c.ensures.faults_stay_counted;
    }

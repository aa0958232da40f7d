-- Runs that aren't set up.
use Rattle.std.proofs.Common.{◌≡◌, inl, inr, ℕ, List, [], refl, arith, false, Option, Some}
use Rattle.std.specs.Prelude.{IfSome}
use Rattle.ds_rounds.specs.Rounds.{rounds_in}
use Rattle.ds_log.specs.declared.Commit.{Commit}
use Rattle.ds_words.specs.declared.status.Status.{Status}
use Rattle.ds_words.specs.declared.status.Status.TheVariants as status
use Rattle.ds_serve.specs.Runs.{IsLegalRun}
use Rattle.ds_serving.specs.Settings.{IsUnset}
use Rattle.ds_serve.proofs.Ends.{ends_at_once}

pub unset_ends : (words : List (List ℕ)) (content : List ℕ → Option (List ℕ)) (before after : List ℕ
    → ℕ) (how s : Status) (left held : Option (List ℕ)) (journal : Option (List Commit)) (unsent : List ℕ)
    → IsUnset words content before after how → s ≡ how → journal ≡ Some [] → unsent ≡ [] →
    IfSome journal (λ journal. IsLegalRun words content s left left journal held held unsent)
unset_ends words content before after status.Usage s left held journal unsent why same none_committed all_sent =
    ends_at_once status.Usage words content s left held journal unsent (refl, refl) tt same none_committed all_sent
unset_ends words content before after (status.IndexFile line) s left held journal unsent why same none_committed all_sent =
    ends_at_once (status.IndexFile line) words content s left held journal unsent (refl, refl) tt same none_committed all_sent
unset_ends words content before after status.FileFault s left held journal unsent why same none_committed all_sent =
    ends_at_once status.FileFault words content s left held journal unsent (refl, refl) tt same none_committed all_sent
unset_ends words content before after status.NoMemory s left held journal unsent why same none_committed all_sent =
    ends_at_once status.NoMemory words content s left held journal unsent (rounds_in false 1 [], refl, inr (refl, omega arith)) (inl refl)
    same none_committed all_sent
unset_ends words content before after status.Done s left held journal unsent why same none_committed all_sent = absurd why
unset_ends words content before after status.ReadFault s left held journal unsent why same none_committed all_sent = absurd why
unset_ends words content before after status.WriteFault s left held journal unsent why same none_committed all_sent = absurd why
unset_ends words content before after status.InputLimit s left held journal unsent why same none_committed all_sent = absurd why

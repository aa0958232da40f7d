-- Why no verdict is found, told of the files as they were before all loads.
use Rattle.std.proofs.Common.{◌≡◌, ◌∙◌, ℕ, ◌≤◌, inl, inr, List, subst, arith, Option, Some, None}
use Rattle.ds_indexdef.specs.declared.IndexDef.{IndexDef}
use Rattle.ds_io.specs.Faults.{Rose}
use Rattle.ds_journal_text.specs.Texts.{IsJournalOf}
use Rattle.ds_log.specs.declared.Commit.{Commit}
use Rattle.ds_audit.specs.Audits.{AreGiven, AreLoaded, AreSame, Asked, IfUnfaulted, IsNoJournal, IsOwn, IsUndecided, IsUnread, asked_by}
use Rattle.ds_audit.specs.declared.reading.Texts.{Texts}
use Rattle.ds_audit.specs.declared.status.AuditStatus.{AuditStatus}
use Rattle.ds_audit.specs.declared.status.AuditStatus.TheVariants as status

rose_back : (a b c : ℕ) → a ≤ b → Rose b c → Rose a c
rose_back a b c low (inl rose) = inl (omega (arith, low, rose))
rose_back a b c low (inr last) = inr last

module _ (content between : List ℕ → Option (List ℕ)) (same : (n : List ℕ) → between n ≡ content n) where
  own_back : (n text : List ℕ) → IsOwn (between n) text → IsOwn (content n) text
  own_back n text own = subst (λ o. IsOwn o text) (same n) own

  pub given_back : (o : Option (List ℕ)) (definitions : List IndexDef) → AreGiven between o definitions → AreGiven content o definitions
  given_back None definitions given = given
  given_back (Some n) definitions (text, own, read) = (text, own_back n text own, read)

  module _ (before middle after : List ℕ → ℕ) (low : (n : List ℕ) → before n ≤ middle n) where
    unread_back : (o : Option (List ℕ)) (s : AuditStatus) → IsUnread o between middle after s → IsUnread o content before after s
    unread_back None s unread = absurd unread
    unread_back (Some n) (status.IndexFile line) (text, own, wrong) = (text, own_back n text own, wrong)
    unread_back (Some n) status.FileFault rose = rose_back (before n) (middle n) (after n) (low n) rose
    unread_back (Some n) status.NoMemory unread = tt
    unread_back (Some n) status.Legal unread = absurd unread
    unread_back (Some n) status.Usage unread = absurd unread
    unread_back (Some n) (status.Journal line) unread = absurd unread
    unread_back (Some n) status.WriteFault unread = absurd unread
    unread_back (Some n) status.NotLegal unread = absurd unread

    -- the index file isn't there, or leaves its form
    pub undecided_defs : (words : List (List ℕ)) (a : Asked) (t : Texts) (journal : List Commit) (s : AuditStatus) → asked_by words ≡ Some a
        → AreLoaded a content t → IsJournalOf t.journal journal → IsUnread a.options.indexes between middle after s
        → IsUndecided words content before after s
    undecided_defs words a t journal s said loaded is unread = by s (unread_back a.options.indexes s unread) where
      none : (o : Option (List ℕ)) (u : AuditStatus) → ((n : List ℕ) → IsUnread (Some n) content before after u → ⊥)
          → IsUnread o content before after u → ⊥
      none None u never its = its
      none (Some n) u never its = never n its

      by : (u : AuditStatus) → IsUnread a.options.indexes content before after u → IsUndecided words content before after u
      by (status.IndexFile line) its = (record { asked = a; said = said; texts = t; loaded = loaded }, journal, is, its)
      by status.FileFault its = (a, said, inr (t, loaded, journal, is, its))
      by status.NoMemory its = (a, said)
      by status.Legal its = absurd (none a.options.indexes status.Legal (λ n no_one. no_one) its)
      by status.Usage its = absurd (none a.options.indexes status.Usage (λ n no_one. no_one) its)
      by (status.Journal line) its = absurd (none a.options.indexes (status.Journal line) (λ n no_one. no_one) its)
      by status.WriteFault its = absurd (none a.options.indexes status.WriteFault (λ n no_one. no_one) its)
      by status.NotLegal its = absurd (none a.options.indexes status.NotLegal (λ n no_one. no_one) its)

-- the journal's text isn't one
pub undecided_journal : (content : List ℕ → Option (List ℕ)) (before after : List ℕ → ℕ) (words : List (List ℕ)) (a : Asked) (t : Texts)
    (s : AuditStatus) → asked_by words ≡ Some a → AreLoaded a content t → IsNoJournal t.journal s → IsUndecided words content before after s
undecided_journal content before after words a t (status.Journal line) said loaded wrong =
    (record { asked = a; said = said; texts = t; loaded = loaded }, wrong)
undecided_journal content before after words a t status.NoMemory said loaded wrong = (a, said)
undecided_journal content before after words a t status.Legal said loaded wrong = absurd wrong
undecided_journal content before after words a t status.Usage said loaded wrong = absurd wrong
undecided_journal content before after words a t (status.IndexFile line) said loaded wrong = absurd wrong
undecided_journal content before after words a t status.FileFault said loaded wrong = absurd wrong
undecided_journal content before after words a t status.WriteFault said loaded wrong = absurd wrong
undecided_journal content before after words a t status.NotLegal said loaded wrong = absurd wrong

-- ---- counts of faults that stay

pub same_then : (before middle after : List ℕ → ℕ) → AreSame before middle → AreSame middle after → AreSame before after
same_then before middle after first second = λ name. second name ∙ first name

pub same_unless : (s : AuditStatus) (before middle after : List ℕ → ℕ) → AreSame before middle → IfUnfaulted s (AreSame middle after)
    → IfUnfaulted s (AreSame before after)
same_unless status.Legal before middle after first second = same_then before middle after first second
same_unless status.NotLegal before middle after first second = same_then before middle after first second
same_unless status.Usage before middle after first second = same_then before middle after first second
same_unless (status.IndexFile line) before middle after first second = same_then before middle after first second
same_unless (status.Journal line) before middle after first second = same_then before middle after first second
same_unless status.WriteFault before middle after first second = same_then before middle after first second
same_unless status.FileFault before middle after first second = tt
same_unless status.NoMemory before middle after first second = same_then before middle after first second
